-- `mark_reading::anchors_at` meets its contract: the mark's anchor, and then the base's. Assumes nothing.
use mathlib.Core.Path.{refl, ◌∙◌}
use native.Mathlib.Omega.{arith}
use Rattle.mark_checks.proofs.Opened.{marks_inside}
use Rattle.mark_reading.proofs.Spots.{spot_in_order, mark_most, mark_in, base_most, no_mark_anchor, no_base_anchor, both_anchors, anchors_small}
use Rattle.mark_reading.proofs.anchors_at.Goals as goal

pub bytes_of-array-requires : goal.bytes_of-array-requires
bytes_of-array-requires c = marks_inside c.requires.opens

pub overflow_mul-i : goal.overflow_mul-i
overflow_mul-i c = omega (arith, mark_most c.requires.opens c.requires.i_bound.0)

pub overflow_add-i : goal.overflow_add-i
overflow_add-i c = omega (arith, mark_most c.requires.opens c.requires.i_bound.0)

pub u16_at-requires : goal.u16_at-requires
u16_at-requires c = mark_in c.requires.opens c.requires.i_bound.0 (c.bytes_of-array.ensures c.args.links.now c.args.counts)

pub overflow_mul-i-2 : goal.overflow_mul-i-2
overflow_mul-i-2 c = omega (arith, mark_most c.requires.opens c.requires.i_bound.0)

pub overflow_add-i-2 : goal.overflow_add-i-2
overflow_add-i-2 c = omega (arith, mark_most c.requires.opens c.requires.i_bound.0)

pub overflow_cast-i : goal.overflow_cast-i
overflow_cast-i c = omega (arith, mark_most c.requires.opens c.requires.i_bound.0)

pub child_at-requires : goal.child_at-requires
child_at-requires c = spot_in_order c.requires.opens

pub returns-in_err-mark : goal.returns-in_err-mark
returns-in_err-mark c =
    let a = c.args in
    let bytes = c.bytes_of-array.ensures a.links.now a.counts in
    let class = c.from-class.ensures ∙ c.u16_at.ensures in
    let mark = c.child_at.ensures a.«data».now a.objects.now in
    rw c.from_residual.ensures (no_mark_anchor c.requires.opens c.requires.i_bound.0 bytes class c.requires.i_bound.1 refl _ mark c.in_err-mark.was)

pub overflow_mul-slot : goal.overflow_mul-slot
overflow_mul-slot c =
    let bytes = c.bytes_of-array.ensures c.args.links.now c.args.counts in
    let class = c.from-class.ensures ∙ c.u16_at.ensures in
    omega (arith, base_most c.requires.opens c.requires.i_bound.0 bytes class c.requires.i_bound.1 c.from.ensures)

pub overflow_add-slot : goal.overflow_add-slot
overflow_add-slot c =
    let bytes = c.bytes_of-array.ensures c.args.links.now c.args.counts in
    let class = c.from-class.ensures ∙ c.u16_at.ensures in
    omega (arith, base_most c.requires.opens c.requires.i_bound.0 bytes class c.requires.i_bound.1 c.from.ensures)

pub overflow_mul-slot-2 : goal.overflow_mul-slot-2
overflow_mul-slot-2 c =
    let bytes = c.bytes_of-array.ensures c.args.links.now c.args.counts in
    let class = c.from-class.ensures ∙ c.u16_at.ensures in
    omega (arith, base_most c.requires.opens c.requires.i_bound.0 bytes class c.requires.i_bound.1 c.from.ensures)

pub overflow_add-slot-2 : goal.overflow_add-slot-2
overflow_add-slot-2 c =
    let bytes = c.bytes_of-array.ensures c.args.links.now c.args.counts in
    let class = c.from-class.ensures ∙ c.u16_at.ensures in
    omega (arith, base_most c.requires.opens c.requires.i_bound.0 bytes class c.requires.i_bound.1 c.from.ensures)

pub overflow_cast-slot : goal.overflow_cast-slot
overflow_cast-slot c =
    let bytes = c.bytes_of-array.ensures c.args.links.now c.args.counts in
    let class = c.from-class.ensures ∙ c.u16_at.ensures in
    omega (arith, base_most c.requires.opens c.requires.i_bound.0 bytes class c.requires.i_bound.1 c.from.ensures)

pub child_at-requires-2 : goal.child_at-requires-2
child_at-requires-2 c = spot_in_order c.requires.opens

pub returns-in_err-base : goal.returns-in_err-base
returns-in_err-base c =
    let a = c.args in
    let bytes = c.bytes_of-array.ensures a.links.now a.counts in
    let class = c.from-class.ensures ∙ c.u16_at.ensures in
    let mark = c.child_at.ensures a.«data».now a.objects.now in
    let base = c.child_at-2.ensures a.«data».now a.objects.now in
    rw c.from_residual-in_err-base.ensures
    (no_base_anchor c.requires.opens c.requires.i_bound.0 bytes class c.requires.i_bound.1 c.from.ensures _ mark c.in_ok-mark.was _ base c.in_err-base.was)

pub invariant_of-result : goal.invariant_of-result
invariant_of-result c =
    let a = c.args in
    let bytes = c.bytes_of-array.ensures a.links.now a.counts in
    let class = c.from-class.ensures ∙ c.u16_at.ensures in
    let mark = c.child_at.ensures a.«data».now a.objects.now in
    let base = c.child_at-2.ensures a.«data».now a.objects.now in
    let small = anchors_small c.requires.opens c.requires.i_bound.0 bytes class c.requires.i_bound.1 c.from.ensures _ mark c.in_ok-mark.was _ base
    c.in_ok-base.was in
    record { mark_small = small.0; base_small = small.1 }

pub returns : goal.returns
returns c =
    let a = c.args in
    let bytes = c.bytes_of-array.ensures a.links.now a.counts in
    let class = c.from-class.ensures ∙ c.u16_at.ensures in
    let mark = c.child_at.ensures a.«data».now a.objects.now in
    let base = c.child_at-2.ensures a.«data».now a.objects.now in
    both_anchors c.requires.opens c.requires.i_bound.0 bytes class c.requires.i_bound.1 c.from.ensures _ mark c.in_ok-mark.was _ base c.in_ok-base.was

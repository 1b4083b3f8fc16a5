-- `pair_plan::cutting::gather` meets its contract: each step fills the whole slice, and the last puts both in order. Assumes nothing.
use native.Mathlib.Omega.{arith}
use borrow.Author.Rules.{rules}
use Rattle.pair_plan.proofs.Gathering.{coverage_inside, class1_inside, cover_ready, glyphs_apart, classes_ready, gathered}
use Rattle.pair_plan.proofs.cutting.gather.Goals as goal

pub bytes_of-requires : goal.bytes_of-requires
bytes_of-requires c = coverage_inside c.requires.by_index.3

pub glyphs_into-requires : goal.glyphs_into-requires
glyphs_into-requires c =
    let (l, n, t, k) = c.requires.by_index in
    let all = cover_ready k (c.bytes_of.ensures l n) in
    record { part_value = all.0; part_in_bounds = all.1 }

pub bytes_of-requires-2 : goal.bytes_of-requires-2
bytes_of-requires-2 c = class1_inside c.requires.by_index.3

pub classes_into-requires : goal.classes_into-requires
classes_into-requires c =
    let (l, n, t, k) = c.requires.by_index in
    let all = classes_ready k (c.bytes_of.ensures l n) c.glyphs_into.ensures (c.bytes_of-2.ensures l n) in
    record { part_value = all.0; ascending = all.1.0; glyphs_in_bounds = all.1.1 }

pub order_by_class-requires : goal.order_by_class-requires
order_by_class-requires c =
    let (l, n, t, k) = c.requires.by_index in
    record { classes_len = search rules; in_bounds = search rules; by_index = glyphs_apart k (c.bytes_of.ensures l n) c.glyphs_into.ensures }

pub returns : goal.returns
returns c l n t k =
    gathered k (c.bytes_of.ensures l n) c.glyphs_into.ensures (c.bytes_of-2.ensures l n)
    (λ i. omega (arith, c.shared_slice_known-1.given i)) c.classes_into.ensures c.order_by_class.ensures.classes_value c.order_by_class.ensures.glyphs_value

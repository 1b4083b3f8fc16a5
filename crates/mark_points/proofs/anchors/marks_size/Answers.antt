-- `mark_points::anchors::marks_size` meets its contract: one mark's slot after another. Assumes nothing.
use native.Mathlib.Omega.{arith}
use borrow.Author.Rules.{rules}
use Rattle.ot_layouts.specs.MarkBasePos.{mark_slot}
use Rattle.mark_points.proofs.Walking.{walking_start, walking_turn, walking_all, walks_on, walks_most}
use Rattle.mark_points.proofs.anchors.marks_size.Goals as goal

pub loop-place-init : goal.loop-place-init
loop-place-init c = walking_start

pub slot_size-anchor-requires : goal.slot_size-anchor-requires
slot_size-anchor-requires c =
    record {
      position_bound = omega (arith, c.type_inv.places c.loop-place.place-index);
      walkable = (c.requires.0, walks_on c.requires.1 c.loop-place.invariant.walked);
    }

pub overflow_add-size : goal.overflow_add-size
overflow_add-size c =
    let goes = c.requires.1 in
    let walked = c.loop-place.invariant.walked in
    omega (arith, walks_most goes walked, walks_most (walks_on goes walked) c.slot_size-anchor.ensures.walked)

pub loop-place-preserved : goal.loop-place-preserved
loop-place-preserved c = walking_turn c.loop-place.invariant (search rules) (search rules) c.slot_size-anchor.ensures.walked

pub returns : goal.returns
returns c = walking_all mark_slot c.args.places.now c.loop-place.invariant (search rules)

-- `mark_points::anchors::column_size` meets its contract: one base's slot after another. Assumes nothing.
use native.Mathlib.Omega.{arith}
use borrow.Author.Rules.{rules}
use Rattle.mark_points.proofs.Walking.{walking_start, walking_turn, walking_stop, walks_on, walks_most}
use Rattle.mark_points.proofs.anchors.column_size.Goals as goal

pub loop-base-init : goal.loop-base-init
loop-base-init c = walking_start

pub slot_size-anchor-requires-clause-walkable : goal.slot_size-anchor-requires-clause-walkable
slot_size-anchor-requires-clause-walkable c =
    let (rows, goes) = c.requires.walkable in (rows, walks_on goes c.loop-base.invariant.walked)

pub overflow_add-size : goal.overflow_add-size
overflow_add-size c =
    let goes = c.requires.walkable.1 in
    let walked = c.loop-base.invariant.walked in
    omega (arith, walks_most goes walked, walks_most (walks_on goes walked) c.slot_size-anchor.ensures.walked)

pub loop-base-preserved : goal.loop-base-preserved
loop-base-preserved c = walking_turn c.loop-base.invariant (search rules) (search rules) c.slot_size-anchor.ensures.walked

pub returns : goal.returns
returns c = walking_stop c.loop-base.invariant (search rules)

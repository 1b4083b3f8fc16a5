-- `cut_parts::order_parts` meets its contract: the parts of the first k tables are in order. Assumes nothing.
use native.Mathlib.Omega.{arith}
use borrow.Author.Rules.{rules}
use Rattle.cut_parts.proofs.Ordering.{order_start, cut_end, last_end, order_ready, order_turn, order_stop}
use Rattle.cut_parts.proofs.order_parts.Goals as goal

pub loop-cut-init : goal.loop-cut-init
loop-cut-init c = order_start _ _ _ _ c.requires

pub part_end-end-requires : goal.part_end-end-requires
part_end-end-requires c = omega (arith, c.loop-cut.invariant.halved.inside)

pub order_part-requires : goal.order_part-requires
order_part-requires c =
    order_ready _ _ _ _ _ _ _ _ c.loop-cut.invariant _
    (cut_end _ _ _ _ _ _ _ _ c.loop-cut.invariant _
    (search rules) c.part_end-end.ensures)

pub loop-cut-preserved : goal.loop-cut-preserved
loop-cut-preserved c =
    order_turn _ _ _ _ _ _ _ _ c.loop-cut.invariant _ (cut_end _ _ _ _ _ _ _ _ c.loop-cut.invariant _ (search rules)
    c.part_end-end.ensures) _ _ c.order_part.ensures.glyphs_value
    c.order_part.ensures.classes_value (search rules)

pub part_end-end-requires-2 : goal.part_end-end-requires-2
part_end-end-requires-2 c = omega (arith, c.loop-cut.invariant.halved.inside)

pub order_part-requires-2 : goal.order_part-requires-2
order_part-requires-2 c = order_ready _ _ _ _ _ _ _ _ c.loop-cut.invariant _ (last_end _ _ _ _ _ _ _ _ c.loop-cut.invariant _ c.loop-cut-test.false c.part_end-end-2.ensures)

pub shape_of-glyphs : goal.shape_of-glyphs
shape_of-glyphs c =
    (order_stop _ _ _ _ _ _ _ _ c.loop-cut.invariant _ (last_end _ _ _ _ _ _ _ _ c.loop-cut.invariant _ c.loop-cut-test.false
    c.part_end-end-2.ensures) _ _ c.order_part-2.ensures.glyphs_value
    c.order_part-2.ensures.classes_value c.loop-cut-test.false).same_glyphs

pub shape_of-classes : goal.shape_of-classes
shape_of-classes c =
    (order_stop _ _ _ _ _ _ _ _ c.loop-cut.invariant _ (last_end _ _ _ _ _ _ _ _ c.loop-cut.invariant _ c.loop-cut-test.false
    c.part_end-end-2.ensures) _ _ c.order_part-2.ensures.glyphs_value
    c.order_part-2.ensures.classes_value c.loop-cut-test.false).same_items

pub returns : goal.returns
returns c =
    order_stop _ _ _ _ _ _ _ _ c.loop-cut.invariant _ (last_end _ _ _ _ _ _ _ _ c.loop-cut.invariant _ c.loop-cut-test.false
    c.part_end-end-2.ensures) _ _ c.order_part-2.ensures.glyphs_value
    c.order_part-2.ensures.classes_value c.loop-cut-test.false

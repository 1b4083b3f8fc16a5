-- `ot_ranges::range_of` meets its contract: where the ranges change over from those that end below the glyph is the one that may have it. Assumes nothing.
use native.Mathlib.Omega.{arith}
use borrow.Author.Rules.{rules}
use borrow.Author.Tests.{ltb-true, ltb-false}
use Rattle.folds.proofs.Halving.{Parts}
use Rattle.ot_layouts.specs.Coverage.{end_at}
use Rattle.ot_layouts.proofs.RangesRead.{ranges_read}
use Rattle.ot_ranges.proofs.Place.{range_here, range_nowhere}
use Rattle.ot_ranges.proofs.range_of.Goals.{else-k-count-via-then-k-count+else-u16_at-glyph, else-k-count-via-else-k-count}
use Rattle.ot_ranges.proofs.range_of.Goals as goal

pub partition_point-k-requires-clause-callable : goal.partition_point-k-requires-clause-callable
partition_point-k-requires-clause-callable c k _ l =
    let long = (ranges_read _ _ c.requires).long in
    (λ κs p q r s t. omega arith, λ κs p q r s t. omega arith, λ κs p q r s t u. omega arith)

pub overflow_mul-k : goal.overflow_mul-k
overflow_mul-k c = let long = (ranges_read _ _ c.requires).long in omega arith

pub overflow_add-k : goal.overflow_add-k
overflow_add-k c = let long = (ranges_read _ _ c.requires).long in omega arith

pub u16_at-requires : goal.u16_at-requires
u16_at-requires c = let long = (ranges_read _ _ c.requires).long in omega arith

pub returns-then-u16_at-glyph : goal.returns-then-u16_at-glyph
returns-then-u16_at-glyph c =
    let p : Parts (end_at c.args.part.now) c.args.count c.args.glyph c.partition_point-k.result =
    record { within = omega arith; before = λ l. ltb-true _ _ (search rules); at = λ l. ltb-false _ _ (search rules) } in
    range_here _ _ _ (ranges_read _ _ c.requires) p c.if-k-count.true (omega arith)

pub returns-else-k-count : goal.returns-else-k-count
returns-else-k-count c =
    let p : Parts (end_at c.args.part.now) c.args.count c.args.glyph c.partition_point-k.result =
    record { within = omega arith; before = λ l. ltb-true _ _ (search rules); at = λ l. ltb-false _ _ (search rules) } in
    range_nowhere _ _ _ (ranges_read _ _ c.requires) p
    (elim c.else-k-count.branch [ else-k-count-via-then-k-count+else-u16_at-glyph w ↦ λ l. omega arith | else-k-count-via-else-k-count w ↦ λ l. omega arith ])

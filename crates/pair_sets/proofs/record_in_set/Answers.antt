-- `pair_sets::record_in_set` meets its contract: where the glyphs change over from those below it, it stands or is nowhere. Assumes nothing.
use mathlib.Core.Path.{◌∙◌}
use native.Mathlib.Omega.{arith}
use borrow.Author.Rules.{rules}
use borrow.Author.Tests.{ltb-true, ltb-false}
use Rattle.folds.proofs.Halving.{Parts}
use Rattle.pair_sets.specs.Rising.{second_at}
use Rattle.pair_sets.proofs.Ascending.{sorted}
use Rattle.pair_sets.proofs.Halved.{glyph_within, hit, miss}
use Rattle.pair_sets.proofs.record_in_set.Goals.{else-k-count-via-then-k-count+else-glyph_of-glyph, else-k-count-via-else-k-count}
use Rattle.pair_sets.proofs.record_in_set.Goals as goal

pub u16_at-requires : goal.u16_at-requires
u16_at-requires c = let s = sorted _ _ c.requires.1 in omega (arith, s.long)

pub partition_point-k-requires-clause-callable : goal.partition_point-k-requires-clause-callable
partition_point-k-requires-clause-callable c k _ l = λ κs p q r s t u v. glyph_within _ _ k c.requires.1 (omega arith)

pub glyph_of-requires : goal.glyph_of-requires
glyph_of-requires c = glyph_within _ _ _ c.requires.1 (omega arith)

pub returns-then-glyph_of-glyph : goal.returns-then-glyph_of-glyph
returns-then-glyph_of-glyph c =
    let a = c.args in
    let p : Parts (second_at a.set.now a.size) c.from-count.result a.glyph c.partition_point-k.result =
    record { within = omega arith; before = λ l. ltb-true _ _ (search rules); at = λ l. ltb-false _ _ (search rules) } in
    hit _ _ _ c.requires.1 (c.from-count.ensures ∙ c.u16_at.ensures) p c.if-k-count.true (omega arith)

pub returns-else-k-count : goal.returns-else-k-count
returns-else-k-count c =
    let a = c.args in
    let p : Parts (second_at a.set.now a.size) c.from-count.result a.glyph c.partition_point-k.result =
    record { within = omega arith; before = λ l. ltb-true _ _ (search rules); at = λ l. ltb-false _ _ (search rules) } in
    miss _ _ _ c.requires.1 (c.from-count.ensures ∙ c.u16_at.ensures) p
    (elim c.else-k-count.branch [ else-k-count-via-then-k-count+else-glyph_of-glyph w ↦ λ l. let h = p.at l in omega arith | else-k-count-via-else-k-count w ↦ λ l. omega arith ])

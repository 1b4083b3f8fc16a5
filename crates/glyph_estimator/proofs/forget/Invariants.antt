-- `glyph_estimator::forget` meets its contract: the bytes of the glyphs passed are empty. Assumes nothing.
use Rattle.glyph_estimator.proofs.Forgetting.{Forgets}
use Rattle.glyph_estimator.proofs.forget.Given as goal

abbrev pub invariant-loop-glyph : goal.invariant-loop-glyph
invariant-loop-glyph l = Forgets l.initial.set l.glyphs l.set l.glyph-index

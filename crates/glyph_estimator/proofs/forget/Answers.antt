-- `glyph_estimator::forget` meets its contract: the bytes of the glyphs passed are empty. Assumes nothing.
use Rattle.glyph_estimator.proofs.Forgetting.{forget_start, forget_turn, forget_stop}
use Rattle.glyph_estimator.proofs.forget.Goals as goal

pub loop-glyph-init : goal.loop-glyph-init
loop-glyph-init c = forget_start _ _

pub loop-glyph-preserved : goal.loop-glyph-preserved
loop-glyph-preserved c = forget_turn _ _ _ _ c.loop-glyph.invariant c.loop-glyph-test.true _ c.clear_byte.ensures

pub returns : goal.returns
returns c = forget_stop _ _ _ _ c.loop-glyph.invariant c.loop-glyph-test.false

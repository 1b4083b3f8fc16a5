-- `glyph_estimator::Estimator::add_by_glyph` meets its contract: after each turn the glyphs passed are added. The measure is what is left. Assumes nothing.
use Rattle.glyph_estimator.proofs.Taking.{start, set-length, takes, turn, stop}
use Rattle.glyph_estimator.proofs.Estimator.add_by_glyph.Goals as goal

pub loop-k-init : goal.loop-k-init
loop-k-init c = start _ _ _ _ c.requires

pub add_glyph-self-requires : goal.add_glyph-self-requires
add_glyph-self-requires c = record { k_in_bounds = c.loop-k-test.true; takes = takes _ _ _ _ _ _ _ c.loop-k.invariant c.loop-k-test.true }

pub loop-k-preserved : goal.loop-k-preserved
loop-k-preserved c = turn _ _ _ _ _ _ _ c.loop-k.invariant c.loop-k-test.true _ _ c.add_glyph-self.ensures

pub shape_of-set : goal.shape_of-set
shape_of-set c = set-length _ _ _ _ _ _ _ c.loop-k.invariant

pub returns : goal.returns
returns c = stop _ _ _ _ _ _ _ c.loop-k.invariant c.loop-k-test.false

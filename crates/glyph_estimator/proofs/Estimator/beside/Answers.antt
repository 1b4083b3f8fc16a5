-- `glyph_estimator::Estimator::beside` meets its contract: the three sizes without the largest. Assumes nothing.
use Rattle.glyph_rules.specs.Estimates.{beside_rows}
use Rattle.glyph_estimator.proofs.Estimator.beside.Goals as goal

pub returns : goal.returns
unfolding beside_rows
returns c = cc

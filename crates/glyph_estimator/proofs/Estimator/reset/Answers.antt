-- `glyph_estimator::Estimator::reset` meets its contract: the figures of no entries. Assumes nothing.
use mathlib.Core.Path.{refl}
use Rattle.ot_layouts.specs.Coverage.{runs}
use Rattle.ot_layouts.specs.ClassDef.{first_glyph, last_glyph, span, named}
use Rattle.folds.specs.Lists.{sift}
use Rattle.glyph_rules.specs.Estimates.{estimate}
use Rattle.glyph_estimator.proofs.Estimator.reset.Goals as goal

pub returns : goal.returns
unfolding estimate first_glyph last_glyph span named sift runs
returns c = refl

-- `pair_checks::check_sets` meets its contract: the glyphs are counted. Assumes nothing.
use Rattle.pair_checks.proofs.Deciding.{too_few, enough}
use Rattle.pair_checks.proofs.check_sets.Goals as goal

pub returns-then-glyphs-layout : goal.returns-then-glyphs-layout
returns-then-glyphs-layout c s e = let a = c.args in too_few s a.layout a.coverage e c.if-glyphs-layout.true

pub returns : goal.returns
returns c s e = let a = c.args in enough s a.layout a.coverage e c.if-glyphs-layout.false

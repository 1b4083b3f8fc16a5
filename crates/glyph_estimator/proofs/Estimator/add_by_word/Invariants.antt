-- `glyph_estimator::Estimator::add_by_word` meets its contract: after each turn the glyphs passed are added but for the runs, which are counted once all
-- are in. Assumes nothing.
use Rattle.glyph_estimator.specs.States.{counted}
use Rattle.glyph_estimator.proofs.Taking.{Adding}
use Rattle.glyph_estimator.proofs.Estimator.add_by_word.Given as goal

abbrev pub invariant-loop-k : goal.invariant-loop-k
invariant-loop-k l = Adding (counted l.initial.self l.initial.set) l.initial.set l.class l.glyphs (counted l.self l.set) l.set l.k

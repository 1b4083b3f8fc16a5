-- `glyph_estimator::Estimator::add_by_glyph` meets its contract: after each turn the glyphs passed are added. Assumes nothing.
use Rattle.glyph_estimator.proofs.Taking.{Adding}
use Rattle.glyph_estimator.proofs.Estimator.add_by_glyph.Given as goal

abbrev pub invariant-loop-k : goal.invariant-loop-k
invariant-loop-k l = Adding l.initial.self l.initial.set l.class l.glyphs l.self l.set l.k

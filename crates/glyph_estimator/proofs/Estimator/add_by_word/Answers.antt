-- `glyph_estimator::Estimator::add_by_word` meets its contract: after each turn the glyphs passed are added but for the runs, which are counted once all
-- are in. The measure is what is left. Assumes nothing.
use borrow.Author.Rules.{rules}
use Rattle.glyph_estimator.proofs.Taking.{start, set-length, takes, turn}
use Rattle.glyph_estimator.proofs.Recounting.{long, spans, added_counted}
use Rattle.glyph_estimator.proofs.Estimator.add_by_word.Goals as goal

pub loop-k-init : goal.loop-k-init
loop-k-init c = start _ _ _ _ (search rules)

pub take_glyph-self-requires : goal.take_glyph-self-requires
take_glyph-self-requires c = record { k_in_bounds = c.loop-k-test.true; takes = takes _ _ _ _ _ _ _ c.loop-k.invariant c.loop-k-test.true }

pub loop-k-preserved : goal.loop-k-preserved
loop-k-preserved c = turn _ _ _ _ _ _ _ c.loop-k.invariant c.loop-k-test.true _ _ c.take_glyph-self.ensures.taken

pub run_count-requires : goal.run_count-requires
run_count-requires c = record { in_bounds = long _ _ _ _ c.requires c.loop-k.self _ _ c.loop-k.invariant; spans = spans _ _ _ _ c.requires c.loop-k.self _ _ c.loop-k.invariant }

pub shape_of-set : goal.shape_of-set
shape_of-set c = set-length _ _ _ _ _ _ _ c.loop-k.invariant

pub returns : goal.returns
returns c = added_counted _ _ _ _ c.requires c.loop-k.self _ _ c.loop-k.invariant c.loop-k-test.false _ c.run_count.ensures

-- `glyph_set::words::run_count` meets its contract: the words before word `k` are counted. Assumes nothing.
use borrow.Author.Rules.{rules}
use native.Mathlib.Omega.{arith}
use Rattle.glyph_set.proofs.WordRuns.{start_counting, fits, small, turn_counting, stop_counting}
use Rattle.glyph_set.proofs.words.run_count.Goals as goal

pub loop-k-init : goal.loop-k-init
loop-k-init c = rw c.from-k.ensures (start_counting c.requires.in_bounds c.requires.spans c.ranges.first.fits)

pub word_at-word-requires : goal.word_at-word-requires
word_at-word-requires c = fits c.loop-k.invariant c.ranges.last.fits (omega arith)

pub overflow_add-count : goal.overflow_add-count
overflow_add-count c = omega (arith, small c.loop-k.invariant _ _ c.ranges.last.fits (omega arith) c.word_at-word.ensures c.starts-count.ensures)

pub loop-k-preserved : goal.loop-k-preserved
loop-k-preserved c = turn_counting c.loop-k.invariant _ _ (search rules) c.ranges.last.fits (omega arith) c.word_at-word.ensures c.starts-count.ensures

pub returns : goal.returns
returns c = stop_counting c.loop-k.invariant (omega arith)

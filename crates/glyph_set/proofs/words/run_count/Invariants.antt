-- `glyph_set::words::run_count` meets its contract: the words before word `k` are counted. Assumes nothing.
use Rattle.glyph_set.proofs.WordRuns.{Counting}
use Rattle.glyph_set.proofs.words.run_count.Given as goal

abbrev pub invariant-loop-k : goal.invariant-loop-k
invariant-loop-k l = Counting l.set l.first l.last l.k l.prior l.count

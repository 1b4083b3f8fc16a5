-- `in_ranges::run_into` meets its contract: one number is written a turn. Assumes nothing.
use Rattle.folds.proofs.Writing.{write_start, write_turn, write_stop}
use Rattle.ot_coverage_reader.proofs.in_ranges.run_into.Goals as goal

pub loop-j-init : goal.loop-j-init
loop-j-init c = write_start _ _ _ _ c.requires.count_in_bounds

pub loop-j-preserved : goal.loop-j-preserved
loop-j-preserved c = write_turn _ _ _ _ c.requires.count_in_bounds _ _ c.loop-j.invariant c.loop-j-test.true

pub returns : goal.returns
returns c = write_stop _ _ _ _ c.requires.count_in_bounds _ _ c.loop-j.invariant c.loop-j-test.false

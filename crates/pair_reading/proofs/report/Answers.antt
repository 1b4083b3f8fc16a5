-- `pair_reading::report` meets its contract: by the flag. Assumes nothing.
use Rattle.pair_reading.proofs.Answering.{found_reported, none_reported}
use Rattle.pair_reading.proofs.report.Goals as goal

pub returns-then-pair : goal.returns-then-pair
returns-then-pair c = found_reported c.args.answer c.args.pair c.if-pair.true c.both.ensures

pub returns : goal.returns
returns c = none_reported c.args.answer c.args.pair c.if-pair.false c.both.ensures

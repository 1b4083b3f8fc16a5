-- `vectors::input::Text::next_number` ends with the digits. Assumes nothing.
use Rattle.std.proofs.Common.{length}
use Rattle.vectors.proofs.input.Text.next_number.Given as goal

abbrev pub decreases-loop-digit : goal.decreases-loop-digit
decreases-loop-digit l = length l.rest

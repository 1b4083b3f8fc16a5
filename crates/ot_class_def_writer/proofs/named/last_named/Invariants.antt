-- `ot_class_def_writer::named::last_named` meets its contract: no class passed from the end on is named. Assumes nothing.
use Rattle.std.proofs.Common.{ℕ, ◌≤◌, ◌<◌, length, get_or}
use Rattle.ot_class_def_writer.proofs.named.last_named.Given as goal

abbrev pub invariant-loop-last : goal.invariant-loop-last
invariant-loop-last l = (j : ℕ) → l.last ≤ j → j < length l.classes → get_or l.classes j 0 ≤ l.first

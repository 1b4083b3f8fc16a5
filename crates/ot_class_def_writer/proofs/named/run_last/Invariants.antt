-- `ot_class_def_writer::named::run_last` meets its contract: each entry passed joins the next. Assumes nothing.
use Prim.Native.Nat.{ℕ, ◌-◌, ◌≤◌, ◌<◌}
use mathlib.Core.Path.{◌≡◌}
use mathlib.Core.Bool.{true}
use mathlib.Core.List.{List}
use lib.ListN.{length}
use Rattle.ot_class_def_writer.specs.Entries.{joins_at}
use Rattle.ot_class_def_writer.proofs.named.run_last.Given as goal

pub record Inv (gs cs : List ℕ) (k last : ℕ) : Type 0 where
  pub from : k ≤ last
  pub within : last < length gs
  pub joined : (j : ℕ) → k ≤ j → j < last → joins_at gs cs j ≡ true

abbrev pub invariant-loop-last : goal.invariant-loop-last
invariant-loop-last l = Inv l.glyphs l.classes l.k l.last

abbrev pub decreases-loop-last : goal.decreases-loop-last
decreases-loop-last l = length l.glyphs - l.last

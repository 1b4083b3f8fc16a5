-- `ot_class_def_writer::covered::Entries::count_runs` meets its contract: the runs counted and the runs of the entries left are all runs. Assumes nothing.
use Prim.Native.Nat.{ℕ, ◌+◌, ◌-◌, ◌≤◌}
use mathlib.Core.Path.{◌≡◌}
use mathlib.Core.List.{List}
use lib.ListN.{length, drop}
use Rattle.ot_layouts.specs.Coverage.{Entry, runs}
use Rattle.ot_layouts.specs.ClassDef.{named}
use Rattle.ot_class_def_writer.specs.declared.covered.Entries.{Entries}
use Rattle.ot_class_def_writer.specs.Entries.{entries_of}
use Rattle.ot_class_def_writer.proofs.covered.Entries.count_runs.Given as goal

-- how many runs the named ones make
abbrev pub many : List Entry → ℕ
many es = length (runs (named es))

pub record Inv (en : Entries) (count k : ℕ) : Type 0 where
  pub within : k ≤ length en.glyphs.now
  pub few : count ≤ k
  pub together : count + many (drop k (entries_of en)) ≡ many (entries_of en)

abbrev pub invariant-loop-k : goal.invariant-loop-k
invariant-loop-k l = Inv l.self l.count l.k

abbrev pub decreases-loop-k : goal.decreases-loop-k
decreases-loop-k l = length l.self.glyphs.now - l.k

-- `ot_class_def_writer::covered::Entries::put_runs` meets its contract: the ranges written, and those of the entries left, are all ranges. Assumes nothing.
use Prim.Native.Nat.{ℕ, ◌+◌, ◌-◌, ◌*◌, ◌≤◌}
use mathlib.Core.Path.{◌≡◌}
use mathlib.Core.List.{List, ◌++◌}
use lib.ListN.{length, drop}
use Rattle.folds.specs.Lists.{put}
use Rattle.ot_layouts.specs.Coverage.{Entry, runs}
use Rattle.ot_layouts.specs.ClassDef.{named, class_ranges}
use Rattle.ot_class_def_writer.specs.declared.covered.Entries.{Entries}
use Rattle.ot_class_def_writer.specs.Entries.{entries_of}
use Rattle.ot_class_def_writer.proofs.covered.Entries.put_runs.Given as goal

-- the ranges of those entries that are named
abbrev pub spans : List Entry → List ℕ
spans es = class_ranges (runs (named es))

pub record Inv (en : Entries) (out₀ : List ℕ) (at : ℕ) (out : List ℕ) (end k : ℕ) : Type 0 where
  pub within : k ≤ length en.glyphs.now
  pub room : at + 6 * length (runs (named (entries_of en))) ≤ length out₀
  pub kept : length out ≡ length out₀
  pub done : List ℕ
  pub end_is : end ≡ at + length done
  pub is : out ≡ put out₀ at done
  pub whole : spans (entries_of en) ≡ done ++ spans (drop k (entries_of en))

abbrev pub invariant-loop-k : goal.invariant-loop-k
invariant-loop-k l = Inv l.self l.initial.out l.at l.out l.end l.k

abbrev pub decreases-loop-k : goal.decreases-loop-k
decreases-loop-k l = length l.self.glyphs.now - l.k

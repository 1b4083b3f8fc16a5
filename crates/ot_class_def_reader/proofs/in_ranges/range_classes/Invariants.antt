-- `ot_class_def_reader::in_ranges::range_classes` meets its contract: the ranges passed end below the glyph, and the next decides its class. Assumes nothing.
use Prim.Native.Nat.{ℕ, ◌+◌, ◌-◌, ◌≤◌, ◌<◌}
use mathlib.Core.List.{List}
use lib.ListN.{length, get_or}
use Rattle.ot_layouts.specs.Coverage.{end_at}
use Rattle.ot_layouts.proofs.RangesRead.{RangesRead}
use Rattle.ot_ranges.specs.Ascending.{Ascending}
use Rattle.ot_class_def_reader.specs.Lookup.{range_class}
use Rattle.ot_class_def_reader.proofs.Filled.{Filled}
use Rattle.ot_class_def_reader.proofs.in_ranges.range_classes.Given as goal

pub record Inv (part : List ℕ) (count : ℕ) (gs out₀ out : List ℕ) (k i : ℕ) : Type 0 where
  pub read : RangesRead part count
  pub ascends : Ascending gs
  pub filled : Filled (range_class part count) gs out₀ out i
  pub within : k ≤ count
  pub below : (j : ℕ) → j < k → i < length gs → end_at part j < get_or gs i 0

abbrev pub invariant-loop-i : goal.invariant-loop-i
invariant-loop-i l = Inv l.part l.count l.glyphs l.initial.out l.out l.k l.i

abbrev pub decreases-loop-i : goal.decreases-loop-i
decreases-loop-i l = length l.glyphs - l.i + (l.count - l.k)

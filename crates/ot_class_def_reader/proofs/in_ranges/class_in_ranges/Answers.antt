-- `ot_class_def_reader::in_ranges::class_in_ranges` meets its contract: the class beside the range that has the glyph. Assumes nothing.
use Rattle.std.specs.Prelude.{Some}
use Prim.Native.Nat.{ℕ, ◌+◌, ◌*◌, ◌<◌}
use mathlib.Core.Path.{◌≡◌, sym, ap, ◌∙◌}
use mathlib.Core.Bool.{true}
use mathlib.Core.List.{List}
use native.Mathlib.Omega.{arith}
use lib.ListN.{length}
use Rattle.folds.proofs.First.{first_below}
use Rattle.ot_layouts.specs.Coverage.{ranges_fit}
use Rattle.ot_layouts.specs.ClassDef.{beside_or}
use Rattle.ot_layouts.proofs.RangesRead.{ranges_read}
use Rattle.ot_ranges.specs.Ranges.{in_range, range_of}
use Rattle.ot_class_def_reader.proofs.in_ranges.class_in_ranges.Goals as goal

inside : (part : List ℕ) (count g k : ℕ) → ranges_fit part count ≡ true → range_of part count g ≡ Some k → 8 + 6 * k + 1 < length part
inside part count g k f e = omega (arith, first_below (in_range part g) count k e, (ranges_read part count f).long)

pub overflow_mul-k : goal.overflow_mul-k
overflow_mul-k c = let h = inside _ _ _ _ c.requires (sym c.range_of.ensures ∙ c.in-Some.is) in omega arith

pub overflow_add-k : goal.overflow_add-k
overflow_add-k c = let h = inside _ _ _ _ c.requires (sym c.range_of.ensures ∙ c.in-Some.is) in omega arith

pub u16_at-requires : goal.u16_at-requires
u16_at-requires c = inside _ _ _ _ c.requires (sym c.range_of.ensures ∙ c.in-Some.is)

pub returns-in-Some : goal.returns-in-Some
returns-in-Some c = c.u16_at.ensures ∙ ap (beside_or c.args.part.now) (sym c.in-Some.is ∙ c.range_of.ensures)

pub returns-in-None : goal.returns-in-None
returns-in-None c = ap (beside_or c.args.part.now) (sym c.in-None.is ∙ c.range_of.ensures)

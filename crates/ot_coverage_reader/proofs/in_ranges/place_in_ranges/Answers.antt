-- `in_ranges::place_in_ranges` meets its contract: the range that has the glyph is numbered by the glyphs before it. Assumes nothing.
use Rattle.std.specs.Prelude.{Some}
use mathlib.Core.Path.{◌≡◌, refl, sym, ◌∙◌}
use mathlib.Core.Bool.{true}
use mathlib.Core.List.{List}
use Prim.Native.Nat.{ℕ, ◌+◌, ◌-◌, ◌*◌, ◌≤◌, ◌<◌}
use native.Mathlib.Omega.{arith}
use lib.ListN.{length}
use Rattle.ot_layouts.specs.Coverage.{start_at, beside_at, ranges_fit, cover_place}
use Rattle.ot_layouts.proofs.RangesRead.{ranges_fit_lem}
use Rattle.ot_layouts.proofs.CoverageRead.{Ranged, header_ranges}
use Rattle.ot_ranges.specs.Ranges.{range_of}
use Rattle.ot_coverage_reader.specs.Coverage.{AsRanges}
use Rattle.ot_coverage_reader.proofs.Places.{has, place_at, place_none}
use Rattle.ot_coverage_reader.proofs.in_ranges.place_in_ranges.Goals as goal

-- where range k is found: its numbers stand in the table, and it starts no higher than the glyph
record Inside (part : List ℕ) (g k : ℕ) : Type 0 where
  long : 8 + 6 * k + 1 < length part
  starts : start_at part k ≤ g

module _ (part : List ℕ) (count g : ℕ) (a : AsRanges part count) where
  ranged : Ranged part count
  ranged = header_ranges part _ a refl

  fit : ranges_fit part count ≡ true
  fit = ranges_fit_lem part count ranged.read

  inside : {k : ℕ} → Some k ≡ range_of part count g → Inside part g k
  inside {k} q = let h = has part g count k (sym q) in record { long = omega (arith, ranged.read.long); starts = h.starts }

  hit : {k b x d : ℕ} → Some k ≡ range_of part count g → b ≡ start_at part k → x ≡ beside_at part k → d ≡ g - b → Some (x + d) ≡ cover_place part g
  hit {k} q pb px pd = rw (pd, pb, px, place_at ranged g k (sym q))

pub range_of-requires : goal.range_of-requires
range_of-requires c = fit _ _ c.args.glyph c.requires

pub returns-in_err-k : goal.returns-in_err-k
returns-in_err-k c = c.from_residual.ensures ∙ sym (place_none (ranged _ _ c.args.glyph c.requires) _ (sym c.in_err-k.ensures))

pub overflow_mul-k : goal.overflow_mul-k
overflow_mul-k c = let here = inside _ _ _ c.requires c.in_ok-k.ensures in omega (arith, here.long)

pub overflow_add-k : goal.overflow_add-k
overflow_add-k c = let here = inside _ _ _ c.requires c.in_ok-k.ensures in omega (arith, here.long)

pub u16_at-start-requires : goal.u16_at-start-requires
u16_at-start-requires c = let here = inside _ _ _ c.requires c.in_ok-k.ensures in omega (arith, here.long)

pub overflow_mul-k-2 : goal.overflow_mul-k-2
overflow_mul-k-2 c = let here = inside _ _ _ c.requires c.in_ok-k.ensures in omega (arith, here.long)

pub overflow_add-k-2 : goal.overflow_add-k-2
overflow_add-k-2 c = let here = inside _ _ _ c.requires c.in_ok-k.ensures in omega (arith, here.long)

pub u16_at-requires : goal.u16_at-requires
u16_at-requires c = let here = inside _ _ _ c.requires c.in_ok-k.ensures in omega (arith, here.long)

pub overflow_sub-glyph : goal.overflow_sub-glyph
overflow_sub-glyph c = let here = inside _ _ _ c.requires c.in_ok-k.ensures in omega (arith, here.starts)

pub returns : goal.returns
returns c = hit _ _ _ c.requires c.in_ok-k.ensures c.u16_at-start.ensures (c.from-index.ensures ∙ c.u16_at.ensures) c.from.ensures

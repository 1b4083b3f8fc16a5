-- How long a written Coverage is: as the shorter of its formats, and no longer than one that covers these glyphs among others. Assumes nothing.
use Prim.Native.Nat.{ℕ, ◌+◌, ◌*◌, ◌<◌, ◌≤◌}
use mathlib.Core.Path.{◌≡◌, refl, ap}
use mathlib.Core.Bool.{true}
use mathlib.Core.List.{List, [], ◌∷◌, ◌++◌, map-append}
use mathlib.Core.Logic.{⊎_elim}
use native.Mathlib.Omega.{arith}
use lib.ListN.{length, length-append}
use borrow.Author.Tests.{lt-ltb, le-ltb}
use Rattle.folds.proofs.Tests.{either}
use Rattle.folds.proofs.Folds.{length-upto}
use Rattle.ot_layouts.specs.Numbers.{u16_at, be16, words}
use Rattle.ot_layouts.specs.Coverage.{Run, runs, plain, glyph_at, start_at, size_at, cover_readable, cover_glyphs, cover_ranges, coverage_bytes}
use Rattle.ot_layouts.proofs.Numbers.{length-words}
use Rattle.ot_layouts.proofs.Head.{head_length}
use Rattle.ot_layouts.proofs.Runs.{run_size}
use Rattle.ot_layouts.proofs.RunCount.{many, alone, many_first, many_last, many_run, many_flat}
use Rattle.ot_layouts.proofs.CoverageRead.{Listed, Ranged, range_at, either_format}

pub length_cover_ranges : (i : ℕ) (rs : List Run) → length (cover_ranges i rs) ≡ 6 * length rs
unfolding cover_ranges be16
length_cover_ranges i [] = refl
length_cover_ranges i (r ∷ rs) = omega (arith, length_cover_ranges (i + run_size r) rs)

-- in ranges where these are shorter
module _ (gs : List ℕ) (h : 3 * many (plain gs) < length gs) where
  pub as_ranges_lem : coverage_bytes gs ≡ be16 2 ++ be16 (many (plain gs)) ++ cover_ranges 0 (runs (plain gs))
  unfolding coverage_bytes
  as_ranges_lem = rw (lt-ltb (4 + 6 * many (plain gs)) (4 + 2 * length gs) (omega arith))

  pub ranges_long : length (coverage_bytes gs) ≡ 4 + 6 * many (plain gs)
  ranges_long = omega (arith, ap length as_ranges_lem, head_length 2 (many (plain gs)) (cover_ranges 0 (runs (plain gs))), length_cover_ranges 0 (runs (plain gs)))

-- else as a list
module _ (gs : List ℕ) (h : length gs ≤ 3 * many (plain gs)) where
  pub as_list_lem : coverage_bytes gs ≡ be16 1 ++ be16 (length gs) ++ words gs
  unfolding coverage_bytes
  as_list_lem = rw (le-ltb (4 + 6 * many (plain gs)) (4 + 2 * length gs) (omega arith))

  pub list_long : length (coverage_bytes gs) ≡ 4 + 2 * length gs
  list_long = omega (arith, ap length as_list_lem, head_length 1 (length gs) (words gs), length-words gs)

pub cover_length : (gs : List ℕ) → (length (coverage_bytes gs) ≤ 4 + 6 * many (plain gs)) × (length (coverage_bytes gs) ≤ 4 + 2 * length gs)
cover_length gs =
    ⊎_elim (λ h. let l = ranges_long gs h in (omega arith, omega arith)) (λ h. let l = list_long gs h in (omega arith, omega arith))
    (either (3 * many (plain gs)) (length gs))

pub cover_within : (b front gs rest : List ℕ) → cover_readable b ≡ true → cover_glyphs b ≡ front ++ gs ++ rest → length (coverage_bytes gs) ≤ length b
cover_within b front gs rest h e =
    let (p, q) = cover_length gs in
    let n = u16_at b 2 in
    ⊎_elim
    (λ (r : Listed b n).
    omega (arith, r.read.long, length-upto (glyph_at b) n, ap length r.glyphs, ap length e, length-append (front ++ gs) rest, length-append front gs))
    (λ (r : Ranged b n).
    omega (
      arith,
      r.read.long,
      many_flat (range_at b) n (λ k l. many_run (start_at b k) (size_at b k)),
      ap (λ (x : List ℕ). many (plain x)) r.glyphs,
      ap (λ (x : List ℕ). many (plain x)) e,
      ap many (map-append alone (front ++ gs) rest),
      many_first (plain (front ++ gs)) (plain rest),
      ap many (map-append alone front gs),
      many_last (plain front) (plain gs),
    ))
    (either_format b h)

pub cover_shorter : (b gs rest : List ℕ) → cover_readable b ≡ true → cover_glyphs b ≡ gs ++ rest → length (coverage_bytes gs) ≤ length b
cover_shorter b gs rest = cover_within b [] gs rest

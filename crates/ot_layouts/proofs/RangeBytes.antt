-- The bytes of rising runs as ranges, of a Coverage or a ClassDef: they are read back, number by number, and they fit. Assumes nothing.
use Prim.Native.Nat.{ℕ, zero, suc, ◌+◌, ◌*◌, ◌<◌, ◌≤◌}
use mathlib.Core.Path.{◌≡◌, refl, ap, ap₂, ◌∙◌}
use mathlib.Core.Bool.{true}
use mathlib.Core.List.{List, [], ◌∷◌, ◌++◌}
use native.Mathlib.Omega.{arith}
use native.Mathlib.Nat.{not-suc-le-zero}
use lib.ListN.{length, get_or, get_or-append}
use Rattle.folds.specs.Folds.{before}
use Rattle.ot_layouts.specs.Numbers.{u16_at, be16}
use Rattle.ot_layouts.specs.Coverage.{Run, start_at, end_at, beside_at, ranges_fit}
use Rattle.ot_layouts.specs.ClassDef.{class_ranges}
use Rattle.ot_layouts.proofs.Head.{two_bytes, u16_at_past, head_format, head_count_lem, head_past, head_length}
use Rattle.ot_layouts.proofs.Runs.{Rise}
use Rattle.ot_layouts.proofs.RangesRead.{ranges_fit_lem}

-- what stands past the last run
pub no_run : Run
no_run = record { start = 0; end = 0; class = 0 }

-- the six bytes of a range
abbrev range_bytes : Run → List ℕ
range_bytes r = be16 r.start ++ be16 r.end ++ be16 r.class

-- the number at byte j of range k
range_at_lem : (rs : List Run) (k j : ℕ) → k < length rs → j ≤ 4 → u16_at (class_ranges rs) (6 * k + j) ≡ u16_at (range_bytes (get_or rs k no_run)) j
unfolding class_ranges u16_at be16
range_at_lem [] k j h l = absurd (not-suc-le-zero h)
range_at_lem (r ∷ rs) zero j h l =
    let z : 6 * 0 + j ≡ j = omega arith in
    ap (u16_at (class_ranges (r ∷ rs))) z
    ∙ ap₂ (λ (a b : ℕ). 256 * a + b) (get_or-append (range_bytes r) (class_ranges rs) 0 j (omega arith)) (get_or-append (range_bytes r) (class_ranges rs) 0 (j + 1) (omega arith))
range_at_lem (r ∷ rs) (suc k) j h l =
    let z : 6 * suc k + j ≡ 6 + (6 * k + j) = omega arith in
    ap (u16_at (class_ranges (r ∷ rs))) z ∙ u16_at_past (range_bytes r) (class_ranges rs) 6 (6 * k + j) refl ∙ range_at_lem rs k j (omega arith) l

pub length-class_ranges : (rs : List Run) → length (class_ranges rs) ≡ 6 * length rs
unfolding class_ranges be16
length-class_ranges [] = refl
length-class_ranges (r ∷ rs) = omega (arith, length-class_ranges rs)

-- ---- ranges behind format and count

module _ (rs : List Run) where
  abbrev pub ranged : List ℕ
  ranged = be16 2 ++ be16 (length rs) ++ class_ranges rs

  pub ranged_format : u16_at ranged 0 ≡ 2
  ranged_format = head_format 2 (length rs) (class_ranges rs)

  pub ranged_count : u16_at ranged 2 ≡ length rs
  ranged_count = head_count_lem 2 (length rs) (class_ranges rs)

  pub ranged_length : length ranged ≡ 4 + 6 * length rs
  ranged_length = omega (arith, head_length 2 (length rs) (class_ranges rs), length-class_ranges rs)

  ranged_at : (k j : ℕ) → k < length rs → j ≤ 4 → u16_at ranged (4 + (6 * k + j)) ≡ u16_at (range_bytes (get_or rs k no_run)) j
  ranged_at k j h l = head_past 2 (length rs) (class_ranges rs) (6 * k + j) ∙ range_at_lem rs k j h l

  pub ranged_start : (k : ℕ) → k < length rs → start_at ranged k ≡ (get_or rs k no_run).start
  unfolding be16 u16_at
  ranged_start k h =
      let e : 4 + 6 * k ≡ 4 + (6 * k + 0) = omega arith in
      ap (u16_at ranged) e ∙ ranged_at k 0 h (omega arith) ∙ two_bytes (get_or rs k no_run).start

  pub ranged_end : (k : ℕ) → k < length rs → end_at ranged k ≡ (get_or rs k no_run).end
  unfolding be16 u16_at
  ranged_end k h =
      let e : 6 + 6 * k ≡ 4 + (6 * k + 2) = omega arith in
      ap (u16_at ranged) e ∙ ranged_at k 2 h (omega arith) ∙ two_bytes (get_or rs k no_run).end

  pub ranged_beside : (k : ℕ) → k < length rs → beside_at ranged k ≡ (get_or rs k no_run).class
  unfolding be16 u16_at
  ranged_beside k h =
      let e : 8 + 6 * k ≡ 4 + (6 * k + 4) = omega arith in
      ap (u16_at ranged) e ∙ ranged_at k 4 h (omega arith) ∙ two_bytes (get_or rs k no_run).class

-- ---- rising runs, by index

rise_ordered : (rs : List Run) (lo k : ℕ) → Rise lo rs → k < length rs → (get_or rs k no_run).start ≤ (get_or rs k no_run).end
rise_ordered [] lo k a h = absurd (not-suc-le-zero h)
rise_ordered (r ∷ rs) lo zero a h = a.1
rise_ordered (r ∷ rs) lo (suc k) a h = rise_ordered rs (r.end + 1) k a.2 (omega arith)

rise_first : (rs : List Run) (lo : ℕ) → Rise lo rs → 0 < length rs → lo ≤ (get_or rs 0 no_run).start
rise_first [] lo a h = absurd (not-suc-le-zero h)
rise_first (r ∷ rs) lo a h = a.0

rise_next : (rs : List Run) (lo k : ℕ) → Rise lo rs → suc k < length rs → (get_or rs k no_run).end + 1 ≤ (get_or rs (suc k) no_run).start
rise_next [] lo k a h = absurd (not-suc-le-zero h)
rise_next (r ∷ rs) lo zero a h = rise_first rs (r.end + 1) a.2 (omega arith)
rise_next (r ∷ rs) lo (suc k) a h = rise_next rs (r.end + 1) k a.2 (omega arith)

pub ranged_fits : (rs : List Run) → Rise 0 rs → ranges_fit (ranged rs) (length rs) ≡ true
unfolding before
ranged_fits rs a = ranges_fit_lem (ranged rs) (length rs) (record { long = ranged_length rs; rising = record { above = above; ordered = ordered } })
  where
    above : (k : ℕ) → k < length rs → before (λ j. end_at (ranged rs) j + 1) k ≤ start_at (ranged rs) k
    above zero h = omega arith
    above (suc k) h = omega (arith, ranged_start rs (suc k) h, ranged_end rs k (omega arith), rise_next rs 0 k a h)

    ordered : (k : ℕ) → k < length rs → start_at (ranged rs) k ≤ end_at (ranged rs) k
    ordered k h = omega (arith, ranged_start rs k h, ranged_end rs k h, rise_ordered rs 0 k a h)

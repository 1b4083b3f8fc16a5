-- Coverage: what is written for glyphs in ascending order is readable, and is read back as these glyphs. Assumes nothing.
use Prim.Native.Nat.{ℕ, zero, suc, ◌+◌, ◌-◌, ◌*◌, ◌<◌, ◌≤◌}
use mathlib.Core.Path.{◌≡◌, refl, sym, ap, ap₂, ◌∙◌}
use mathlib.Core.Bool.{true}
use mathlib.Core.List.{List, [], ◌∷◌, ◌++◌}
use native.Mathlib.Omega.{arith}
use native.Mathlib.Nat.{not-suc-le-zero}
use lib.ListN.{length, get_or}
use lib.Dec.{ltb}
use Rattle.folds.specs.Folds.{before, sum, flat, run}
use Rattle.folds.proofs.Tests.{by_test}
use Rattle.folds.proofs.Folds.{upto-same}
use Rattle.folds.proofs.FromTheFront.{sum-cons, sum_same, flat-cons, flat-same, upto_get_d}
use Rattle.ot_layouts.specs.Numbers.{be16, words}
use Rattle.ot_layouts.specs.Coverage.{Run, runs, plain, glyph_at, start_at, beside_at, size_at, cover_readable, cover_glyphs, cover_ranges, coverage_bytes, Ascends}
use Rattle.ot_layouts.specs.ClassDef.{class_ranges}
use Rattle.ot_layouts.proofs.Numbers.{length-words}
use Rattle.ot_layouts.proofs.Words.{words_at}
use Rattle.ot_layouts.proofs.Head.{head_format, head_count_lem, head_past, head_length}
use Rattle.ot_layouts.proofs.Runs.{Rise, runs_rise, run_size, spread, expand, expand_runs, plain_glyphs}
use Rattle.ot_layouts.proofs.CoverageRead.{list_fits_lem, index_fits}
use Rattle.ot_layouts.proofs.RangeBytes.{no_run, ranged, ranged_format, ranged_count, ranged_start, ranged_end, ranged_beside, ranged_fits}

-- ---- in ranges: each with the glyphs before it beside it

-- the runs, each with its start index for a class
abbrev numbered : ℕ → List Run → List Run
numbered i [] = []
numbered i (r ∷ rs) = record { start = r.start; end = r.end; class = i } ∷ numbered (i + run_size r) rs

numbered_bytes : (i : ℕ) (rs : List Run) → cover_ranges i rs ≡ class_ranges (numbered i rs)
unfolding cover_ranges class_ranges
numbered_bytes i [] = refl
numbered_bytes i (r ∷ rs) = ap (λ (x : List ℕ). be16 r.start ++ be16 r.end ++ be16 i ++ x) (numbered_bytes (i + run_size r) rs)

numbered_rise : (i lo : ℕ) (rs : List Run) → Rise lo rs → Rise lo (numbered i rs)
numbered_rise i lo [] a = tt
numbered_rise i lo (r ∷ rs) a = (a.0, a.1, numbered_rise (i + run_size r) (r.end + 1) rs a.2)

numbered_length : (i : ℕ) (rs : List Run) → length (numbered i rs) ≡ length rs
numbered_length i [] = refl
numbered_length i (r ∷ rs) = ap suc (numbered_length (i + run_size r) rs)

numbered_expand : (i : ℕ) (rs : List Run) → expand (numbered i rs) ≡ expand rs
numbered_expand i [] = refl
numbered_expand i (r ∷ rs) = ap (λ (x : List ℕ). spread r ++ x) (numbered_expand (i + run_size r) rs)

numbered_class : (i : ℕ) (rs : List Run) (k : ℕ) → k < length (numbered i rs) → (get_or (numbered i rs) k no_run).class ≡ i + sum (λ j. run_size (get_or (numbered i rs) j no_run)) k
unfolding sum
numbered_class i [] k h = absurd (not-suc-le-zero h)
numbered_class i (r ∷ rs) zero h = omega arith
numbered_class i (r ∷ rs) (suc k) h =
    numbered_class (i + run_size r) rs k (omega arith)
    ∙ omega (arith, sum-cons (λ j. run_size (get_or (numbered i (r ∷ rs)) j no_run)) k)

spread_all : (rs : List Run) → flat (λ k. spread (get_or rs k no_run)) (length rs) ≡ expand rs
unfolding flat
spread_all [] = refl
spread_all (r ∷ rs) = flat-cons (λ k. spread (get_or (r ∷ rs) k no_run)) (length rs) ∙ ap (λ (x : List ℕ). spread r ++ x) (spread_all rs)

module _ (rs : List Run) where
  abbrev in_ranges : List ℕ
  in_ranges = be16 2 ++ be16 (length rs) ++ cover_ranges 0 rs

  as_numbered : in_ranges ≡ ranged (numbered 0 rs)
  as_numbered = ap₂ (λ (n : ℕ) (x : List ℕ). be16 2 ++ be16 n ++ x) (sym (numbered_length 0 rs)) (numbered_bytes 0 rs)

  numbered_index : (k : ℕ) → k < length (numbered 0 rs) → beside_at (ranged (numbered 0 rs)) k ≡ sum (size_at (ranged (numbered 0 rs))) k
  numbered_index k h =
      let ns = numbered 0 rs in
      ranged_beside ns k h
      ∙ numbered_class 0 rs k h
      ∙ omega (arith, sum_same (λ j. run_size (get_or ns j no_run)) (size_at (ranged ns)) k (λ j l. omega (arith, ranged_start ns j (omega arith), ranged_end ns j (omega arith))))

  ranges_readable : Rise 0 rs → cover_readable in_ranges ≡ true
  unfolding cover_readable
  ranges_readable a =
      let ns = numbered 0 rs in
      rw as_numbered
      (rw (ranged_format ns, ranged_count ns, ranged_fits ns (numbered_rise 0 0 rs a), index_fits (ranged ns) (length ns) numbered_index))

  ranges_glyphs : cover_glyphs in_ranges ≡ expand rs
  unfolding cover_glyphs
  ranges_glyphs =
      let ns = numbered 0 rs in
      rw as_numbered
      (rw (ranged_format ns, ranged_count ns)
      (flat-same (λ k. run (start_at (ranged ns) k) (size_at (ranged ns) k)) (λ k. spread (get_or ns k no_run)) (length ns)
      (λ k h. ap₂ (λ (x y : ℕ). run x (y + 1 - x)) (ranged_start ns k h) (ranged_end ns k h))
      ∙ spread_all ns ∙ numbered_expand 0 rs))

-- ---- as a list

-- glyphs in ascending order, by index
pub ascends_at : (gs : List ℕ) (lo k : ℕ) → Ascends lo (plain gs) → suc k < length gs → get_or gs k 0 + 1 ≤ get_or gs (suc k) 0
ascends_at [] lo k a h = absurd (not-suc-le-zero h)
ascends_at (g ∷ []) lo zero a h = absurd (omega arith)
ascends_at (g ∷ f ∷ gs) lo zero a h = a.1.0
ascends_at (g ∷ gs) lo (suc k) a h = ascends_at gs (g + 1) k a.1 (omega arith)

module _ (gs : List ℕ) where
  abbrev in_list : List ℕ
  in_list = be16 1 ++ be16 (length gs) ++ words gs

  list_at : (k : ℕ) → k < length gs → glyph_at in_list k ≡ get_or gs k 0
  list_at k h = head_past 1 (length gs) (words gs) (2 * k) ∙ words_at gs k h

  list_length : length in_list ≡ 4 + 2 * length gs
  list_length = omega (arith, head_length 1 (length gs) (words gs), length-words gs)

  list_readable : Ascends 0 (plain gs) → cover_readable in_list ≡ true
  unfolding cover_readable before
  list_readable a =
      rw (head_format 1 (length gs) (words gs), head_count_lem 1 (length gs) (words gs))
      (rw (list_fits_lem in_list (length gs) (record { long = list_length; rising = record { above = above; ordered = λ k h. omega arith } })))
    where
      above : (k : ℕ) → k < length gs → before (λ j. glyph_at in_list j + 1) k ≤ glyph_at in_list k
      above zero h = omega arith
      above (suc k) h = omega (arith, list_at (suc k) h, list_at k (omega arith), ascends_at gs 0 k a h)

  list_glyphs : cover_glyphs in_list ≡ gs
  unfolding cover_glyphs
  list_glyphs =
      rw (head_format 1 (length gs) (words gs), head_count_lem 1 (length gs) (words gs))
      (upto-same (glyph_at in_list) (λ k. get_or gs k 0) (length gs) list_at ∙ upto_get_d gs 0)

-- ---- the round trip

module _ (gs : List ℕ) (a : Ascends 0 (plain gs)) where
  pub cover_back : cover_glyphs (coverage_bytes gs) ≡ gs
  unfolding coverage_bytes
  cover_back =
      by_test (ltb (4 + 6 * length (runs (plain gs))) (4 + 2 * length gs))
      (λ e. rw e (ranges_glyphs (runs (plain gs)) ∙ expand_runs (plain gs) 0 a ∙ plain_glyphs gs))
      (λ e. rw e (list_glyphs gs))

  pub cover_readable_lem : cover_readable (coverage_bytes gs) ≡ true
  unfolding coverage_bytes
  cover_readable_lem =
      by_test (ltb (4 + 6 * length (runs (plain gs))) (4 + 2 * length gs))
      (λ e. rw e (ranges_readable (runs (plain gs)) (runs_rise (plain gs) 0 a)))
      (λ e. rw e (list_readable gs a))

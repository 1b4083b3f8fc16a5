-- The glyphs of a readable Coverage ascend, and are numbers of sixteen bits where its bytes are bytes. Assumes nothing.
use Prim.Native.Nat.{ℕ, zero, suc, ◌+◌, ◌-◌, ◌*◌, ◌≤◌, ◌<◌}
use mathlib.Core.Path.{◌≡◌}
use mathlib.Core.Bool.{true}
use mathlib.Core.List.{List, [], ◌∷◌, ◌++◌, map}
use mathlib.Core.Logic.{⊎_elim}
use native.Mathlib.Omega.{arith}
use Rattle.folds.specs.Folds.{before, flat, upto, run}
use Rattle.folds.proofs.Halving.{Rising}
use Rattle.ot_layouts.specs.Numbers.{u16_at}
use Rattle.ot_layouts.specs.Coverage.{Entry, glyph_at, start_at, end_at, cover_readable, cover_glyphs, Ascends, Under}
use Rattle.ot_layouts.proofs.CoverageRead.{Listed, Ranged, range_at, either_format}

-- ---- numbers in ascending order, from lo on and below hi

abbrev pub Sorted : ℕ → ℕ → List ℕ → Type 0
Sorted lo hi [] = lo ≤ hi
Sorted lo hi (g ∷ gs) = (lo ≤ g) × Sorted (g + 1) hi gs

sorted_lower : (gs : List ℕ) (lo lo' hi : ℕ) → lo' ≤ lo → Sorted lo hi gs → Sorted lo' hi gs
sorted_lower [] lo lo' hi h a = omega arith
sorted_lower (g ∷ gs) lo lo' hi h a = let b : lo ≤ g = a.0 in (omega arith, a.1)

sorted_append : (xs ys : List ℕ) (lo mid hi : ℕ) → Sorted lo mid xs → Sorted mid hi ys → Sorted lo hi (xs ++ ys)
sorted_append [] ys lo mid hi a b = sorted_lower ys mid lo hi a b
sorted_append (x ∷ xs) ys lo mid hi a b = (a.0, sorted_append xs ys (x + 1) mid hi a.1 b)

pub sorted_run : (a n : ℕ) → Sorted a (a + n) (run a n)
unfolding flat
sorted_run a zero = omega arith
sorted_run a (suc n) = sorted_append (run a n) ((a + n) ∷ []) a (a + n) (a + suc n) (sorted_run a n) (omega arith, omega arith)

pub sorted_le : (gs : List ℕ) (lo hi : ℕ) → Sorted lo hi gs → lo ≤ hi
sorted_le [] lo hi a = a
sorted_le (g ∷ gs) lo hi a = let b : lo ≤ g = a.0 in let c : g + 1 ≤ hi = sorted_le gs (g + 1) hi a.1 in omega arith

-- ---- entries

pub sorted_ascends : (es : List Entry) (lo hi : ℕ) → Sorted lo hi (map (λ e. e.glyph) es) → Ascends lo es
sorted_ascends [] lo hi a = tt
sorted_ascends (e ∷ es) lo hi a = (a.0, sorted_ascends es (e.glyph + 1) hi a.1)

pub sorted_under : (es : List Entry) (lo hi n : ℕ) → hi ≤ n → Sorted lo hi (map (λ e. e.glyph) es) → Under n es
sorted_under [] lo hi n h a = tt
sorted_under (e ∷ es) lo hi n h a = let c : e.glyph + 1 ≤ hi = sorted_le (map (λ e. e.glyph) es) (e.glyph + 1) hi a.1 in (omega arith, sorted_under es (e.glyph + 1) hi n h a.1)

-- ---- a readable Coverage

module _ (b : List ℕ) where
  sorted_list : (n : ℕ) → Rising (glyph_at b) (glyph_at b) n → Sorted 0 (before (λ j. glyph_at b j + 1) n) (upto (glyph_at b) n)
  unfolding flat before
  sorted_list zero r = omega arith
  sorted_list (suc n) r =
      sorted_append (upto (glyph_at b) n) (glyph_at b n ∷ []) 0 (before (λ j. glyph_at b j + 1) n) (glyph_at b n + 1)
      (sorted_list n (record { above = λ k l. r.above k (omega arith); ordered = λ k l. omega arith }))
      (r.above n (omega arith), omega arith)

  sorted_ranges : (n : ℕ) → Rising (start_at b) (end_at b) n → Sorted 0 (before (λ j. end_at b j + 1) n) (flat (range_at b) n)
  unfolding flat before
  sorted_ranges zero r = omega arith
  sorted_ranges (suc n) r =
      let o = r.ordered n (omega arith) in
      let e : start_at b n + (end_at b n + 1 - start_at b n) ≡ end_at b n + 1 = omega arith in
      let last : Sorted (start_at b n) (end_at b n + 1) (range_at b n) = rw e at (sorted_run (start_at b n) (end_at b n + 1 - start_at b n)) in
      sorted_append (flat (range_at b) n) (range_at b n) 0 (before (λ j. end_at b j + 1) n) (end_at b n + 1)
      (sorted_ranges n (record { above = λ k l. r.above k (omega arith); ordered = λ k l. r.ordered k (omega arith) }))
      (sorted_lower (range_at b n) (start_at b n) (before (λ j. end_at b j + 1) n) (end_at b n + 1) (r.above n (omega arith)) last)

before-under : (f : ℕ → ℕ) (n m : ℕ) → ((k : ℕ) → f k ≤ m) → before f n ≤ m
unfolding before
before-under f zero m h = omega arith
before-under f (suc n) m h = h n

module _ (b : List ℕ) (h : cover_readable b ≡ true) where
  pub cover_sorted : (hi : ℕ) × (((i : ℕ) → u16_at b i < 65536) → hi ≤ 65536) × Sorted 0 hi (cover_glyphs b)
  cover_sorted =
      ⊎_elim
      (λ (r : Listed b (u16_at b 2)). (
        before (λ j. glyph_at b j + 1) (u16_at b 2),
        (λ u. before-under (λ j. glyph_at b j + 1) (u16_at b 2) 65536 (λ k. omega (arith, u (4 + 2 * k)))),
        rw r.glyphs (sorted_list b (u16_at b 2) r.read.rising),
      ))
      (λ (r : Ranged b (u16_at b 2)). (
        before (λ j. end_at b j + 1) (u16_at b 2),
        (λ u. before-under (λ j. end_at b j + 1) (u16_at b 2) 65536 (λ k. omega (arith, u (6 + 6 * k)))),
        rw r.glyphs (sorted_ranges b (u16_at b 2) r.read.rising),
      ))
      (either_format b h)

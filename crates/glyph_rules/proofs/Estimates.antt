-- Estimates of the covered glyphs of a range: with their items counted from its first they are no larger, and what is written is no longer. Assumes nothing.
use Prim.Native.Nat.{ℕ, ◌+◌, ◌-◌, ◌*◌, ◌<◌, ◌≤◌, min}
use mathlib.Core.Path.{◌≡◌, refl, sym, ap, ap₂, ◌∙◌}
use mathlib.Core.Bool.{Bool, not, ◌&&◌}
use mathlib.Core.List.{List, [], ◌∷◌, map}
use mathlib.Core.Logic.{◌⊎◌, inl, inr, ⊎_elim}
use native.Mathlib.Omega.{arith}
use lib.ListN.{length}
use lib.Dec.{eqb}
use borrow.Author.Tests.{eqb-false, ne_eqb, not-true}
use Rattle.folds.specs.Lists.{sift}
use Rattle.folds.proofs.Tests.{and_both, and_intro, either}
use Rattle.folds.proofs.Agree.{both_ways}
use Rattle.folds.proofs.Moved.{length-map, sift-map, sift-sift}
use Rattle.ot_layouts.specs.Coverage.{Entry, runs, plain, coverage_bytes, Ascends}
use Rattle.ot_layouts.specs.ClassDef.{last_glyph, span, named, class_def_bytes}
use Rattle.ot_layouts.proofs.RunCount.{many, many_sift, many_merged}
use Rattle.ot_layouts.proofs.RunStarts.{entry}
use Rattle.ot_layouts.proofs.CoverageLength.{cover_length}
use Rattle.ot_layouts.proofs.ClassDefLength.{span_sift, ranges_most, list_most}
use Rattle.glyph_rules.specs.Entries.{reduced}
use Rattle.glyph_rules.specs.Estimates.{estimate, cover_size, class_size, but_largest, beside_rows}
use Rattle.glyph_rules.proofs.Entries.{reduced_glyphs, ascends_reduced}

-- ---- three lengths but the largest

-- two of them at most
largest_off : (a b c : ℕ) → (but_largest a b c ≤ a + b) × (but_largest a b c ≤ a + c) × (but_largest a b c ≤ b + c)
largest_off a b c = (omega arith, omega arith, omega arith)

-- and those two that are least
largest_is : (a b c : ℕ) → (but_largest a b c ≡ a + b) ⊎ ((but_largest a b c ≡ a + c) ⊎ (but_largest a b c ≡ b + c))
largest_is a b c =
    ⊎_elim
    (λ ab. ⊎_elim (λ bc. inl (omega arith)) (λ bc. inr (inl (omega arith))) (either b c))
    (λ ab. ⊎_elim (λ ac. inl (omega arith)) (λ ac. inr (inr (omega arith))) (either a c))
    (either a b)

largest_less : (a b c a' b' c' : ℕ) → a ≤ a' → b ≤ b' → c ≤ c' → but_largest a b c ≤ but_largest a' b' c'
largest_less a b c a' b' c' x y z =
    let (ab, ac, bc) = largest_off a b c in
    ⊎_elim (λ e. omega arith) (⊎_elim (λ e. omega arith) (λ e. omega arith)) (largest_is a' b' c')

-- ---- with items counted from the first of a range

-- a class that is named
abbrev is_named : ℕ → Bool
is_named c = not (eqb c 0)

module _ (lo : ℕ) where
  last_reduced : (e : Entry) (es : List Entry) → last_glyph (reduced lo (e ∷ es)) ≡ last_glyph (e ∷ es)
  unfolding last_glyph
  last_reduced e [] = refl
  last_reduced e (f ∷ es) = last_reduced f es

  span_reduced : (es : List Entry) → span (reduced lo es) ≡ span es
  unfolding span
  span_reduced [] = refl
  span_reduced (e ∷ es) = ap (λ (n : ℕ). n + 1 - e.glyph) (last_reduced e es)

  -- a class that is named from the first of the range on is named
  named_both : (c : ℕ) → is_named (c - lo) ≡ (is_named c && is_named (c - lo))
  named_both c =
      both_ways (is_named (c - lo)) (is_named c && is_named (c - lo))
      (λ h.
      let some : c - lo ≡ 0 → ⊥ = eqb-false (c - lo) 0 (not-true (eqb (c - lo) 0) h) in
      and_intro (is_named c) (is_named (c - lo)) (ap not (ne_eqb c 0 (λ z. some (omega arith)))) h)
      (λ h. (and_both (is_named c) (is_named (c - lo)) h).1)

  runs_reduced : (es : List Entry) → many (named (reduced lo es)) ≤ many (named es)
  unfolding named
  runs_reduced es =
      let less : Entry → Entry = λ e. entry e.glyph (e.class - lo) in
      let left : List Entry = sift (λ e. is_named (e.class - lo)) es in
      let again : left ≡ sift (λ e. is_named (e.class - lo)) (sift (λ e. is_named e.class) es)
      = (λ i. sift (λ e. named_both e.class i) es) ∙ sym (sift-sift (λ (e : Entry). is_named (e.class - lo)) (λ e. is_named e.class) es) in
      omega (
        arith,
        ap many (sift-map less (λ e. is_named e.class) es),
        many_merged (λ c. c - lo) left,
        ap many again,
        many_sift (λ c. is_named (c - lo)) (sift (λ e. is_named e.class) es),
      )

  module _ (es : List Entry) where
    cover_reduced : cover_size (estimate (reduced lo es)) ≡ cover_size (estimate es)
    unfolding estimate
    cover_reduced =
        ap₂ (λ (m n : ℕ). min (4 + 2 * m) (4 + 6 * n))
        (length-map (λ (e : Entry). entry e.glyph (e.class - lo)) es) (ap (λ (gs : List ℕ). length (runs (plain gs))) (reduced_glyphs lo es))

    class_reduced : class_size (estimate (reduced lo es)) ≤ class_size (estimate es)
    unfolding estimate
    class_reduced = omega (arith, span_reduced es, runs_reduced es)

    pub rows_reduced : (class2 : ℕ) → beside_rows class2 (estimate (reduced lo es)) ≤ beside_rows class2 (estimate es)
    unfolding beside_rows
    rows_reduced class2 =
        largest_less (cover_size (estimate (reduced lo es))) (class_size (estimate (reduced lo es))) class2 (cover_size (estimate es)) (class_size (estimate es)) class2
        (omega (arith, cover_reduced)) class_reduced (omega arith)

    -- ---- as written

    pub cover_written : length (coverage_bytes (map (λ e. e.glyph) es)) ≤ cover_size (estimate es)
    unfolding estimate
    cover_written =
        let gs = map (λ (e : Entry). e.glyph) es in
        let (a, b) = cover_length gs in
        omega (arith, length-map (λ (e : Entry). e.glyph) es)

    -- or its list is longer than any table, as one is that "spans 65,536 glyphs, which format 1 can't count"
    class_written : Ascends 0 es → (length (class_def_bytes (reduced lo es)) ≤ class_size (estimate es)) ⊎ (65535 < class_size (estimate es))
    unfolding estimate named
    class_written up =
        let rs = reduced lo es in
        let wide : span (named rs) ≤ span es = omega (arith, span_sift (λ e. is_named e.class) rs 0 (ascends_reduced lo es 0 up), span_reduced es) in
        let ranged = ranges_most rs in
        ⊎_elim
        (λ few. inl (omega (arith, runs_reduced es, list_most rs (λ e. omega arith))))
        (λ all. ⊎_elim (λ short. inl (omega (arith, runs_reduced es))) (λ long. inr (omega arith)) (either (4 + 6 * many (named es)) (6 + 2 * span es)))
        (either (span (named rs)) 65536)

    -- where all but the largest is at most 65,535 bytes by the estimate, it is no more as written
    pub rows_written : (class2 : ℕ) → Ascends 0 es → beside_rows class2 (estimate es) ≤ 65535
        → but_largest (length (coverage_bytes (map (λ e. e.glyph) es))) (length (class_def_bytes (reduced lo es))) class2 ≤ beside_rows class2 (estimate es)
    unfolding beside_rows
    rows_written class2 up small =
        let cover = length (coverage_bytes (map (λ (e : Entry). e.glyph) es)) in
        let class1 = length (class_def_bytes (reduced lo es)) in
        let (x, y, z) = largest_off cover class1 class2 in
        ⊎_elim
        (λ le. largest_less cover class1 class2 (cover_size (estimate es)) (class_size (estimate es)) class2 cover_written le (omega arith))
        (λ gt. ⊎_elim (λ e. absurd (omega arith)) (⊎_elim (λ e. omega (arith, cover_written)) (λ e. absurd (omega arith))) (largest_is (cover_size (estimate es)) (class_size (estimate es)) class2))
        (class_written up)

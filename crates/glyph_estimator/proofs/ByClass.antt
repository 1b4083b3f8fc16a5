-- The entries of a range of classes, glyph by glyph, and those of one class more. Assumes nothing.
use Prim.Native.Nat.{ℕ, zero, suc, ◌+◌, ◌*◌, ◌<◌, ◌≤◌}
use mathlib.Core.Path.{◌≡◌, refl, sym, ap, ap₂, ◌∙◌}
use mathlib.Core.Bool.{Bool, true, false, not, ◌&&◌, ◌||◌}
use mathlib.Core.List.{List, [], ◌∷◌, ◌++◌, map}
use mathlib.Core.Logic.{⊎_elim}
use native.Mathlib.Decide.{ℕ_discrete}
use native.Mathlib.Omega.{arith}
use lib.Dec.{eqb, leb, ltb}
use borrow.Author.Tests.{eq-eqb, ne_eqb, lt-ltb, le-ltb, le-leb, lt-leb, ltb-true, leb-true}
use Rattle.folds.specs.Folds.{flat}
use Rattle.folds.specs.Lists.{sift}
use Rattle.folds.proofs.Tests.{and_both, and_second, by_test, either}
use Rattle.folds.proofs.FromTheFront.{sum_same}
use Rattle.folds.proofs.Picked.{one, piece, picked_none, picked_same, sift-picked, map-picked}
use Rattle.ot_layouts.specs.Coverage.{Entry, plain, Ascends, Under}
use Rattle.ot_layouts.specs.ClassDef.{named, class_in}
use Rattle.ot_layouts.proofs.RunCount.{many, many_none}
use Rattle.ot_layouts.proofs.RunStarts.{entry, taken, starts, alone, run-starts, runs_apart}
use Rattle.ot_layouts.proofs.ByGlyph.{has, taken_all}
use Rattle.glyph_rules.specs.Entries.{within}
use Rattle.glyph_estimator.specs.States.{ranges_size}

-- ---- glyphs that a test takes

has_append : (xs ys : List Entry) (g : ℕ) → has (xs ++ ys) g ≡ has xs g || has ys g
unfolding has
has_append [] ys g = refl
has_append (x ∷ xs) ys g = by_test (eqb x.glyph g) (λ t. rw t) (λ t. rw t (has_append xs ys g))

module _ (p : ℕ → Bool) (cl : ℕ → ℕ) where
  -- a glyph below n, and one more
  one_more : (n g : ℕ) → (ltb g n && p g) || has (piece p (λ x. entry x (cl x)) n) g ≡ ltb g (suc n) && p g
  unfolding has
  one_more n g = ⊎_elim below (λ l. ⊎_elim (λ m. here (omega arith)) above (either g (suc n))) (either g n)
    where
      other : (g ≡ n → ⊥) → has (piece p (λ x. entry x (cl x)) n) g ≡ false
      other ne = by_test (p n) (λ t. rw (t, ne_eqb n g (λ e. ne (sym e)))) (λ t. rw t)

      or_false : (b : Bool) → b || false ≡ b
      or_false true = refl
      or_false false = refl

      below : g < n → (ltb g n && p g) || has (piece p (λ x. entry x (cl x)) n) g ≡ ltb g (suc n) && p g
      below l = rw (lt-ltb g n l, lt-ltb g (suc n) (omega arith), other (omega arith)) (or_false (p g))

      here : g ≡ n → (ltb g n && p g) || has (piece p (λ x. entry x (cl x)) n) g ≡ ltb g (suc n) && p g
      here e = rw (e, le-ltb n n (omega arith), lt-ltb n (suc n) (omega arith)) (by_test (p n) (λ t. rw (t, eq-eqb n n refl)) (λ t. rw t))

      above : suc n ≤ g → (ltb g n && p g) || has (piece p (λ x. entry x (cl x)) n) g ≡ ltb g (suc n) && p g
      above l = rw (le-ltb g n (omega arith), le-ltb g (suc n) l, other (omega arith))

  has_taken : (n g : ℕ) → has (taken p cl n) g ≡ ltb g n && p g
  unfolding flat has
  has_taken zero g = rw (le-ltb g 0 (omega arith))
  has_taken (suc n) g =
      has_append (taken p cl n) (piece p (λ x. entry x (cl x)) n) g
      ∙ ap (λ (b : Bool). b || has (piece p (λ x. entry x (cl x)) n) g) (has_taken n g)
      ∙ one_more n g

  -- glyphs of one class form the runs that they form alone
  runs_alone : (c n : ℕ) → ((g : ℕ) → p g ≡ true → cl g ≡ c) → many (taken p cl n) ≡ many (alone p n)
  runs_alone c n h =
      run-starts p cl n
      ∙ sum_same (λ g. one (starts p cl g)) (λ g. one (starts p (λ x. 0) g)) n (λ g l. ap one (same g))
      ∙ sym (run-starts p (λ x. 0) n)
    where
      same : (g : ℕ) → starts p cl g ≡ starts p (λ x. 0) g
      same zero = refl
      same (suc g) =
          by_test (p (suc g))
          (λ t. by_test (p g) (λ u. rw (t, u, eq-eqb (cl g) (cl (suc g)) (h g u ∙ sym (h (suc g) t)))) (λ u. rw (t, u)))
          (λ t. rw t)

plain_taken : (p : ℕ → Bool) (cl : ℕ → ℕ) (n : ℕ) → plain (map (λ e. e.glyph) (taken p cl n)) ≡ alone p n
plain_taken p cl n =
    ap plain (map-picked (λ (e : Entry). e.glyph) p (λ g. entry g (cl g)) n) ∙ map-picked (λ g. entry g 0) p (λ g. g) n

-- ---- a range of classes

module _ (all : List Entry) (up : Ascends 0 all) (under : Under 65536 all) where
  -- a glyph of a class from lo up to hi, hi left out
  ranged : ℕ → ℕ → ℕ → Bool
  ranged lo hi g = has all g && (leb lo (class_in all g) && ltb (class_in all g) hi)

  within_taken : (lo hi : ℕ) → within lo hi all ≡ taken (ranged lo hi) (class_in all) 65536
  unfolding within ranged
  within_taken lo hi =
      ap (sift (λ (e : Entry). leb lo e.class && ltb e.class hi)) (sym (taken_all all 65536 up under))
      ∙ sift-picked (λ (e : Entry). leb lo e.class && ltb e.class hi) (has all) (λ g. entry g (class_in all g)) 65536

  has_within : (lo hi g : ℕ) → g < 65536 → has (within lo hi all) g ≡ ranged lo hi g
  has_within lo hi g l = ap (λ (es : List Entry). has es g) (within_taken lo hi) ∙ has_taken (ranged lo hi) (class_in all) 65536 g ∙ rw (lt-ltb g 65536 l)

  ranged_class : (lo hi g : ℕ) → ranged lo hi g ≡ true → (lo ≤ class_in all g) × (class_in all g < hi)
  unfolding ranged
  ranged_class lo hi g h =
      let (a, b) = and_both (has all g) (leb lo (class_in all g) && ltb (class_in all g) hi) h in
      let (c, d) = and_both (leb lo (class_in all g)) (ltb (class_in all g) hi) b in
      (leb-true lo (class_in all g) c, ltb-true (class_in all g) hi d)

  -- ---- one class more

  module _ (a i : ℕ) (order : a ≤ i) where
    ranged_more : (g : ℕ) → ranged a (i + 1) g ≡ ranged a i g || ranged i (i + 1) g
    unfolding ranged
    ranged_more g = by_test (has all g) (λ t. rw t (⊎_elim below here (either (class_in all g) i))) (λ t. rw t)
      where
        c : ℕ
        c = class_in all g

        below : c < i → leb a c && ltb c (i + 1) ≡ (leb a c && ltb c i) || (leb i c && ltb c (i + 1))
        below l = rw (lt-ltb c (i + 1) (omega arith), lt-ltb c i l, lt-leb i c l) (or_false (leb a c && true))
          where
            or_false : (b : Bool) → b ≡ b || false
            or_false true = refl
            or_false false = refl

        here : i ≤ c → leb a c && ltb c (i + 1) ≡ (leb a c && ltb c i) || (leb i c && ltb c (i + 1))
        here l = rw (le-leb a c (omega arith), le-ltb c i l, le-leb i c l)

    pub has_more : (g : ℕ) → g < 65536 → has (within a (i + 1) all) g ≡ has (within a i all) g || has (within i (i + 1) all) g
    has_more g l = has_within a (i + 1) g l ∙ ranged_more g ∙ sym (ap₂ (λ (x y : Bool). x || y) (has_within a i g l) (has_within i (i + 1) g l))

    -- no glyph is of two classes
    pub has_apart : (g : ℕ) → g < 65536 → has (within i (i + 1) all) g ≡ true → has (within a i all) g ≡ false
    has_apart g l h =
        by_test (has (within a i all) g)
        (λ t.
        let (x, y) = ranged_class a i g (sym (has_within a i g l) ∙ t) in
        let (z, w) = ranged_class i (i + 1) g (sym (has_within i (i + 1) g l) ∙ h) in
        absurd (omega arith))
        (λ t. t)

    -- those of a class other than 0
    named_in : ℕ → ℕ → ℕ → Bool
    named_in lo hi g = ranged lo hi g && not (eqb (class_in all g) 0)

    named_taken : (lo hi : ℕ) → named (within lo hi all) ≡ taken (named_in lo hi) (class_in all) 65536
    unfolding named named_in
    named_taken lo hi = ap (sift (λ (e : Entry). not (eqb e.class 0))) (within_taken lo hi) ∙ sift-picked (λ (e : Entry). not (eqb e.class 0)) (ranged lo hi) (λ g. entry g (class_in all g)) 65536

    named_more : (g : ℕ) → named_in a (i + 1) g ≡ named_in a i g || named_in i (i + 1) g
    unfolding named_in
    named_more g = rw (ranged_more g) (spread (ranged a i g) (ranged i (i + 1) g) (not (eqb (class_in all g) 0)))
      where
        spread : (x y z : Bool) → (x || y) && z ≡ x && z || y && z
        spread true y true = refl
        spread true y false = sym (and_second y false refl)
        spread false y z = refl

    named_ranged : (lo hi g : ℕ) → named_in lo hi g ≡ true → ranged lo hi g ≡ true
    unfolding named_in
    named_ranged lo hi g h = (and_both (ranged lo hi g) (not (eqb (class_in all g) 0)) h).0

    pub runs_more : many (named (within a (i + 1) all)) ≡ many (named (within a i all)) + many (named (within i (i + 1) all))
    runs_more =
        ap many (named_taken a (i + 1) ∙ picked_same (named_in a (i + 1)) (λ g. named_in a i g || named_in i (i + 1) g) (λ g. entry g (class_in all g)) (λ g. entry g (class_in all g)) 65536 (λ g l. named_more g) (λ g l t. refl))
        ∙ runs_apart (named_in a i) (named_in i (i + 1)) (class_in all)
        (λ g h t u e. let (x, y) = ranged_class a i g (named_ranged a i g t) in let (z, w) = ranged_class i (i + 1) h (named_ranged i (i + 1) h u) in omega arith)
        65536
        ∙ sym (ap₂ (λ (x y : List Entry). many x + many y) (named_taken a i) (named_taken i (i + 1)))

    pub class_size_lem : ranges_size i (map (λ e. e.glyph) (within i (i + 1) all)) ≡ 6 * many (named (within i (i + 1) all))
    unfolding ranges_size named_in
    class_size_lem = go (ℕ_discrete i 0)
      where
        go : Dec (i ≡ 0) → ranges_size i (map (λ e. e.glyph) (within i (i + 1) all)) ≡ 6 * many (named (within i (i + 1) all))
        go (yes z) =
            rw (eq-eqb i 0 z, named_taken i (i + 1))
            (omega (arith, many_none, ap many (picked_none (named_in i (i + 1)) (λ g. entry g (class_in all g)) 65536 none)))
          where
            none : (g : ℕ) → g < 65536 → named_in i (i + 1) g ≡ false
            none g l =
                by_test (ranged i (i + 1) g)
                (λ t. let (x, y) = ranged_class i (i + 1) g t in rw (t, eq-eqb (class_in all g) 0 (omega arith)))
                (λ t. rw t)
        go (no z) =
            rw (ne_eqb i 0 z, named_taken i (i + 1), within_taken i (i + 1), plain_taken (ranged i (i + 1)) (class_in all) 65536)
            (ap (λ (n : ℕ). 6 * n)
            (sym (runs_alone (ranged i (i + 1)) (class_in all) i 65536 (λ g t. let (x, y) = ranged_class i (i + 1) g t in omega arith))
            ∙ ap many (picked_same (ranged i (i + 1)) (named_in i (i + 1)) (λ g. entry g (class_in all g)) (λ g. entry g (class_in all g)) 65536 (λ g l. whole g) (λ g l t. refl))))
          where
            whole : (g : ℕ) → ranged i (i + 1) g ≡ named_in i (i + 1) g
            whole g =
                by_test (ranged i (i + 1) g)
                (λ t. let (x, y) = ranged_class i (i + 1) g t in rw (t, ne_eqb (class_in all g) 0 (omega arith)))
                (λ t. rw t)

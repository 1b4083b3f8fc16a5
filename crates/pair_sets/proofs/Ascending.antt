-- A sorted pair set: its glyphs ascend exactly if each is above the one before, and which records have been compared. Assumes nothing.
use Prim.Native.Nat.{ℕ, zero, suc, ◌+◌, ◌-◌, ◌*◌, ◌≤◌, ◌<◌}
use mathlib.Core.Path.{◌≡◌, refl, sym, ap, ap₂, ◌∙◌}
use mathlib.Core.Bool.{Bool, true, false, ◌&&◌}
use mathlib.Core.List.{List, [], ◌∷◌}
use mathlib.Core.Logic.{⊎_elim}
use native.Mathlib.Nat.{mul-suc}
use native.Mathlib.Numerals.{add-one}
use native.Mathlib.Omega.{arith}
use lib.ListN.{length, drop, get_or}
use lib.Seq.{drop-nil, get_or-drop}
use lib.Dec.{leb, ltb, eqb}
use borrow.Author.Tests.{leb-true, eqb-true, eq-eqb, ne_eqb, le-leb}
use Rattle.folds.specs.Folds.{before}
use Rattle.folds.proofs.Agree.{both_ways}
use Rattle.folds.proofs.Tests.{and_both, and_intro, and_first, by_test, either, true_false}
use Rattle.folds.proofs.Folds.{all_at_lem, all_intro}
use Rattle.folds.proofs.Halving.{Rising}
use Rattle.ot_layouts.specs.Numbers.{u16_at}
use Rattle.ot_layouts.specs.PairPos.{ascending, set_sorted}
use Rattle.pair_sets.specs.Rising.{second_at, rises}

drop-drop : (m n : ℕ) (xs : List ℕ) → drop m (drop n xs) ≡ drop (n + m) xs
drop-drop m zero xs = let e : 0 + m ≡ m = omega arith in ap (λ (k : ℕ). drop k xs) (sym e)
drop-drop m (suc n) [] = let e : suc n + m ≡ suc (n + m) = omega arith in drop-nil m ∙ sym (ap (λ (k : ℕ). drop k []) e)
drop-drop m (suc n) (x ∷ xs) = let e : suc n + m ≡ suc (n + m) = omega arith in drop-drop m n xs ∙ sym (ap (λ (k : ℕ). drop k (x ∷ xs)) e)

u16_drop : (b : List ℕ) (k : ℕ) → u16_at (drop k b) 0 ≡ u16_at b k
unfolding u16_at
u16_drop b k =
    let e : k + 0 ≡ k = omega arith in
    ap₂ (λ (x y : ℕ). 256 * x + y) (get_or-drop k b 0 0 ∙ ap (λ (i : ℕ). get_or b i 0) e) (get_or-drop k b 1 0)

module _ (b : List ℕ) (size : ℕ) where
  abbrev second : ℕ → ℕ
  second = second_at b size

  -- where record r stands
  abbrev place : ℕ → ℕ
  place r = 2 + (2 + size) * r

  -- the n records from r on ascend, from `least` on
  abbrev ascends : ℕ → ℕ → ℕ → Bool
  ascends least n r = ascending size least n (drop (place r) b)

  -- a glyph is that of the record at its place
  pub glyph_at_lem : {g p : ℕ} (k : ℕ) → g ≡ u16_at b p → p ≡ 2 + (2 + size) * k → g ≡ second_at b size k
  glyph_at_lem k e d = e ∙ ap (λ (q : ℕ). u16_at b q) d

  -- ---- glyphs that rise, one by one

  pub rises_at : (k n : ℕ) → rises b size k n ≡ true → (j : ℕ) → k ≤ j → j < k + n → second j < second (j + 1)
  unfolding rises
  rises_at k n h j l m =
      let e : k + (j - k) ≡ j = omega arith in
      let f : second (k + (j - k)) < second (k + (j - k) + 1) = leb-true _ _ (all_at_lem (λ i. ltb (second (k + i)) (second (k + i + 1))) n h (j - k) (omega arith)) in
      rw e at f

  pub rises_each : (k n : ℕ) → ((j : ℕ) → k ≤ j → j < k + n → second j < second (j + 1)) → rises b size k n ≡ true
  unfolding rises
  rises_each k n h = all_intro (λ i. ltb (second (k + i)) (second (k + i + 1))) n (λ i l. le-leb _ _ (h (k + i) (omega arith) (omega arith)))

  pub rises_none : (k n : ℕ) → n ≡ 0 → rises b size k n ≡ true
  rises_none k n e = rises_each k n (λ j lo hi. let z : ⊥ = omega arith in absurd z)

  -- records j and i, one behind the other, and their glyphs
  module _ (k n j i : ℕ) (e : i ≡ j + 1) {g h : ℕ} (g≡ : g ≡ second_at b size j) (h≡ : h ≡ second_at b size i) where
    pub rises_not : k ≤ j → i ≤ k + n → h ≤ g → false ≡ rises b size k n
    rises_not l m f =
        by_test (rises b size k n)
        (λ t. let u : second j < second i = rw (← e) at (rises_at k n t j l (omega arith)) in let z : ⊥ = omega arith in absurd z)
        (λ u. sym u)

    -- those before them rise: these decide
    pub rises_last : j ≡ k + n → rises b size k n ≡ true → ltb g h ≡ rises b size k (n + 1)
    rises_last l t =
        both_ways (ltb g h) (rises b size k (n + 1))
        (λ u.
        rises_each k (n + 1)
        (λ m lo hi. ⊎_elim (λ (q : m < k + n). rises_at k n t m lo q) (λ (q : k + n ≤ m). rises_here u m (omega arith)) (either m (k + n))))
        (λ u. let v : second j < second i = rw (← e) at (rises_at k (n + 1) u j (omega arith) (omega arith)) in le-leb (suc g) h (omega arith))
      where
        rises_here : ltb g h ≡ true → (m : ℕ) → j ≡ m → second m < second (m + 1)
        rises_here u m d =
            let f : suc g ≤ h = leb-true (suc g) h u in
            let v : second j < second i = omega arith in
            let w : second j < second (j + 1) = rw e at v in
            rw d at w

    pub rises_more : j ≡ k + n → rises b size k n ≡ true → g < h → rises b size k (n + 1) ≡ true
    rises_more l t u = sym (rises_last l t) ∙ le-leb (suc g) h u

  -- ---- records in parts

  -- where some do not, those that they are among do not
  pub part_fails : (a n c m : ℕ) → rises b size c m ≡ false → a ≤ c → c + m ≤ a + n → false ≡ rises b size a n
  part_fails a n c m f l e =
      by_test (rises b size a n)
      (λ t. true_false (sym (rises_each c m (λ j lo hi. rises_at a n t j (omega arith) (omega arith))) ∙ f))
      (λ h. sym h)

  -- where all do, the first of them do
  pub front_rises : (a n m : ℕ) → rises b size a n ≡ true → m ≤ n → rises b size a m ≡ true
  front_rises a n m t l = rises_each a m (λ j lo hi. rises_at a n t j lo (omega arith))

  -- where the first p of them do, the rest decides
  pub rest_decides : (a p c m n : ℕ) → rises b size a p ≡ true → a ≤ c → c ≤ a + p → c + m ≡ a + n → rises b size c m ≡ rises b size a n
  rest_decides a p c m n h l k e =
      both_ways (rises b size c m) (rises b size a n)
      (λ t.
      rises_each a n
      (λ j lo hi. ⊎_elim (λ (q : j < a + p). rises_at a p h j lo q) (λ (q : a + p ≤ j). rises_at c m t j (omega arith) (omega arith)) (either j (a + p))))
      (λ t. rises_each c m (λ j lo hi. rises_at a n t j (omega arith) (omega arith)))

  -- ---- what is sorted

  ascend_step : (least n r : ℕ) → ascends least (suc n) r ≡ (leb least (second r) && ascends (second r + 1) n (r + 1))
  unfolding ascending
  ascend_step least n r =
      let e : place r + (2 + size) ≡ place (r + 1) = omega (arith, mul-suc (2 + size) r) in
      ap₂ (λ (x : ℕ) (y : List ℕ). leb least x && ascending size (x + 1) n y) (u16_drop b (place r))
      (drop-drop (2 + size) (place r) b ∙ ap (λ (k : ℕ). drop k b) e)

  rises_first : (r n : ℕ) → rises b size r (suc n) ≡ (leb (second r + 1) (second (r + 1)) && rises b size (r + 1) n)
  rises_first r n =
      both_ways (rises b size r (suc n)) (leb (second r + 1) (second (r + 1)) && rises b size (r + 1) n)
      (λ t.
      and_intro (leb (second r + 1) (second (r + 1))) _ (le-leb (second r + 1) (second (r + 1)) (omega (arith, rises_at r (suc n) t r (omega arith) (omega arith))))
      (rises_each (r + 1) n (λ j lo hi. rises_at r (suc n) t j (omega arith) (omega arith))))
      (λ t.
      let (first, more) = and_both (leb (second r + 1) (second (r + 1))) (rises b size (r + 1) n) t in
      let f : second r + 1 ≤ second (r + 1) = leb-true (second r + 1) (second (r + 1)) first in
      let up : second r < second (r + 1) = omega arith in
      rises_each r (suc n)
      (λ j lo hi.
      ⊎_elim (λ (q : j < r + 1). let e : r ≡ j = omega arith in rw e at up) (λ (q : r + 1 ≤ j). rises_at (r + 1) n more j q (omega arith)) (either j (r + 1))))

  -- records ascend from one above a glyph exactly if they rise behind it
  ascend_rises : (n r : ℕ) → ascends (second r + 1) n (r + 1) ≡ rises b size r n
  unfolding ascending
  ascend_rises zero r = sym (rises_none r 0 refl)
  ascend_rises (suc n) r =
      ascend_step (second r + 1) n (r + 1)
      ∙ ap (λ (t : Bool). leb (second r + 1) (second (r + 1)) && t) (ascend_rises n (r + 1))
      ∙ sym (rises_first r n)

  ascend_all : (n : ℕ) → ascending size 0 n (drop 2 b) ≡ rises b size 0 (n - 1)
  unfolding ascending
  ascend_all zero = sym (rises_none 0 (0 - 1) (omega arith))
  ascend_all (suc n) =
      let e : place 0 ≡ 2 = omega arith in
      let d : suc n - 1 ≡ n = omega arith in
      ap (λ (k : ℕ). ascending size 0 (suc n) (drop k b)) (sym e) ∙ ascend_step 0 n 0
      ∙ ap (λ (t : Bool). t && ascends (second 0 + 1) n (0 + 1)) (le-leb 0 (second 0) (omega arith))
      ∙ ascend_rises n 0
      ∙ ap (λ (m : ℕ). rises b size 0 m) (sym d)

  pub too_short_lem : length b < 2 → false ≡ set_sorted b size
  unfolding set_sorted
  too_short_lem h = sym (and_first (eqb (length b) (2 + (2 + size) * u16_at b 0)) _ (ne_eqb (length b) (2 + (2 + size) * u16_at b 0) (λ e. omega arith)))

  pub not_long : {n : ℕ} → n ≡ u16_at b 0 → (length b ≡ 2 + (2 + size) * n → ⊥) → false ≡ set_sorted b size
  unfolding set_sorted
  not_long {n} e h = sym (and_first (eqb (length b) (2 + (2 + size) * u16_at b 0)) _ (ne_eqb (length b) (2 + (2 + size) * u16_at b 0) (rw e at h)))

  pub exact : {n : ℕ} → n ≡ u16_at b 0 → length b ≡ 2 + (2 + size) * n → rises b size 0 (n - 1) ≡ set_sorted b size
  unfolding set_sorted
  exact {n} e l =
      sym
      (ap (λ (t : Bool). t && ascending size 0 (u16_at b 0) (drop 2 b)) (eq-eqb (length b) (2 + (2 + size) * u16_at b 0) (rw e at l))
      ∙ ap (λ (m : ℕ). ascending size 0 m (drop 2 b)) (sym e)
      ∙ ascend_all n)

  -- a set of n records that is sorted
  pub record Sorted (n : ℕ) : Type 0 where
    pub count : n ≡ u16_at b 0
    pub long : length b ≡ 2 + (2 + size) * n
    pub rising : Rising second second n

  above_before : (n : ℕ) → rises b size 0 (n - 1) ≡ true → (r : ℕ) → r < n → before (λ j. second j + 1) r ≤ second r
  unfolding before
  above_before n h zero k = omega arith
  above_before n h (suc r) k = let f : second r < second (r + 1) = rises_at 0 (n - 1) h r (omega arith) (omega arith) in rw (← add-one r) (omega arith)

  pub sorted : set_sorted b size ≡ true → Sorted (u16_at b 0)
  unfolding set_sorted
  sorted h =
      let n = u16_at b 0 in
      let (l, a) = and_both (eqb (length b) (2 + (2 + size) * n)) (ascending size 0 n (drop 2 b)) h in
      record {
        count = refl;
        long = eqb-true (length b) (2 + (2 + size) * n) l;
        rising = record {
          above = above_before n (sym (ascend_all n) ∙ a);
          ordered = λ r k. omega arith;
        };
      }

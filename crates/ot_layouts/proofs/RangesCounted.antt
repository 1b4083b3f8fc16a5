-- A class definition that is written in ranges has fewer than 65,536 of them, which is what two bytes can count. Assumes nothing.
use Rattle.std.specs.Prelude.{Some, None}
use Prim.Native.Nat.{ℕ, zero, suc, ◌+◌, ◌-◌, ◌*◌, ◌<◌, ◌≤◌}
use mathlib.Core.Path.{◌≡◌, sym, ap, ◌∙◌}
use mathlib.Core.Bool.{Bool, true, false, ◌&&◌, and-false}
use mathlib.Core.List.{List, [], ◌∷◌}
use mathlib.Core.Logic.{◌⊎◌, inl, inr, ⊎_elim}
use native.Mathlib.Omega.{arith}
use native.Mathlib.Nat.{eq-or-lt_of_le, le_of_suc-le-suc, not-suc-le-zero}
use lib.ListN.{length, get_or}
use lib.Dec.{eqb, leb}
use borrow.Author.Tests.{lt-leb, le-leb, le-ltb, eq-eqb}
use Rattle.folds.specs.Folds.{first_at}
use Rattle.folds.proofs.Tests.{either, and_intro, by_test, and_both}
use Rattle.folds.proofs.First.{first_none, first_at_lem}
use Rattle.folds.proofs.Halving.{Rising, rises}
use Rattle.ot_layouts.specs.Numbers.{u16_at}
use Rattle.ot_layouts.specs.Coverage.{start_at, end_at, beside_at, ranges_fit, Entry, Ascends, Under}
use Rattle.ot_layouts.specs.ClassDef.{class_of, beside_or, class_readable}
use Rattle.ot_layouts.proofs.RunCount.{many, many_le, gap, many_less}
use Rattle.ot_layouts.proofs.RangesRead.{ranges_read}

-- ---- of 65,536 glyphs one has class 0, or two that follow one another have the same class

-- what a class definition that two bytes count always leaves
abbrev pub Slack : (ℕ → ℕ) → Type 0
Slack f = ((g : ℕ) × (g < 65536) × (f g ≡ 0)) ⊎ ((g : ℕ) × (g + 1 < 65536) × (f g ≡ f (g + 1)))

module _ (b : List ℕ) (bits : (i : ℕ) → u16_at b i < 65536) (two : eqb (u16_at b 0) 1 ≡ false) (r : Rising (start_at b) (end_at b) (u16_at b 2)) where
  -- range k has the glyph
  abbrev has : ℕ → ℕ → Bool
  has g k = leb (start_at b k) g && leb g (end_at b k)

  class_at : (g k : ℕ) → first_at (has g) (u16_at b 2) ≡ Some k → class_of b g ≡ beside_at b k
  unfolding class_of
  class_at g k e = rw two (ap (beside_or b) e)

  class_none : (g : ℕ) → first_at (has g) (u16_at b 2) ≡ None → class_of b g ≡ 0
  unfolding class_of
  class_none g e = rw two (ap (beside_or b) e)

  -- the ranges below k are the glyphs below k, one each
  abbrev Singles : ℕ → Type 0
  Singles k = (j : ℕ) → j < k → (start_at b j ≡ j) × (end_at b j ≡ j)

  single_not : (k g : ℕ) → Singles k → k ≤ g → (j : ℕ) → j < k → has g j ≡ false
  single_not k g s h j l =
      let (p, q) = s j l in
      rw (lt-leb g (end_at b j) (omega arith)) (and-false (leb (start_at b j) g))

  -- the next range starts at k or after
  next : (k : ℕ) → Singles k → k < u16_at b 2 → k ≤ start_at b k
  next zero s h = omega arith
  next (suc k) s h = let (p, q) = s k (omega arith) in omega (arith, rises r k (suc k) (omega arith) h)

  -- glyph k has class 0 where the next range starts after it
  skipped : (k : ℕ) → Singles k → k < u16_at b 2 → k < start_at b k → class_of b k ≡ 0
  skipped k s l h = class_none k (first_none (has k) (u16_at b 2) (λ j m. ⊎_elim (single_not k k s (omega arith) j) (beyond j m) (either j k)))
    where
      beyond : (j : ℕ) → j < u16_at b 2 → k ≤ j → has k j ≡ false
      beyond j m a =
          ⊎_elim (λ e. rw (lt-leb (start_at b j) k (rw (← e) h)))
          (λ lt. rw (lt-leb (start_at b j) k (omega (arith, rises r k j lt m, r.ordered k l)))) (eq-or-lt_of_le a)

  -- glyphs k and k + 1 have one class where the next range has both
  shared : (k : ℕ) → Singles k → k < u16_at b 2 → start_at b k ≤ k → k < end_at b k → class_of b k ≡ class_of b (k + 1)
  shared k s l h m =
      class_at k k (first_at_lem (has k) k (u16_at b 2) l (single_not k k s (omega arith)) (and_intro _ _ (le-leb (start_at b k) k h) (le-leb k (end_at b k) (omega arith))))
      ∙ sym (class_at (k + 1) k (first_at_lem (has (k + 1)) k (u16_at b 2) l (single_not k (k + 1) s (omega arith)) (and_intro _ _ (le-leb (start_at b k) (k + 1) (omega arith)) (le-leb (k + 1) (end_at b k) (omega arith)))))

  -- d ranges from the k-th on
  slack : (d k : ℕ) → k + d ≡ u16_at b 2 → Singles k → Slack (class_of b)
  slack zero k e s = inl (k, omega (arith, bits 2), class_none k (first_none (has k) (u16_at b 2) (λ j l. single_not k k s (omega arith) j (omega arith))))
  slack (suc d) k e s =
      let l : k < u16_at b 2 = omega arith in
      let n = next k s l in
      ⊎_elim (λ after. inl (k, omega (arith, bits 2), skipped k s l after))
      (λ (here : start_at b k ≤ k). ⊎_elim
      (λ wide. inr (k, omega (arith, bits (6 + 6 * k)), shared k s l here wide))
      (λ (one : end_at b k ≤ k). slack d (suc k) (omega arith) (λ j m. ⊎_elim (λ z. rw z (omega arith, omega (arith, r.ordered k l))) (λ lt. s j lt) (eq-or-lt_of_le (le_of_suc-le-suc m))))
      (either k (end_at b k)))
      (either k (start_at b k))

-- in format 1, before the first glyph and past the last
class_out : (b : List ℕ) → eqb (u16_at b 0) 1 ≡ true → (g : ℕ) → (g < u16_at b 2) ⊎ (u16_at b 2 + u16_at b 4 ≤ g) → class_of b g ≡ 0
unfolding class_of
class_out b one g (inl h) = rw one (rw (lt-leb (u16_at b 2) g h))
class_out b one g (inr h) = rw one (rw (le-ltb g (u16_at b 2 + u16_at b 4) h) (rw (and-false (leb (u16_at b 2) g))))

-- of a readable class definition
pub class_slack : (b : List ℕ) → ((i : ℕ) → u16_at b i < 65536) → class_readable b ≡ true → Slack (class_of b)
unfolding class_readable
class_slack b bits h =
    by_test (eqb (u16_at b 0) 1)
    (λ one. in_list_lem one (either 0 (u16_at b 2)))
    (λ two.
    let r : (eqb (u16_at b 0) 2 && ranges_fit b (u16_at b 2)) ≡ true = rw two at h in
    let f = ranges_read b (u16_at b 2) (and_both (eqb (u16_at b 0) 2) (ranges_fit b (u16_at b 2)) r).1 in
    slack b bits two f.rising (u16_at b 2) 0 (omega arith) (λ j l. absurd (not-suc-le-zero l)))
  where
    -- fewer than 65,536 are listed: the first or the last glyph is not
    in_list_lem : eqb (u16_at b 0) 1 ≡ true → (0 < u16_at b 2) ⊎ (u16_at b 2 ≤ 0) → Slack (class_of b)
    in_list_lem one (inl first) = inl (0, omega arith, class_out b one 0 (inl first))
    in_list_lem one (inr first) = inl (65535, omega arith, class_out b one 65535 (inr (omega (arith, bits 4))))

-- ---- as many runs as glyphs leave no slack

-- entries with n numbers to choose from, by index: no glyph is lower, or higher, than the others leave room for
glyph_low : (es : List Entry) (lo k : ℕ) (d : Entry) → Ascends lo es → k < length es → lo + k ≤ (get_or es k d).glyph
glyph_low [] lo k d a h = absurd (not-suc-le-zero h)
glyph_low (e ∷ es) lo zero d a h = let z : lo ≤ e.glyph = a.0 in omega arith
glyph_low (e ∷ es) lo (suc k) d a h = let z : lo ≤ e.glyph = a.0 in let i = glyph_low es (e.glyph + 1) k d a.1 (omega arith) in omega arith

glyph_high : (es : List Entry) (lo n k : ℕ) (d : Entry) → Ascends lo es → Under n es → k < length es → (get_or es k d).glyph + (length es - k) ≤ n
glyph_high [] lo n k d a u h = absurd (not-suc-le-zero h)
glyph_high (e ∷ []) lo n zero d a u h = let z : e.glyph < n = u.0 in omega arith
glyph_high (e ∷ f ∷ es) lo n zero d a u h = let z : e.glyph + 1 ≤ f.glyph = a.1.0 in let i = glyph_high (f ∷ es) (e.glyph + 1) n zero d a.1 u.1 (omega arith) in omega arith
glyph_high (e ∷ es) lo n (suc k) d a u h = let i = glyph_high es (e.glyph + 1) n k d a.1 u.1 (omega arith) in omega arith

-- classes of f, less lo, none of them 0
pub few_runs : (es : List Entry) (f : ℕ → ℕ) (lo : ℕ) → Ascends 0 es → Under 65536 es → Slack f → ((k : ℕ) (d : Entry) → k < length es → ((get_or es k d).class ≡ f (get_or es k d).glyph - lo) × ((get_or es k d).class ≡ 0 → ⊥)) → many es < 65536
few_runs es f lo a u s h =
    ⊎_elim (λ lt. lt) (λ ge. absurd (go s ge)) (either (many es) 65536)
  where
    d : Entry
    d = record { glyph = 0; class = 0 }

    exactly : 65536 ≤ many es → (k : ℕ) → k < 65536 → (k < length es) × ((get_or es k d).glyph ≡ k)
    exactly ge k l =
        let n = many_le es in
        let kl : k < length es = omega arith in
        (kl, omega (arith, glyph_low es 0 k d a kl, glyph_high es 0 65536 k d a u kl))

    go : Slack f → 65536 ≤ many es → ⊥
    go (inl (g, l, z)) ge =
        let (kl, e) = exactly ge g l in
        let (c, ne) = h g d kl in
        ne (omega (arith, ap f e))
    go (inr (g, l, z)) ge =
        let (kl, e) = exactly ge g (omega arith) in
        let w : g + 1 ≡ suc g = omega arith in
        let (kl1, e1) = exactly ge (suc g) (omega arith) in
        let (c, ne) = h g d kl in
        let (c1, ne1) = h (suc g) d kl1 in
        let same : (get_or es g d).class ≡ (get_or es (suc g) d).class = omega (arith, ap f e, ap f e1, ap f w) in
        let q : gap (get_or es g d) (get_or es (suc g) d) ≡ 0 = rw (eq-eqb ((get_or es g d).glyph + 1) (get_or es (suc g) d).glyph (omega arith), eq-eqb (get_or es g d).class (get_or es (suc g) d).class same) in
        let top : length es ≤ 65536 = omega (arith, glyph_high es 0 65536 0 d a u (omega arith)) in
        omega (arith, many_less es g d (omega arith) q)

-- What it says of ranges that they fit, range by range; ranges of a Coverage or a ClassDef. Assumes nothing.
use Prim.Native.Nat.{ℕ, ◌+◌, ◌*◌, ◌<◌}
use mathlib.Core.Path.{◌≡◌}
use mathlib.Core.Bool.{Bool, true, false, ◌&&◌}
use mathlib.Core.List.{List}
use lib.ListN.{length}
use lib.Dec.{eqb, leb}
use borrow.Author.Tests.{leb-true, eqb-true, le-leb, lt-leb, eq-eqb, ne_eqb}
use Rattle.folds.specs.Folds.{all, before}
use Rattle.folds.proofs.Tests.{and_both, and_intro, and_first, and_second}
use Rattle.folds.proofs.Folds.{all_at_lem, all_intro, all_fails}
use Rattle.folds.proofs.Halving.{Rising}
use Rattle.ot_layouts.specs.Coverage.{start_at, end_at, ranges_fit}

pub record RangesRead (b : List ℕ) (n : ℕ) : Type 0 where
  pub long : length b ≡ 4 + 6 * n
  pub rising : Rising (start_at b) (end_at b) n

module _ (b : List ℕ) (n : ℕ) where
  -- range k starts above the end before it, and ends no lower than it starts
  abbrev in_order : ℕ → Bool
  in_order k = leb (before (λ j. end_at b j + 1) k) (start_at b k) && leb (start_at b k) (end_at b k)

  pub ranges_read : ranges_fit b n ≡ true → RangesRead b n
  unfolding ranges_fit
  ranges_read h =
      let (l, a) = and_both (eqb (length b) (4 + 6 * n)) (all in_order n) h in
      let at : (k : ℕ) → k < n → (leb (before (λ j. end_at b j + 1) k) (start_at b k) ≡ true) × (leb (start_at b k) (end_at b k) ≡ true) = λ k m. and_both _ _ (all_at_lem in_order n a k m) in
      record {
        long = eqb-true (length b) (4 + 6 * n) l;
        rising = record { above = λ k m. leb-true _ _ (at k m).0; ordered = λ k m. leb-true _ _ (at k m).1 };
      }

  pub ranges_fit_lem : RangesRead b n → ranges_fit b n ≡ true
  unfolding ranges_fit
  ranges_fit_lem r =
      and_intro _ _ (eq-eqb (length b) (4 + 6 * n) r.long)
      (all_intro in_order n (λ k l. and_intro _ _ (le-leb _ _ (r.rising.above k l)) (le-leb _ _ (r.rising.ordered k l))))

  pub not_long : (length b ≡ 4 + 6 * n → ⊥) → ranges_fit b n ≡ false
  unfolding ranges_fit
  not_long h = and_first _ (all in_order n) (ne_eqb (length b) (4 + 6 * n) h)

  module _ (k : ℕ) (l : k < n) where
    pub not-above : start_at b k < before (λ j. end_at b j + 1) k → ranges_fit b n ≡ false
    unfolding ranges_fit
    not-above h = and_second (eqb (length b) (4 + 6 * n)) _ (all_fails in_order k n l (and_first _ (leb (start_at b k) (end_at b k)) (lt-leb _ _ h)))

    pub not-ordered : end_at b k < start_at b k → ranges_fit b n ≡ false
    unfolding ranges_fit
    not-ordered h = and_second (eqb (length b) (4 + 6 * n)) _ (all_fails in_order k n l (and_second (leb (before (λ j. end_at b j + 1) k) (start_at b k)) _ (lt-leb _ _ h)))

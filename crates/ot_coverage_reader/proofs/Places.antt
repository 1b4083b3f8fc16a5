-- The place of a glyph in ranges, by the range that has it. Assumes nothing.
use Rattle.std.specs.Prelude.{Some, None}
use Prim.Native.Nat.{ℕ, ◌+◌, ◌-◌, ◌≤◌, ◌<◌}
use mathlib.Core.Path.{◌≡◌, ap, ◌∙◌}
use mathlib.Core.Bool.{true, false}
use mathlib.Core.List.{List}
use mathlib.Core.Logic.{⊎_elim}
use native.Mathlib.Omega.{arith}
use lib.ListN.{length}
use lib.Dec.{leb}
use borrow.Author.Tests.{leb-true, le-leb}
use Rattle.folds.specs.Folds.{flat}
use Rattle.folds.specs.Lists.{find}
use Rattle.folds.proofs.Tests.{and_both, and_intro, true_false, either}
use Rattle.folds.proofs.Find.{find-run, find-run-below, find-run-above}
use Rattle.folds.proofs.First.{first_below, first_holds}
use Rattle.folds.proofs.FindFirst.{found_at, find_first}
use Rattle.ot_layouts.specs.Coverage.{start_at, end_at, beside_at, size_at, cover_place}
use Rattle.ot_layouts.proofs.CoverageRead.{range_at, Ranged, length_ranges}
use Rattle.ot_ranges.specs.Ranges.{in_range, range_of}

-- where the range is found: it has the glyph, and it is one of the n
pub record Has (b : List ℕ) (n g k : ℕ) : Type 0 where
  pub below : k < n
  pub starts : start_at b k ≤ g
  pub ends : g ≤ end_at b k

module _ (b : List ℕ) (g : ℕ) where
  within : (k : ℕ) → in_range b g k ≡ true → (start_at b k ≤ g) × (g ≤ end_at b k)
  within k h = let (s, e) = and_both (leb (start_at b k) g) (leb g (end_at b k)) h in (leb-true _ _ s, leb-true _ _ e)

  pub has : (n k : ℕ) → range_of b n g ≡ Some k → Has b n g k
  has n k e =
      let (s, t) = within k (first_holds (in_range b g) n k e) in
      record { below = first_below (in_range b g) n k e; starts = s; ends = t }

module _ {b : List ℕ} {n : ℕ} (r : Ranged b n) (g : ℕ) where
  inside : (j : ℕ) → j < n → in_range b g j ≡ true → find (range_at b j) g ≡ Some (g - start_at b j)
  inside j l h = let (s, e) = within b g j h in find-run (start_at b j) (size_at b j) g s (omega arith)

  outside : (j : ℕ) → j < n → in_range b g j ≡ false → find (range_at b j) g ≡ None
  outside j l h =
      ⊎_elim (find-run-below (start_at b j) (size_at b j) g)
      (λ s. ⊎_elim
      (λ e. let o = r.read.rising.ordered j l in find-run-above (start_at b j) (size_at b j) g (omega arith))
      (λ e. let t : in_range b g j ≡ true = and_intro _ _ (le-leb (start_at b j) g s) (le-leb g (end_at b j) e) in true_false (cc))
      (either (end_at b j) g))
      (either g (start_at b j))

  by_range : cover_place b g ≡ found_at (λ k. length (flat (range_at b) k) + (g - start_at b k)) (range_of b n g)
  unfolding cover_place
  by_range = rw r.glyphs (find_first (range_at b) g (in_range b g) (λ k. g - start_at b k) n inside outside)

  pub place_at : (k : ℕ) → range_of b n g ≡ Some k → cover_place b g ≡ Some (beside_at b k + (g - start_at b k))
  place_at k e =
      let z : length (flat (range_at b) k) + (g - start_at b k) ≡ beside_at b k + (g - start_at b k) = omega (arith, length_ranges b k, r.index k (has b g n k e).below) in
      by_range ∙ rw e (ap Some z)

  pub place_none : range_of b n g ≡ None → cover_place b g ≡ None
  place_none e = by_range ∙ rw e

-- The cuts strictly ascend, each below the number of items; so the ranges between them cover the items, and no two of them meet. Assumes nothing.
use Prim.Native.Nat.{ℕ, zero, suc, ◌+◌, ◌<◌, ◌≤◌}
use mathlib.Core.Path.{◌≡◌, refl}
use mathlib.Core.Bool.{true}
use mathlib.Core.List.{List}
use mathlib.Core.Logic.{◌⊎◌, inl, inr, ⊎_elim}
use native.Mathlib.Numerals.{add-one}
use native.Mathlib.Omega.{arith}
use native.Mathlib.Nat.{not-suc-le-zero, eq-or-lt_of_le}
use lib.ListN.{length, get_or, get_or-eq_default}
use Rattle.folds.proofs.Tests.{either}
use Rattle.folds.proofs.Parts.{get_d_default}
use Rattle.cut_rules.specs.Cuts.{Rule, Cutting, least_cut, cut_here, go_on, after, cuts_of}
use Rattle.cut_rules.specs.Places.{Places, places_ascend}
use Rattle.cut_rules.proofs.Turns.{cost_now, due_both, Turn, turn}
use Rattle.cut_rules.proofs.Ascending.{ascending_wide, ascending-more, ascending-places}

-- so that there are no more than n
module _ (n : ℕ) (cs : List ℕ) (p : Places n cs) where
  index_low : (j : ℕ) → j < length cs → j ≤ get_or cs j 0
  index_low zero l = omega arith
  index_low (suc j) l = let i = index_low j (omega arith) in omega (arith, rw (add-one j) at (p.rising j (omega arith)))

  pub few_places : length cs ≤ n
  few_places = go (length cs) refl
    where
      go : (m : ℕ) → length cs ≡ m → m ≤ n
      go zero e = omega arith
      go (suc m) e = omega (arith, index_low m (omega arith), p.below m (omega arith))

-- ---- the cuts

module _ (r : Rule) where
  ascending_next : (c : Cutting) (k : ℕ) {d : Cutting} → Turn r c k d → places_ascend (least_cut r.edition) k c.cuts ≡ true
      → places_ascend (least_cut r.edition) (suc k) d.cuts ≡ true
  unfolding go_on cut_here
  ascending_next c k (Turn.passed l) p = ascending_wide (least_cut r.edition) k (suc k) c.cuts (omega arith) p
  ascending_next c k (Turn.added l x) p = ascending_wide (least_cut r.edition) k (suc k) c.cuts (omega arith) p
  ascending_next c k (Turn.cut x) p = ascending-more (least_cut r.edition) k c.cuts (due_both r c k (cost_now r c k) x).1 p

  ascending-after : (k : ℕ) → places_ascend (least_cut r.edition) k (after r k).cuts ≡ true
  unfolding after places_ascend
  ascending-after zero = refl
  ascending-after (suc k) = ascending_next (after r k) k (turn r (after r k) k) (ascending-after k)

  pub places : (k : ℕ) → Places k (after r k).cuts
  places k = ascending-places (least_cut r.edition) k (after r k).cuts (ascending-after k)

  -- none is below the edition's least: in edition 2 none is 0
  pub cuts_ascend : places_ascend (least_cut r.edition) r.count (cuts_of r) ≡ true
  unfolding cuts_of
  cuts_ascend = ascending-after r.count

-- ---- ranges: the kept table's is the first

module _ (n : ℕ) (cs : List ℕ) (p : Places n cs) where
  pub cuts_rise : (j k : ℕ) → j ≤ k → k < length cs → get_or cs j 0 ≤ get_or cs k 0
  cuts_rise j zero h l = let e : j ≡ 0 = omega arith in rw e (omega arith)
  cuts_rise j (suc k) h l =
      ⊎_elim (λ e. rw e (omega arith))
      (λ lt. let i : get_or cs j 0 ≤ get_or cs k 0 = cuts_rise j k (omega arith) (omega arith) in
      let z : k + 1 ≡ suc k = omega arith in
      let r : get_or cs k 0 < get_or cs (suc k) 0 = rw z at (p.rising k (omega arith)) in omega arith)
      (eq-or-lt_of_le h)

  -- the item that new table j runs up to
  pub range_high : (j : ℕ) → j < length cs → (get_or cs j 0 < get_or cs (j + 1) n) × (get_or cs (j + 1) n ≤ n)
  range_high j l =
      ⊎_elim
      (λ lt. let e = get_d_default cs (j + 1) n 0 lt in let r = p.rising j lt in let z = p.below (j + 1) lt in (omega arith, omega arith))
      (λ ge. let e : get_or cs (j + 1) n ≡ n = get_or-eq_default cs n ge in let z = p.below j l in (omega arith, omega arith))
      (either (j + 1) (length cs))

-- the first item of range k
abbrev pub lo_at : List ℕ → ℕ → ℕ
lo_at cs zero = 0
lo_at cs (suc j) = get_or cs j 0

-- range k ends at or before range m starts
pub ranges_apart : (n : ℕ) (cs : List ℕ) → Places n cs → (k m : ℕ) → k < m → m < suc (length cs) → get_or cs k n ≤ lo_at cs m
ranges_apart n cs p k zero h l = absurd (not-suc-le-zero h)
ranges_apart n cs p k (suc m) h l = omega (arith, get_d_default cs k n 0 (omega arith), cuts_rise n cs p k m (omega arith) (omega arith))

-- item i lies in one of the first m ranges, or past them
find_range : (n : ℕ) (cs : List ℕ) (i m : ℕ) → ((k : ℕ) × (k < m) × (lo_at cs k ≤ i) × (i < get_or cs k n)) ⊎ (lo_at cs m ≤ i)
find_range n cs i zero = inr (omega arith)
find_range n cs i (suc m) = go (find_range n cs i m) (either i (get_or cs m n)) (either m (length cs))
  where
    go : ((k : ℕ) × (k < m) × (lo_at cs k ≤ i) × (i < get_or cs k n)) ⊎ (lo_at cs m ≤ i) → (i < get_or cs m n) ⊎ (get_or cs m n ≤ i) → (m < length cs) ⊎ (length cs ≤ m)
        → ((k : ℕ) × (k < suc m) × (lo_at cs k ≤ i) × (i < get_or cs k n)) ⊎ (lo_at cs (suc m) ≤ i)
    go (inl (k, l, a, b)) d f = inl (k, omega arith, a, b)
    go (inr a) (inl b) f = inl (m, omega arith, a, b)
    go (inr a) (inr b) (inl f) = inr (omega (arith, get_d_default cs m n 0 f))
    go (inr a) (inr b) (inr f) = inr (omega (arith, get_or-eq_default cs 0 f))

-- each item lies in a range
pub covering : (n : ℕ) (cs : List ℕ) (i : ℕ) → i < n → (k : ℕ) × (k < suc (length cs)) × (lo_at cs k ≤ i) × (i < get_or cs k n)
covering n cs i h =
    ⊎_elim (λ (k, l, a, b). (k, omega arith, a, b))
    (λ a. (length cs, omega arith, a, omega (arith, get_or-eq_default cs n {n = length cs} (omega arith))))
    (find_range n cs i (length cs))

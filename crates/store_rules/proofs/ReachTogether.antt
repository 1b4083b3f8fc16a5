-- What the items of a range reach together: no items reach nothing, fewer items no more, and S of an item is what it adds. Assumes nothing.
use Prim.Native.Nat.{ℕ, ◌+◌, ◌<◌, ◌≤◌}
use mathlib.Core.Path.{◌≡◌, ap}
use mathlib.Core.Bool.{Bool, true, false, cond}
use native.Mathlib.Omega.{arith}
use lib.Dec.{leb, ltb}
use borrow.Author.Tests.{leb-true, ltb-true, le-leb, lt-ltb}
use Rattle.folds.proofs.Joined.{and_three, three_hold}
use Rattle.folds.proofs.Sums.{sum-zero, sum_less}
use Rattle.folds.proofs.Tests.{by_test}
use Rattle.store_rules.specs.Store.{Store, Link, link_at, size_of, offset_of, of_span}
use Rattle.store_rules.specs.Reach.{marked, reached, reach_size, reach_of, item_size}
use Rattle.store_rules.proofs.Sound.{Fits}
use Rattle.store_rules.proofs.Reaching.{reached_more, reached_none}

module _ (s : Store) (f : Fits s) where
  -- the size of object i, where it is reached
  abbrev counted : (ℕ → Bool) → ℕ → ℕ
  counted from i = cond (marked (reached s from) i) (size_of s i) 0

  pub size_more : (from more : ℕ → Bool) → ((k : ℕ) → k < s.link_count → from k ≡ true → more k ≡ true) → reach_size s from ≤ reach_size s more
  unfolding reach_size
  size_more from more h = sum_less (counted from) (counted more) s.object_count one
    where
      one : (i : ℕ) → i < s.object_count → counted from i ≤ counted more i
      one i l =
          by_test (marked (reached s from) i)
          (λ e. rw (e, reached_more s f from more h i l e) (omega arith))
          (λ e. rw e (omega arith))

  pub size_none : (from : ℕ → Bool) → ((k : ℕ) → k < s.link_count → from k ≡ false) → reach_size s from ≡ 0
  unfolding reach_size
  size_none from h = sum-zero (counted from) s.object_count (λ i l. ap (λ (b : Bool). cond b (size_of s i) 0) (reached_none s f from h i l))

  -- ---- from the links of one object, at its positions from lo up to hi

  -- what they reach
  abbrev span_reach : ℕ → ℕ → ℕ → ℕ
  span_reach p lo hi = reach_of s (of_span p lo hi)

  pub span_less : (p lo hi lo' hi' : ℕ) → lo' ≤ lo → hi ≤ hi' → span_reach p lo hi ≤ span_reach p lo' hi'
  span_less p lo hi lo' hi' a b = size_more (λ k. of_span p lo hi (link_at s k)) (λ k. of_span p lo' hi' (link_at s k)) (λ k l h. wider (link_at s k) h)
    where
      wider : (l : Link) → of_span p lo hi l ≡ true → of_span p lo' hi' l ≡ true
      wider l h =
          let (x, y, z) = and_three (offset_of p l) (leb lo l.position) (ltb l.position hi) h in
          three_hold (offset_of p l) (leb lo' l.position) (ltb l.position hi') x
          (le-leb lo' l.position (omega (arith, leb-true lo l.position y))) (lt-ltb l.position hi' (omega (arith, ltb-true l.position hi z)))

  pub span_none : (p at : ℕ) → span_reach p at at ≡ 0
  span_none p at = size_none (λ k. of_span p at at (link_at s k)) (λ k l. none (link_at s k))
    where
      none : (l : Link) → of_span p at at l ≡ false
      none l =
          by_test (of_span p at at l)
          (λ h. let (x, y, z) = and_three (offset_of p l) (leb at l.position) (ltb l.position at) h in absurd (omega (arith, leb-true at l.position y, ltb-true l.position at z)))
          (λ h. h)

-- S of item i is what it adds to what those from a on reach, where more items reach no less
pub size_adds : (s : Store) (rows : ℕ → ℕ → Link → Bool) (a i : ℕ) → reach_of s (rows a i) ≤ reach_of s (rows a (i + 1))
    → reach_of s (rows a (i + 1)) ≡ reach_of s (rows a i) + item_size s rows a i
unfolding item_size
size_adds s rows a i h = omega arith

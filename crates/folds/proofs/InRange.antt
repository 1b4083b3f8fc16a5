-- Those of a list whose number lies in a range, and what they count together. Assumes nothing.
use Prim.Native.Nat.{ℕ, ◌+◌, ◌-◌, ◌<◌, ◌≤◌}
use mathlib.Core.Path.{◌≡◌, refl, sym, ap, ◌∙◌}
use mathlib.Core.Bool.{Bool, true, false, cond, ◌&&◌, ◌||◌}
use mathlib.Core.List.{List, [], ◌∷◌, map}
use mathlib.Core.Logic.{◌⊎◌, inl, inr}
use native.Mathlib.Omega.{arith}
use lib.ListN.{length, get_or}
use lib.Dec.{leb, ltb}
use borrow.Author.Tests.{leb-true, ltb-true, le-leb, lt-leb, lt-ltb, le-ltb}
use Rattle.folds.specs.Folds.{sum}
use Rattle.folds.specs.Lists.{sift}
use Rattle.folds.proofs.Tests.{either, and_both, and_intro, and_first, and_second}
use Rattle.folds.proofs.Each.{Each, each_sift}
use Rattle.folds.proofs.Agree.{both_ways}
use Rattle.folds.proofs.Moved.{sift-map, sift-sift}
use Rattle.folds.proofs.FromTheFront.{sum-cons}

-- n lies from lo up to hi, hi left out
abbrev pub between : ℕ → ℕ → ℕ → Bool
between lo hi n = leb lo n && ltb n hi

pub between_is : (lo hi n : ℕ) → between lo hi n ≡ true → (lo ≤ n) × (n < hi)
between_is lo hi n h = let (a, b) = and_both (leb lo n) (ltb n hi) h in (leb-true lo n a, ltb-true n hi b)

pub is_between : (lo hi n : ℕ) → lo ≤ n → n < hi → between lo hi n ≡ true
is_between lo hi n a b = and_intro (leb lo n) (ltb n hi) (le-leb lo n a) (lt-ltb n hi b)

pub below_range : (lo hi n : ℕ) → n < lo → between lo hi n ≡ false
below_range lo hi n h = and_first (leb lo n) (ltb n hi) (lt-leb lo n h)

pub above_range : (lo hi n : ℕ) → hi ≤ n → between lo hi n ≡ false
above_range lo hi n h = and_second (leb lo n) (ltb n hi) (le-ltb n hi h)

-- two ranges that meet
pub between_meet : (a b c n : ℕ) → a ≤ b → b ≤ c → between a c n ≡ (between a b n || between b c n)
between_meet a b c n h k = go (either n a) (either n b) (either n c)
  where
    go : (n < a) ⊎ (a ≤ n) → (n < b) ⊎ (b ≤ n) → (n < c) ⊎ (c ≤ n) → between a c n ≡ (between a b n || between b c n)
    go (inl p) q r = rw (below_range a c n p, below_range a b n p, below_range b c n (omega arith))
    go (inr p) (inl q) r = rw (is_between a c n p (omega arith), is_between a b n p q)
    go (inr p) (inr q) (inl r) = rw (is_between a c n p r, above_range a b n q, is_between b c n q r)
    go (inr p) (inr q) (inr r) = rw (above_range a c n r, above_range a b n q, above_range b c n r)

module _ {A : Type 0} where
  -- what the elements of a list count together
  abbrev pub total : (A → ℕ) → List A → ℕ
  total w [] = 0
  total w (x ∷ xs) = w x + total w xs

  pub total_sum : (w : A → ℕ) (d : A) (xs : List A) → total w xs ≡ sum (λ k. w (get_or xs k d)) (length xs)
  unfolding sum
  total_sum w d [] = refl
  total_sum w d (x ∷ xs) = omega (arith, total_sum w d xs, sum-cons (λ k. w (get_or (x ∷ xs) k d)) (length xs))

  total_if : (w : A → ℕ) (b : Bool) (x : A) (xs : List A) → total w (cond b (x ∷ xs) xs) ≡ cond b (w x) 0 + total w xs
  total_if w true x xs = refl
  total_if w false x xs = omega arith

  module _ (f : A → ℕ) where
    -- those of the range, in order
    abbrev pub ranged : ℕ → ℕ → List A → List A
    ranged lo hi xs = sift (λ x. between lo hi (f x)) xs

    any : (xs : List A) → Each (λ x. Unit {0}) xs
    any [] = tt
    any (x ∷ xs) = (tt, any xs)

    pub ranged_each : (lo hi : ℕ) (xs : List A) → Each (λ x. (lo ≤ f x) × (f x < hi)) (ranged lo hi xs)
    ranged_each lo hi xs = each_sift (λ x. Unit {0}) (λ x. (lo ≤ f x) × (f x < hi)) (λ x. between lo hi (f x)) (λ x u h. between_is lo hi (f x) h) xs (any xs)

    -- all lie in the range
    pub ranged_all : (n : ℕ) (xs : List A) → Each (λ x. f x < n) xs → ranged 0 n xs ≡ xs
    unfolding sift
    ranged_all n [] a = refl
    ranged_all n (x ∷ xs) a = rw (is_between 0 n (f x) (omega arith) a.0) (ap (λ (r : List A). x ∷ r) (ranged_all n xs a.1))

    -- a range inside one that starts at 0
    pub ranged_inside : (lo hi n : ℕ) (xs : List A) → hi ≤ n → ranged lo hi (ranged 0 n xs) ≡ ranged lo hi xs
    unfolding sift
    ranged_inside lo hi n [] h = refl
    ranged_inside lo hi n (x ∷ xs) h = go (either (f x) hi) (ranged_inside lo hi n xs h)
      where
        go : (f x < hi) ⊎ (hi ≤ f x) → ranged lo hi (ranged 0 n xs) ≡ ranged lo hi xs → ranged lo hi (ranged 0 n (x ∷ xs)) ≡ ranged lo hi (x ∷ xs)
        go (inl a) i = rw (is_between 0 n (f x) (omega arith) (omega arith)) (ap (λ (r : List A). cond (between lo hi (f x)) (x ∷ r) r) i)
        go (inr a) i = out (between 0 n (f x)) ∙ sym (ap (λ (b : Bool). cond b (x ∷ ranged lo hi xs) (ranged lo hi xs)) past)
          where
            past : between lo hi (f x) ≡ false
            past = above_range lo hi (f x) a

            out : (b : Bool) → ranged lo hi (cond b (x ∷ ranged 0 n xs) (ranged 0 n xs)) ≡ ranged lo hi xs
            out true = ap (λ (b : Bool). cond b (x ∷ ranged lo hi (ranged 0 n xs)) (ranged lo hi (ranged 0 n xs))) past ∙ i
            out false = i

    -- two ranges that meet count what the range of both does
    pub ranged_meet : (w : A → ℕ) (a b c : ℕ) → a ≤ b → b ≤ c → (xs : List A) → total w (ranged a b xs) + total w (ranged b c xs) ≡ total w (ranged a c xs)
    unfolding sift
    ranged_meet w a b c h k [] = refl
    ranged_meet w a b c h k (x ∷ xs) =
        omega (
          arith,
          ranged_meet w a b c h k xs,
          total_if w (between a b (f x)) x (ranged a b xs),
          total_if w (between b c (f x)) x (ranged b c xs),
          total_if w (between a c (f x)) x (ranged a c xs),
          one (either (f x) a) (either (f x) b) (either (f x) c),
        )
      where
        one : (f x < a) ⊎ (a ≤ f x) → (f x < b) ⊎ (b ≤ f x) → (f x < c) ⊎ (c ≤ f x)
            → cond (between a b (f x)) (w x) 0 + cond (between b c (f x)) (w x) 0 ≡ cond (between a c (f x)) (w x) 0
        one (inl p) q r = rw (below_range a b (f x) p, below_range b c (f x) (omega arith), below_range a c (f x) p)
        one (inr p) (inl q) r = rw (is_between a b (f x) p q, below_range b c (f x) q, is_between a c (f x) p (omega arith)) (omega arith)
        one (inr p) (inr q) (inl r) = rw (above_range a b (f x) q, is_between b c (f x) q r, is_between a c (f x) p r) (omega arith)
        one (inr p) (inr q) (inr r) = rw (above_range a b (f x) q, above_range b c (f x) r, above_range a c (f x) r)

-- ---- counted from the range's first

-- from a up to b of a range, with its first taken off
pub between_moved : (lo hi a b c : ℕ) → lo + b ≤ hi → (between lo hi c && between a b (c - lo)) ≡ between (lo + a) (lo + b) c
between_moved lo hi a b c h =
    both_ways (between lo hi c && between a b (c - lo)) (between (lo + a) (lo + b) c)
    (λ e.
    let (p, q) = and_both (between lo hi c) (between a b (c - lo)) e in
    let (x, y) = between_is lo hi c p in
    let (z, w) = between_is a b (c - lo) q in
    is_between (lo + a) (lo + b) c (omega arith) (omega arith))
    (λ e.
    let (x, y) = between_is (lo + a) (lo + b) c e in
    and_intro (between lo hi c) (between a b (c - lo)) (is_between lo hi c (omega arith) (omega arith)) (is_between a b (c - lo) (omega arith) (omega arith)))

-- some of a range's elements, whose numbers `less` counts from its first
pub ranged_moved : {A : Type 0} (f : A → ℕ) (less : A → A) (lo hi a b : ℕ) → ((x : A) → f (less x) ≡ f x - lo) → lo + b ≤ hi → (xs : List A)
    → ranged f a b (map less (ranged f lo hi xs)) ≡ map less (ranged f (lo + a) (lo + b) xs)
ranged_moved {A} f less lo hi a b e h xs =
    sift-map less (λ x. between a b (f x)) (ranged f lo hi xs)
    ∙ ap (map less)
    (sift-sift (λ x. between a b (f (less x))) (λ x. between lo hi (f x)) xs
    ∙ (λ i. sift (λ x. between lo hi (f x) && between a b (e x i)) xs)
    ∙ (λ i. sift (λ x. between_moved lo hi a b (f x) h i) xs))

-- S(i) is what its sentence says: the summed length of what item i's links reach, without what those of the items since the cut do. Assumes nothing.
use Prim.Native.Nat.{ℕ, ◌+◌, ◌<◌, ◌≤◌}
use mathlib.Core.Path.{◌≡◌, refl, sym, ap, ◌∙◌}
use mathlib.Core.Bool.{Bool, true, false, cond, not, ◌&&◌, ◌||◌}
use mathlib.Core.Logic.{◌⊎◌, inl, inr, ⊎_elim}
use native.Mathlib.Omega.{arith}
use lib.Dec.{leb, ltb}
use borrow.Author.Tests.{le-leb, lt-leb, lt-ltb, le-ltb, not-true}
use Rattle.folds.proofs.Agree.{both_ways}
use Rattle.folds.proofs.FromTheFront.{sum_same}
use Rattle.folds.proofs.Joined.{or_either, or-first, or-second}
use Rattle.folds.proofs.Sums.{sum_add}
use Rattle.folds.proofs.Tally.{tally}
use Rattle.folds.proofs.Tests.{and_both, and_intro, by_test, true_false, either}
use Rattle.store_rules.specs.Store.{Store, Link, link_at, size_of, offset_of, of_span}
use Rattle.store_rules.specs.Reach.{Reach, marked, reached, reach_size, item_size, rows_of, SentenceOfS}
use Rattle.store_rules.proofs.Sound.{Fits}
use Rattle.store_rules.proofs.Reached.{reached_all, reached_only}
use Rattle.store_rules.proofs.Reaching.{reach_more}

-- ---- from rows of two kinds

module _ (s : Store) (before item both : ℕ → Bool) (joined : (k : ℕ) → k < s.link_count → both k ≡ (before k || item k)) where
  -- what both reach, one of the two does
  reach_either : {j : ℕ} → Reach s both j → Reach s before j ⊎ Reach s item j
  reach_either (Reach.seed k l a e) =
      ⊎_elim (λ b. inl (Reach.seed k l b e)) (λ b. inr (Reach.seed k l b e)) (or_either (before k) (item k) (sym (joined k l) ∙ a))
  reach_either (Reach.step r k l p e) = ⊎_elim (λ b. inl (Reach.step b k l p e)) (λ b. inr (Reach.step b k l p e)) (reach_either r)

  module _ (f : Fits s) where
    -- object j can be reached from the rows
    abbrev has : (ℕ → Bool) → ℕ → Bool
    has rows j = marked (reached s rows) j

    -- object j can be reached from the item's rows, and cannot from those before
    abbrev added : ℕ → Bool
    added j = has item j && not (has before j)

    added_is : (j : ℕ) → j < s.object_count → added j ≡ true → Reach s item j × (Reach s before j → ⊥)
    added_is j h e =
        let (a, b) = and_both (has item j) (not (has before j)) e in
        (reached_only s item f j h a, λ r. true_false (sym (reached_all s before f r) ∙ not-true (has before j) b))

    is_added : (j : ℕ) → j < s.object_count → Reach s item j × (Reach s before j → ⊥) → added j ≡ true
    is_added j h (r, n) =
        and_intro (has item j) (not (has before j)) (reached_all s item f r)
        (by_test (has before j) (λ e. absurd (n (reached_only s before f j h e))) (λ e. ap not e))

    has_both : (j : ℕ) → j < s.object_count → has both j ≡ (has before j || has item j)
    has_both j h =
        both_ways (has both j) (has before j || has item j)
        (λ e. ⊎_elim
        (λ r. or-first (has before j) (has item j) (reached_all s before f r))
        (λ r. or-second (has before j) (has item j) (reached_all s item f r))
        (reach_either (reached_only s both f j h e)))
        (λ e. ⊎_elim
        (λ a. reached_all s both f (reach_more (λ k l b. joined k l ∙ or-first (before k) (item k) b) (reached_only s before f j h a)))
        (λ a. reached_all s both f (reach_more (λ k l b. joined k l ∙ or-second (before k) (item k) b) (reached_only s item f j h a)))
        (or_either (has before j) (has item j) e))

    -- each object counts in one of two sums
    parted : (b c : Bool) (n : ℕ) → cond (b || c) n 0 ≡ cond b n 0 + cond (c && not b) n 0
    parted true true n = omega arith
    parted true false n = omega arith
    parted false true n = omega arith
    parted false false n = refl

    sum-parted : reach_size s both ≡ reach_size s before + tally (size_of s) added s.object_count
    unfolding reach_size
    sum-parted =
        sum_same (λ j. cond (has both j) (size_of s j) 0) (λ j. cond (has before j) (size_of s j) 0 + cond (added j) (size_of s j) 0) s.object_count
        (λ j h. ap (λ (b : Bool). cond b (size_of s j) 0) (has_both j h) ∙ parted (has before j) (has item j) (size_of s j))
        ∙ sum_add (λ j. cond (has before j) (size_of s j) 0) (λ j. cond (added j) (size_of s j) 0) s.object_count

-- ---- S(i)

-- of any sets of rows that grow by those of the item
pub item_size_is : (s : Store) → Fits s → (rows : ℕ → ℕ → Link → Bool) (a i : ℕ) → ((l : Link) → rows a (i + 1) l ≡ (rows a i l || rows i (i + 1) l))
    → SentenceOfS s rows a i (item_size s rows a i)
unfolding item_size
item_size_is s f rows a i grows =
    let before = rows_of s rows a i in
    let item = rows_of s rows i (i + 1) in
    let both = rows_of s rows a (i + 1) in
    let joined : (k : ℕ) → k < s.link_count → both k ≡ (before k || item k) = λ k l. grows (link_at s k) in
    record {
      counted = added s before item both joined f;
      such = added_is s before item both joined f;
      all_such = is_added s before item both joined f;
      summed = omega (arith, sum-parted s before item both joined f);
    }

-- ---- the links of a span grow so

pub spans_grow : (p lo mid hi : ℕ) → lo ≤ mid → mid ≤ hi → (l : Link) → of_span p lo hi l ≡ (of_span p lo mid l || of_span p mid hi l)
spans_grow p lo mid hi x y l = go (offset_of p l) (either q mid) (either q lo) (either q hi)
  where
    q : ℕ
    q = l.position

    go : (b : Bool) → (q < mid) ⊎ (mid ≤ q) → (q < lo) ⊎ (lo ≤ q) → (q < hi) ⊎ (hi ≤ q)
        → (b && leb lo q && ltb q hi) ≡ ((b && leb lo q && ltb q mid) || (b && leb mid q && ltb q hi))
    go false m n o = refl
    go true (inl m) (inl n) o = rw (lt-leb lo q n, lt-leb mid q m)
    go true (inl m) (inr n) o = rw (le-leb lo q n, lt-ltb q mid m, lt-ltb q hi (omega arith))
    go true (inr m) n (inl o) = rw (le-leb lo q (omega arith), lt-ltb q hi o, le-leb mid q m, le-ltb q mid m)
    go true (inr m) n (inr o) = rw (le-ltb q hi o, le-ltb q mid m, le-leb lo q (omega arith), le-leb mid q m)

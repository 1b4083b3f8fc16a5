-- `reached` marks what can be reached along the link rows, and nothing else. Assumes nothing.
use Prim.Native.Nat.{ℕ, zero, suc, ◌+◌, ◌<◌, ◌≤◌}
use mathlib.Core.Path.{◌≡◌, refl, sym, ap, ◌∙◌}
use mathlib.Core.Bool.{Bool, true, false, not, ◌&&◌, ◌||◌}
use mathlib.Core.List.{List}
use mathlib.Core.Logic.{◌⊎◌, inl, inr, ⊎_elim}
use native.Mathlib.Omega.{arith}
use native.Mathlib.Decide.{ℕ_discrete}
use native.Mathlib.Nat.{eq-or-lt_of_le}
use lib.ListN.{length, get_or, set, replicate, length-set, length-replicate, get_or-replicate, get_or-eq_default}
use lib.Seq.{get_or-set_same, get_or-set_other}
use lib.Dec.{eqb}
use borrow.Author.Tests.{ne_eqb, eq-eqb, not-true}
use Rattle.folds.proofs.Tests.{and_both, and_intro, by_test, either, true_false}
use Rattle.folds.proofs.Joined.{or_either, or-first, or-second}
use Rattle.folds.proofs.Tally.{count, tally_one, count_all}
use Rattle.store_rules.specs.Store.{Store, link_at, is_offset, parent_of, child_of}
use Rattle.store_rules.specs.Reach.{marked, due, once, grow, reached, Reach}
use Rattle.store_rules.proofs.Sound.{Fits}
use Rattle.store_rules.proofs.Shaped.{is_of, of_offset, of_parent}

-- ---- one mark more

marked_set : (w : List ℕ) (j i : ℕ) → (i ≡ j → ⊥) → marked (set w j 1) i ≡ marked w i
marked_set w j i ne = ap (λ (v : ℕ). eqb v 1) (get_or-set_other w j i 1 0 ne)

marked_here : (w : List ℕ) (j : ℕ) → j < length w → marked (set w j 1) j ≡ true
marked_here w j h = eq-eqb (get_or (set w j 1) j 0) 1 (get_or-set_same w j 1 0 h)

-- ---- one round

module _ (s : Store) (from : ℕ → Bool) (w : List ℕ) where
  -- row k is an offset of a marked object
  abbrev onward : ℕ → Bool
  onward k = is_offset (link_at s k) && marked w (parent_of s k)

  -- row k leads on: it is one to start from, or an offset of a marked object
  abbrev From : ℕ → Type 0
  From k = (from k ≡ true) ⊎ (onward k ≡ true)

  due_true : (k : ℕ) → due s from w k ≡ true → From k × (marked w (child_of s k) ≡ false)
  unfolding due
  due_true k e =
      let (p, q) = and_both (from k || onward k) (not (marked w (child_of s k))) e in
      (or_either (from k) (onward k) p, not-true (marked w (child_of s k)) q)

  due_not : (k : ℕ) → due s from w k ≡ false → From k → marked w (child_of s k) ≡ true
  unfolding due
  due_not k e f =
      by_test (marked w (child_of s k)) (λ y. y)
      (λ n. true_false (sym (and_intro (from k || onward k) (not (marked w (child_of s k))) (⊎_elim (or-first (from k) (onward k)) (or-second (from k) (onward k)) f) (ap not n)) ∙ e))

  -- none of the first k rows is due
  abbrev Still : ℕ → Type 0
  Still k = (once s from w k ≡ w) × ((j : ℕ) → j < k → due s from w j ≡ false)

  -- one of them was, and has marked its child
  abbrev Marks : ℕ → Type 0
  Marks k = (j : ℕ) × (j < k) × (due s from w j ≡ true) × (once s from w k ≡ set w (child_of s j) 1)

  once_cases : (k : ℕ) → Still k ⊎ Marks k
  unfolding once
  once_cases zero = inl (refl, λ j l. absurd (omega arith))
  once_cases (suc k) = go (due s from w k) refl (once_cases k)
    where
      go : (b : Bool) → due s from w k ≡ b → Still k ⊎ Marks k → Still (suc k) ⊎ Marks (suc k)
      go true q ih = inr (k, omega arith, q, rw q)
      go false q (inl (p, h)) = inl (rw q p, λ j l. ⊎_elim (λ r. let z : j ≡ k = omega arith in rw z q) (λ r. h j (omega arith)) (eq-or-lt_of_le l))
      go false q (inr (j, l, d, p)) = inr (j, omega arith, d, rw q p)

module _ (s : Store) (from : ℕ → Bool) (f : Fits s) where
  -- once no row is due, none is due later
  still : (n : ℕ) (w : List ℕ) → once s from w s.link_count ≡ w → grow s from n w ≡ w
  unfolding grow
  still zero w p = refl
  still (suc n) w p = rw p (still n w p)

  -- enough rounds: no row is due
  full : (n : ℕ) (w : List ℕ) → s.object_count ≤ length w → s.object_count ≤ n + count (marked w) s.object_count → (k : ℕ) → k < s.link_count → From s from (grow s from n w) k → marked (grow s from n w) (child_of s k) ≡ true
  unfolding grow
  full zero w big h k l p = count_all (marked w) s.object_count (omega arith) (child_of s k) (f.link k l).child_used
  full (suc n) w big h k l p = ⊎_elim same (more (λ v a b. full n v a b k l)) (once_cases s from w s.link_count) p
    where
      same : Still s from w s.link_count → From s from (grow s from n (once s from w s.link_count)) k → marked (grow s from n (once s from w s.link_count)) (child_of s k) ≡ true
      same (p, d) = rw (p, still n w p) (due_not s from w k (d k l))

      more : ((v : List ℕ) → s.object_count ≤ length v → s.object_count ≤ n + count (marked v) s.object_count → From s from (grow s from n v) k → marked (grow s from n v) (child_of s k) ≡ true)
          → Marks s from w s.link_count → From s from (grow s from n (once s from w s.link_count)) k → marked (grow s from n (once s from w s.link_count)) (child_of s k) ≡ true
      more ih (j, j<, d, p) =
          let c = child_of s j in
          let c< : c < s.object_count = (f.link j j<).child_used in
          rw p (ih (set w c 1) (simp length-set big)
          (omega (arith, tally_one (λ i. 1) (marked w) (marked (set w c 1)) c s.object_count c< (due_true s from w j d).1 (marked_here w c (omega arith)) (λ i l ne. marked_set w c i ne))))

  -- only what can be reached is marked
  only : (n : ℕ) (w : List ℕ) → ((i : ℕ) → i < s.object_count → marked w i ≡ true → Reach s from i) → (i : ℕ) → i < s.object_count → marked (grow s from n w) i ≡ true → Reach s from i
  unfolding grow
  only zero w h = h
  only (suc n) w h = only n (once s from w s.link_count) (⊎_elim (λ c. rw c.0 h) more (once_cases s from w s.link_count))
    where
      more : Marks s from w s.link_count → (i : ℕ) → i < s.object_count → marked (once s from w s.link_count) i ≡ true → Reach s from i
      more (j, j<, d, p) i l t = go (ℕ_discrete i (child_of s j))
        where
          go : Dec (i ≡ child_of s j) → Reach s from i
          go (yes q) =
              ⊎_elim (λ a. Reach.seed j j< a (sym q))
              (λ r.
              let (o, m) = and_both (is_offset (link_at s j)) (marked w (parent_of s j)) r in
              Reach.step (h (parent_of s j) (f.link j j<).parent_used m) j j< (is_of (parent_of s j) (link_at s j) o refl) (sym q))
              (due_true s from w j d).0
          go (no q) = h i l (sym (marked_set w (child_of s j) i q) ∙ (let z : marked (set w (child_of s j) 1) i ≡ true = rw p at t in z))

  -- what is marked can be reached
  pub reached_only : (i : ℕ) → i < s.object_count → marked (reached s from) i ≡ true → Reach s from i
  unfolding reached
  reached_only =
      only s.object_count (replicate s.object_count 0)
      (λ i l t. true_false (sym t ∙ ne_eqb (get_or (replicate s.object_count 0) i 0) 1 (λ e. omega (arith, get_or-replicate {A = ℕ} s.object_count i 0 0 l))))

  -- no row is due in the end
  done : (k : ℕ) → k < s.link_count → From s from (reached s from) k → marked (reached s from) (child_of s k) ≡ true
  unfolding reached
  done = full s.object_count (replicate s.object_count 0) (omega (arith, length-replicate {A = ℕ} s.object_count 0)) (omega arith)

  -- what can be reached is marked
  pub reached_all : {i : ℕ} → Reach s from i → marked (reached s from) i ≡ true
  reached_all (Reach.seed k l a e) = rw e at (done k l (inl a))
  reached_all (Reach.step {i} r k l p e) = rw e at (done k l (inr (and_intro (is_offset (link_at s k)) (marked (reached s from) (parent_of s k)) (of_offset i (link_at s k) p) (ap (marked (reached s from)) (of_parent i (link_at s k) p) ∙ reached_all r))))

-- ---- there are marks for the objects in use alone

once_long : (s : Store) (from : ℕ → Bool) (w : List ℕ) (k : ℕ) → length (once s from w k) ≡ length w
unfolding once
once_long s from w zero = refl
once_long s from w (suc k) = by_test (due s from w k) (λ e. rw e (length-set w (child_of s k) 1)) (λ e. rw e (once_long s from w k))

grow_long : (s : Store) (from : ℕ → Bool) (n : ℕ) (w : List ℕ) → length (grow s from n w) ≡ length w
unfolding grow
grow_long s from zero w = refl
grow_long s from (suc n) w = grow_long s from n (once s from w s.link_count) ∙ once_long s from w s.link_count

pub marked_used : (s : Store) (from : ℕ → Bool) (i : ℕ) → marked (reached s from) i ≡ true → i < s.object_count
unfolding reached
marked_used s from i h =
    ⊎_elim (λ l. l)
    (λ ge.
    let marks = grow s from s.object_count (replicate s.object_count 0) in
    let long = grow_long s from s.object_count (replicate s.object_count 0) ∙ length-replicate {A = ℕ} s.object_count 0 in
    let past : get_or marks i 0 ≡ 0 = get_or-eq_default marks 0 {n = i} (omega arith) in
    true_false (sym h ∙ ne_eqb (get_or marks i 0) 1 (λ e. omega arith)))
    (either i s.object_count)

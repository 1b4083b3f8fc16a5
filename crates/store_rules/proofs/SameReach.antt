-- What some rows of a store reach is what other rows of another store reach, where they lead the same ways; and it has the same size. Assumes nothing.
use Prim.Native.Nat.{ℕ, ◌+◌, ◌-◌, ◌<◌, ◌≤◌}
use mathlib.Core.Path.{◌≡◌, sym, ap, ◌∙◌}
use mathlib.Core.Bool.{Bool, true, cond}
use mathlib.Core.Logic.{⊎_elim}
use native.Mathlib.Omega.{arith}
use Rattle.folds.specs.Folds.{sum}
use Rattle.folds.proofs.Tests.{by_test, either}
use Rattle.folds.proofs.Agree.{both_ways}
use Rattle.folds.proofs.FromTheFront.{sum_same}
use Rattle.folds.proofs.TwoParts.{sum_zeros}
use Rattle.store_rules.specs.Store.{Store, link_at, offset_of, parent_of, child_of, size_of}
use Rattle.store_rules.specs.Reach.{marked, reached, reach_size, Reach}
use Rattle.store_rules.proofs.Sound.{Fits}
use Rattle.store_rules.proofs.Shaped.{of_parent}
use Rattle.store_rules.proofs.Reached.{reached_all, reached_only}

-- a row of these leads to c
abbrev pub Seed : Store → (ℕ → Bool) → ℕ → Type 0
Seed s from c = (k : ℕ) × (k < s.link_count) × (from k ≡ true) × (child_of s k ≡ c)

-- an offset of p leads to c
abbrev pub Leads : Store → ℕ → ℕ → Type 0
Leads s p c = (k : ℕ) × (k < s.link_count) × (offset_of p (link_at s k) ≡ true) × (child_of s k ≡ c)

-- the rows `from` of x and the rows `then` of y lead the same ways: to the same objects first, and on from each that the former reach
pub record SameWays (x y : Store) (from then : ℕ → Bool) : Type 0 where
  pub starts : (c : ℕ) → Seed x from c → Seed y then c
  pub started : (c : ℕ) → Seed y then c → Seed x from c
  pub goes : (p c : ℕ) → Reach x from p → Leads x p c → Leads y p c
  pub went : (p c : ℕ) → Reach x from p → Leads y p c → Leads x p c

module _ {x y : Store} {from then : ℕ → Bool} (same : SameWays x y from then) where
  pub reach_then : {i : ℕ} → Reach x from i → Reach y then i
  reach_then (Reach.seed {i} k l a e) = let (m, b, c, d) = same.starts i (k, l, a, e) in Reach.seed m b c d
  reach_then (Reach.step {i} {j} r k l p e) = let (m, b, c, d) = same.goes i j r (k, l, p, e) in Reach.step (reach_then r) m b c d

  pub reach_before : {i : ℕ} → Reach y then i → Reach x from i
  reach_before (Reach.seed {i} k l a e) = let (m, b, c, d) = same.started i (k, l, a, e) in Reach.seed m b c d
  reach_before (Reach.step {i} {j} r k l p e) =
      let old = reach_before r in
      let (m, b, c, d) = same.went i j old (k, l, p, e) in Reach.step old m b c d

-- what is reached is in use
pub reach_used : (s : Store) → Fits s → (from : ℕ → Bool) {i : ℕ} → Reach s from i → i < s.object_count
reach_used s f from (Reach.seed k l a e) = rw e at (f.link k l).child_used
reach_used s f from (Reach.step r k l p e) = rw e at (f.link k l).child_used

-- ---- where the rows of x stay at their places, and those behind them lead from new objects

pub record RowsBehind (x y : Store) (from : ℕ → Bool) : Type 0 where
  pub rows : x.link_count ≤ y.link_count
  pub parents : (k : ℕ) → k < x.link_count → (p : ℕ) → offset_of p (link_at y k) ≡ offset_of p (link_at x k)
  pub children : (k : ℕ) → k < x.link_count → (p : ℕ) → offset_of p (link_at x k) ≡ true → Reach x from p → child_of y k ≡ child_of x k
  pub behind : (k : ℕ) → x.link_count ≤ k → k < y.link_count → x.object_count ≤ parent_of y k

module _ {x y : Store} {from : ℕ → Bool} (kept : RowsBehind x y from) where
  pub behind_goes : (p c : ℕ) → Reach x from p → Leads x p c → Leads y p c
  behind_goes p c r (k, l, a, e) =
      (k, omega (arith, kept.rows), kept.parents k l p ∙ a, kept.children k l p a r ∙ e)

  pub behind_went : Fits x → (p c : ℕ) → Reach x from p → Leads y p c → Leads x p c
  behind_went f p c r (k, l, a, e) =
      ⊎_elim
      (λ old.
      let offset : offset_of p (link_at x k) ≡ true = sym (kept.parents k old p) ∙ a in
      (k, old, offset, sym (kept.children k old p offset r) ∙ e))
      (λ new. absurd (omega (arith, kept.behind k new l, of_parent p (link_at y k) a, reach_used x f from r)))
      (either k x.link_count)

-- ---- as marks, and as a size

module _ {x y : Store} {from then : ℕ → Bool} (same : SameWays x y from then) (old : Fits x) (new : Fits y) (more : x.object_count ≤ y.object_count) where
  -- what is marked then was reached
  was_reached : (i : ℕ) → i < y.object_count → marked (reached y then) i ≡ true → Reach x from i
  was_reached i h e = reach_before same (reached_only y then new i h e)

  pub marks_same : (i : ℕ) → i < x.object_count → marked (reached y then) i ≡ marked (reached x from) i
  marks_same i h =
      both_ways (marked (reached y then) i) (marked (reached x from) i)
      (λ e. reached_all x from old (was_reached i (omega arith) e))
      (λ e. reached_all y then new (reach_then same (reached_only x from old i h e)))

  module _ (sizes : (i : ℕ) → i < x.object_count → Reach x from i → size_of y i ≡ size_of x i) where
    -- the size of an object that is reached
    abbrev term : Store → (ℕ → Bool) → ℕ → ℕ
    term s rows i = cond (marked (reached s rows) i) (size_of s i) 0

    term_same : (i : ℕ) → i < x.object_count → term y then i ≡ term x from i
    term_same i h =
        ap (λ (b : Bool). cond b (size_of y i) 0) (marks_same i h)
        ∙ by_test (marked (reached x from) i) (λ e. rw e (sizes i h (reached_only x from old i h e))) (λ e. rw e)

    term_new : (i : ℕ) → i < y.object_count - x.object_count → term y then (x.object_count + i) ≡ 0
    term_new i h =
        by_test (marked (reached y then) (x.object_count + i))
        (λ e. let l : x.object_count + i < x.object_count = reach_used x old from (was_reached (x.object_count + i) (omega arith) e) in absurd (omega arith))
        (λ e. rw e)

    pub reach_size_same : reach_size y then ≡ reach_size x from
    unfolding reach_size
    reach_size_same =
        let grown : y.object_count ≡ x.object_count + (y.object_count - x.object_count) = omega arith in
        ap (sum (term y then)) grown
        ∙ sum_zeros (term y then) x.object_count (y.object_count - x.object_count) term_new
        ∙ sum_same (term y then) (term x from) x.object_count term_same

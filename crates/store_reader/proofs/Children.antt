-- The child at a position is that of the first row at or past it, where that row stands there. Assumes nothing.
use Rattle.std.specs.Prelude.{Some, None}
use Prim.Native.Nat.{ℕ, zero, suc, ◌<◌, ◌≤◌}
use mathlib.Core.Bool.{true, false}
use mathlib.Core.List.{[], ◌∷◌}
use mathlib.Core.Logic.{⊎_elim}
use mathlib.Core.Path.{◌≡◌, sym, ◌∙◌}
use native.Mathlib.Nat.{not-suc-le-zero, le_of_suc-le-suc, eq-or-lt_of_le}
use native.Mathlib.Omega.{arith}
use lib.Dec.{eqb}
use borrow.Author.Tests.{eq-eqb, ne_eqb}
use Rattle.folds.specs.Folds.{flat, upto}
use Rattle.folds.proofs.Tests.{either, by_test, and_first}
use Rattle.store_rules.specs.Store.{Store, Link, link_at, offset_of, links_of, lookup, child_at, kind_of, parent_of, position_of, child_of}
use Rattle.store_rules.proofs.Lookups.{hit, hit_is, hit_other, hit_apart, lookup_append, lookup_none_flat}
use Rattle.store_rules.proofs.Shaped.{of_offset, of_parent, order_of_none}
use Rattle.store_reader.specs.Rows.{key_of, row_place, row_key, InOrder, FirstRow}

module _ (p q : ℕ) where
  lookup_one : (l : Link) → hit l p q ≡ true → lookup (l ∷ []) p q ≡ Some l.child
  unfolding lookup
  lookup_one l h = rw h

  lookup_other : (l : Link) → hit l p q ≡ false → lookup (l ∷ []) p q ≡ None
  unfolding lookup
  lookup_other l h = rw h

  module _ (f : ℕ → Link) where
    lookup_none : (n : ℕ) → ((k : ℕ) → k < n → hit (f k) p q ≡ false) → lookup (upto f n) p q ≡ None
    lookup_none n h = lookup_none_flat (λ k. f k ∷ []) n p q (λ k l. lookup_other (f k) (h k l))

    lookup_at : (n r : ℕ) → r < n → ((k : ℕ) → k < r → hit (f k) p q ≡ false) → hit (f r) p q ≡ true → lookup (upto f n) p q ≡ Some (f r).child
    unfolding flat
    lookup_at zero r l h e = absurd (not-suc-le-zero l)
    lookup_at (suc n) r l h e =
        lookup_append (upto f n) (f n ∷ []) p q
        ∙ ⊎_elim (λ z. rw (← z, lookup_none r h, lookup_one (f r) e)) (λ lt. rw (lookup_at n r lt h e)) (eq-or-lt_of_le (le_of_suc-le-suc l))

module _ (s : Store) (p q r : ℕ) (o : InOrder s.links s.link_count) (f : FirstRow s.links s.link_count (key_of p q) r) where
  -- a row with another key is that of no hit
  misses : (k : ℕ) → (row_key s.links k ≡ key_of p q → ⊥) → hit (link_at s k) p q ≡ false
  unfolding row_place
  misses k ne =
      by_test (hit (link_at s k) p q)
      (λ h.
      let (a, b) = hit_is (link_at s k) p q h in
      absurd (ne (rw (of_offset p (link_at s k) a, of_parent p (link_at s k) a, b))))
      (λ h. h)

  before_misses : (k : ℕ) → k < r → hit (link_at s k) p q ≡ false
  before_misses k h = misses k (λ e. omega (arith, f.below k h))

  after_misses : (k : ℕ) → r < k → k < s.link_count → hit (link_at s k) p q ≡ false
  after_misses k h l = misses k (λ e. omega (arith, f.above r (omega arith) (omega arith), o.rising r k h l))

  pub child_past : s.link_count ≤ r → None ≡ child_at s p q
  unfolding child_at links_of
  child_past h = sym (lookup_none p q (link_at s) s.link_count (λ k l. before_misses k (omega arith)))

  pub child_missing : hit (link_at s r) p q ≡ false → None ≡ child_at s p q
  unfolding child_at links_of
  child_missing h =
      sym (lookup_none p q (link_at s) s.link_count
      (λ k l. ⊎_elim (λ d. before_misses k d) (λ d. ⊎_elim (λ e. after_misses k e l) (λ e. let z : k ≡ r = omega arith in rw z h) (either r k)) (either k r)))

  pub child_found_lem : r < s.link_count → parent_of s r ≡ p → kind_of s r ≡ 0 → position_of s r ≡ q → Some (child_of s r) ≡ child_at s p q
  unfolding child_at links_of
  child_found_lem l a z b =
      sym (lookup_at p q (link_at s) s.link_count r l before_misses (rw (eq-eqb (kind_of s r) 0 z, eq-eqb (parent_of s r) p a, eq-eqb (position_of s r) q b)))

  pub child_other_parent : (parent_of s r ≡ p → ⊥) → None ≡ child_at s p q
  child_other_parent ne = child_missing (hit_other (link_at s r) p q ne)

  pub child_other_place : (position_of s r ≡ q → ⊥) → None ≡ child_at s p q
  child_other_place ne = child_missing (hit_apart (link_at s r) p q ne)

  pub child_order_only : (kind_of s r ≡ 0 → ⊥) → None ≡ child_at s p q
  child_order_only ne =
      child_missing (and_first (offset_of p (link_at s r)) (eqb (position_of s r) q) (order_of_none p (link_at s r) (ne_eqb (kind_of s r) 0 ne)))

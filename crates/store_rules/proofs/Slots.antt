-- The offsets of an object that all stand at slots, by rows and by children. Assumes nothing.
use Rattle.std.specs.Prelude.{Some}
use Prim.Native.Nat.{ℕ, ◌<◌}
use mathlib.Core.Path.{◌≡◌, subst}
use mathlib.Core.Bool.{Bool, true, cond}
use Rattle.folds.proofs.Tests.{by_test}
use Rattle.folds.proofs.Folds.{all_intro, all_at_lem}
use Rattle.store_rules.specs.Store.{Store, link_at, position_of, child_of, offset_of, child_at, all_at}
use Rattle.store_rules.proofs.Sound.{Fits}
use Rattle.store_rules.proofs.Lookups.{child_row}
use Rattle.store_rules.proofs.RowChild.{offset_child}

module _ (s : Store) (p : ℕ) (slot : ℕ → Bool) where
  -- row k is another object's, or stands at a slot
  abbrev stands : ℕ → Bool
  stands k = cond (offset_of p (link_at s k)) (slot (position_of s k)) true

  pub all_stand : ((k : ℕ) → k < s.link_count → offset_of p (link_at s k) ≡ true → slot (position_of s k) ≡ true) → all_at s p slot ≡ true
  unfolding all_at
  all_stand h = all_intro stands s.link_count (λ k l. by_test (offset_of p (link_at s k)) (λ e. rw e (h k l e)) (λ e. rw e))

  pub one_stands : all_at s p slot ≡ true → (k : ℕ) → k < s.link_count → offset_of p (link_at s k) ≡ true → slot (position_of s k) ≡ true
  unfolding all_at
  one_stands h k l e = rw e at (all_at_lem stands s.link_count h k l)

  -- a link that is found stands at one
  pub child_stands : all_at s p slot ≡ true → (q c : ℕ) → child_at s p q ≡ Some c → slot q ≡ true
  child_stands h q c e = let (k, l, a, b, x) = child_row s p q c e in subst (λ (q : ℕ). slot q ≡ true) b (one_stands h k l a)

  pub children_stand : Fits s → ((q c : ℕ) → child_at s p q ≡ Some c → slot q ≡ true) → all_at s p slot ≡ true
  children_stand f h = all_stand (λ k l o. h (position_of s k) (child_of s k) (offset_child s f k p l o))

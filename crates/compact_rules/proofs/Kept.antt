-- Kept is exactly what is a root or can be reached from one; it is in use, and leads only to what is kept. Assumes nothing.
use Prim.Native.Nat.{ℕ, ◌<◌}
use mathlib.Core.Path.{◌≡◌, refl}
use mathlib.Core.Bool.{Bool, true}
use mathlib.Core.List.{List, [], ◌∷◌}
use mathlib.Core.Logic.{◌⊎◌, inl, inr, ⊎_elim}
use lib.Dec.{ltb}
use borrow.Author.Tests.{ltb-true, lt-ltb}
use Rattle.folds.specs.Lists.{among}
use Rattle.folds.proofs.Tests.{and_both, and_intro}
use Rattle.folds.proofs.Joined.{or_either, or-first, or-second}
use Rattle.folds.proofs.Each.{Each, each_among}
use Rattle.store_rules.specs.Store.{Store, link_at, is_offset, parent_of, child_of}
use Rattle.store_rules.specs.Reach.{Reach, marked, reached}
use Rattle.store_rules.proofs.Sound.{Fits}
use Rattle.store_rules.proofs.Shaped.{is_of}
use Rattle.store_rules.proofs.Reached.{reached_only, reached_all, marked_used}
use Rattle.compact_rules.specs.Kept.{from_roots, kept_by, kept}
use Rattle.compact_rules.specs.Calls.{roots_used}

-- what may be kept of a store: objects in use, and with each all that its offsets lead to
pub record Keeps (s : Store) (keep : ℕ → Bool) : Type 0 where
  pub used : (i : ℕ) → keep i ≡ true → i < s.object_count
  pub closed : (k : ℕ) → k < s.link_count → is_offset (link_at s k) ≡ true → keep (parent_of s k) ≡ true → keep (child_of s k) ≡ true

pub roots_each : (n : ℕ) (roots : List ℕ) → roots_used n roots ≡ true → Each (λ r. r < n) roots
unfolding roots_used
roots_each n [] h = tt
roots_each n (r ∷ rs) h = let (a, b) = and_both (ltb r n) (roots_used n rs) h in (ltb-true r n a, roots_each n rs b)

pub each_used : (n : ℕ) (roots : List ℕ) → Each (λ r. r < n) roots → roots_used n roots ≡ true
unfolding roots_used
each_used n [] a = refl
each_used n (r ∷ rs) a = and_intro (ltb r n) (roots_used n rs) (lt-ltb r n a.0) (each_used n rs a.1)

module _ (s : Store) (f : Fits s) (roots : List ℕ) (used : roots_used s.object_count roots ≡ true) where
  -- the root or reached from one
  abbrev pub Wanted : ℕ → Type 0
  Wanted i = (among i roots ≡ true) ⊎ Reach s (from_roots s roots) i

  pub wanted_kept : (i : ℕ) → Wanted i → kept s roots i ≡ true
  unfolding kept_by
  wanted_kept i (inl h) = or-first (among i roots) (marked (reached s (from_roots s roots)) i) h
  wanted_kept i (inr r) = or-second (among i roots) (marked (reached s (from_roots s roots)) i) (reached_all s (from_roots s roots) f r)

  -- and nothing else
  pub kept_wanted : (i : ℕ) → i < s.object_count → kept s roots i ≡ true → Wanted i
  unfolding kept_by
  kept_wanted i l h =
      ⊎_elim (λ a. inl a) (λ m. inr (reached_only s (from_roots s roots) f i l m)) (or_either (among i roots) (marked (reached s (from_roots s roots)) i) h)

  pub kept_used : (i : ℕ) → kept s roots i ≡ true → i < s.object_count
  unfolding kept_by
  kept_used i h =
      ⊎_elim (λ a. each_among (λ r. r < s.object_count) roots i (roots_each s.object_count roots used) a) (λ m. marked_used s (from_roots s roots) i m) (or_either (among i roots) (marked (reached s (from_roots s roots)) i) h)

  pub keeps : Keeps s (kept s roots)
  keeps = record { used = kept_used; closed = closed }
    where
      closed : (k : ℕ) → k < s.link_count → is_offset (link_at s k) ≡ true → kept s roots (parent_of s k) ≡ true → kept s roots (child_of s k) ≡ true
      closed k l v h =
          wanted_kept (child_of s k)
          (⊎_elim (λ a. inr (Reach.seed k l (and_intro (is_offset (link_at s k)) (among (parent_of s k) roots) v a) refl))
          (λ r. inr (Reach.step r k l (is_of (parent_of s k) (link_at s k) v refl) refl)) (kept_wanted (parent_of s k) (kept_used (parent_of s k) h) h))

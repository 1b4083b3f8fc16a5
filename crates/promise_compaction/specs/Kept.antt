-- What is kept, under which numbers, and what each kept object has then: s is compacted by these roots, and `left` is what is left. Assumes nothing.
use Rattle.std.specs.Prelude.{ℕ, ◌<◌, ◌≡◌, true, List, map, ◌⊎◌, Some, None}
use Rattle.folds.specs.Lists.{among, sift}
use Rattle.store_rules.specs.Store.{Store, bytes_of, child_at, links_of, orders_of}
use Rattle.store_rules.specs.Reach.{Reach}
use Rattle.compact_rules.specs.Kept.{from_roots, kept, renumber}
use Rattle.compact_rules.specs.Compacted.{keeps_ends, renumbered}

-- "what kind 0 links reach from them", in its own words: i is a root, or can be reached from one
abbrev pub Wanted : Store → List ℕ → ℕ → Type 0
Wanted s roots i = (among i roots ≡ true) ⊎ Reach s (from_roots s roots) i

-- the new number of object i
abbrev pub new_number : Store → List ℕ → ℕ → ℕ
new_number s roots i = renumber (kept s roots) i

-- a kept object
pub record ObjectKept (s : Store) (roots : List ℕ) (left : Store) (i : ℕ) : Type 0 where
  pub used : new_number s roots i < left.object_count
  pub bytes : bytes_of left (new_number s roots i) ≡ bytes_of s i
  pub child : (q c : ℕ) → child_at s i q ≡ Some c → child_at left (new_number s roots i) q ≡ Some (new_number s roots c)
  pub no_child : (q : ℕ) → child_at s i q ≡ None → child_at left (new_number s roots i) q ≡ None
  -- it is placed after what it was placed after, as far as that is kept
  pub orders : orders_of left (new_number s roots i) ≡ map (new_number s roots) (sift (kept s roots) (orders_of s i))

-- "keep what kind 0 links reach from them, in the old order, .. renumber objects and links, drop order-only links that lose an end"
pub record AllKept (s : Store) (roots : List ℕ) (left : Store) : Type 0 where
  -- exactly that is kept, and all of it is in use
  pub wanted : (i : ℕ) → kept s roots i ≡ true → Wanted s roots i
  pub all_wanted : (i : ℕ) → Wanted s roots i → kept s roots i ≡ true
  pub in_use : (i : ℕ) → kept s roots i ≡ true → i < s.object_count
  -- "in the old order"
  pub in_order : (i j : ℕ) → kept s roots i ≡ true → i < j → new_number s roots i < new_number s roots j
  -- each kept object, and no other
  pub object : (i : ℕ) → kept s roots i ≡ true → ObjectKept s roots left i
  pub no_other : (m : ℕ) → m < left.object_count → (i : ℕ) × (kept s roots i ≡ true) × (new_number s roots i ≡ m)
  -- the links of both kinds
  pub links : links_of left ≡ map (renumbered (new_number s roots)) (sift (keeps_ends (kept s roots)) (links_of s))

-- The header links of a new table, and the links that stay, over any positions of a table's own parts. Assumes nothing.
use Rattle.std.specs.Prelude.{None}
use Prim.Native.Nat.{ℕ, ◌+◌, ◌≤◌, ◌<◌}
use mathlib.Core.Path.{◌≡◌, refl, sym, ap, ap₂, ◌∙◌}
use mathlib.Core.Bool.{true, false}
use mathlib.Core.List.{List, [], ◌∷◌, ◌++◌, map}
use mathlib.Core.Logic.{◌⊎◌, inl, inr, ⊎_elim}
use native.Mathlib.Omega.{arith}
use lib.ListN.{length}
use lib.Dec.{eqb}
use Rattle.folds.specs.Lists.{among}
use Rattle.folds.proofs.Tests.{by_test, true_false}
use Rattle.folds.proofs.Each.{Each, each_map, among_each}
use Rattle.folds.proofs.Moved.{length-map}
use Rattle.store_rules.specs.Store.{Link, is_offset, offset_of, lookup}
use Rattle.store_rules.specs.Appended.{link}
use Rattle.store_rules.specs.Header.{own_child, header_links, kept}
use Rattle.store_rules.proofs.Lookups.{hit, hit_other, hit_apart, lookup_none}
use Rattle.store_rules.proofs.Shaped.{of_other, order_of_none}
use Rattle.store_rules.proofs.LinksAscend.{Climb, climb_lower, place, place_same}

-- ---- where a link leads

-- at no position of an own part it leads where it led
pub child_other : (own : List ℕ) (v q c : ℕ) → among q own ≡ false → own_child own v q c ≡ c
unfolding own_child among
child_other [] v q c h = refl
child_other (p ∷ ps) v q c h =
    by_test (eqb q p) (λ e. true_false (rw e at h)) (λ e. rw e (child_other ps (v + 1) q c (rw e at h)))

-- at one of an own part it does not matter where it led
child_own : (own : List ℕ) (v q c d : ℕ) → among q own ≡ true → own_child own v q c ≡ own_child own v q d
unfolding own_child among
child_own [] v q c d h = true_false (sym h)
child_own (p ∷ ps) v q c d h = by_test (eqb q p) (λ e. rw e) (λ e. rw e (child_own ps (v + 1) q c d (rw e at h)))

-- it leads where it led, or to one of the new objects
pub child_any : (own : List ℕ) (v q c : ℕ) → (own_child own v q c ≡ c) ⊎ ((v ≤ own_child own v q c) × (own_child own v q c < v + length own))
unfolding own_child
child_any [] v q c = inl refl
child_any (p ∷ ps) v q c =
    by_test (eqb q p)
    (λ e. rw e (inr (omega arith, omega arith)))
    (λ e. rw e (⊎_elim (λ x. inl x) (λ (x, y). inr (omega arith, omega arith)) (child_any ps (v + 1) q c)))

-- ---- the links of a header

-- positions ascend from lo on, and end before hi
abbrev pub Rising : ℕ → List ℕ → ℕ → Type 0
Rising lo [] hi = lo ≤ hi
Rising lo (q ∷ qs) hi = (lo ≤ q) × Rising (q + 1) qs hi

module _ (own : List ℕ) (u : ℕ) (old : ℕ → ℕ) where
  abbrev header_link : ℕ → Link
  header_link q = link u q (own_child own (u + 1) q (old q))

  pub header_many : (heads : List ℕ) → length (header_links own heads u old) ≡ length heads
  unfolding header_links
  header_many heads = length-map header_link heads

  -- what holds of the link at each position
  pub header_each : (P : Link → Type 0) (heads : List ℕ) → ((q : ℕ) → among q heads ≡ true → P (header_link q)) → Each P (header_links own heads u old)
  unfolding header_links
  header_each P heads h = each_map (λ q. among q heads ≡ true) P header_link h heads (among_each (λ q. among q heads ≡ true) heads (λ q a. a))

  -- another object has none of them
  pub header_other : (heads : List ℕ) (p q : ℕ) → (u ≡ p → ⊥) → lookup (header_links own heads u old) p q ≡ None
  header_other heads p q ne =
      lookup_none (header_links own heads u old) p q
      (header_each (λ l. hit l p q ≡ false) heads (λ r a. hit_other (header_link r) p q ne))

  -- and at other positions there is none
  pub header_none : (heads : List ℕ) (p q : ℕ) → among q heads ≡ false → lookup (header_links own heads u old) p q ≡ None
  header_none heads p q h =
      lookup_none (header_links own heads u old) p q
      (header_each (λ l. hit l p q ≡ false) heads (λ r a. hit_apart (header_link r) p q (λ e. true_false (sym (rw e at a) ∙ h))))

  -- they ascend where the positions do
  pub header_climb : (heads : List ℕ) (lo hi e : ℕ) (rest : List Link) → Rising lo heads hi → Climb u hi e rest → Climb u lo e (header_links own heads u old ++ rest)
  unfolding header_links place
  header_climb [] lo hi e rest r c = climb_lower rest u lo u hi e (inr (refl, r)) c
  header_climb (q ∷ qs) lo hi e rest r c = (inr (refl, r.0), header_climb qs (q + 1) hi e rest r.1 c)

-- where an old link led is asked at shared positions alone
pub header_same : (own heads : List ℕ) (u : ℕ) (f g : ℕ → ℕ) → ((q : ℕ) → among q heads ≡ true → (among q own ≡ true) ⊎ (f q ≡ g q))
    → header_links own heads u f ≡ header_links own heads u g
unfolding header_links
header_same own heads u f g h = mapped heads (among_each Same heads h)
  where
    Same : ℕ → Type 0
    Same q = (among q own ≡ true) ⊎ (f q ≡ g q)

    child : (q : ℕ) → Same q → own_child own (u + 1) q (f q) ≡ own_child own (u + 1) q (g q)
    child q (inl a) = child_own own (u + 1) q (f q) (g q) a
    child q (inr e) = ap (own_child own (u + 1) q) e

    mapped : (qs : List ℕ) → Each Same qs → map (header_link own u f) qs ≡ map (header_link own u g) qs
    mapped [] a = refl
    mapped (q ∷ qs) a = ap₂ (λ (c : ℕ) (r : List Link). link u q c ∷ r) (child q a.0) (mapped qs a.1)

-- ---- the links that stay

module _ (own : List ℕ) (t v : ℕ) (l : Link) where
  pub kept_parent : (kept own t v l).parent ≡ l.parent
  unfolding kept
  kept_parent = refl

  pub kept_position : (kept own t v l).position ≡ l.position
  unfolding kept
  kept_position = refl

  pub kept_kind : (kept own t v l).kind ≡ l.kind
  unfolding kept
  kept_kind = refl

  -- an offset of an object is one still
  pub kept_offset : (p : ℕ) → offset_of p (kept own t v l) ≡ offset_of p l
  unfolding kept
  kept_offset p = refl

  -- order-only links stay as they are
  pub kept_order : is_offset l ≡ false → (kept own t v l).child ≡ l.child
  unfolding kept
  kept_order o = rw (order_of_none t l o)

  -- so that each stands where it stood
  pub kept_place : place (kept own t v l) ≡ place l
  kept_place = place_same l (kept own t v l) kept_kind (λ o. kept_position) kept_order

  -- one of the table's own offsets
  pub kept_own : offset_of t l ≡ true → (kept own t v l).child ≡ own_child own v l.position l.child
  unfolding kept
  kept_own h = rw h

  -- a link of another object leads where it led
  pub kept_other : (l.parent ≡ t → ⊥) → (kept own t v l).child ≡ l.child
  unfolding kept
  kept_other ne = rw (of_other t l ne)

  -- and so does one to no part of the table's own
  pub kept_apart : among l.position own ≡ false → (kept own t v l).child ≡ l.child
  unfolding kept
  kept_apart h = by_test (offset_of t l) (λ e. rw (e, child_other own v l.position l.child h)) (λ e. rw e)

  pub kept_any : ((kept own t v l).child ≡ l.child) ⊎ ((v ≤ (kept own t v l).child) × ((kept own t v l).child < v + length own))
  unfolding kept
  kept_any = by_test (offset_of t l) (λ e. rw e (child_any own v l.position l.child)) (λ e. rw e (inl refl))

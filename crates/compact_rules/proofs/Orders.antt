-- What a kept object is placed after, once order-only links that lose an end are dropped. Assumes nothing.
use Prim.Native.Nat.{ℕ}
use mathlib.Core.Path.{◌≡◌, refl, ap, ◌∙◌}
use mathlib.Core.Bool.{Bool, true, false, cond, not, ◌&&◌}
use mathlib.Core.List.{List, [], ◌∷◌, map}
use lib.Dec.{eqb}
use borrow.Author.Tests.{eqb-true}
use Rattle.folds.specs.Lists.{sift}
use Rattle.folds.proofs.Tests.{and_both}
use Rattle.store_rules.specs.Store.{Store, Link, links_of, is_offset, order_of, orders_in, orders_of}
use Rattle.store_rules.proofs.Sound.{Fits}
use Rattle.compact_rules.specs.Kept.{renumber}
use Rattle.compact_rules.specs.Compacted.{keeps_ends, renumbered, kept_links, compacted}
use Rattle.compact_rules.proofs.Numbers.{number_same}
use Rattle.compact_rules.proofs.Links.{links_left_lem}

module _ (keep : ℕ → Bool) (u : ℕ) (h : keep u ≡ true) where
  -- an order-only link of u stays one
  order_moved : (l : Link) → keeps_ends keep l ≡ true → order_of (renumber keep u) (renumbered (renumber keep) l) ≡ order_of u l
  order_moved l e =
      ap (λ (b : Bool). not (is_offset l) && b) (number_same keep l.parent u (and_both (keep l.parent) (keep l.child) e).0 h)

  -- if its child is kept
  order_ends : (l : Link) → order_of u l ≡ true → keeps_ends keep l ≡ keep l.child
  order_ends l o =
      let parent = eqb-true l.parent u (and_both (not (is_offset l)) (eqb l.parent u) o).1 in
      ap (λ (b : Bool). b && keep l.child) (ap keep parent ∙ h)

  -- what u is placed after, among these
  abbrev after : List Link → List ℕ
  after ls = orders_in (map (renumbered (renumber keep)) ls) (renumber keep u)

  orders_kept : (ls : List Link) → after (sift (keeps_ends keep) ls) ≡ map (renumber keep) (sift keep (orders_in ls u))
  unfolding orders_in sift
  orders_kept [] = refl
  orders_kept (l ∷ ls) = go (order_of u l) (keeps_ends keep l) (order_moved l) (order_ends l) (orders_kept ls)
    where
      go : (o e : Bool) → (e ≡ true → order_of (renumber keep u) (renumbered (renumber keep) l) ≡ o) → (o ≡ true → e ≡ keep l.child)
          → after (sift (keeps_ends keep) ls) ≡ map (renumber keep) (sift keep (orders_in ls u))
          → after (cond e (l ∷ sift (keeps_ends keep) ls) (sift (keeps_ends keep) ls))
          ≡ map (renumber keep) (sift keep (map (λ m. m.child) (cond o (l ∷ sift (order_of u) ls) (sift (order_of u) ls))))
      go true true a b i = rw (a refl, ← b refl) (ap (λ (xs : List ℕ). renumber keep l.child ∷ xs) i)
      go true false a b i = rw (← b refl) i
      go false true a b i = rw (a refl) i
      go false false a b i = i

-- "drop order-only links that lose an end"
pub orders_left : (s : Store) (f : Fits s) (keep : ℕ → Bool) (u : ℕ) → keep u ≡ true
    → orders_of (compacted s keep) (renumber keep u) ≡ map (renumber keep) (sift keep (orders_of s u))
unfolding kept_links
orders_left s f keep u h = ap (λ (ls : List Link). orders_in ls (renumber keep u)) (links_left_lem s keep) ∙ orders_kept keep u h (links_of s)

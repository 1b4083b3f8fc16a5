-- Links of their kind's shape: what an offset has, what an order-only link has, and which other parent they fit. Assumes nothing.
use Prim.Native.Nat.{ℕ, ◌+◌, ◌≤◌}
use mathlib.Core.Path.{◌≡◌}
use mathlib.Core.Bool.{true, false}
use native.Mathlib.Omega.{arith}
use lib.Dec.{leb, eqb}
use borrow.Author.Tests.{eqb-true, leb-true, eq-eqb, le-leb, ne_eqb}
use Rattle.folds.proofs.Tests.{by_test, and_both, and_intro, and_first, and_second}
use Rattle.folds.proofs.Joined.{and_three}
use Rattle.store_rules.specs.Store.{Link, is_offset, offset_of, shaped}

-- ---- offsets of an object

module _ (p : ℕ) (l : Link) where
  pub of_offset : offset_of p l ≡ true → is_offset l ≡ true
  of_offset h = (and_both (is_offset l) (eqb l.parent p) h).0

  pub of_parent : offset_of p l ≡ true → l.parent ≡ p
  of_parent h = eqb-true l.parent p (and_both (is_offset l) (eqb l.parent p) h).1

  pub is_of : is_offset l ≡ true → l.parent ≡ p → offset_of p l ≡ true
  is_of o e = and_intro (is_offset l) (eqb l.parent p) o (eq-eqb l.parent p e)

  pub of_other : (l.parent ≡ p → ⊥) → offset_of p l ≡ false
  of_other ne = and_second (is_offset l) (eqb l.parent p) (ne_eqb l.parent p ne)

  pub order_of_none : is_offset l ≡ false → offset_of p l ≡ false
  order_of_none o = and_first (is_offset l) (eqb l.parent p) o

-- ---- shapes

module _ (size : ℕ) (l : Link) where
  pub offset_wide : is_offset l ≡ true → shaped size l ≡ true → l.width ≡ 2
  unfolding shaped
  offset_wide o h = eqb-true l.width 2 (and_both (eqb l.width 2) (leb (l.position + 2) size) (rw o at h)).0

  -- "position + 2 within the parent"
  pub offset_inside : is_offset l ≡ true → shaped size l ≡ true → l.position + 2 ≤ size
  unfolding shaped
  offset_inside o h = leb-true (l.position + 2) size (and_both (eqb l.width 2) (leb (l.position + 2) size) (rw o at h)).1

  pub offset_shaped : is_offset l ≡ true → l.width ≡ 2 → l.position + 2 ≤ size → shaped size l ≡ true
  unfolding shaped
  offset_shaped o w i = rw o (and_intro (eqb l.width 2) (leb (l.position + 2) size) (eq-eqb l.width 2 w) (le-leb (l.position + 2) size i))

  -- "1 order-only with position 0 and width 0"
  pub order_numbers : is_offset l ≡ false → shaped size l ≡ true → (l.kind ≡ 1) × (l.position ≡ 0) × (l.width ≡ 0)
  unfolding shaped
  order_numbers o h =
      let (a, b, c) = and_three (eqb l.kind 1) (eqb l.position 0) (eqb l.width 0) (rw o at h) in
      (eqb-true l.kind 1 a, eqb-true l.position 0 b, eqb-true l.width 0 c)

  -- within a parent of another size: only an offset asks for it
  pub shaped_then : (other : ℕ) → (is_offset l ≡ true → l.position + 2 ≤ size → l.position + 2 ≤ other) → shaped size l ≡ true → shaped other l ≡ true
  unfolding shaped
  shaped_then other in-other h =
      by_test (is_offset l)
      (λ o. rw o (and_intro (eqb l.width 2) (leb (l.position + 2) other) (eq-eqb l.width 2 (offset_wide o h)) (le-leb (l.position + 2) other (in-other o (offset_inside o h)))))
      (λ o. rw o (rw o at h))

-- of its kind's shape in a parent of as many bytes as a store can have
abbrev pub Formed : Link → Type 0
Formed l = shaped 16777216 l ≡ true

pub formed_in : (size : ℕ) (l : Link) → size ≤ 16777216 → shaped size l ≡ true → Formed l
formed_in size l small h = shaped_then size l 16777216 (λ o inside. omega arith) h

-- an offset that leads elsewhere, or stands elsewhere, is one still: the shape asks for no parent and no child
pub shaped_leading : (size : ℕ) (l m : Link) → m.kind ≡ l.kind → m.width ≡ l.width → m.position ≡ l.position → shaped size l ≡ true → shaped size m ≡ true
unfolding shaped
shaped_leading size l m a b c h = rw (a, b, c) h

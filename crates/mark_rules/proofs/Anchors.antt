-- The links of the arrays stand at their slots, and those of a range of classes lead to the anchors of these classes. Assumes nothing.
use Rattle.std.specs.Prelude.{Some}
use Prim.Native.Nat.{ℕ, ◌+◌, ◌*◌, ◌/◌, ◌%◌, ◌<◌, ◌≤◌}
use mathlib.Core.Path.{◌≡◌, refl, sym, ap, ◌∙◌}
use mathlib.Core.Bool.{Bool, true, ◌&&◌}
use mathlib.Core.Logic.{◌⊎◌, inl, inr, ⊎_elim}
use native.Mathlib.Omega.{arith}
use native.Mathlib.Nat.{div-add-mod, mod-lt, mul_comm, mul-le-mul_right}
use lib.ListN.{length}
use Rattle.folds.proofs.Tests.{and_both, and_intro, either}
use Rattle.folds.proofs.Joined.{or_either, or-first, or-second}
use Rattle.folds.proofs.InRange.{between_is, is_between}
use Rattle.ot_layouts.specs.MarkBasePos.{mark_array_at, base_array_at, mark_slot, base_slot, mark_class, class_before, column_at}
use Rattle.ot_layouts.proofs.MarkSlots.{mark_slot_lem, base_slot_lem, class_before_lem, column_slot, column_of}
use Rattle.store_rules.specs.Store.{Store, Link, link_at, position_of, child_of, child_at, size_of, linked_at, linked_bytes, offset_of}
use Rattle.store_rules.proofs.Sound.{Fits, size_bytes}
use Rattle.store_rules.proofs.Lookups.{child_row, child_used_lem, linked_is}
use Rattle.store_rules.proofs.LinksFit.{row_inside}
use Rattle.store_rules.proofs.RowChild.{offset_child}
use Rattle.mark_rules.specs.Table.{classes_of, marks_in, bases_in, mark_array, base_array, mark_bytes, mark_anchor, base_anchor, in_classes, of_classes}
use Rattle.mark_rules.proofs.Checks.{Parts, AtSlots}

module _ (s : Store) (t : ℕ) where
  -- c is the anchor of a mark of the classes lo up to hi
  abbrev pub MarkAnchor : ℕ → ℕ → ℕ → Type 0
  MarkAnchor lo hi c = (i : ℕ) × (i < marks_in s t) × (lo ≤ mark_class (mark_bytes s t) i) × (mark_class (mark_bytes s t) i < hi) × (mark_anchor s t i ≡ Some c)

  -- or of a base for one of them
  abbrev pub BaseAnchor : ℕ → ℕ → ℕ → Type 0
  BaseAnchor lo hi c = (j : ℕ) × (k : ℕ) × (j < bases_in s t) × (k < classes_of s t) × (lo ≤ k) × (k < hi) × (base_anchor s t j k ≡ Some c)

  abbrev pub Anchor : ℕ → ℕ → ℕ → Type 0
  Anchor lo hi c = MarkAnchor lo hi c ⊎ BaseAnchor lo hi c

  -- a link of the mark array whose class is one of them
  abbrev of_marks : ℕ → ℕ → Link → Bool
  of_marks lo hi l = offset_of (mark_array s t) l && in_classes lo hi (class_before (mark_bytes s t) l.position)

  -- one of the base array
  abbrev of_bases : ℕ → ℕ → Link → Bool
  of_bases lo hi l = offset_of (base_array s t) l && in_classes lo hi (column_at (classes_of s t) l.position)

  -- ---- each anchor has a row

  pub anchor_row : (lo hi c : ℕ) → Anchor lo hi c → (k : ℕ) × (k < s.link_count) × (of_classes s t lo hi (link_at s k) ≡ true) × (child_of s k ≡ c)
  unfolding of_classes mark_anchor base_anchor
  anchor_row lo hi c (inl (i, l, a, b, e)) =
      let (k, h, p, q, x) = child_row s (mark_array s t) (mark_slot i) c e in
      let class : class_before (mark_bytes s t) (position_of s k) ≡ mark_class (mark_bytes s t) i
      = ap (class_before (mark_bytes s t)) q ∙ class_before_lem (mark_bytes s t) i in
      let inside = ap (in_classes lo hi) class ∙ is_between lo hi (mark_class (mark_bytes s t) i) a b in
      (k, h, or-first (of_marks lo hi (link_at s k)) (of_bases lo hi (link_at s k)) (and_intro _ _ p inside), x)
  anchor_row lo hi c (inr (j, m, l, u, a, b, e)) =
      let n = classes_of s t in
      let (k, h, p, q, x) = child_row s (base_array s t) (base_slot (j * n + m)) c e in
      let inside = ap (in_classes lo hi) (ap (column_at n) q ∙ column_of n j m u) ∙ is_between lo hi m a b in
      (k, h, or-second (of_marks lo hi (link_at s k)) (of_bases lo hi (link_at s k)) (and_intro _ _ p inside), x)

  module _ (f : Fits s) (parts : Parts s t) (slots : AtSlots s t) where
    -- an array is as long as its bytes
    array_size : (q c : ℕ) → child_at s t q ≡ Some c → size_of s (linked_at s t q) ≡ length (linked_bytes s t q)
    array_size q c e = sym (size_bytes s f (linked_at s t q) (omega (arith, linked_is s t q c e, child_used_lem s t f q c e)))

    -- what a row leads to, by its place
    row_leads : (k p q : ℕ) → k < s.link_count → offset_of p (link_at s k) ≡ true → position_of s k ≡ q → child_at s p q ≡ Some (child_of s k)
    row_leads k p q l a b = ap (child_at s p) (sym b) ∙ offset_child s f k p l a

    -- ---- a row of an array stands at one of its slots

    pub mark_place_lem : (k : ℕ) → k < s.link_count → offset_of (mark_array s t) (link_at s k) ≡ true → (i : ℕ) × (i < marks_in s t) × (position_of s k ≡ mark_slot i)
    mark_place_lem k l p =
        let (i, e) = mark_slot_lem (position_of s k) (slots.marks k l p) in
        let (c, d) = parts.marks in
        let inside : position_of s k + 2 ≤ size_of s (mark_array s t) = row_inside s f k (mark_array s t) l p in
        (i, omega (arith, array_size mark_array_at c d, parts.marks_long), e)

    pub base_place_lem : (k : ℕ) → k < s.link_count → offset_of (base_array s t) (link_at s k) ≡ true → (m : ℕ) × (m < bases_in s t * classes_of s t) × (position_of s k ≡ base_slot m)
    base_place_lem k l p =
        let (m, e) = base_slot_lem (position_of s k) (slots.bases k l p) in
        let (c, d) = parts.bases in
        let inside : position_of s k + 2 ≤ size_of s (base_array s t) = row_inside s f k (base_array s t) l p in
        (m, omega (arith, array_size base_array_at c d, parts.bases_long), e)

    -- ---- a row of the classes leads to one of their anchors

    mark_row : (lo hi k : ℕ) → k < s.link_count → offset_of (mark_array s t) (link_at s k) ≡ true → in_classes lo hi (class_before (mark_bytes s t) (position_of s k)) ≡ true
        → MarkAnchor lo hi (child_of s k)
    unfolding mark_anchor
    mark_row lo hi k l p h =
        let (i, m, e) = mark_place_lem k l p in
        let class : class_before (mark_bytes s t) (position_of s k) ≡ mark_class (mark_bytes s t) i
        = ap (class_before (mark_bytes s t)) e ∙ class_before_lem (mark_bytes s t) i in
        let (a, b) = between_is lo hi (mark_class (mark_bytes s t) i) (ap (in_classes lo hi) (sym class) ∙ h) in
        (i, m, a, b, row_leads k (mark_array s t) (mark_slot i) l p e)

    base_row : (lo hi k : ℕ) → k < s.link_count → offset_of (base_array s t) (link_at s k) ≡ true → in_classes lo hi (column_at (classes_of s t) (position_of s k)) ≡ true
        → BaseAnchor lo hi (child_of s k)
    unfolding base_anchor
    base_row lo hi k l p h =
        let (m, y, e) = base_place_lem k l p in
        let n = classes_of s t in
        let some-class : 0 < n = ⊎_elim (λ lt. lt) (λ ge. absurd (none_of (bases_in s t) n m (omega arith) y)) (either 0 n) in
        let parted = div-add-mod m n in
        let turned = mul_comm n (m / n) in
        let class : m % n < n = mod-lt m some-class in
        let base : m / n < bases_in s t
        = ⊎_elim (λ lt. lt) (λ ge. let o = mul-le-mul_right {m = bases_in s t} {n = m / n} n ge in absurd (omega arith)) (either (m / n) (bases_in s t)) in
        let (a, b) = between_is lo hi (m % n) (ap (in_classes lo hi) (sym (ap (column_at n) e ∙ column_slot n m)) ∙ h) in
        let place : base_slot (m / n * n + m % n) ≡ position_of s k = omega arith in
        (m / n, m % n, base, class, a, b, ap (child_at s (base_array s t)) place ∙ row_leads k (base_array s t) (position_of s k) l p refl)
      where
        -- no class, no slot
        none_of : (bases n m : ℕ) → n ≡ 0 → m < bases * n → ⊥
        none_of bases n m z h = let o : bases * n ≡ bases * 0 = ap (λ (i : ℕ). bases * i) z in omega arith

    pub row_anchor : (lo hi k : ℕ) → k < s.link_count → of_classes s t lo hi (link_at s k) ≡ true → Anchor lo hi (child_of s k)
    unfolding of_classes
    row_anchor lo hi k l h =
        ⊎_elim
        (λ a. let (p, q) = and_both (offset_of (mark_array s t) (link_at s k)) _ a in inl (mark_row lo hi k l p q))
        (λ a. let (p, q) = and_both (offset_of (base_array s t) (link_at s k)) _ a in inr (base_row lo hi k l p q))
        (or_either (of_marks lo hi (link_at s k)) (of_bases lo hi (link_at s k)) h)

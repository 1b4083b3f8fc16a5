-- Rows that fit, by their keys: a row's key tells whether it is of its kind's shape, and keys ascend as rows do. Assumes nothing.
use Rattle.std.specs.Prelude.{Some, None}
use Prim.Native.Nat.{ℕ, zero, suc, ◌+◌, ◌<◌, ◌≤◌}
use mathlib.Core.Bool.{Bool, true, false, not, ◌&&◌}
use mathlib.Core.Logic.{inl, inr, ⊎_elim}
use mathlib.Core.Path.{◌≡◌, refl, sym, ap, ◌∙◌}
use native.Mathlib.Omega.{arith}
use lib.Dec.{leb, ltb}
use borrow.Author.Tests.{ltb-true, lt-ltb, le-ltb, eq-eqb, ne_eqb, not-true, not-false}
use Rattle.folds.specs.Folds.{all, before}
use Rattle.folds.proofs.Tests.{either, by_test, and_both, and_first, and_second, and_intro}
use Rattle.folds.proofs.Folds.{all_none, all_more, all_fails, all_at_lem, before_more}
use Rattle.store_rules.specs.Store.{Store, size_of, link_at, is_offset, parent_of, position_of, width_of, child_of, kind_of, ascends, shaped, link_fits}
use Rattle.store_rules.proofs.LinksAscend.{Behind, place_offset, place_order}
use Rattle.store_rules.proofs.RowOrder.{rows_from_lem, from_rows}
use Rattle.store_rules.proofs.Shaped.{Formed, formed_in, offset_inside}
use Rattle.store_reader.specs.Rows.{orders, key_of, row_place, row_key, shaped_key, fitting_key}
use Rattle.store_reader.proofs.Rows.{row_place_lem, place_is_position, place_is_child}

-- ---- one row

module _ (s : Store) (k : ℕ) where
  abbrev shapes : Bool
  shapes = shaped (size_of s (parent_of s k)) (link_at s k)

  abbrev names : Bool
  names = ltb (parent_of s k) s.object_count && ltb (child_of s k) s.object_count

  no_key : shapes ≡ false → None ≡ shaped_key s k
  unfolding shaped_key
  no_key h = rw h

  its_key : shapes ≡ true → {p q : ℕ} → p ≡ parent_of s k → q ≡ row_place s.links k → Some (key_of p q) ≡ shaped_key s k
  unfolding shaped_key
  its_key h e f = rw (h, e, f)

  -- an offset
  module _ (z : kind_of s k ≡ 0) where
    pub offset_narrow : (width_of s k ≡ 2 → ⊥) → None ≡ shaped_key s k
    unfolding shaped
    offset_narrow w = no_key (rw (eq-eqb (kind_of s k) 0 z, ne_eqb (width_of s k) 2 w))

    module _ (w : width_of s k ≡ 2) {t : Bool} (e : t ≡ leb (position_of s k + 2) (size_of s (parent_of s k))) where
      inside : t ≡ shapes
      unfolding shaped
      inside = e ∙ rw (eq-eqb (kind_of s k) 0 z, eq-eqb (width_of s k) 2 w)

      pub offset_outside : not t ≡ true → None ≡ shaped_key s k
      offset_outside h = no_key (sym inside ∙ not-true t h)

      pub offset_inside_key : not t ≡ false → {p : ℕ} → p ≡ parent_of s k → Some (key_of p (position_of s k)) ≡ shaped_key s k
      offset_inside_key h p = its_key (sym inside ∙ not-false t h) p (place_is_position s.links k z)

  -- any other
  module _ (n : kind_of s k ≡ 0 → ⊥) where
    pub order_kind : (kind_of s k ≡ 1 → ⊥) → None ≡ shaped_key s k
    unfolding shaped
    order_kind o = no_key (rw (ne_eqb (kind_of s k) 0 n, ne_eqb (kind_of s k) 1 o))

    module _ (o : kind_of s k ≡ 1) where
      pub order_position : (position_of s k ≡ 0 → ⊥) → None ≡ shaped_key s k
      unfolding shaped
      order_position q = no_key (rw (o, ne_eqb (position_of s k) 0 q))

      pub order_width : position_of s k ≡ 0 → (width_of s k ≡ 0 → ⊥) → None ≡ shaped_key s k
      unfolding shaped
      order_width q w = no_key (rw (o, q, ne_eqb (width_of s k) 0 w))

      pub order_key_lem : position_of s k ≡ 0 → width_of s k ≡ 0 → {p : ℕ} → p ≡ parent_of s k → Some (key_of p (orders + child_of s k)) ≡ shaped_key s k
      unfolding shaped
      order_key_lem q w p = its_key (rw (o, q, w)) p (place_is_child s.links k n)

  -- parent and child in use
  pub parent_out : s.object_count ≤ parent_of s k → None ≡ fitting_key s k
  unfolding fitting_key
  parent_out h = rw (le-ltb (parent_of s k) s.object_count h)

  pub child_out : s.object_count ≤ child_of s k → None ≡ fitting_key s k
  unfolding fitting_key
  child_out h = rw (and_second (ltb (parent_of s k) s.object_count) (ltb (child_of s k) s.object_count) (le-ltb (child_of s k) s.object_count h))

  pub both_in : parent_of s k < s.object_count → child_of s k < s.object_count → shaped_key s k ≡ fitting_key s k
  unfolding fitting_key shaped_key
  both_in a b = rw (lt-ltb (parent_of s k) s.object_count a, lt-ltb (child_of s k) s.object_count b)

-- ---- row by row

-- the rows before k fit, and `last` is one more than the key of the last of them
pub record Climbing (s : Store) (k last : ℕ) : Type 0 where
  pub within : k ≤ s.link_count
  pub passed : all (link_fits s) k ≡ true
  pub last_is : last ≡ before (λ j. row_key s.links j + 1) k

pub climbing_start : (s : Store) → Climbing s 0 0
unfolding before
climbing_start s = record { within = omega arith; passed = all_none (link_fits s); last_is = refl }

module _ (s : Store) (few : s.object_count ≤ 65536) (short : (i : ℕ) → i < s.object_count → size_of s i ≤ 16777216) where
  abbrev fits : ℕ → Bool
  fits k = names s k && shapes s k

  -- what is known of a row that fits but for its order
  record Fit (k : ℕ) : Type 0 where
    formed : Formed (link_at s k)
    placed : row_place s.links k < 4294967296

  is_fit : (k : ℕ) → fits k ≡ true → Fit k
  is_fit k h =
      let l = link_at s k in
      let (n, shape) = and_both (names s k) (shapes s k) h in
      let (p, c) = and_both (ltb (parent_of s k) s.object_count) (ltb (child_of s k) s.object_count) n in
      let formed = formed_in (size_of s (parent_of s k)) l (short (parent_of s k) (ltb-true (parent_of s k) s.object_count p)) shape in
      record {
        formed = formed;
        placed =
            by_test (is_offset l) (λ o. omega (arith, row_place_lem s k, place_offset l o, offset_inside 16777216 l o formed))
            (λ o. omega (arith, row_place_lem s k, place_order l o, ltb-true (child_of s k) s.object_count c));
      }

  fitted : (k : ℕ) → link_fits s k ≡ true → fits k ≡ true
  unfolding link_fits
  fitted k h = (and_both (fits k) (ascends s k) h).0

  -- a row with the next one: the key says which comes first
  module _ (j : ℕ) (a : Fit j) (b : Fit (suc j)) where
    key_rises : ascends s (suc j) ≡ true → row_key s.links j < row_key s.links (suc j)
    unfolding ascends
    key_rises h =
        let p = a.placed in
        ⊎_elim (λ c. omega (arith, row_place_lem s j, row_place_lem s (suc j))) (λ (c, d). omega (arith, row_place_lem s j, row_place_lem s (suc j)))
        (rows_from_lem (link_at s j) (link_at s (suc j)) a.formed b.formed h)

    rises_key : row_key s.links j < row_key s.links (suc j) → ascends s (suc j) ≡ true
    unfolding ascends
    rises_key h = from_rows (link_at s j) (link_at s (suc j)) a.formed b.formed behind
      where
        behind : Behind (link_at s j) (link_at s (suc j))
        behind =
            let p = a.placed in
            let q = b.placed in
            ⊎_elim (λ c. inl c) (λ c. inr (omega arith, omega (arith, row_place_lem s j, row_place_lem s (suc j)))) (either (parent_of s j) (parent_of s (suc j)))

  -- a row with no key does not fit
  module _ {k last : ℕ} (c : Climbing s k last) (used : k < s.link_count) where
    pub climbing_none : None ≡ fitting_key s k → false ≡ all (link_fits s) s.link_count
    unfolding link_fits fitting_key
    climbing_none e = sym (all_fails (link_fits s) k s.link_count used (and_first (fits k) (ascends s k) unfit))
      where
        unfit : fits k ≡ false
        unfit = by_test (fits k) (λ t. let some : None ≡ Some (row_key s.links k) = e ∙ rw t in absurd (cc)) (λ t. t)

    -- one with a key does exactly if that is above the last one's
    module _ {key : ℕ} (e : Some key ≡ fitting_key s k) where
      key_fits : (fits k ≡ true) × (key ≡ row_key s.links k)
      unfolding fitting_key
      key_fits =
          by_test (fits k) (λ t. let is : Some key ≡ Some (row_key s.links k) = e ∙ rw t in (t, cc))
          (λ t. let none : Some key ≡ None = e ∙ rw t in absurd (cc))

      pub key_most : key + 1 < 18446744073709551616
      key_most = let (t, is) = key_fits in let p = parent_most in let q = (is_fit k t).placed in omega arith
        where
          parent_most : parent_of s k < s.object_count
          parent_most = ltb-true (parent_of s k) s.object_count (and_both _ _ (and_both (names s k) (shapes s k) key_fits.0).0).0

      last_before : (i : ℕ) → k ≡ suc i → last ≡ row_key s.links i + 1
      unfolding before
      last_before i z = c.last_is ∙ ap (before (λ j. row_key s.links j + 1)) z

      last_fits : (i : ℕ) → k ≡ suc i → Fit i
      last_fits i z = is_fit i (fitted i (all_at_lem (link_fits s) k c.passed i (omega arith)))

      in_order_lem : (i : ℕ) → k ≡ i → last ≤ key → ascends s i ≡ true
      unfolding ascends
      in_order_lem zero z h = refl
      in_order_lem (suc i) z h =
          let (t, is) = key_fits in
          let m = last_before i z in
          rises_key i (last_fits i z) (is_fit (suc i) (rw z at t)) (omega (arith, ap (row_key s.links) z))

      out_of_order : (i : ℕ) → k ≡ i → key < last → ascends s i ≡ false
      unfolding ascends before
      out_of_order zero z h = let none : last ≡ 0 = c.last_is ∙ ap (before (λ j. row_key s.links j + 1)) z in absurd (omega arith)
      out_of_order (suc i) z h =
          let (t, is) = key_fits in
          let m = last_before i z in
          by_test (ascends s (suc i))
          (λ up. let less = key_rises i (last_fits i z) (is_fit (suc i) (rw z at t)) up in absurd (omega (arith, ap (row_key s.links) z)))
          (λ up. up)

      pub climbing_turn : last ≤ key → Climbing s (k + 1) (key + 1)
      unfolding link_fits
      climbing_turn h =
          let (t, is) = key_fits in
          record {
            within = omega arith;
            passed = all_more (link_fits s) k c.passed (and_intro (fits k) (ascends s k) t (in_order_lem k refl h));
            last_is = ap (λ (n : ℕ). n + 1) is ∙ sym (before_more (λ j. row_key s.links j + 1) k);
          }

      pub climbing_fails : key < last → false ≡ all (link_fits s) s.link_count
      unfolding link_fits
      climbing_fails h = sym (all_fails (link_fits s) k s.link_count used (and_second (fits k) (ascends s k) (out_of_order k refl h)))

pub climbing_stop : {s : Store} {k last : ℕ} → Climbing s k last → s.link_count ≤ k → true ≡ all (link_fits s) s.link_count
climbing_stop {s} {k} {last} c h = let e : k ≡ s.link_count = omega (arith, c.within) in sym c.passed ∙ ap (all (link_fits s)) e

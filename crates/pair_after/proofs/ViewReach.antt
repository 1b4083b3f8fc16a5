-- What items of a table of a range reach after a split is what they reached in the old table. Assumes nothing.
use Rattle.std.specs.Prelude.{Some}
use Prim.Native.Nat.{ℕ, ◌+◌, ◌-◌, ◌*◌, ◌<◌, ◌≤◌}
use mathlib.Core.Path.{◌≡◌, refl, sym, ap, ap₂, subst, ◌∙◌}
use mathlib.Core.Bool.{true, ◌&&◌}
use mathlib.Core.List.{List}
use native.Mathlib.Omega.{arith}
use native.Mathlib.Nat.{mul-add}
use lib.Dec.{eqb, leb, ltb}
use borrow.Author.Tests.{eqb-true, eq-eqb, leb-true, ltb-true, le-leb, lt-ltb}
use Rattle.folds.proofs.Tests.{and_both}
use Rattle.folds.proofs.Joined.{and_three, three_hold}
use Rattle.ot_layouts.specs.PairPos.{Shape, item_at}
use Rattle.ot_layouts.proofs.Shapes.{items_rise}
use Rattle.store_rules.specs.Store.{Store, link_at, offset_of, child_at, position_of}
use Rattle.store_rules.specs.Reach.{Reach, reach_of, item_size}
use Rattle.store_rules.proofs.Reaching.{reach_more}
use Rattle.store_rules.proofs.SameReach.{reach_used, reach_size_same}
use Rattle.store_rules.proofs.SameChildren.{Places, OfOffsets, rows_at, LeadsTo, same_children}
use Rattle.store_rules.proofs.Ways.{Way, no_way_back}
use Rattle.pair_rules.specs.Table.{shape, of_items}
use Rattle.pair_rules.specs.Written.{split_store}
use Rattle.pair_rules.proofs.Measured.{items_reach}
use Rattle.pair_after.proofs.Ready.{Ready, objects_then}
use Rattle.pair_after.proofs.NewLinks.{others_child}
use Rattle.pair_after.proofs.NewBytes.{other_size}
use Rattle.pair_after.proofs.View.{View, view_shape}
use Rattle.pair_after.proofs.SoundThen.{fits_then_lem}

-- a place of items a up to b of table u
abbrev at_items : ℕ → Shape → ℕ → ℕ → Places
at_items u sh a b n p q = eqb n 0 && eqb p u && leb (item_at sh a) q && ltb q (item_at sh b)

at_items_lem : (u : ℕ) (sh : Shape) (a b n p q : ℕ) → at_items u sh a b n p q ≡ true → (p ≡ u) × (item_at sh a ≤ q) × (q < item_at sh b)
at_items_lem u sh a b n p q h =
    let (x, y, z) = and_three (eqb n 0 && eqb p u) (leb (item_at sh a) q) (ltb q (item_at sh b)) h in
    (eqb-true p u (and_both (eqb n 0) (eqb p u) x).1, leb-true (item_at sh a) q y, ltb-true q (item_at sh b) z)

-- of an offset
only_offsets : (u : ℕ) (sh : Shape) (a b : ℕ) → OfOffsets (at_items u sh a b)
only_offsets u sh a b n p q h =
    let (x, y, z) = and_three (eqb n 0 && eqb p u) (leb (item_at sh a) q) (ltb q (item_at sh b)) h in
    eqb-true n 0 (and_both (eqb n 0) (eqb p u) x).0

in_items : (u : ℕ) (sh : Shape) (a b q : ℕ) → item_at sh a ≤ q → q < item_at sh b → at_items u sh a b 0 u q ≡ true
in_items u sh a b q x y =
    three_hold (eqb u u) (leb (item_at sh a) q) (ltb q (item_at sh b)) (eq-eqb u u refl) (le-leb (item_at sh a) q x) (lt-ltb q (item_at sh b) y)

module _ (s : Store) (t : ℕ) (cs : List ℕ) (g : Ready s t cs) {u lo hi : ℕ} (v : View s t (split_store s t cs) u lo hi) where
  abbrev s' : Store
  s' = split_store s t cs

  module _ (a b : ℕ) (top : lo + b ≤ hi) where
    abbrev sh : Shape
    sh = shape s t

    -- the places of these items, in the old table and in the new one
    abbrev old : Places
    old = at_items t (shape s t) (lo + a) (lo + b)

    abbrev new : Places
    new = at_items u (shape s t) a b

    low : item_at sh (lo + a) ≡ item_at sh a + sh.item * lo
    low = omega (arith, mul-add sh.item lo a)

    high : item_at sh (lo + b) ≡ item_at sh b + sh.item * lo
    high = omega (arith, mul-add sh.item lo b)

    there : (c : ℕ) → LeadsTo s old c → LeadsTo s' new c
    there c (p, q, h, e) =
        let (x, y, z) = at_items_lem t sh (lo + a) (lo + b) 0 p q h in
        let m = q - sh.item * lo in
        let back : m + sh.item * lo ≡ q = omega (arith, low) in
        let top' = items_rise sh (lo + b) hi top in (
          u,
          m,
          in_items u sh a b m (omega (arith, low)) (omega (arith, low, high)),
          v.links m (omega (arith, low)) (omega arith) ∙ ap (child_at s t) back ∙ subst (λ (i : ℕ). child_at s i q ≡ Some c) x e,
        )

    back : (c : ℕ) → LeadsTo s' new c → LeadsTo s old c
    back c (p, q, h, e) =
        let (x, y, z) = at_items_lem u sh a b 0 p q h in
        let top' = items_rise sh (lo + b) hi top in (
          t,
          q + sh.item * lo,
          in_items t sh (lo + a) (lo + b) (q + sh.item * lo) (omega (arith, low)) (omega (arith, high)),
          sym (v.links q (omega arith) (omega (arith, high))) ∙ subst (λ (i : ℕ). child_at s' i q ≡ Some c) x e,
        )

    -- what the items reach, the table reaches, and so it is not the table
    not_table : {i : ℕ} → Reach s (rows_at s old) i → i ≡ t → ⊥
    not_table {i} r e =
        no_way_back s g.fit t g.acyclic
        (subst (Way s t) e (reach_more (λ k l h. (and_three (offset_of t (link_at s k)) (leb (item_at sh (lo + a)) (position_of s k)) (ltb (position_of s k) (item_at sh (lo + b))) h).0) r))

    same : (p q : ℕ) → Reach s (rows_at s old) p → child_at s' p q ≡ child_at s p q
    same p q r = others_child s t cs g p q (reach_used s g.fit (rows_at s old) r) (not_table r)

    pub reach_same : items_reach s' u a b ≡ items_reach s t (lo + a) (lo + b)
    reach_same =
        ap (λ (x : Shape). reach_of s' (of_items u x a b)) (view_shape v)
        ∙ reach_size_same (same_children g.fit (fits_then_lem s t cs g) old new (only_offsets t sh (lo + a) (lo + b)) (only_offsets u sh a b) there back same) g.fit (fits_then_lem s t cs g) (omega (arith, objects_then s t cs g))
        (λ i h r. other_size s t cs g i h (not_table r))

  -- S of an item is what it was
  pub size_same : (i : ℕ) → lo + i < hi → item_size s' (of_items u (shape s' u)) 0 i ≡ item_size s (of_items t (shape s t)) lo (lo + i)
  unfolding item_size
  size_same i h =
      let z : lo + 0 ≡ lo = omega arith in
      let y : lo + (i + 1) ≡ lo + i + 1 = omega arith in
      ap₂ (λ (m n : ℕ). m - n)
      (reach_same 0 (i + 1) (omega arith) ∙ ap₂ (items_reach s t) z y)
      (reach_same 0 i (omega arith) ∙ ap (λ (n : ℕ). items_reach s t n (lo + i)) z)

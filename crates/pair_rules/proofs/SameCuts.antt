-- A table is cut alike in two stores, where the second has all of the first and leads from what the table reaches as the first does. Assumes nothing.
use Rattle.std.specs.Prelude.{Option, unwrap_or}
use Prim.Native.Nat.{ℕ, ◌-◌, ◌+◌, ◌<◌, ◌≤◌}
use mathlib.Core.Path.{◌≡◌, sym, ap, ap₂, subst, ◌∙◌}
use mathlib.Core.Bool.{Bool, true, false, cond, ◌&&◌}
use mathlib.Core.List.{List, map}
use mathlib.Core.Logic.{◌⊎◌, inl, inr, ⊎_elim}
use native.Mathlib.Omega.{arith}
use lib.ListN.{length, get_or}
use lib.Dec.{eqb, leb, ltb}
use Rattle.folds.specs.Folds.{upto}
use Rattle.folds.specs.Lists.{is_some}
use Rattle.folds.proofs.Tests.{either}
use Rattle.folds.proofs.Joined.{and_three}
use Rattle.ot_layouts.specs.Coverage.{Entry, cover_glyphs}
use Rattle.ot_layouts.specs.ClassDef.{class_of}
use Rattle.ot_layouts.specs.PairPos.{Shape, cover_at, class1_at, class2_at, shape_of, item_at, is_slot}
use Rattle.store_rules.specs.Store.{Store, size_of, bytes_of, link_at, is_offset, offset_of, kind_of, parent_of, position_of, child_of, child_at, linked_at, linked_bytes}
use Rattle.store_rules.specs.Reach.{Reach, reach_size, item_size, on_cycle}
use Rattle.store_rules.proofs.Sound.{Fits}
use Rattle.store_rules.proofs.Lookups.{linked_used}
use Rattle.store_rules.proofs.Shaped.{of_offset, of_parent}
use Rattle.store_rules.proofs.Ways.{Way}
use Rattle.store_rules.proofs.SameReach.{Seed, SameWays, RowsBehind, behind_goes, behind_went, marks_same, reach_size_same}
use Rattle.cut_rules.specs.Cuts.{Rule, cuts_of}
use Rattle.call_rules.specs.declared.Settings.{Settings}
use Rattle.pair_rules.specs.Rules.{rule1, rule2}
use Rattle.pair_rules.specs.Table.{shape, entries_of, all_at_slots, of_items, rule_of, cut_places}
use Rattle.pair_rules.proofs.Checks.{all_at_slots_lem, at_slot}

-- y has the objects and rows of x, and leads from t, and from what t reaches, as x does
pub record Extends (x y : Store) (t : ℕ) : Type 0 where
  pub fits : Fits x
  pub fits_then : Fits y
  pub used : t < x.object_count
  pub objects : x.object_count ≤ y.object_count
  pub rows : x.link_count ≤ y.link_count
  pub bytes : (i : ℕ) → i < x.object_count → bytes_of y i ≡ bytes_of x i
  pub sizes : (i : ℕ) → i < x.object_count → size_of y i ≡ size_of x i
  pub links : (q : ℕ) → child_at y t q ≡ child_at x t q
  pub kinds : (k : ℕ) → k < x.link_count → kind_of y k ≡ kind_of x k
  pub parents : (k : ℕ) → k < x.link_count → parent_of y k ≡ parent_of x k
  pub positions : (k : ℕ) → k < x.link_count → position_of y k ≡ position_of x k
  pub children : (k : ℕ) → k < x.link_count → is_offset (link_at x k) ≡ true → (parent_of x k ≡ t) ⊎ Way x t (parent_of x k) → child_of y k ≡ child_of x k
  pub behind : (k : ℕ) → x.link_count ≤ k → k < y.link_count → x.object_count ≤ parent_of y k

module _ {x y : Store} {t : ℕ} (e : Extends x y t) where
  -- a row of the table is an old row
  old_row : (k : ℕ) → k < y.link_count → offset_of t (link_at y k) ≡ true → k < x.link_count
  old_row k l p = ⊎_elim (λ lt. lt) (λ ge. absurd (omega (arith, e.behind k ge l, of_parent t (link_at y k) p, e.used))) (either k x.link_count)

  -- and is an offset of an object as it was
  offset_same : (k : ℕ) → k < x.link_count → (p : ℕ) → offset_of p (link_at y k) ≡ offset_of p (link_at x k)
  offset_same k l p = ap₂ (λ (n i : ℕ). eqb n 0 && eqb i p) (e.kinds k l) (e.parents k l)

  -- where an offset of the table, or of what it reaches, leads
  own_child_lem : (k : ℕ) → k < x.link_count → offset_of t (link_at x k) ≡ true → child_of y k ≡ child_of x k
  own_child_lem k l o = e.children k l (of_offset t (link_at x k) o) (inl (of_parent t (link_at x k) o))

  way_child : (k : ℕ) → k < x.link_count → (p : ℕ) → offset_of p (link_at x k) ≡ true → Way x t p → child_of y k ≡ child_of x k
  way_child k l p o w = e.children k l (of_offset p (link_at x k) o) (inr (subst (Way x t) (sym (of_parent p (link_at x k) o)) w))

  -- ---- what some links of the table reach

  -- a test of offsets of the table, by kind, parent and position
  module _ (test : ℕ → ℕ → ℕ → Bool) (own : (n p q : ℕ) → test n p q ≡ true → (eqb n 0 && eqb p t) ≡ true) where
    abbrev from : Store → ℕ → Bool
    from z k = test (kind_of z k) (parent_of z k) (position_of z k)

    from_own : (z : Store) (k : ℕ) → from z k ≡ true → offset_of t (link_at z k) ≡ true
    from_own z k a = own (kind_of z k) (parent_of z k) (position_of z k) a

    from_same : (k : ℕ) → k < x.link_count → from y k ≡ from x k
    from_same k l = λ d. test (e.kinds k l d) (e.parents k l d) (e.positions k l d)

    -- what they reach, the table reaches
    way_of : {i : ℕ} → Reach x (from x) i → Way x t i
    way_of (Reach.seed k l a f) = Reach.seed k l (from_own x k a) f
    way_of (Reach.step r k l p f) = Reach.step (way_of r) k l p f

    rows_behind : RowsBehind x y (from x)
    rows_behind = record { rows = e.rows; parents = offset_same; children = λ k l p o r. way_child k l p o (way_of r); behind = e.behind }

    starts : (c : ℕ) → Seed x (from x) c → Seed y (from y) c
    starts c (k, l, a, f) =
        (k, omega (arith, e.rows), from_same k l ∙ a, own_child_lem k l (from_own x k a) ∙ f)

    started : (c : ℕ) → Seed y (from y) c → Seed x (from x) c
    started c (k, l, a, f) =
        let m = old_row k l (from_own y k a) in
        let b : from x k ≡ true = sym (from_same k m) ∙ a in
        (k, m, b, sym (own_child_lem k m (from_own x k b)) ∙ f)

    same_ways : SameWays x y (from x) (from y)
    same_ways = record { starts = starts; started = started; goes = behind_goes rows_behind; went = behind_went rows_behind e.fits }

    size_same : reach_size y (from y) ≡ reach_size x (from x)
    size_same = reach_size_same same_ways e.fits e.fits_then e.objects (λ i h r. e.sizes i h)

  -- ---- 7

  pub acyclic_same : on_cycle x t ≡ false → on_cycle y t ≡ false
  unfolding on_cycle
  acyclic_same h =
      marks_same (same_ways (λ n p q. eqb n 0 && eqb p t) (λ n p q a. a)) e.fits e.fits_then e.objects t e.used ∙ h

  pub slots_same : all_at_slots x t ≡ true → all_at_slots y t ≡ true
  slots_same h =
      all_at_slots_lem y t
      (λ k l p.
      let m = old_row k l p in
      ap₂ (λ (b : List ℕ) (q : ℕ). is_slot (shape_of b) q) (e.bytes t e.used) (e.positions k m) ∙ at_slot x t h k m (sym (offset_same k m t) ∙ p))

  -- ---- the rule

  item_same : (sh : Shape) (a i : ℕ) → item_size y (of_items t sh) a i ≡ item_size x (of_items t sh) a i
  unfolding item_size
  item_same sh a i =
      ap₂ (λ (m n : ℕ). m - n) (size_same (of_items_lem a (i + 1)) (items_own a (i + 1))) (size_same (of_items_lem a i) (items_own a i))
    where
      of_items_lem : ℕ → ℕ → ℕ → ℕ → ℕ → Bool
      of_items_lem lo hi n p q = eqb n 0 && eqb p t && leb (item_at sh lo) q && ltb q (item_at sh hi)

      items_own : (lo hi n p q : ℕ) → of_items_lem lo hi n p q ≡ true → (eqb n 0 && eqb p t) ≡ true
      items_own lo hi n p q a = (and_three (eqb n 0 && eqb p t) (leb (item_at sh lo) q) (ltb q (item_at sh hi)) a).0

  linked_at_lem : (q : ℕ) → linked_at y t q ≡ linked_at x t q
  linked_at_lem q = ap (λ (o : Option ℕ). unwrap_or o 0) (e.links q)

  linked_bytes_lem : (q : ℕ) → linked_bytes y t q ≡ linked_bytes x t q
  linked_bytes_lem q = ap (bytes_of y) (linked_at_lem q) ∙ e.bytes (linked_at x t q) (linked_used x t e.fits e.used q)

  linked_size : (q : ℕ) → size_of y (linked_at y t q) ≡ size_of x (linked_at x t q)
  linked_size q = ap (λ (c : ℕ). size_of y c) (linked_at_lem q) ∙ e.sizes (linked_at x t q) (linked_used x t e.fits e.used q)

  -- the entries over the table's bytes, its coverage and its class definition 1
  abbrev entries_by : List ℕ → List ℕ → List ℕ → List Entry
  entries_by own cover class1 =
      cond (eqb (shape_of own).format 1)
      (upto (λ k. record { glyph = get_or (cover_glyphs cover) k 0; class = k }) (length (cover_glyphs cover)))
      (map (λ g. record { glyph = g; class = class_of class1 g }) (cover_glyphs cover))

  entries_same : entries_of y t ≡ entries_of x t
  unfolding entries_of
  entries_same = λ d. entries_by (e.bytes t e.used d) (linked_bytes_lem cover_at d) (linked_bytes_lem class1_at d)

  -- the rule over all that it asks
  abbrev rule_by : Settings → List ℕ → (ℕ → Bool) → (ℕ → ℕ → ℕ) → List Entry → ℕ → ℕ → Rule
  rule_by how own slots size es cover class2 =
      cond (eqb (shape_of own).format 1) (rule1 how (shape_of own).count slots size cover) (rule2 how (shape_of own).count (shape_of own).item size es class2)

  -- slot i is not empty
  abbrev full : Store → ℕ → Bool
  full z i = is_some (child_at z t (item_at (shape z t) i))

  full_same : (i : ℕ) → full y i ≡ full x i
  full_same i = ap (λ (b : List ℕ). is_some (child_at y t (item_at (shape_of b) i))) (e.bytes t e.used) ∙ ap is_some (e.links (item_at (shape x t) i))

  cost_same : (a i : ℕ) → item_size y (of_items t (shape y t)) a i ≡ item_size x (of_items t (shape x t)) a i
  cost_same a i = ap (λ (b : List ℕ). item_size y (of_items t (shape_of b)) a i) (e.bytes t e.used) ∙ item_same (shape x t) a i

  rule_same : (how : Settings) → rule_of how y t ≡ rule_of how x t
  unfolding rule_of
  rule_same how =
      λ d. rule_by how (e.bytes t e.used d) (λ i. full_same i d) (λ a i. cost_same a i d) (entries_same d) (linked_size cover_at d) (linked_size class2_at d)

  pub cuts_same : (how : Settings) → cut_places how y t ≡ cut_places how x t
  unfolding cut_places
  cuts_same how = ap cuts_of (rule_same how)

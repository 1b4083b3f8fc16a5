-- The old table by its layout, and a new one by its format. Assumes nothing.
use Prim.Native.Nat.{ℕ, ◌+◌, ◌-◌, ◌*◌, ◌≤◌}
use mathlib.Core.Path.{◌≡◌, sym, subst, ap, ap₂, ◌∙◌}
use mathlib.Core.Bool.{true, false}
use mathlib.Core.List.{List}
use native.Mathlib.Omega.{arith}
use native.Mathlib.Nat.{mul-le-mul_left}
use lib.ListN.{length}
use lib.Dec.{eqb}
use borrow.Author.Tests.{eq-eqb, ne_eqb}
use Rattle.folds.proofs.Parts.{length_part}
use Rattle.ot_layouts.specs.PairPos.{Shape, shape1, shape2, shape_of, item_at}
use Rattle.ot_layouts.proofs.Shapes.{Format1, format_one, format_two, format_test}
use Rattle.pair_rules.specs.Written.{new_table}
use Rattle.pair_rules.proofs.NewTable.{new_long}
use Rattle.pair_new_table.specs.Cloned.{Cloned, Cloned1, Cloned2}
use Rattle.ot_pairpos.specs.declared.Layout.{Layout}
use Rattle.ot_pairpos.specs.Layout.{layout_of}
use Rattle.pair_new_objects.specs.Objects.{old_table, Old, table_of}

-- what a layout says of the shape
pub record Shaped (l : Layout) (sh : Shape) : Type 0 where
  pub format_is : l.format ≡ sh.format
  pub header_is : l.header ≡ sh.header
  pub count_is_lem : l.count ≡ sh.count
  pub item_is : l.item ≡ sh.item

pub shaped : (b : List ℕ) (l : Layout) → l ≡ layout_of b → Shaped l (shape_of b)
unfolding layout_of
shaped b l e =
    record {
      format_is = ap (λ (x : Layout). x.format) e;
      header_is = ap (λ (x : Layout). x.header) e;
      count_is_lem = ap (λ (x : Layout). x.count) e;
      item_is = ap (λ (x : Layout). x.item) e;
    }

-- a new table's bytes, by the layout of the old one
pub new_size : (b : List ℕ) (l : Layout) → l ≡ layout_of b → length b ≡ item_at (shape_of b) (shape_of b).count → (lo hi : ℕ) → lo ≤ hi → hi ≤ l.count
    → length (new_table (shape_of b) b lo hi) ≡ l.header + l.item * (hi - lo)
new_size b l e w lo hi h m =
    let s = shaped b l e in
    let c = s.count_is_lem in
    new_long b w lo hi h (omega arith) ∙ ap₂ (λ (x y : ℕ). x + y * (hi - lo)) (sym s.header_is) (sym s.item_is)

module _ (d : List ℕ) (head : ℕ) (l : Layout) (at : ℕ) (old : Old d head l at) where
  abbrev b : List ℕ
  b = old_table d head l

  s : Shaped l (shape_of b)
  s = shaped b l old.layout_is

  pub old_whole : length b ≡ item_at (shape_of b) (shape_of b).count
  old_whole =
      let h = old.before in
      let i = old.inside in
      length_part d head (head + (l.header + l.item * l.count)) (omega arith) (omega arith)
      ∙ omega arith
      ∙ ap₂ (λ (x y : ℕ). x + y) s.header_is (ap₂ (λ (x y : ℕ). x * y) s.item_is s.count_is_lem)

  module _ (lo hi : ℕ) (low : lo ≤ hi) (high : hi ≤ l.count) where
    pub table_long : length (table_of d head l lo hi) ≡ l.header + l.item * (hi - lo)
    table_long = new_size b l old.layout_is old_whole lo hi low high

    items_below : l.item * hi ≤ l.item * l.count
    items_below = mul-le-mul_left l.item high

    module _ (one : l.format ≡ 1) where
      is_one_lem : eqb (shape_of b).format 1 ≡ true
      is_one_lem = eq-eqb (shape_of b).format 1 (sym s.format_is ∙ one)

      f1 : Format1 (shape_of b)
      f1 = format_one b is_one_lem

      header1 : l.header ≡ 10
      header1 = s.header_is ∙ f1.header_is

      item1 : l.item ≡ 2
      item1 = s.item_is ∙ f1.item_is

      shape_one : shape_of b ≡ shape1 b
      unfolding shape_of
      shape_one = rw (sym (format_test b) ∙ is_one_lem)

      pub room1 : at + length (table_of d head l lo hi) ≤ length d → (lo ≤ hi) × ((head + 10 ≤ at) × (at + 10 + 2 * (hi - lo) ≤ length d))
      room1 r =
          let x = old.before in
          let z = header1 in
          let q : l.item * (hi - lo) ≡ 2 * (hi - lo) = ap (λ (n : ℕ). n * (hi - lo)) item1 in
          (low, (omega arith, omega (arith, table_long)))

      pub cloned_one : {d' : List ℕ} {r : ℕ} → Cloned1 d head lo hi at d' r → Cloned d (shape_of b) b lo hi at d' r
      cloned_one {d'} {r} c =
          let x = old.before in
          let y = old.inside in
          let z = header1 in
          subst (λ (sh : Shape). Cloned d sh b lo hi at d' r) (sym shape_one) (c (head + (l.header + l.item * l.count)) (omega arith) (omega arith))

    module _ (not-one : l.format ≡ 1 → ⊥) where
      is_two : eqb (shape_of b).format 1 ≡ false
      is_two = ne_eqb (shape_of b).format 1 (λ e. not-one (s.format_is ∙ e))

      header2 : l.header ≡ 16
      header2 = s.header_is ∙ (format_two b is_two).header_is

      shape_two : shape_of b ≡ shape2 b
      unfolding shape_of
      shape_two = rw (sym (format_test b) ∙ is_two)

      pub room2 : at + length (table_of d head l lo hi) ≤ length d → (lo ≤ hi)
          × ((head + (16 + l.item * hi) ≤ at) × (at + (16 + l.item * (hi - lo)) ≤ length d))
      room2 r =
          let x = old.before in
          let z = header2 in
          let m = items_below in
          (low, (omega arith, omega (arith, table_long)))

      pub cloned_two : {d' : List ℕ} {r : ℕ} → Cloned2 d head l.item lo hi at d' r → Cloned d (shape_of b) b lo hi at d' r
      cloned_two {d'} {r} c =
          let x = old.before in
          let y = old.inside in
          let z = header2 in
          let m = items_below in
          subst (λ (sh : Shape). Cloned d sh b lo hi at d' r) (sym shape_two)
          (c (head + (l.header + l.item * l.count)) (omega arith) (omega arith) (s.item_is ∙ ap (λ (sh : Shape). sh.item) shape_two))

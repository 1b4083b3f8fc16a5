-- Where a pair's values stand, by what the checks hold of an open table, and that both value records stand there whole. Assumes nothing.
use Rattle.std.specs.Prelude.{Option, Some, None}
use Prim.Native.Nat.{ℕ, ◌+◌, ◌*◌, ◌≤◌, ◌<◌}
use mathlib.Core.Path.{◌≡◌, refl, sym, ap, subst, ◌∙◌}
use mathlib.Core.Bool.{Bool, true, false, cond, ◌&&◌}
use native.Mathlib.Nat.{mul_comm, mul_assoc}
use native.Mathlib.Omega.{arith}
use lib.ListN.{length}
use lib.Dec.{eqb, ltb}
use borrow.Author.Tests.{ltb-true}
use Rattle.folds.specs.Lists.{given, and_then}
use Rattle.folds.proofs.Tests.{and_both, by_test, true_false}
use Rattle.ot_layouts.specs.Coverage.{cover_place}
use Rattle.ot_layouts.specs.ClassDef.{class_of}
use Rattle.ot_layouts.specs.PairPos.{columns, item_at, record_size, shape1, shape2, first_record, values_at}
use Rattle.ot_layouts.proofs.Shapes as Shapes
use Rattle.ot_layouts.proofs.Shapes.{Format1, by_format, format_test}
use Rattle.ot_pairpos.specs.Layout.{layout_of}
use Rattle.ot_pairpos.specs.declared.Layout.{Layout}
use Rattle.store_rules.specs.Store.{Store, bytes_of, child_at, linked_bytes}
use Rattle.pair_rules.specs.Table.{shape}
use Rattle.pair_rules.specs.Pairs.{Spot, spot1, spot2, spot_of}
use Rattle.store_rules.proofs.Sound.{Fits, sound_fits}
use Rattle.store_rules.proofs.Lookups.{child_used_lem}
use Rattle.pair_checks.specs.declared.PairTable.{PairTable}
use Rattle.pair_checks.specs.Opens.{Opens}
use Rattle.pair_spots.specs.Spots.{field_bytes, in_set, by_set, by_classes}
use Rattle.pair_sets.proofs.Widths.{record_within}
use Rattle.pair_sets.proofs.Halved.{values_within}

-- ---- one answer after another

then_some : {A B : Type 0} (o : Option A) (f : A → Option B) (x : B) → and_then o f ≡ Some x → (a : A) × (o ≡ Some a) × (f a ≡ Some x)
unfolding and_then
then_some None f x e = let z : ◌≡◌ {A = ℕ} 0 1 = cc in absurd (omega arith)
then_some (Some a) f x e = (a, refl, e)

given-some : {A : Type 0} (b : Bool) (a x : A) → given b a ≡ Some x → (b ≡ true) × (a ≡ x)
given-some true a x e = (refl, cc)
given-some false a x e = let z : ◌≡◌ {A = ℕ} 0 1 = cc in absurd (omega arith)

-- ---- by the code's parts

module _ {s : Store} {t : ℕ} {p : PairTable} (o : Opens s t p) where
  pub same_count : p.layout.count ≡ (shape s t).count
  unfolding layout_of
  same_count = ap (λ (x : Layout). x.count) o.layout

  pub same_size : field_bytes p.layout ≡ record_size (bytes_of s t)
  unfolding layout_of record_size
  same_size = ap (λ (x : Layout). field_bytes x) o.layout

  same_cover : bytes_of s p.coverage.object ≡ linked_bytes s t 2
  same_cover = ap (bytes_of s) o.coverage.linked

  module _ (one : eqb (shape s t).format 1 ≡ true) where
    form1 : Format1 (shape s t)
    form1 = Shapes.format_one (bytes_of s t) one

    pub slot_place : (k : ℕ) → item_at (shape s t) k ≡ 10 + 2 * k
    slot_place k = λ i. form1.header_is i + form1.item_is i * k

    pub spot_by_set_lem : (a b : ℕ) → spot_of s t a b ≡ and_then (cover_place (bytes_of s p.coverage.object) a) (by_set s t p.layout b)
    unfolding spot_of spot1 by_set in_set
    spot_by_set_lem a b =
        ap (λ (c : Bool). cond c (spot1 s t a b) (spot2 s t a b)) one
        ∙ (λ i. and_then (cover_place (sym same_cover i) a) λ k.
        and_then (given (ltb k (sym same_count i)) (form1.header_is i + form1.item_is i * k)) λ q.
        and_then (child_at s t q) λ c.
        and_then (first_record (bytes_of s c) (sym same_size i) b) λ r.
        Some (record { object = c; at = values_at (sym same_size i) r }))

  module _ (two : eqb (shape s t).format 1 ≡ false) where
    pub same_unit : p.layout.unit ≡ record_size (bytes_of s t)
    unfolding layout_of shape1 shape2
    same_unit =
        ap (λ (x : Layout). x.unit) o.layout
        ∙ by_format (λ sh. eqb sh.format 1 ≡ false → sh.unit ≡ record_size (bytes_of s t)) (bytes_of s t) (λ e f. true_false f) (λ e f. refl) two

    same_columns : p.layout.columns ≡ columns (bytes_of s t)
    unfolding layout_of
    same_columns =
        ap (λ (x : Layout). x.columns) o.layout
        ∙ ap (λ (c : Bool). cond c 0 (columns (bytes_of s t))) (sym (format_test (bytes_of s t)) ∙ two)

    same_class1 : bytes_of s p.class1.object ≡ linked_bytes s t 8
    same_class1 = ap (bytes_of s) (o.class1 two).linked

    same_class2 : bytes_of s p.class2.object ≡ linked_bytes s t 10
    same_class2 = ap (bytes_of s) (o.class2 two).linked

    pub spot_by_classes_lem : (a b : ℕ) → spot_of s t a b ≡ and_then (cover_place (bytes_of s p.coverage.object) a) (λ k. by_classes s t p a b)
    unfolding spot_of spot2 by_classes
    spot_by_classes_lem a b =
        ap (λ (c : Bool). cond c (spot1 s t a b) (spot2 s t a b)) two
        ∙ (λ i. and_then (cover_place (sym same_cover i) a) λ k.
        given (ltb (class_of (sym same_class1 i) a) (sym same_count i) && ltb (class_of (sym same_class2 i) b) (sym same_columns i))
        (record {
          object = t;
          at = (Shapes.format_two (bytes_of s t) two).header_is i
              + sym same_unit i * (class_of (sym same_class1 i) a * sym same_columns i + class_of (sym same_class2 i) b);
        }))

-- ---- whole

-- a record in a row of some columns
pub row_within : (u m n x y : ℕ) → x < n → y < m → u * (x * m + y) + u ≤ u * m * n
row_within u m n x y h k =
    let a : m * x + m ≤ m * n = record_within m x n h in
    let b : x * m + y < m * n = omega (arith, mul_comm x m) in
    let c : u * (x * m + y) + u ≤ u * (m * n) = record_within u (x * m + y) (m * n) b in
    rw (mul_assoc u m n) c

-- both value records of a pair at this spot of a table's store
pub record Whole (s : Store) (t : ℕ) (q : Spot) : Type 0 where
  pub used : q.object < s.object_count
  pub within : q.at + record_size (bytes_of s t) ≤ length (bytes_of s q.object)

module _ {s : Store} {t : ℕ} {p : PairTable} (o : Opens s t p) (a b : ℕ) (q : Spot) (e : spot_of s t a b ≡ Some q) where
  fits : Fits s
  fits = sound_fits s o.reads.sounds

  set-whole : eqb (shape s t).format 1 ≡ true → Whole s t q
  unfolding by_set in_set
  set-whole one =
      let (k, covered, i) = then_some _ _ q (sym (spot_by_set_lem o one a b) ∙ e) in
      let (slot, below, j) = then_some _ _ q i in
      let (c, child, l) = then_some _ _ q j in
      let (r, found, z) = then_some _ _ q l in
      let y : record { object = c; at = values_at (field_bytes p.layout) r } ≡ q = cc in
      subst (Whole s t) y
      (record {
        used = child_used_lem s t fits slot c child;
        within = subst (λ (n : ℕ). values_at (field_bytes p.layout) r + n ≤ length (bytes_of s c)) (same_size o)
            (values_within (bytes_of s c) (field_bytes p.layout) b r found);
      })

  row_whole : eqb (shape s t).format 1 ≡ false → Whole s t q
  unfolding spot_of spot2
  row_whole two =
      let n = (shape s t).count in
      let m = columns (bytes_of s t) in
      let u = record_size (bytes_of s t) in
      let c1 = class_of (linked_bytes s t 8) a in
      let c2 = class_of (linked_bytes s t 10) b in
      let (k, covered, i) = then_some _ _ q (sym (ap (λ (c : Bool). cond c (spot1 s t a b) (spot2 s t a b)) two) ∙ e) in
      let (below, y) = given-some (ltb c1 n && ltb c2 m) (record { object = t; at = (shape s t).header + u * (c1 * m + c2) }) q i in
      let (x, z) = and_both (ltb c1 n) (ltb c2 m) below in
      let w : u * (c1 * m + c2) + u ≤ u * m * n = row_within u m n c1 c2 (ltb-true c1 n x) (ltb-true c2 m z) in
      let f = Shapes.format_two (bytes_of s t) two in
      let l : length (bytes_of s t) ≡ 16 + u * m * n = o.reads.exactly ∙ (λ i. f.header_is i + f.item_is i * n) in
      subst (Whole s t) y (record { used = o.reads.used; within = omega arith })

  pub spot_whole : Whole s t q
  spot_whole = by_test (eqb (shape s t).format 1) set-whole row_whole

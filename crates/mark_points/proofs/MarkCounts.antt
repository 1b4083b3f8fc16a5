-- How many marks a class has, and what the coverage of the marks in a table takes. Assumes nothing.
use Prim.Native.Nat.{ℕ, ◌+◌, ◌-◌, ◌≤◌}
use mathlib.Core.Path.{◌≡◌, sym, ap, ◌∙◌}
use mathlib.Core.Bool.{Bool, cond, ◌&&◌}
use mathlib.Core.List.{List}
use native.Mathlib.Omega.{arith}
use lib.Dec.{leb, ltb}
use lib.ListN.{length, length-map}
use borrow.Author.Tests.{le-leb, lt-leb}
use Rattle.folds.specs.Folds.{sum}
use Rattle.folds.proofs.Folds.{sum_none, sum_more, length-upto}
use Rattle.folds.proofs.Parts.{length_part}
use Rattle.folds.proofs.Picked.{one, sift-upto, length-picked}
use Rattle.folds.proofs.Sums.{sum-zero}
use Rattle.folds.proofs.Tests.{by_test, by_index}
use Rattle.ot_layouts.specs.Coverage.{Entry}
use Rattle.ot_layouts.specs.MarkBasePos.{mark_class}
use Rattle.store_rules.specs.Store.{Store}
use Rattle.glyph_rules.specs.Entries.{within}
use Rattle.glyph_class_parts.specs.ClassParts.{start_of, ClassEnd}
use Rattle.glyph_class_parts.proofs.ClassParts.{starts_rise, starts_most, starts_none, length-glyphs, length-classes, class_part, class_ends}
use Rattle.mark_rules.specs.Table.{Mark, marks_in, mark_bytes, marks_of_class, in_classes}
use Rattle.mark_rules.specs.Table as Table
use Rattle.mark_order.specs.Marks.{mark_places}
use Rattle.mark_points.specs.declared.table_info.TableInfo.{TableInfo}
use Rattle.mark_points.specs.Points.{Described}
use Rattle.mark_points.proofs.ClassLinks.{marks_most}

-- ---- of one class

module _ (s : Store) (t i : ℕ) where
  -- each mark counts where it is of the class
  abbrev counted : ℕ
  counted = sum (λ k. one (in_classes i (i + 1) (mark_class (mark_bytes s t) k))) (marks_in s t)

  places_counted : length (within i (i + 1) (mark_places s t)) ≡ counted
  unfolding within
  places_counted =
      let entry : ℕ → Entry = λ j. record { glyph = j; class = mark_class (mark_bytes s t) j } in
      let test : Entry → Bool = λ e. leb i e.class && ltb e.class (i + 1) in
      ap length (sift-upto test entry (marks_in s t)) ∙ length-picked (λ j. test (entry j)) entry (marks_in s t)

  marks_counted : marks_of_class s t i ≡ counted
  unfolding Table.marks_within Table.marks_of Table.mark_at
  marks_counted =
      let test : Mark → Bool = λ m. in_classes i (i + 1) m.class in
      ap length (sift-upto test (Table.mark_at s t) (marks_in s t)) ∙ length-picked (λ j. test (Table.mark_at s t j)) (Table.mark_at s t) (marks_in s t)

-- ---- of the classes in order

module _ {s : Store} {t : ℕ} {x : TableInfo} {ps cs : List ℕ} (u : Described s t x ps cs) where
  -- where a class's marks start
  abbrev start : ℕ → ℕ
  start i = start_of (mark_places s t) i

  start_inside : (i : ℕ) → start i ≤ length ps
  start_inside i =
      omega (
        arith,
        starts_most (mark_places s t) u.ordered.up u.ordered.under i,
        length-glyphs (mark_places s t) u.ordered.up u.ordered.under u.ordered.by_class,
      )

  pub start_few : (i : ℕ) → start i ≤ 4194304
  start_few i =
      let entry : ℕ → Entry = λ j. record { glyph = j; class = mark_class (mark_bytes s t) j } in
      omega (arith, starts_most (mark_places s t) u.ordered.up u.ordered.under i, length-upto entry (marks_in s t), marks_most u)

  pub start_none : 0 ≡ start 0
  start_none = sym (starts_none (mark_places s t) u.ordered.up u.ordered.under)

  pub start_of_lem : (i from : ℕ) → from ≡ start i → from ≤ length cs
  start_of_lem i from e =
      omega (
        arith,
        starts_most (mark_places s t) u.ordered.up u.ordered.under i,
        length-classes (mark_places s t) u.ordered.up u.ordered.under u.ordered.by_class,
      )

  class_many : (i : ℕ) → start i + marks_of_class s t i ≡ start (i + 1)
  class_many i =
      let rise = starts_rise (mark_places s t) u.ordered.up u.ordered.under i (i + 1) (omega arith) in
      let its = class_part (mark_places s t) u.ordered.up u.ordered.under u.ordered.by_class i in
      let many = length-map (within i (i + 1) (mark_places s t)) (λ e. e.glyph) in
      omega (arith, length_part ps (start i) (start (i + 1)) rise (start_inside (i + 1)), ap length its, many, places_counted s t i, marks_counted s t i)

  -- where the class ends
  module _ (i : ℕ) {from to : ℕ} (at : from ≡ start i) (e : ClassEnd cs from i to) where
    pub ends_at : to ≡ start (i + 1)
    ends_at = class_ends (mark_places s t) u.ordered.up u.ordered.under u.ordered.by_class i (rw at at e)

    pub ends_inside : to ≤ length ps
    ends_inside = omega (arith, ends_at, start_inside (i + 1))

    pub marks_are : to - from ≡ marks_of_class s t i
    marks_are = omega (arith, ends_at, class_many i)

  -- ---- those in the table that is being filled

  -- marks of the classes below n, from class a on
  abbrev pub covered : ℕ → ℕ → ℕ
  covered a n = sum (λ k. cond (leb a k) (marks_of_class s t k) 0) n

  pub covered_more : (a i : ℕ) → a ≤ i → covered a (i + 1) ≡ covered a i + marks_of_class s t i
  covered_more a i h = sum_more (λ k. cond (leb a k) (marks_of_class s t k) 0) i ∙ rw (le-leb a i h)

  pub covered_none : (i : ℕ) → covered i i ≡ 0
  covered_none i = sum-zero (λ k. cond (leb i k) (marks_of_class s t k) 0) i (λ k h. rw (lt-leb i k h))

  covered_most : (a n : ℕ) → covered a n ≤ start n
  covered_most a n = by_index (λ k. covered a k ≤ start k) (omega (arith, sum_none (λ k. cond (leb a k) (marks_of_class s t k) 0))) more n
    where
      part_most : (b : Bool) (m : ℕ) → cond b m 0 ≤ m
      part_most b m = by_test b (λ e. rw e (omega arith)) (λ e. rw e (omega arith))

      more : (k : ℕ) → covered a k ≤ start k → covered a (k + 1) ≤ start (k + 1)
      more k h = omega (arith, sum_more (λ k. cond (leb a k) (marks_of_class s t k) 0) k, part_most (leb a k) (marks_of_class s t k), class_many k)

  pub covered_few : (a n : ℕ) → covered a n ≤ 4194304
  covered_few a n = omega (arith, covered_most a n, start_few n)

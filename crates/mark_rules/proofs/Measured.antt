-- What edition 2 measures of a table in a store: its classes' columns and marks, what their anchors reach together, and what stands beside. Assumes nothing.
use Prim.Native.Nat.{ℕ, zero, suc, ◌+◌, ◌-◌, ◌*◌, ◌<◌, ◌≤◌}
use mathlib.Core.Path.{◌≡◌, refl, ap, ◌∙◌}
use mathlib.Core.Bool.{false, cond}
use mathlib.Core.List.{List, [], ◌∷◌}
use mathlib.Core.Logic.{⊎_elim}
use native.Mathlib.Numerals.{add-one}
use native.Mathlib.Nat.{mul-add, mul-le-mul_left}
use native.Mathlib.Omega.{arith}
use lib.ListN.{length}
use lib.Dec.{leb}
use borrow.Author.Tests.{le-leb, lt-leb}
use Rattle.folds.specs.Folds.{sum}
use Rattle.folds.proofs.Tests.{by_test, either, and_second}
use Rattle.folds.proofs.Joined.{or-first, or-second}
use Rattle.folds.proofs.Each.{Each}
use Rattle.folds.proofs.InRange.{total, ranged_meet, between, between_is}
use Rattle.ot_layouts.specs.MarkBasePos.{class_before, column_at}
use Rattle.store_rules.specs.Store.{Store, Link, link_at, offset_of}
use Rattle.store_rules.specs.Reach.{reach_of, item_size}
use Rattle.store_rules.proofs.Sound.{Fits}
use Rattle.store_rules.proofs.ReachTogether.{size_more, size_none, size_adds}
use Rattle.cut_rules.proofs.FewestCuts.{LaterFits}
use Rattle.cut_rules.proofs.Totals.{Totals, later_fits}
use Rattle.call_rules.specs.declared.Settings.{Settings}
use Rattle.mark_rules.specs.Rules.{partial_cover, mark_rule}
use Rattle.mark_rules.specs.Table.{Mark, classes_of, mark_array, base_array, mark_bytes, bases_in, marks_of, marks_of_class, marks_within, in_classes, of_classes, rule_of}
use Rattle.mark_rules.proofs.Marks.{within_each}
use Rattle.mark_rules.proofs.ClassLinks.{classes_grow}

-- how many marks the classes a up to b have, b left out
abbrev pub class_marks : Store → ℕ → ℕ → ℕ → ℕ
class_marks s t a b = length (marks_within a b (marks_of s t))

-- what their links reach
abbrev pub classes_reach : Store → ℕ → ℕ → ℕ → ℕ
classes_reach s t a b = reach_of s (of_classes s t a b)

-- what they take in all
abbrev pub classes_take : Store → ℕ → ℕ → ℕ → ℕ
classes_take s t a b = 2 * bases_in s t * (b - a) + 4 * class_marks s t a b + classes_reach s t a b

-- ---- marks of classes in a row

ones : (ms : List Mark) → total (λ m. 1) ms ≡ length ms
ones [] = refl
ones (m ∷ ms) = omega (arith, ones ms)

module _ (ms : List Mark) where
  marks_meet : (a b c : ℕ) → a ≤ b → b ≤ c → length (marks_within a b ms) + length (marks_within b c ms) ≡ length (marks_within a c ms)
  unfolding marks_within
  marks_meet a b c x y =
      omega (
        arith,
        ranged_meet (λ (m : Mark). m.class) (λ m. 1) a b c x y ms,
        ones (marks_within a b ms),
        ones (marks_within b c ms),
        ones (marks_within a c ms),
      )

  none_of : (a n : ℕ) → n ≤ a → (xs : List Mark) → Each (λ m. (a ≤ m.class) × (m.class < n)) xs → length xs ≡ 0
  none_of a n l [] e = refl
  none_of a n l (x ∷ xs) e = let low : a ≤ x.class = e.0.0 in let high : x.class < n = e.0.1 in absurd (omega arith)

  -- counted class by class
  counted : (a n : ℕ) → sum (λ k. cond (leb a k) (length (marks_within k (k + 1) ms)) 0) n ≡ length (marks_within a n ms)
  unfolding sum
  counted a zero = omega (arith, none_of a 0 (omega arith) (marks_within a 0 ms) (within_each a 0 ms))
  counted a (suc n) =
      ⊎_elim
      (λ lt. rw (lt-leb a n lt)
      (omega (arith, counted a n, none_of a n (omega arith) (marks_within a n ms) (within_each a n ms), none_of a (suc n) lt (marks_within a (suc n) ms) (within_each a (suc n) ms))))
      (λ le. rw (le-leb a n le) (omega (arith, counted a n, rw add-one at (marks_meet a n (n + 1) le (omega arith)), ap (λ (k : ℕ). length (marks_within n k ms)) (add-one n))))
      (either n a)

-- ---- what stands beside

pub beside_marks : (how : Settings) (s : Store) (t a i : ℕ) → (rule_of how s t).beside a i ≡ 4 + 2 * class_marks s t a (i + 1)
unfolding rule_of mark_rule partial_cover
beside_marks how s t a i = ap (λ (n : ℕ). 4 + 2 * n) (counted (marks_of s t) a (i + 1))

-- ---- what classes take together

module _ (s : Store) (t : ℕ) (f : Fits s) where
  -- no class, no link
  none_in : (a : ℕ) (l : Link) → of_classes s t a a l ≡ false
  unfolding of_classes
  none_in a l =
      rw (and_second (offset_of (mark_array s t) l) (in_classes a a (class_before (mark_bytes s t) l.position)) (empty (class_before (mark_bytes s t) l.position)))
      (and_second (offset_of (base_array s t) l) (in_classes a a (column_at (classes_of s t) l.position)) (empty (column_at (classes_of s t) l.position)))
    where
      empty : (c : ℕ) → between a a c ≡ false
      empty c = by_test (between a a c) (λ e. let (x, y) = between_is a a c e in absurd (omega arith)) (λ e. e)

  -- the first ones of some classes reach no more, nor do the last
  reach_first : (a b c : ℕ) → a ≤ b → b ≤ c → classes_reach s t a b ≤ classes_reach s t a c
  reach_first a b c x y =
      size_more s f (λ k. of_classes s t a b (link_at s k)) (λ k. of_classes s t a c (link_at s k))
      (λ k l h. classes_grow s t a b c x y (link_at s k) ∙ or-first (of_classes s t a b (link_at s k)) (of_classes s t b c (link_at s k)) h)

  reach_last : (a b c : ℕ) → a ≤ b → b ≤ c → classes_reach s t b c ≤ classes_reach s t a c
  reach_last a b c x y =
      size_more s f (λ k. of_classes s t b c (link_at s k)) (λ k. of_classes s t a c (link_at s k))
      (λ k l h. classes_grow s t a b c x y (link_at s k) ∙ or-second (of_classes s t a b (link_at s k)) (of_classes s t b c (link_at s k)) h)

  pub totals : (how : Settings) → Totals (rule_of how s t) (classes_take s t)
  unfolding rule_of mark_rule
  totals how = record { none = none; more = more }
    where
      none : (a : ℕ) → classes_take s t a a ≡ 0
      none a =
          let e : a - a ≡ 0 = omega arith in
          rw e (omega (arith, marks_meet (marks_of s t) a a a (omega arith) (omega arith), size_none s f (λ k. of_classes s t a a (link_at s k)) (λ k l. none_in a (link_at s k))))

      more : (a i : ℕ) → a ≤ i → classes_take s t a (suc i) ≡ classes_take s t a i + (2 * bases_in s t + 4 * marks_of_class s t i + item_size s (of_classes s t) a i)
      more a i l =
          let column = 2 * bases_in s t in
          let e : suc i - a ≡ i - a + 1 = omega arith in
          omega (
            arith,
            ap (λ (n : ℕ). column * n) e,
            mul-add column (i - a) 1,
            rw add-one at (marks_meet (marks_of s t) a i (i + 1) l (omega arith)),
            ap (λ (k : ℕ). length (marks_within i k (marks_of s t))) (add-one i),
            rw add-one at (size_adds s (of_classes s t) a i (reach_first a i (i + 1) l (omega arith))),
          )

  -- what fits still fits without its first classes
  pub classes_later : (how : Settings) → LaterFits (rule_of how s t)
  classes_later how =
      later_fits (rule_of how s t) (classes_take s t) (totals how)
      (λ a b i x y.
      let column = 2 * bases_in s t in
      let wide : column * (i + 1 - b) ≤ column * (i + 1 - a) = mul-le-mul_left {m = i + 1 - b} {n = i + 1 - a} column (omega arith) in
      omega (
        arith,
        reach_last a b (i + 1) x (omega arith),
        marks_meet (marks_of s t) a b (i + 1) x (omega arith),
        beside_marks how s t a i,
        beside_marks how s t b i,
      ))

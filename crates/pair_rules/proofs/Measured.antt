-- What edition 2 measures of a table in a store: its own bytes, what its items reach together, and what stands beside. Assumes nothing.
use Prim.Native.Nat.{ℕ, zero, suc, ◌+◌, ◌-◌, ◌*◌, ◌≤◌, min}
use mathlib.Core.Path.{◌≡◌, refl, ap}
use mathlib.Core.Bool.{Bool, true, false, cond, ◌&&◌}
use mathlib.Core.Logic.{⊎_elim}
use native.Mathlib.Numerals.{add-one}
use native.Mathlib.Nat.{mul-add, mul-le-mul_left}
use native.Mathlib.Omega.{arith}
use lib.Dec.{eqb, leb}
use borrow.Author.Tests.{le-leb, lt-leb}
use Rattle.folds.specs.Folds.{sum}
use Rattle.folds.proofs.Tests.{by_test, and_intro, and_first, either}
use Rattle.ot_layouts.specs.PairPos.{cover_at, class2_at, item_at}
use Rattle.ot_layouts.proofs.Shapes.{items_rise, format_one, format_two}
use Rattle.store_rules.specs.Store.{Store, bytes_of, size_of, linked_at}
use Rattle.store_rules.specs.Reach.{reach_of, item_size}
use Rattle.store_rules.proofs.Sound.{Fits}
use Rattle.store_rules.proofs.ReachTogether.{span_less, span_none, size_adds}
use Rattle.cut_rules.specs.Cuts.{looked}
use Rattle.cut_rules.proofs.FewestCuts.{LaterFits}
use Rattle.cut_rules.proofs.Totals.{Totals, later_fits}
use Rattle.glyph_rules.specs.Entries.{within}
use Rattle.glyph_rules.specs.Estimates.{estimate, beside_rows}
use Rattle.call_rules.specs.declared.Settings.{Settings}
use Rattle.call_rules.specs.Settings.{second_edition}
use Rattle.pair_rules.specs.Rules.{partial_cover, rule1, rule2}
use Rattle.pair_rules.specs.Table.{shape, entries_of, of_items, rule_of}

-- what items a up to b reach, b left out
abbrev pub items_reach : Store → ℕ → ℕ → ℕ → ℕ
items_reach s t a b = reach_of s (of_items t (shape s t) a b)

-- what they take in all
abbrev pub items_take : Store → ℕ → ℕ → ℕ → ℕ
items_take s t a b = (shape s t).item * (b - a) + items_reach s t a b

-- ---- the rule's parts, in either format

module _ (how : Settings) (s : Store) (t : ℕ) where
  pub rule_start : (rule_of how s t).start ≡ (shape s t).header
  unfolding rule_of rule1 rule2
  rule_start =
      by_test (eqb (shape s t).format 1)
      (λ e. rw e (omega (arith, (format_one (bytes_of s t) e).header_is)))
      (λ e. rw e (omega (arith, (format_two (bytes_of s t) e).header_is)))

  pub rule_cost : (a i : ℕ) → (rule_of how s t).cost a i ≡ (shape s t).item + item_size s (of_items t (shape s t)) a i
  unfolding rule_of rule1 rule2
  rule_cost a i =
      by_test (eqb (shape s t).format 1)
      (λ e. rw e (omega (arith, (format_one (bytes_of s t) e).item_is)))
      (λ e. rw e)

-- ---- what stands beside, in edition 2

-- each slot from a on is counted
counted : (p : ℕ → Bool) → ((k : ℕ) → p k ≡ true) → (a n : ℕ) → sum (λ k. cond (leb a k && p k) 1 0) n ≡ n - a
unfolding sum
counted p h a zero = omega arith
counted p h a (suc n) =
    ⊎_elim
    (λ lt. omega (arith, counted p h a n, ap (λ (b : Bool). cond {A = ℕ} b 1 0) (and_first (leb a n) (p n) (lt-leb a n lt))))
    (λ le. omega (arith, counted p h a n, ap (λ (b : Bool). cond {A = ℕ} b 1 0) (and_intro (leb a n) (p n) (le-leb a n le) (h n))))
    (either n a)

-- "an empty pair set slot costs its 2 bytes and its 2 of partial coverage"
partial_all : (linked : ℕ → Bool) (a i : ℕ) → partial_cover (looked 2 linked) a i ≡ 4 + 2 * (i + 1 - a)
unfolding partial_cover looked
partial_all linked a i = ap (λ (n : ℕ). 4 + 2 * n) (counted (looked 2 linked) (λ k. refl) a (i + 1))

module _ (s : Store) (t a i : ℕ) where
  pub beside_sets : eqb (shape s t).format 1 ≡ true → (rule_of second_edition s t).beside a i ≡ min (4 + 2 * (i + 1 - a)) (size_of s (linked_at s t cover_at))
  unfolding rule_of rule1
  beside_sets e = rw e (ap (λ (n : ℕ). min n (size_of s (linked_at s t cover_at))) (partial_all _ a i))

  pub beside_rows_lem : eqb (shape s t).format 1 ≡ false
      → (rule_of second_edition s t).beside a i ≡ beside_rows (size_of s (linked_at s t class2_at)) (estimate (within a (i + 1) (entries_of s t)))
  unfolding rule_of rule2
  beside_rows_lem e = rw e

-- ---- what items take together

module _ (s : Store) (t : ℕ) (f : Fits s) where
  -- fewer items reach no more
  pub reach_less : (a b a' b' : ℕ) → a' ≤ a → b ≤ b' → items_reach s t a b ≤ items_reach s t a' b'
  reach_less a b a' b' x y =
      let sh = shape s t in
      span_less s f t (item_at sh a) (item_at sh b) (item_at sh a') (item_at sh b') (items_rise sh a' a x) (items_rise sh b b' y)

  pub totals : (how : Settings) → Totals (rule_of how s t) (items_take s t)
  totals how = record { none = none; more = more }
    where
      none : (a : ℕ) → items_take s t a a ≡ 0
      none a = let e : a - a ≡ 0 = omega arith in rw e (omega (arith, span_none s f t (item_at (shape s t) a)))

      more : (a i : ℕ) → a ≤ i → items_take s t a (suc i) ≡ items_take s t a i + (rule_of how s t).cost a i
      more a i l =
          let item = (shape s t).item in
          let e : suc i - a ≡ i - a + 1 = omega arith in
          omega (
            arith,
            ap (λ (n : ℕ). item * n) e,
            mul-add item (i - a) 1,
            rule_cost how s t a i,
            rw add-one at (size_adds s (of_items t (shape s t)) a i (reach_less a i a (i + 1) (omega arith) (omega arith))),
          )

  -- ---- format 1

  -- what fits still fits without its first pair sets
  pub sets_later : eqb (shape s t).format 1 ≡ true → LaterFits (rule_of second_edition s t)
  sets_later e =
      later_fits (rule_of second_edition s t) (items_take s t) (totals second_edition)
      (λ a b i x y.
      let item = (shape s t).item in
      let wide : item * (i + 1 - b) ≤ item * (i + 1 - a) = mul-le-mul_left {m = i + 1 - b} {n = i + 1 - a} item (omega arith) in
      omega (arith, reach_less b (i + 1) a (i + 1) x (omega arith), beside_sets s t a i e, beside_sets s t b i e))

-- Where the costs of items add up to a total, the measure of a table is its total over the start, and what stands beside. Assumes nothing.
use Prim.Native.Nat.{ℕ, zero, suc, ◌+◌, ◌-◌, ◌<◌, ◌≤◌}
use mathlib.Core.Path.{◌≡◌, subst}
use mathlib.Core.Bool.{true}
use native.Mathlib.Omega.{arith}
use Rattle.cut_rules.specs.Cuts.{Rule}
use Rattle.cut_rules.specs.Measure.{costs, measure, table_fits}
use Rattle.cut_rules.proofs.Measures.{costs_none, costs_more, fits_most, most_fits, fits_after}
use Rattle.cut_rules.proofs.FewestCuts.{LaterFits}

-- `total a b` is what items a up to b take together, b left out
pub record Totals (r : Rule) (total : ℕ → ℕ → ℕ) : Type 0 where
  pub none : (a : ℕ) → total a a ≡ 0
  pub more : (a i : ℕ) → a ≤ i → total a (suc i) ≡ total a i + r.cost a i

module _ (r : Rule) (total : ℕ → ℕ → ℕ) (t : Totals r total) where
  costs_by : (a d : ℕ) → costs r a (a + d) ≡ total a (a + d)
  costs_by a zero = let e : a + 0 ≡ a = omega arith in rw e (omega (arith, costs_none r a, t.none a))
  costs_by a (suc d) =
      let e : a + suc d ≡ suc (a + d) = omega arith in
      rw e (omega (arith, costs_by a d, costs_more r a (a + d) (omega arith), t.more a (a + d) (omega arith)))

  costs_total : (a b : ℕ) → a ≤ b → costs r a b ≡ total a b
  costs_total a b l = let e : a + (b - a) ≡ b = omega arith in subst (λ (c : ℕ). costs r a c ≡ total a c) e (costs_by a (b - a))

  pub measure_total : (a i : ℕ) → a ≤ i → measure r a i ≡ r.start + total a (i + 1) + r.beside a i
  unfolding measure
  measure_total a i l = omega (arith, costs_total a (i + 1) (omega arith))

  -- a table of two or more items that fits
  pub table_total : (a b : ℕ) → a + 1 < b → table_fits r a b ≡ true → r.start + total a b + r.beside a (b - 1) ≤ 65535
  table_total a b l h =
      let e : b - 1 + 1 ≡ b = omega arith in
      let m = fits_most r a (b - 1) (fits_after r a b h (b - 1) (omega arith) (omega arith)) in
      subst (λ (c : ℕ). r.start + total a c + r.beside a (b - 1) ≤ 65535) e (omega (arith, m, measure_total a (b - 1) (omega arith)))

  -- what fits still fits without its first items, where these take no less with them
  pub later_fits : ((a b i : ℕ) → a ≤ b → b ≤ i → total b (i + 1) + r.beside b i ≤ total a (i + 1) + r.beside a i) → LaterFits r
  later_fits less a b i x y h =
      most_fits r b i (omega (arith, less a b i x y, measure_total a i (omega arith), measure_total b i y, fits_most r a i h))

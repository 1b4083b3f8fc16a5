-- Edition 2's cuts are within the limit. Assumes nothing.
use Prim.Native.Nat.{ℕ, zero, suc}
use mathlib.Core.Path.{◌≡◌}
use mathlib.Core.Bool.{true}
use native.Mathlib.Omega.{arith}
use Rattle.cut_rules.specs.Cuts.{Rule, Cutting, cut_here, go_on, after, cuts_of}
use Rattle.cut_rules.specs.Measure.{table_fits, tables_fit, within_limit}
use Rattle.cut_rules.proofs.Measures.{short_fits, longer_fits, tables_cut}
use Rattle.cut_rules.proofs.SumMeasured.{Next, next_of}

-- before item k: the table being filled fits, and those before it do, wherever it ends
record Fitting (r : Rule) (k : ℕ) (c : Cutting) : Type 0 where
  now : table_fits r c.first k ≡ true
  earlier : (b : ℕ) → table_fits r c.first b ≡ true → tables_fit r 0 c.cuts b ≡ true

fitting_next : (r : Rule) (c : Cutting) (k : ℕ) {d : Cutting} → Next r c k d → Fitting r k c → Fitting r (suc k) d
unfolding go_on cut_here
fitting_next r c k (Next.adds h) f = record { now = longer_fits r c.first k f.now (λ l. h (omega arith)); earlier = f.earlier }
fitting_next r c k (Next.cuts l h) f =
    record { now = short_fits r k (suc k) (omega arith); earlier = λ b t. tables_cut r 0 c.cuts k b (f.earlier k f.now) t }

module _ (r : Rule) (two : r.edition ≡ 2) where
  fitting : (k : ℕ) → Fitting r k (after r k)
  unfolding after tables_fit
  fitting zero = record { now = short_fits r 0 0 (omega arith); earlier = λ b t. t }
  fitting (suc k) = fitting_next r (after r k) k (next_of r two k) (fitting k)

  pub cuts_within : within_limit r (cuts_of r) ≡ true
  unfolding within_limit cuts_of
  cuts_within = let f = fitting r.count in f.earlier r.count f.now

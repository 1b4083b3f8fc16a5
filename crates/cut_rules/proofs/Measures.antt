-- Laws of costs, of what fits, and of the tables that cuts make. Assumes nothing.
use Prim.Native.Nat.{ℕ, zero, suc, ◌+◌, ◌-◌, ◌<◌, ◌≤◌}
use mathlib.Core.Path.{◌≡◌, ap, subst, ◌∙◌}
use mathlib.Core.Bool.{true, false}
use mathlib.Core.List.{List, [], ◌∷◌, ◌++◌}
use mathlib.Core.Logic.{⊎_elim}
use native.Mathlib.Numerals.{add-one}
use native.Mathlib.Omega.{arith}
use native.Mathlib.Nat.{not-suc-le-zero, le_of_suc-le-suc, eq-or-lt_of_le}
use lib.ListN.{length, get_or}
use borrow.Author.Tests.{leb-true, le-leb, lt-leb}
use Rattle.folds.specs.Folds.{sum}
use Rattle.folds.proofs.Tests.{and_both, and_intro}
use Rattle.folds.proofs.Folds.{all_at_lem, all_intro}
use Rattle.cut_rules.specs.Cuts.{Rule}
use Rattle.cut_rules.specs.Measure.{costs, measure, fits, table_fits, tables_fit}

-- ---- costs

pub costs_none : (r : Rule) (a : ℕ) → costs r a a ≡ 0
unfolding costs sum
costs_none r a = let e : a - a ≡ 0 = omega arith in rw e

pub costs_more : (r : Rule) (a b : ℕ) → a ≤ b → costs r a (suc b) ≡ costs r a b + r.cost a b
unfolding costs sum
costs_more r a b l =
    let e : suc b - a ≡ suc (b - a) = omega arith in
    let z : a + (b - a) ≡ b = omega arith in
    ap (λ (n : ℕ). sum (λ k. r.cost a (a + k)) n) e ∙ ap (λ (i : ℕ). sum (λ k. r.cost a (a + k)) (b - a) + r.cost a i) z

-- the last item apart
pub measured : (r : Rule) (a i : ℕ) → a ≤ i → measure r a i ≡ r.start + costs r a i + r.cost a i + r.beside a i
unfolding measure
measured r a i l = rw add-one (omega (arith, costs_more r a i l))

-- ---- what fits

module _ (r : Rule) (a i : ℕ) where
  pub fits_most : fits r a i ≡ true → measure r a i ≤ 65535
  unfolding fits
  fits_most h = leb-true (measure r a i) 65535 h

  pub most_fits : measure r a i ≤ 65535 → fits r a i ≡ true
  unfolding fits
  most_fits h = le-leb (measure r a i) 65535 h

  pub more_fails : 65535 < measure r a i → fits r a i ≡ false
  unfolding fits
  more_fails h = lt-leb (measure r a i) 65535 h

module _ (r : Rule) (a b : ℕ) where
  pub fits_after : table_fits r a b ≡ true → (i : ℕ) → a < i → i < b → fits r a i ≡ true
  unfolding table_fits
  fits_after h i l m =
      let e : a + 1 + (i - (a + 1)) ≡ i = omega arith in
      subst (λ (j : ℕ). fits r a j ≡ true) e (all_at_lem (λ k. fits r a (a + 1 + k)) (b - (a + 1)) h (i - (a + 1)) (omega arith))

  pub table_fits_lem : ((i : ℕ) → a < i → i < b → fits r a i ≡ true) → table_fits r a b ≡ true
  unfolding table_fits
  table_fits_lem h = all_intro (λ k. fits r a (a + 1 + k)) (b - (a + 1)) (λ k l. h (a + 1 + k) (omega arith) (omega arith))

-- a table of one item, or none
pub short_fits : (r : Rule) (a b : ℕ) → b ≤ suc a → table_fits r a b ≡ true
short_fits r a b l = table_fits_lem r a b (λ i m n. let no : ⊥ = omega arith in absurd no)

-- one item more
pub longer_fits : (r : Rule) (a b : ℕ) → table_fits r a b ≡ true → (a < b → fits r a b ≡ true) → table_fits r a (suc b) ≡ true
longer_fits r a b t h =
    table_fits_lem r a (suc b) (λ i l m. ⊎_elim (λ e. rw e (h (omega arith))) (λ lt. fits_after r a b t i l lt) (eq-or-lt_of_le (le_of_suc-le-suc m)))

-- ---- the tables that cuts make

-- one more cut
pub tables_cut : (r : Rule) (a : ℕ) (cs : List ℕ) (k b : ℕ) → tables_fit r a cs k ≡ true → table_fits r k b ≡ true → tables_fit r a (cs ++ (k ∷ [])) b ≡ true
unfolding tables_fit
tables_cut r a [] k b s t = and_intro (table_fits r a k) (table_fits r k b) s t
tables_cut r a (c ∷ cs) k b s t =
    let (x, y) = and_both (table_fits r a c) (tables_fit r c cs k) s in
    and_intro (table_fits r a c) (tables_fit r c (cs ++ (k ∷ [])) b) x (tables_cut r c cs k b y t)

-- table j of them: the kept one is the first
pub table_of : (r : Rule) (a : ℕ) (cs : List ℕ) (b : ℕ) → tables_fit r a cs b ≡ true → (j : ℕ) → j ≤ length cs → table_fits r (get_or (a ∷ cs) j 0) (get_or cs j b) ≡ true
unfolding tables_fit
table_of r a [] b s zero l = s
table_of r a [] b s (suc j) l = absurd (not-suc-le-zero l)
table_of r a (c ∷ cs) b s zero l = (and_both (table_fits r a c) (tables_fit r c cs b) s).0
table_of r a (c ∷ cs) b s (suc j) l = table_of r c cs b (and_both (table_fits r a c) (tables_fit r c cs b) s).1 j (omega arith)

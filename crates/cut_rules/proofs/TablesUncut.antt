-- Cutting again: a table that fits is not cut by edition 2, and so no table that a list of cuts within the limit makes. Assumes nothing.
use Prim.Native.Nat.{ℕ, zero, suc, ◌+◌, ◌-◌, ◌<◌, ◌≤◌}
use mathlib.Core.Path.{◌≡◌, refl, sym, ap, subst, ◌∙◌}
use mathlib.Core.Bool.{true, false}
use mathlib.Core.List.{List, []}
use native.Mathlib.Omega.{arith}
use lib.ListN.{length, get_or}
use Rattle.folds.specs.Folds.{sum}
use Rattle.folds.proofs.Tests.{true_false}
use Rattle.folds.proofs.FromTheFront.{sum_same}
use Rattle.cut_rules.specs.Cuts.{Rule, Cutting, go_on, after, cuts_of}
use Rattle.cut_rules.specs.Measure.{costs, measure, fits, table_fits, within_limit}
use Rattle.cut_rules.proofs.CutPlaces.{lo_at}
use Rattle.cut_rules.proofs.Measures.{fits_most, most_fits, fits_after, table_fits_lem, table_of}
use Rattle.cut_rules.proofs.SumMeasured.{Next, next_of}
use Rattle.cut_rules.proofs.WithinLimit.{cuts_within}

-- ---- where the whole fits

module _ (r : Rule) (two : r.edition ≡ 2) (t : table_fits r 0 r.count ≡ true) where
  uncut_next : (c : Cutting) (k : ℕ) {d : Cutting} → k < r.count → Next r c k d → (c.first ≡ 0) × (c.cuts ≡ []) → (d.first ≡ 0) × (d.cuts ≡ [])
  unfolding go_on
  uncut_next c k m (Next.adds h) u = u
  uncut_next c k m (Next.cuts l h) (e, z) = true_false (sym (fits_after r 0 r.count t k l m) ∙ subst (λ (a : ℕ). fits r a k ≡ false) e h)

  uncut : (k : ℕ) → k ≤ r.count → ((after r k).first ≡ 0) × ((after r k).cuts ≡ [])
  unfolding after
  uncut zero l = (refl, refl)
  uncut (suc k) l = uncut_next (after r k) k (omega arith) (next_of r two k) (uncut k (omega arith))

  pub fits_uncut : cuts_of r ≡ []
  unfolding cuts_of
  fits_uncut = (uncut r.count (omega arith)).1

-- ---- a part of a table

-- rule q is edition 2's for items lo up to hi of r alone, with no more beside them
pub record Restricts (r : Rule) (lo hi : ℕ) (q : Rule) : Type 0 where
  pub edition : q.edition ≡ 2
  pub count : q.count ≡ hi - lo
  pub start : q.start ≡ r.start
  pub cost : (i : ℕ) → lo + i < hi → q.cost 0 i ≡ r.cost lo (lo + i)
  pub beside : (i : ℕ) → lo + i < hi → q.beside 0 i ≤ r.beside lo (lo + i)

module _ (r q : Rule) (lo hi : ℕ) (s : Restricts r lo hi q) where
  part-costs : (i : ℕ) → lo + i < hi → costs q 0 (i + 1) ≡ costs r lo (lo + i + 1)
  unfolding costs
  part-costs i l =
      let e : i + 1 - 0 ≡ i + 1 = omega arith in
      let z : lo + i + 1 - lo ≡ i + 1 = omega arith in
      ap (λ (n : ℕ). sum (λ k. q.cost 0 (0 + k)) n) e
      ∙ sum_same (λ k. q.cost 0 (0 + k)) (λ k. r.cost lo (lo + k)) (i + 1) (λ k m. let o : 0 + k ≡ k = omega arith in ap (λ (j : ℕ). q.cost 0 j) o ∙ s.cost k (omega arith))
      ∙ ap (λ (n : ℕ). sum (λ k. r.cost lo (lo + k)) n) (sym z)

  part-measure : (i : ℕ) → lo + i < hi → measure q 0 i ≤ measure r lo (lo + i)
  unfolding measure
  part-measure i l = omega (arith, part-costs i l, s.start, s.beside i l)

  part-fits : table_fits r lo hi ≡ true → table_fits q 0 q.count ≡ true
  part-fits t =
      table_fits_lem q 0 q.count (λ i l m.
      let b : lo + i < hi = omega (arith, s.count) in
      most_fits q 0 i (omega (arith, part-measure i b, fits_most r lo (lo + i) (fits_after r lo hi t (lo + i) (omega arith) b))))

  pub part_uncut : table_fits r lo hi ≡ true → cuts_of q ≡ []
  part_uncut t = fits_uncut q s.edition (part-fits t)

-- ---- the tables that cuts make

-- range j of a list within the limit, the kept table's first
pub range_fits : (r : Rule) (cs : List ℕ) → within_limit r cs ≡ true → (j : ℕ) → j ≤ length cs → table_fits r (lo_at cs j) (get_or cs j r.count) ≡ true
unfolding within_limit
range_fits r cs t zero l = table_of r 0 cs r.count t 0 l
range_fits r cs t (suc j) l = table_of r 0 cs r.count t (suc j) l

pub ranges_uncut : (r q : Rule) (cs : List ℕ) → within_limit r cs ≡ true → (j : ℕ) → j ≤ length cs → Restricts r (lo_at cs j) (get_or cs j r.count) q → cuts_of q ≡ []
ranges_uncut r q cs t j l s = part_uncut r q (lo_at cs j) (get_or cs j r.count) s (range_fits r cs t j l)

-- "splitting any of the resulting tables again, scratch being enough, adds nothing"
pub again_uncut : (r q : Rule) → r.edition ≡ 2 → (j : ℕ) → j ≤ length (cuts_of r) → Restricts r (lo_at (cuts_of r) j) (get_or (cuts_of r) j r.count) q → cuts_of q ≡ []
again_uncut r q two j l s = ranges_uncut r q (cuts_of r) (cuts_within r two) j l s

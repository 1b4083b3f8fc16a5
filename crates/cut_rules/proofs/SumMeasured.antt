-- In edition 2 the sum is the measure of the table being filled, and an item is cut at exactly if that table does not fit with it. Assumes nothing.
use Prim.Native.Nat.{ℕ, zero, suc, ◌+◌, ◌<◌, ◌≤◌}
use mathlib.Core.Path.{◌≡◌, refl, sym, ap, ◌∙◌}
use mathlib.Core.Bool.{true, false}
use native.Mathlib.Omega.{arith}
use lib.Dec.{leb}
use borrow.Author.Tests.{ltb-true, ltb-false, le-leb, eq-eqb}
use Rattle.folds.proofs.Tests.{by_test, true_false}
use Rattle.folds.proofs.Joined.{or-first}
use Rattle.cut_rules.specs.Cuts.{Rule, Cutting, second, cost_at_cut, seen_from, looked, least_cut, exceeds, cut_due, cut_here, go_on, step, after}
use Rattle.cut_rules.specs.Measure.{costs, measure, fits}
use Rattle.cut_rules.proofs.Measures.{costs_none, costs_more, measured, most_fits, more_fails}
use Rattle.cut_rules.proofs.Turns.{looks_at, cost_now, due_both, Turn, turn}

-- the table being filled, before item k: objects count as seen from its first item on, and the sum is that of its items
pub record Filling (r : Rule) (k : ℕ) (c : Cutting) : Type 0 where
  pub low : c.first ≤ k
  pub begun : 0 < k → c.first < k
  pub seen : c.seen ≡ c.first
  pub sum : c.sum ≡ r.start + costs r c.first k

-- an item is added, and fits unless it is the first of all; or it does not fit, and is cut at
pub data Next (r : Rule) (c : Cutting) (k : ℕ) : Cutting → Type 0 where
  adds : (0 < k → fits r c.first k ≡ true) → Next r c k (go_on c (cost_now r c k))
  cuts : 0 < k → fits r c.first k ≡ false → Next r c k (cut_here r c k (cost_now r c k))

module _ (r : Rule) (two : r.edition ≡ 2) where
  is_second : second r.edition ≡ true
  is_second = eq-eqb r.edition 2 two

  looks_at_all : (i : ℕ) → looks_at r i ≡ true
  unfolding looked
  looks_at_all i = or-first (second r.edition) (r.full i) is_second

  pub from_one : least_cut r.edition ≡ 1
  unfolding least_cut
  from_one = rw is_second

  measured_again : (i cost : ℕ) → cost_at_cut r i cost ≡ r.cost i i
  unfolding cost_at_cut
  measured_again i cost = rw is_second

  seen_after : (i : ℕ) → seen_from r.edition i ≡ i
  unfolding seen_from
  seen_after i = rw is_second

  module _ (c : Cutting) (k : ℕ) (f : Filling r k c) where
    whole : c.sum + cost_now r c k + r.beside c.first k ≡ measure r c.first k
    whole = omega (arith, f.sum, measured r c.first k f.low, ap (λ (s : ℕ). r.cost s k) f.seen)

    pub next : Next r c k (step r c k)
    unfolding exceeds cut_due
    next = go (turn r c k)
      where
        small : cut_due r c k (cost_now r c k) ≡ false → 0 < k → fits r c.first k ≡ true
        small h l =
            let t : leb (least_cut r.edition) k ≡ true = le-leb (least_cut r.edition) k (omega (arith, from_one)) in
            let u : exceeds r c k (cost_now r c k) ≡ false = by_test (exceeds r c k (cost_now r c k)) (λ e. sym (rw (e, t)) ∙ h) (λ e. e) in
            most_fits r c.first k (omega (arith, ltb-false 65535 (c.sum + cost_now r c k + r.beside c.first k) u, whole))

        go : {d : Cutting} → Turn r c k d → Next r c k d
        go (Turn.passed h) = true_false (sym (looks_at_all k) ∙ h)
        go (Turn.added l h) = Next.adds (small h)
        go (Turn.cut h) =
            let (x, l) = due_both r c k (cost_now r c k) h in
            Next.cuts (omega (arith, from_one))
            (more_fails r c.first k (omega (arith, ltb-true 65535 (c.sum + cost_now r c k + r.beside c.first k) x, whole)))

    filling_next : Filling r (suc k) (step r c k)
    unfolding go_on cut_here
    filling_next = go next
      where
        go : {d : Cutting} → Next r c k d → Filling r (suc k) d
        go (Next.adds h) =
            record {
              low = omega (arith, f.low);
              begun = λ l. omega (arith, f.low);
              seen = f.seen;
              sum = omega (arith, f.sum, costs_more r c.first k f.low, ap (λ (s : ℕ). r.cost s k) f.seen);
            }
        go (Next.cuts l h) =
            record {
              low = omega arith;
              begun = λ l. omega arith;
              seen = seen_after k;
              sum = omega (arith, measured_again k (cost_now r c k), costs_more r k k (omega arith), costs_none r k);
            }

  -- of each state
  pub filling : (k : ℕ) → Filling r k (after r k)
  unfolding after
  filling zero = record { low = omega arith; begun = λ l. l; seen = refl; sum = omega (arith, costs_none r 0) }
  filling (suc k) = filling_next (after r k) k (filling k)

  -- so is each item's turn
  pub next_of : (k : ℕ) → Next r (after r k) k (after r (suc k))
  unfolding after
  next_of k = next (after r k) k (filling k)

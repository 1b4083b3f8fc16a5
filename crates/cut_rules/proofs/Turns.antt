-- The cases of one item, in any edition: it is passed over, added, or cut at. Assumes nothing.
use Prim.Native.Nat.{ℕ, ◌≤◌}
use mathlib.Core.Path.{◌≡◌, refl, ap}
use mathlib.Core.Bool.{Bool, true, false, cond}
use borrow.Author.Tests.{leb-true}
use lib.Dec.{leb}
use Rattle.folds.proofs.Tests.{and_both}
use Rattle.cut_rules.specs.Cuts.{Rule, Cutting, looked, least_cut, exceeds, cut_due, cut_here, go_on, weigh, step}

-- item i is looked at
abbrev pub looks_at : Rule → ℕ → Bool
looks_at r i = looked r.edition r.full i

-- what it costs
abbrev pub cost_now : Rule → Cutting → ℕ → ℕ
cost_now r c i = r.cost c.seen i

module _ (r : Rule) (c : Cutting) (i : ℕ) where
  looked_as : (b : Bool) → looks_at r i ≡ b → step r c i ≡ cond b (weigh r c i (cost_now r c i)) c
  unfolding step
  looked_as b e = ap (λ (x : Bool). cond x (weigh r c i (cost_now r c i)) c) e

  pub step_passed : looks_at r i ≡ false → step r c i ≡ c
  step_passed e = looked_as false e

  pub step_looked : looks_at r i ≡ true → step r c i ≡ weigh r c i (cost_now r c i)
  step_looked e = looked_as true e

  module _ (cost : ℕ) where
    weighed_as : (b : Bool) → cut_due r c i cost ≡ b → weigh r c i cost ≡ cond b (cut_here r c i cost) (go_on c cost)
    unfolding weigh
    weighed_as b e = ap (λ (x : Bool). cond x (cut_here r c i cost) (go_on c cost)) e

    pub weigh_cut : cut_due r c i cost ≡ true → weigh r c i cost ≡ cut_here r c i cost
    weigh_cut e = weighed_as true e

    pub weigh_on : cut_due r c i cost ≡ false → weigh r c i cost ≡ go_on c cost
    weigh_on e = weighed_as false e

    -- both parts of the test
    pub due_both : cut_due r c i cost ≡ true → (exceeds r c i cost ≡ true) × (least_cut r.edition ≤ i)
    unfolding cut_due
    due_both e = let (x, l) = and_both (exceeds r c i cost) (leb (least_cut r.edition) i) e in (x, leb-true (least_cut r.edition) i l)

-- how item i leads from c to another state
pub data Turn (r : Rule) (c : Cutting) (i : ℕ) : Cutting → Type 0 where
  passed : looks_at r i ≡ false → Turn r c i c
  added : looks_at r i ≡ true → cut_due r c i (cost_now r c i) ≡ false → Turn r c i (go_on c (cost_now r c i))
  cut : cut_due r c i (cost_now r c i) ≡ true → Turn r c i (cut_here r c i (cost_now r c i))

pub turn : (r : Rule) (c : Cutting) (i : ℕ) → Turn r c i (step r c i)
unfolding step weigh
turn r c i = looking (looks_at r i) refl
  where
    weighing : (b : Bool) → looks_at r i ≡ true → cut_due r c i (cost_now r c i) ≡ b → Turn r c i (cond b (cut_here r c i (cost_now r c i)) (go_on c (cost_now r c i)))
    weighing true l e = Turn.cut e
    weighing false l e = Turn.added l e

    looking : (b : Bool) → looks_at r i ≡ b → Turn r c i (cond b (weigh r c i (cost_now r c i)) c)
    looking true e = weighing (cut_due r c i (cost_now r c i)) e refl
    looking false e = Turn.passed e

-- A cut plan hands out what was decided, and that is document 02's outcome. Assumes nothing.
use Rattle.std.specs.Prelude.{None, Err, Ok, Result}
use Prim.Native.Nat.{ℕ}
use mathlib.Core.Path.{◌≡◌, refl}
use mathlib.Core.List.{List}
use native.Mathlib.Omega.{arith}
use Rattle.folds.specs.Lists.{Bytes}
use Rattle.store_rules.specs.Store.{Store}
use Rattle.cut_rules.proofs.CutPlaces.{few_places}
use Rattle.cut_filling.proofs.Turns.{placed_front, placed_inside}
use Rattle.call_lists.specs.declared.Plan.{Plan}
use Rattle.mark_rules.specs.Table.{classes_of, cut_places}
use Rattle.mark_rules.proofs.NewCounts.{table_cuts}
use Rattle.mark_rules.specs.Calls.{cut_cases, plan_cases, mark_plan_call}
use Rattle.call_rules.specs.declared.Answer.{Answer}
use Rattle.call_rules.specs.declared.Settings.{Settings}
use Rattle.call_rules.specs.Answers.{refusal}
use Rattle.call_rules.specs.Scratch.{Scratch, cleared}
use Rattle.call_rules.specs.Outcomes.{outcome}
use Rattle.call_scratch.proofs.Cleared.{SameLengths}
use Rattle.call_lists.specs.Handed.{handed, handed_by, planned_cuts, HandingOut}
use Rattle.call_lists.proofs.Handing.{leaves_handed}
use Rattle.mark_checks.proofs.Opened.{classes_bits}
use Rattle.mark_checks.specs.declared.MarkTable.{MarkTable}
use Rattle.mark_plan.specs.Decided.{Decided}

module _ (how : Settings) (s : Store) (t : ℕ) (w : Scratch) (list : List ℕ) where
  cuts_are : {cuts : List ℕ} (d : Result (Plan MarkTable) Answer) → Decided how s t w d cuts → refusal d ≡ None → planned_cuts d cuts ≡ cut_places how s t
  cuts_are (Ok p) x e = placed_front (x.plans p refl).placed
  cuts_are (Err a) x e = let z : ◌≡◌ {A = ℕ} 0 1 = cc in absurd (omega arith)

  pub plan_called : {w' w'' : Scratch} {d : Result (Plan MarkTable) Answer} {cuts list' : List ℕ} {n k : ℕ} → Decided how s t w d cuts
      → handed n k list' ≡ handed_by (refusal d) (planned_cuts d cuts) list
      → SameLengths w w' → w'' ≡ cleared w' → outcome n k s list' w'' ≡ mark_plan_call how s t w list
  unfolding mark_plan_call plan_cases
  plan_called {d = d} x h = leaves_handed (cut_cases how s t w) (cut_places how s t) s w list x.answers (cuts_are d x) h

-- the cuts of a plan stand in the scratch, and there are fewer than 65,536
pub can_hand_out : {how : Settings} {s : Store} {t : ℕ} {w : Scratch} {d : Result (Plan MarkTable) Answer} {cuts : List ℕ} → Bytes s.bytes
    → Decided how s t w d cuts → HandingOut d cuts
can_hand_out {how} {s} {t} octets x p y =
    let o = (x.plans p y).passed.opens in
    let z = (x.plans p y).placed in
    (placed_inside z, omega (arith, z.count, few_places (classes_of s t) (cut_places how s t) (table_cuts how s t), o.classes, classes_bits o octets))

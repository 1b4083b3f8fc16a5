-- A cut plan hands out what was decided, and that is document 01's outcome. Assumes nothing.
use Rattle.std.specs.Prelude.{None, Err, Ok, Result}
use Prim.Native.Nat.{ℕ}
use mathlib.Core.Path.{◌≡◌, refl}
use mathlib.Core.List.{List}
use native.Mathlib.Omega.{arith}
use Rattle.store_rules.specs.Store.{Store}
use Rattle.cut_filling.proofs.Turns.{placed_front}
use Rattle.call_lists.specs.declared.Plan.{Plan}
use Rattle.pair_rules.specs.Table.{cut_places}
use Rattle.pair_rules.specs.Calls.{cut_cases, plan_cases, plan_call}
use Rattle.call_rules.specs.declared.Answer.{Answer}
use Rattle.call_rules.specs.declared.Settings.{Settings}
use Rattle.call_rules.specs.Answers.{refusal}
use Rattle.call_rules.specs.Scratch.{Scratch, cleared}
use Rattle.call_rules.specs.Outcomes.{outcome}
use Rattle.call_scratch.proofs.Cleared.{SameLengths}
use Rattle.call_lists.specs.Handed.{handed, handed_by, planned_cuts}
use Rattle.call_lists.proofs.Handing.{leaves_handed}
use Rattle.pair_checks.specs.declared.PairTable.{PairTable}
use Rattle.pair_plan.specs.Decided.{Decided}

module _ (how : Settings) (s : Store) (t : ℕ) (w : Scratch) (list : List ℕ) where
  cuts_are : {gs ks cuts : List ℕ} (d : Result (Plan PairTable) Answer) → Decided how s t w d gs ks cuts → refusal d ≡ None
      → planned_cuts d cuts ≡ cut_places how s t
  cuts_are (Ok p) x e = placed_front (x.plans p refl).cut.placed
  cuts_are (Err a) x e = let z : ◌≡◌ {A = ℕ} 0 1 = cc in absurd (omega arith)

  pub plan_called : {w' w'' : Scratch} {d : Result (Plan PairTable) Answer} {gs ks cuts list' : List ℕ} {n k : ℕ} → Decided how s t w d gs ks cuts
      → handed n k list' ≡ handed_by (refusal d) (planned_cuts d cuts) list
      → SameLengths w w' → w'' ≡ cleared w' → outcome n k s list' w'' ≡ plan_call how s t w list
  unfolding plan_call plan_cases
  plan_called {d = d} x h = leaves_handed (cut_cases how s t w) (cut_places how s t) s w list x.answers (cuts_are d x) h

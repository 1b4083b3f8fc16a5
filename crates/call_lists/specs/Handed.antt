-- What a cut plan hands out. Assumes nothing.
use Rattle.std.specs.Prelude.{ℕ, ◌≡◌, ◌<◌, ◌≤◌, cond, List, [], length, ltb, Option, Some, None, Result, Ok, Err}
use Rattle.folds.specs.Lists.{put, part}
use Rattle.call_rules.specs.declared.Answer.TheVariants.{NoRoom}
use Rattle.call_rules.specs.Answers.{number}
use Rattle.call_rules.specs.declared.Answer.{Answer}
use Rattle.call_lists.specs.declared.Plan.{Plan}

-- the answer, the count, and the list of places
pub record Handed : Type 0 where
  pub answer : ℕ
  pub count : ℕ
  pub list : List ℕ

-- for contracts
abbrev pub handed : ℕ → ℕ → List ℕ → Handed
handed n k list = record { answer = n; count = k; list = list }

-- "by 8 where places is shorter than the cuts"
unfoldable pub places_handed : List ℕ → List ℕ → Handed
places_handed cuts list = cond (ltb (length list) (length cuts)) (handed (number NoRoom) 0 list) (handed 0 (length cuts) (put list 0 cuts))

-- "refuses as a split does by 1 to 7": the answer, or where there is none the cuts
unfoldable pub handed_by : Option ℕ → List ℕ → List ℕ → Handed
handed_by (Some n) cuts list = handed n 0 list
handed_by None cuts list = places_handed cuts list

-- the cuts of a plan, at the front of the scratch
abbrev pub planned_cuts : {T : Type 0} → Result (Plan T) Answer → List ℕ → List ℕ
planned_cuts (Ok p) cuts = part cuts 0 p.cuts
planned_cuts (Err a) cuts = []

-- they stand there, and can be counted
abbrev pub HandingOut : {T : Type 0} → Result (Plan T) Answer → List ℕ → Type 0
HandingOut {T} d cuts = (p : Plan T) → d ≡ Ok p → (p.cuts ≤ length cuts) × (p.cuts < 65536)

-- The call that enters new tables in lookups: its answers in their order, and its outcome. Assumes nothing.
use Rattle.std.specs.Prelude.{ℕ, not, List, [], ◌∷◌, ◌++◌, leb}
use Rattle.folds.specs.Lists.{is_empty}
use Rattle.store_rules.specs.Store.{Store, sound}
use Rattle.call_rules.specs.declared.Answer.TheVariants.{Done, Unsound, NoTable, BadList, ManySubtables, NoRoom}
use Rattle.call_rules.specs.declared.Settings.{Settings}
use Rattle.call_rules.specs.Answers.{Case, case, first_case}
use Rattle.call_rules.specs.Settings.{settings_cases}
use Rattle.call_rules.specs.Scratch.{Scratch}
use Rattle.call_rules.specs.Needs.{room_short}
use Rattle.call_rules.specs.Outcomes.{Outcome, done, settle}
use Rattle.pair_rules.specs.Table.{cut_places}
use Rattle.pair_rules.specs.Written.{new_tables}
use Rattle.pair_rules.specs.Calls.{cut_cases}
use Rattle.lookup_rules.specs.Listed.{rewritten, bad_list}
use Rattle.lookup_rules.specs.Written.{counts_fit, needed_in_all, lookup_store}

-- 12, 1, "2 for the list too; 9, after it"
unfoldable pub list_cases : Settings → Store → ℕ → ℕ → List Case
list_cases how s l t =
    settings_cases how
    ++ (case Unsound (not (sound s))
    ∷ case NoTable (leb s.object_count t)
    ∷ case NoTable (leb s.object_count l)
    ∷ case BadList (bad_list s l t)
    ∷ [])

-- of a split at places cs: "With no cut nothing changes"; "10, always directly before 8"
unfoldable pub enter_cases : Store → ℕ → ℕ → List ℕ → List ℕ → List Case
enter_cases s l t cs list =
    case Done (is_empty cs)
    ∷ case ManySubtables (not (counts_fit s t (new_tables s t cs) (rewritten s l t)))
    ∷ case NoRoom (room_short s list (needed_in_all s l t cs))
    ∷ []

-- all of them: between these, all that a split asks of its table, of which 12, 1 and 2 do not apply again
unfoldable pub lookup_cases : Settings → Store → ℕ → ℕ → Scratch → List ℕ → List Case
lookup_cases how s l t w list = list_cases how s l t ++ cut_cases how s t w ++ enter_cases s l t (cut_places how s t) list

-- what a call leaves that goes ahead, by a split at places cs
abbrev pub enter_ahead : Store → ℕ → ℕ → List ℕ → Scratch → List ℕ → Outcome
enter_ahead s l t cs w list = done (lookup_store s l t cs) (new_tables s t cs) list w

-- the outcome of a call over the lookup list l and the subtable t
unfoldable pub lookup_call : Settings → Store → ℕ → ℕ → Scratch → List ℕ → Outcome
lookup_call how s l t w list = settle (first_case (lookup_cases how s l t w list)) s list w (enter_ahead s l t (cut_places how s t) w list)

-- all of this file's definitions, for checks that compute
unfoldable pub computes : Unit {0}
unfolding list_cases enter_cases lookup_cases lookup_call
computes = tt

-- A call that splits goes ahead: its table is ready, and the store at exit is the written one. Assumes nothing.
use Rattle.std.specs.Prelude.{Option, None}
use Prim.Native.Nat.{ℕ}
use mathlib.Core.Path.{◌≡◌, ap}
use mathlib.Core.List.{List}
use Rattle.call_rules.specs.declared.Settings.{Settings}
use Rattle.call_rules.specs.Scratch.{Scratch}
use Rattle.call_rules.specs.Answers.{first_case}
use Rattle.call_rules.specs.Outcomes.{done, settle, Outcome}
use Rattle.store_rules.specs.Store.{Store}
use Rattle.pair_rules.specs.Table.{cut_places}
use Rattle.pair_rules.specs.Written.{split_store, new_tables}
use Rattle.pair_rules.specs.Calls.{split_cases, split_call}
use Rattle.pair_rules.proofs.TableCuts.{table_cuts}
use Rattle.pair_after.proofs.Ready.{Ready, ready}
use Rattle.promise_calls.proofs.Settled.{went}
use Rattle.promise_pairs.specs.Exactly.{MaySplit}
use Rattle.promise_pairs.specs.Demands.{Splits, store_then}
use Rattle.promise_pairs.proofs.Exactly.{no_case_splits}

may_ready : (how : Settings) (s : Store) (t : ℕ) (w : Scratch) (list : List ℕ) → MaySplit how s t w list → Ready s t (cut_places how s t)
may_ready how s t w list m =
    ready s t (cut_places how s t) m.checked.reads m.checked.at_slots m.checked.acyclic (table_cuts how s t) m.cuts m.objects m.links m.bytes

-- what a split leaves that goes ahead
abbrev pub split_ahead : Settings → Store → ℕ → Scratch → List ℕ → Outcome
split_ahead how s t w list = done (split_store s t (cut_places how s t)) (new_tables s t (cut_places how s t)) list w

-- a call that splits goes ahead: no case applies
none_applies : (how : Settings) (s : Store) (t : ℕ) (w : Scratch) (list : List ℕ) → Splits how s t w list → first_case (split_cases how s t w list) ≡ None
unfolding split_call
none_applies how s t w list p = went s w list (split_ahead how s t w list) (first_case (split_cases how s t w list)) p.cuts

pub splits_may : (how : Settings) (s : Store) (t : ℕ) (w : Scratch) (list : List ℕ) → Splits how s t w list → MaySplit how s t w list
splits_may how s t w list p = no_case_splits how s t w list (none_applies how s t w list p)

-- and it leaves the store that is written
pub splits_ready : (how : Settings) (s : Store) (t : ℕ) (w : Scratch) (list : List ℕ) → Splits how s t w list
    → Ready s t (cut_places how s t) × (split_call how s t w list ≡ split_ahead how s t w list)
unfolding split_call settle
splits_ready how s t w list p = (
  may_ready how s t w list (splits_may how s t w list p),
  ap (λ (c : Option ℕ). settle c s list w (split_ahead how s t w list)) (none_applies how s t w list p),
)

-- the store at exit is the written one
pub store_written : (how : Settings) (s : Store) (t : ℕ) (w : Scratch) (list : List ℕ) → Splits how s t w list → store_then how s t w list ≡ split_store s t (cut_places how s t)
unfolding done
store_written how s t w list p = ap (λ (o : Outcome). o.store) (splits_ready how s t w list p).1

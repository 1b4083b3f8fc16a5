-- New tables entered in lookups: what has been decided, and what is then written. Assumes nothing.
use Rattle.std.specs.Prelude.{ℕ, ◌<◌, ◌≤◌, ◌≡◌, true, false, List, length}
use Rattle.store_rules.specs.Store.{Store}
use Rattle.store_rules.specs.Reach.{on_cycle}
use Rattle.call_rules.specs.declared.Needs.{Needs}
use Rattle.call_rules.specs.Needs.{together, room_short}
use Rattle.call_lists.specs.Split.{Carried}
use Rattle.pair_rules.specs.Table.{all_at_slots}
use Rattle.pair_rules.specs.Written.{needed, split_store, new_tables}
use Rattle.pair_checks.specs.declared.PairTable.{PairTable}
use Rattle.pair_carrying.specs.Carrying.{Carrying}
use Rattle.lookup_rules.specs.Listed.{rewritten, bad_list}
use Rattle.lookup_rules.specs.Marks.{Marked}
use Rattle.lookup_rules.specs.Written.{entered_store, counts_fit, lookups_need}

-- ---- what a split of t at cs leaves once its new tables are entered in the lookups ps

-- the store
abbrev pub store_entered_at : Store → ℕ → List ℕ → List ℕ → Store
store_entered_at s t cs ps = entered_store s t (new_tables s t cs) ps (split_store s t cs)

-- it is carried out
abbrev pub EnteredAt : Store → ℕ → List ℕ → List ℕ → List ℕ → Store → List ℕ → Type 0
EnteredAt s t cs ps list s' list' = Carried (store_entered_at s t cs ps) (new_tables s t cs) list s' list'

-- what it needs
abbrev pub all_needed : Store → ℕ → List ℕ → List ℕ → Needs
all_needed s t cs ps = together (needed s t cs) (lookups_need s t (new_tables s t cs) ps)

-- ---- what is known of the table and the lookups

-- 7 does not apply to the table
pub record WellLinked (s : Store) (t : ℕ) : Type 0 where
  pub slots : all_at_slots s t ≡ true
  pub acyclic : on_cycle s t ≡ false

-- 9 does not apply to the list
pub record GoodList (s : Store) (l t : ℕ) : Type 0 where
  pub used : l < s.object_count
  pub fine : bad_list s l t ≡ false

-- ps are the lookups of a good list that are rewritten, and the marks are theirs
pub record Found (s : Store) (t : ℕ) (marks ps : List ℕ) : Type 0 where
  pub list : ℕ
  pub good : GoodList s list t
  pub lookups : ps ≡ rewritten s list t
  pub marked : Marked ps marks

-- the split can be carried out, and there is room for both: n is what the split needs
pub record CarryingAll (s : Store) (t : ℕ) (p : PairTable) (n : Needs) (gs ks cs list marks ps : List ℕ) : Type 0 where
  pub carrying : Carrying s t p n gs ks cs list
  pub few : length cs ≤ 65536
  pub linked : WellLinked s t
  pub found : Found s t marks ps
  pub fits : counts_fit s t (new_tables s t cs) ps ≡ true
  pub room : room_short s list (all_needed s t cs ps) ≡ false

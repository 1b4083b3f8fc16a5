-- A split that is carried out if there is room for it, whatever it splits. Assumes nothing.
use Rattle.std.specs.Prelude.{ℕ, ◌≡◌, Bool, true, false, List}
use Rattle.folds.specs.Lists.{put}
use Rattle.store_rules.specs.Store.{Store}
use Rattle.call_rules.specs.declared.Needs.{Needs}
use Rattle.call_rules.specs.Needs.{room_short}

-- the store is the one after the split, and the new tables' numbers stand at the front of the list
pub record Carried (after : Store) (tables list : List ℕ) (s' : Store) (list' : List ℕ) : Type 0 where
  pub store : s' ≡ after
  pub list_is : list' ≡ put list 0 tables

-- r says whether there was room for what it needs; where there was none, nothing has changed
pub record CarriedIfRoom (s : Store) (n : Needs) (after : Store) (tables list : List ℕ) (r : Bool) (s' : Store) (list' : List ℕ) : Type 0 where
  pub short : room_short s list n ≡ true → (r ≡ false) × (s' ≡ s) × (list' ≡ list)
  pub enough : room_short s list n ≡ false → (r ≡ true) × Carried after tables list s' list'

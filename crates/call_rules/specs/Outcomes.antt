-- What a split or a cut plan leaves: answer, count and all contents at exit. Assumes nothing.
use Rattle.std.specs.Prelude.{ℕ, List, length, Option, Some, None}
use Rattle.folds.specs.Lists.{put}
use Rattle.store_rules.specs.Store.{Store}
use Rattle.call_rules.specs.Scratch.{Scratch, cleared}

-- at exit of a split or a plan: the list is the result list, or the plan's places
pub record Outcome : Type 0 where
  pub answer : ℕ
  pub count : ℕ
  pub store : Store
  pub list : List ℕ
  pub scratch : Scratch

-- for contracts
abbrev pub outcome : ℕ → ℕ → Store → List ℕ → Scratch → Outcome
outcome n k s list w = record { answer = n; count = k; store = s; list = list; scratch = w }

-- the call goes ahead: the list starts with xs
unfoldable pub done : Store → List ℕ → List ℕ → Scratch → Outcome
done s xs list w = record { answer = 0; count = length xs; store = s; list = put list 0 xs; scratch = cleared w }

-- "returns a count of 0 new tables and keeps store, counts and result list"
unfoldable pub settle : Option ℕ → Store → List ℕ → Scratch → Outcome → Outcome
settle (Some n) s list w o = record { answer = n; count = 0; store = s; list = list; scratch = cleared w }
settle None s list w o = o

-- all of this file's definitions, for checks that compute
unfoldable pub computes : Unit {0}
unfolding done settle
computes = tt

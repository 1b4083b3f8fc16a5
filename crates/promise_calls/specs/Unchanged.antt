-- What a call leaves that adds nothing, and what a caller's buffer of bytes has. Assumes nothing.
use Rattle.std.specs.Prelude.{ℕ, ◌≡◌, List}
use Rattle.folds.specs.Lists.{Bytes}
use Rattle.store_rules.specs.Store.{Store}
use Rattle.call_rules.specs.Scratch.{Scratch, cleared}
use Rattle.call_rules.specs.Outcomes.{Outcome}

-- "returns a count of 0 new tables and keeps store, counts and result list"; "All lent scratch is zero after every call."
pub record Unchanged (s : Store) (w : Scratch) (list : List ℕ) (o : Outcome) : Type 0 where
  pub none_new : o.count ≡ 0
  pub same_store : o.store ≡ s
  pub same_list : o.list ≡ list
  pub zero_scratch : o.scratch ≡ cleared w

-- the data are bytes, as a caller's buffer of u8 is: else a glyph number may pass 65,535, and a class definition that is written for it is unreadable
abbrev pub Octets : Store → Type 0
Octets s = Bytes s.bytes

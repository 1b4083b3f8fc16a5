-- What a split needs, counted. Assumes nothing.
use Rattle.std.specs.Prelude.{ℕ, ◌≡◌, List}
use Rattle.store_rules.specs.Store.{Store, lent}
use Rattle.call_rules.specs.declared.Needs.{Needs}
use Rattle.pair_rules.specs.Table.{shape, entries_of}
use Rattle.pair_rules.specs.Written.{needed}
use Rattle.pair_checks.specs.declared.PairTable.{PairTable}
use Rattle.cut_parts.specs.Order.{Arranged}
use Rattle.pair_carrying.specs.Arranging.{Arranging}

-- each table has its entries in the lists, and n is what the split at cs needs
pub record Measured (s : Store) (t : ℕ) (gs ks cs : List ℕ) (n : Needs) : Type 0 where
  pub arranged : Arranged gs ks cs (shape s t).count (entries_of s t)
  pub needs : n ≡ needed s t cs

-- whatever the links of the store
abbrev pub MeasuresNeeds : List ℕ → List ℕ → PairTable → List ℕ → List ℕ → List ℕ → List ℕ → List ℕ → Needs → Type 0
MeasuresNeeds b o p gs ks cs gs' ks' n = (l c : List ℕ) (t : ℕ) → Arranging (lent b o l c) t p gs ks cs → Measured (lent b o l c) t gs' ks' cs n

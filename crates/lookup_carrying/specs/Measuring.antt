-- What a split and its lookups need, counted. Assumes nothing.
use Rattle.std.specs.Prelude.{ℕ, ◌≤◌, ◌≡◌, true, false, List, length, Result, Ok, Err}
use Rattle.store_rules.specs.Store.{Store}
use Rattle.pair_rules.specs.Written.{new_tables}
use Rattle.pair_checks.specs.declared.PairTable.{PairTable}
use Rattle.pair_carrying.specs.Arranging.{Arranging}
use Rattle.pair_carrying.specs.Measuring.{Measured}
use Rattle.lookup_rules.specs.Rewritable.{EachRewritable}
use Rattle.lookup_rules.specs.Written.{counts_fit, lookups_need}
use Rattle.lookup_carrying.specs.declared.measuring.Measures.{Measures}

-- the table can be cut at cs, and these lookups can be rewritten
pub record MeasuringAll (s : Store) (t : ℕ) (p : PairTable) (gs ks cs ps : List ℕ) : Type 0 where
  pub arranging : Arranging s t p gs ks cs
  pub few : length cs ≤ 65536
  pub lookups : EachRewritable s ps
  pub short : length ps ≤ 65536

-- the covered glyphs are arranged, and what both need is counted
pub record BothCounted (s : Store) (t : ℕ) (gs ks cs ps : List ℕ) (m : Measures) : Type 0 where
  pub split : Measured s t gs ks cs m.split
  pub lookups : m.lookups ≡ lookups_need s t (new_tables s t cs) ps

-- and each of the lookups can say how many subtables it has
pub record BothMeasured (s : Store) (t : ℕ) (gs ks cs ps : List ℕ) (m : Measures) : Type 0 where
  pub split : Measured s t gs ks cs m.split
  pub fits : counts_fit s t (new_tables s t cs) ps ≡ true
  pub lookups : m.lookups ≡ lookups_need s t (new_tables s t cs) ps

-- both are counted in an error too, which says that one of the lookups would have more subtables than its count can say
pub record MeasuredAll (s : Store) (t : ℕ) (gs ks cs ps : List ℕ) (r : Result Measures Measures) : Type 0 where
  pub over : (m : Measures) → r ≡ Err m → BothCounted s t gs ks cs ps m × (counts_fit s t (new_tables s t cs) ps ≡ false)
  pub fit : (m : Measures) → r ≡ Ok m → BothMeasured s t gs ks cs ps m

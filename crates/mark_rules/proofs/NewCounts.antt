-- How many objects and tables a split writes, and where its cuts lie. Assumes nothing.
use Prim.Native.Nat.{ℕ}
use mathlib.Core.Path.{◌≡◌, refl}
use mathlib.Core.List.{List, ◌∷◌}
use native.Mathlib.Omega.{arith}
use lib.ListN.{length, length-append}
use Rattle.folds.specs.Folds.{flat}
use Rattle.folds.proofs.Folds.{length-upto}
use Rattle.folds.proofs.FromTheFront.{length_even}
use Rattle.store_rules.specs.Store.{Store}
use Rattle.store_rules.specs.Appended.{new_number}
use Rattle.cut_rules.specs.Cuts.{cuts_of}
use Rattle.cut_rules.specs.Places.{Places}
use Rattle.cut_rules.specs.Ranges.{from, to}
use Rattle.cut_rules.proofs.CutPlaces.{places}
use Rattle.call_rules.specs.declared.Settings.{Settings}
use Rattle.mark_rules.specs.Rules.{mark_rule}
use Rattle.mark_rules.specs.Table.{Mark, classes_of, rule_of, cut_places}
use Rattle.mark_rules.specs.Written.{new_table, new_parts, new_objects, per_table, need_objects, new_tables}

-- the cuts ascend, each below the number of classes
pub table_cuts : (how : Settings) (s : Store) (t : ℕ) → Places (classes_of s t) (cut_places how s t)
unfolding cut_places cuts_of rule_of mark_rule
table_cuts how s t = places (rule_of how s t) (classes_of s t)

-- the objects of new table j: itself and its own parts
abbrev pub objects_of : List Mark → ℕ → ℕ → List ℕ → ℕ → List (List ℕ)
objects_of ms bases n cs j = new_table (from cs j) (to n cs j) ∷ new_parts ms bases (from cs j) (to n cs j)

pub four_each : (ms : List Mark) (bases n : ℕ) (cs : List ℕ) (j : ℕ) → length (objects_of ms bases n cs j) ≡ per_table
unfolding new_parts
four_each ms bases n cs j = refl

-- "4K+3 objects"
pub new_many : (ms : List Mark) (bases n : ℕ) (cs : List ℕ) → length (new_objects ms bases n cs) ≡ need_objects (length cs)
unfolding new_objects new_parts need_objects
new_many ms bases n cs =
    omega (
      arith,
      length-append (flat (objects_of ms bases n cs) (length cs)) (new_parts ms bases 0 (from cs 0)),
      length_even (objects_of ms bases n cs) per_table (four_each ms bases n cs) (length cs),
    )

pub tables_many : (s : Store) (t : ℕ) (cs : List ℕ) → length (new_tables s t cs) ≡ length cs
unfolding new_tables
tables_many s t cs = length-upto (new_number s per_table) (length cs)

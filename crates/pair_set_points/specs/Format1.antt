-- The pair sets below some pair set in tables. Assumes nothing.
use Rattle.std.specs.Prelude.{ℕ, ◌+◌, ◌*◌, ◌≡◌, Bool, true, cond, ◌&&◌, List, leb, eqb}
use Rattle.folds.specs.Folds.{sum}
use Rattle.folds.specs.Lists.{is_some}
use Rattle.ot_layouts.specs.PairPos.{item_at}
use Rattle.store_rules.specs.Store.{Store, lent, size_of, child_at, linked_at}
use Rattle.cut_rules.specs.Cuts.{looked}
use Rattle.call_rules.specs.declared.Settings.{Settings}
use Rattle.pair_rules.specs.Table.{shape, all_at_slots, rule_of, cut_places}
use Rattle.pair_items.specs.declared.table_info.TableInfo.{TableInfo}
use Rattle.pair_set_points.specs.declared.Sets.{Sets}
use Rattle.cut_filling.specs.Filling.{Filled, Placed}
use Rattle.pair_items.specs.Filled.{Described, Unseen, cutting_at, AtItem, TellsCycle}

-- the table is of format 1, and its links stand at slots
pub record Table1 (s : Store) (x : TableInfo) : Type 0 where
  pub described : Described s x
  pub format : eqb (shape s x.table).format 1 ≡ true
  pub slots : all_at_slots s x.table ≡ true
  pub coverage : x.beside ≡ size_of s (linked_at s x.table 2)

-- what a caller has seen before it asks for the cut places
pub record Ready1 (s : Store) (x : TableInfo) (w l : List ℕ) : Type 0 where
  pub table : Table1 s x
  pub unseen : Unseen s x w l

-- the slot of pair set k is not empty
abbrev pub linked : Store → ℕ → ℕ → Bool
linked s t k = is_some (child_at s t (item_at (shape s t) k))

-- the pair sets below i have been weighed, and the coverage has the glyphs of those in the table that is being filled
pub record Below1 (how : Settings) (s : Store) (x : TableInfo) (d : List ℕ) (i : ℕ) (p : Sets) (w l : List ℕ) : Type 0 where
  pub table : Table1 s x
  pub filled : Filled (rule_of how s x.table) d i p.filling l
  pub at : AtItem how s x i p.filling p.row w
  pub coverage : p.partial ≡ 4 + 2 * sum (λ k. cond (leb (cutting_at how s x i).first k && looked how.edition (linked s x.table) k) 1 0) i

-- pair set i was weighed, whatever the bytes of the store
abbrev pub Weighs1 : Settings → List ℕ → List ℕ → List ℕ → TableInfo → ℕ → Sets → List ℕ → List ℕ → Sets → List ℕ → List ℕ → Type 0
Weighs1 how o l c x i p w cuts p' w' cuts' =
    (b d : List ℕ) → Below1 how (lent b o l c) x d i p w cuts → Below1 how (lent b o l c) x d (i + 1) p' w' cuts'

-- all were
abbrev pub Places1 : Settings → List ℕ → List ℕ → List ℕ → TableInfo → List ℕ → List ℕ → List ℕ → ℕ → Type 0
Places1 how o l c x w cuts cuts' r = (b : List ℕ) → Ready1 (lent b o l c) x w cuts → Placed (cut_places how (lent b o l c) x.table) cuts cuts' r

-- and then the walk tells of a cycle
abbrev pub Tells1 : List ℕ → List ℕ → List ℕ → TableInfo → List ℕ → List ℕ → List ℕ → Type 0
Tells1 o l c x w cuts w' = (b : List ℕ) → Ready1 (lent b o l c) x w cuts → TellsCycle (lent b o l c) x.table w'

-- The class-1 rows below some row in tables. Assumes nothing.
use Rattle.std.specs.Prelude.{ℕ, ◌+◌, ◌≤◌, ◌≡◌, false, List, eqb, length}
use Rattle.store_rules.specs.Store.{Store, lent, size_of, linked_at}
use Rattle.call_rules.specs.declared.Settings.{Settings}
use Rattle.pair_rules.specs.Table.{shape, entries_of, rule_of, cut_places}
use Rattle.glyph_set.specs.GlyphSet.{Empty}
use Rattle.pair_items.specs.declared.table_info.TableInfo.{TableInfo}
use Rattle.pair_row_points.specs.declared.Rows.{Rows}
use Rattle.cut_filling.specs.Filling.{Filled, Placed}
use Rattle.pair_items.specs.Filled.{Described, Unseen, cutting_at, AtItem, TellsCycle}
use Rattle.glyph_class_parts.specs.ClassParts.{OrderedByClass}
use Rattle.pair_row_classes.specs.Classes.{Holds}

-- the table is of format 2, and the glyphs are those that it covers, by class
pub record Table2 (s : Store) (x : TableInfo) (gs cs : List ℕ) : Type 0 where
  pub described : Described s x
  pub format : eqb (shape s x.table).format 1 ≡ false
  pub class2 : x.beside ≡ size_of s (linked_at s x.table 10)
  pub ordered : OrderedByClass (entries_of s x.table) gs cs

-- what a caller has seen before it asks for the cut places, with an empty set
pub record Ready2 (s : Store) (x : TableInfo) (gs cs w set l : List ℕ) : Type 0 where
  pub table : Table2 s x gs cs
  pub unseen : Unseen s x w l
  pub long : 8192 ≤ length set
  pub empty : Empty set

-- the rows below i have been weighed, and the estimator has the classes of those in the table that is being filled
pub record Below2 (how : Settings) (s : Store) (x : TableInfo) (gs cs d : List ℕ) (i : ℕ) (p : Rows) (w set l : List ℕ) : Type 0 where
  pub table : Table2 s x gs cs
  pub filled : Filled (rule_of how s x.table) d i p.filling l
  pub at : AtItem how s x i p.filling p.row w
  pub held : Holds (entries_of s x.table) gs (cutting_at how s x i).first i p.classes set

-- row i was weighed, whatever the bytes of the store
abbrev pub Weighs2 : Settings → List ℕ → List ℕ → List ℕ → TableInfo → List ℕ → List ℕ → ℕ → Rows → List ℕ → List ℕ → List ℕ → Rows → List ℕ → List ℕ
    → List ℕ → Type 0
Weighs2 how o l c x gs cs i p w set cuts p' w' set' cuts' =
    (b d : List ℕ) → Below2 how (lent b o l c) x gs cs d i p w set cuts → Below2 how (lent b o l c) x gs cs d (i + 1) p' w' set' cuts'

-- all were
abbrev pub Places2 : Settings → List ℕ → List ℕ → List ℕ → TableInfo → List ℕ → List ℕ → List ℕ → List ℕ → List ℕ → List ℕ → ℕ → Type 0
Places2 how o l c x gs cs w set cuts cuts' r =
    (b : List ℕ) → Ready2 (lent b o l c) x gs cs w set cuts → Placed (cut_places how (lent b o l c) x.table) cuts cuts' r

-- and then the walk tells of a cycle
abbrev pub Tells2 : List ℕ → List ℕ → List ℕ → TableInfo → List ℕ → List ℕ → List ℕ → List ℕ → List ℕ → List ℕ → Type 0
Tells2 o l c x gs cs w set cuts w' = (b : List ℕ) → Ready2 (lent b o l c) x gs cs w set cuts → TellsCycle (lent b o l c) x.table w'

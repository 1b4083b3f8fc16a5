-- The new objects of a split, and the table that they are made from. Assumes nothing.
use Rattle.std.specs.Prelude.{ℕ, ◌+◌, ◌*◌, ◌≤◌, ◌≡◌, List, ◌∷◌, map, length, get_or}
use Rattle.folds.specs.Folds.{flat}
use Rattle.folds.specs.Lists.{join, part}
use Rattle.ot_layouts.specs.Coverage.{Entry}
use Rattle.ot_layouts.specs.PairPos.{own_in, shape_of, item_at}
use Rattle.glyph_rules.specs.Entries.{within}
use Rattle.cut_rules.specs.Ranges.{from}
use Rattle.pair_rules.specs.Written.{part_of, new_table, new_objects}
use Rattle.ot_pairpos.specs.declared.Layout.{Layout}
use Rattle.ot_pairpos.specs.Layout.{layout_of}

-- the own parts of a table of format f with these entries, of which lo is the first item
unfoldable pub parts_of : ℕ → List Entry → ℕ → List (List ℕ)
parts_of f es lo = map (part_of es lo) (own_in f)

-- the bytes of the table of layout l at `head`
abbrev pub old_table : List ℕ → ℕ → Layout → List ℕ
old_table d head l = part d head (head + (l.header + l.item * l.count))

-- that table has this layout, and ends at or before `at`
pub record Old (d : List ℕ) (head : ℕ) (l : Layout) (at : ℕ) : Type 0 where
  pub layout_is : l ≡ layout_of (old_table d head l)
  pub before : head + (l.header + l.item * l.count) ≤ at
  pub inside : at ≤ length d

-- a new table of its items lo up to hi
abbrev pub table_of : List ℕ → ℕ → Layout → ℕ → ℕ → List ℕ
table_of d head l lo hi = new_table (shape_of (old_table d head l)) (old_table d head l) lo hi

-- new table j of a split of it at cs, and what stands beside it
abbrev pub table_objects : List ℕ → ℕ → Layout → List Entry → List ℕ → ℕ → List (List ℕ)
table_objects d head l es cs j =
    table_of d head l (from cs j) (get_or cs (j + 1) l.count) ∷ parts_of l.format (within (from cs j) (get_or cs (j + 1) l.count) es) (from cs j)

-- the objects of all new tables
abbrev pub tables_of : List ℕ → ℕ → Layout → List Entry → List ℕ → List (List ℕ)
tables_of d head l es cs = flat (table_objects d head l es cs) (length cs)

-- all its new objects
abbrev pub objects_of : List ℕ → ℕ → Layout → List Entry → List ℕ → List (List ℕ)
objects_of d head l es cs = new_objects (shape_of (old_table d head l)) (old_table d head l) es cs

-- how many bytes they take, of a table of layout l that has its exact length
pub record Length (l : Layout) (es : List Entry) (cs : List ℕ) (r : ℕ) : Type 0 where
  pub is : (b : List ℕ) → l ≡ layout_of b → length b ≡ item_at (shape_of b) (shape_of b).count → r ≡ length (join (new_objects (shape_of b) b es cs))

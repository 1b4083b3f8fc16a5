-- The new objects of a split, from the glyphs and the classes of the marks. Assumes nothing.
use Rattle.std.specs.Prelude.{ℕ, ◌+◌, ◌*◌, List, ◌∷◌, length}
use Rattle.folds.specs.Folds.{flat}
use Rattle.ot_layouts.specs.Coverage.{coverage_bytes}
use Rattle.cut_rules.specs.Ranges.{from, to}
use Rattle.mark_rules.specs.Written.{new_table, new_parts, new_objects}
use Rattle.mark_new_table.specs.Arrays.{arrays_of}
use Rattle.mark_new_objects.specs.Marks.{marks_from}

-- the parts of a table of the classes lo up to hi: its coverage, of these glyphs, and behind it its arrays
abbrev pub parts_of : List ℕ → List ℕ → ℕ → ℕ → ℕ → List (List ℕ)
parts_of gs ks bases lo hi = coverage_bytes gs ∷ arrays_of ks bases lo hi

-- how many bytes these take, of so many classes
abbrev pub parts_length : List ℕ → ℕ → ℕ → ℕ
parts_length gs bases n = length (coverage_bytes gs) + (2 + 4 * length gs) + (2 + 2 * (bases * n))

-- new table j of a split of n classes at cs, and its parts
abbrev pub table_objects : List ℕ → List ℕ → ℕ → ℕ → List ℕ → ℕ → List (List ℕ)
table_objects gs ks bases n cs j = new_table (from cs j) (to n cs j) ∷ new_parts (marks_from gs ks) bases (from cs j) (to n cs j)

-- the objects of all new tables
abbrev pub tables_of : List ℕ → List ℕ → ℕ → ℕ → List ℕ → List (List ℕ)
tables_of gs ks bases n cs = flat (table_objects gs ks bases n cs) (length cs)

-- all new objects
abbrev pub objects_of : List ℕ → List ℕ → ℕ → ℕ → List ℕ → List (List ℕ)
objects_of gs ks bases n cs = new_objects (marks_from gs ks) bases n cs

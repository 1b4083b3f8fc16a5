-- OpenType's layouts held against small tables, as one check; each line pins what its comment says. Assumes nothing.
use Rattle.ot_layouts.specs.declared.Header.{Header}
use Rattle.std.specs.Prelude.{Option, Some, None}
use Prim.Native.Nat.{ℕ, zero, suc, ◌+◌}
use mathlib.Core.Path.{◌≡◌, refl}
use mathlib.Core.Bool.{Bool, true, false, not, ◌&&◌}
use mathlib.Core.List.{List, [], ◌∷◌, ◌++◌}
use lib.IntN.{ℤ, pos, negsuc}
use lib.ListN.{length, replicate}
use lib.Dec.{leb, eqb}
use Rattle.folds.specs.Folds as Folds
use Rattle.folds.specs.Folds.{all, upto, run}
use Rattle.folds.specs.Lists as Lists
use Rattle.folds.specs.Lists.{is_some}
use Rattle.folds.proofs.Compared as compared
use Rattle.folds.proofs.Compared.{same, every, agree}
use Rattle.ot_layouts.specs.Numbers as Numbers
use Rattle.ot_layouts.specs.Numbers.{u16_at, be16, words, signed16}
use Rattle.ot_layouts.specs.Values as Values
use Rattle.ot_layouts.specs.Values.{field_at, field_count, devices, bit, position}
use Rattle.ot_layouts.specs.Coverage as Coverage
use Rattle.ot_layouts.specs.Coverage.{Entry, cover_readable, coverage_of, cover_glyphs, cover_place, coverage_bytes}
use Rattle.ot_layouts.specs.ClassDef as ClassDef
use Rattle.ot_layouts.specs.ClassDef.{class_readable, class_def_of, class_of, first_glyph, last_glyph, span, in_ranges, class_in, class_def_bytes}
use Rattle.ot_layouts.specs.PairPos as PairPos
use Rattle.ot_layouts.specs.PairPos.{Shape, shape_of, heads, item_at, exact, is_slot, record_size, device_slots, set_readable, values_at, first_record, set_sorted}
use Rattle.ot_layouts.specs.MarkBasePos as MarkBasePos
use Rattle.ot_layouts.specs.MarkBasePos.{
  class_count,
  table_size,
  own,
  is_table_slot,
  mark_count,
  mark_class,
  mark_slot,
  is_mark_slot,
  class_before,
  marks_readable,
  base_count,
  base_slot,
  is_base_slot,
  column_at,
  bases_readable,
}
use Rattle.ot_layouts.specs.Lookup as Lookup
use Rattle.ot_layouts.specs.Lookup.{lookup_count, list_exact, is_list_slot, lookup_type, subtable_count, lookup_exact, is_subtable_slot}
use Rattle.ot_layouts.specs.declared.Kind.{Kind}

-- a place that was found; 99 where there is none
unfoldable pub placed : Option ℕ → ℕ
placed (Some n) = n
placed None = 99

abbrev isℤ : ℤ → ℤ → Bool
isℤ (pos a) (pos b) = eqb a b
isℤ (negsuc a) (negsuc b) = eqb a b
isℤ (pos a) (negsuc b) = false
isℤ (negsuc a) (pos b) = false

-- the format of a header, and its count
unfoldable pub kind_number : Kind → ℕ
kind_number Kind.List = 1
kind_number Kind.Ranges = 2

unfoldable pub header : Option Header → List ℕ
header (Some h) = kind_number h.kind ∷ h.count ∷ []
header None = []

-- `u16_at`, `be16`, `signed16`: big-endian, zero past the end, and the sign at 32,768
unfoldable pub numbers : List Bool
numbers =
    eqb (u16_at (1 ∷ 2 ∷ 3 ∷ []) 1) 515 ∷ eqb (u16_at [] 0) 0 ∷ same (be16 515) (2 ∷ 3 ∷ []) ∷ same (words (1 ∷ 256 ∷ [])) (0 ∷ 1 ∷ 1 ∷ 0 ∷ [])
    ∷ isℤ (signed16 32767) (pos 32767) ∷ isℤ (signed16 32768) (negsuc 32767) ∷ isℤ (signed16 65535) (negsuc 0)
    ∷ []

-- `fields`, row by row: its mask, its name, and whether it is a device
-- `field_count`, `devices`, `bit`, `position`: the low eight bits, lowest first, of which the upper four are devices
unfoldable pub values : List Bool
values =
    same (upto (λ j. (field_at j).mask) 8) (0x01 ∷ 0x02 ∷ 0x04 ∷ 0x08 ∷ 0x10 ∷ 0x20 ∷ 0x40 ∷ 0x80 ∷ [])
    ∷ same (upto (λ j. (field_at j).name) 8) (run 0 8) ∷ all (λ j. agree (field_at j).device (leb 4 j)) 8
    ∷ eqb (field_count 0x00F5) 6 ∷ eqb (field_count 0xFF00) 0 ∷ eqb (field_count 0x01FF) 8
    ∷ same (devices 0x00F5) (2 ∷ 3 ∷ 4 ∷ 5 ∷ []) ∷ same (devices 0x000F) [] ∷ same (devices 0x0088) (1 ∷ [])
    ∷ eqb (bit 0x0010 4) 1 ∷ eqb (bit 0x0010 3) 0 ∷ eqb (position 0x00F5 2) 1 ∷ eqb (position 0x00F5 7) 5
    ∷ []

-- what is written reads back
unfoldable pub covers : List ℕ → Bool
covers gs = cover_readable (coverage_bytes gs) && same (cover_glyphs (coverage_bytes gs)) gs

-- `cover_readable`: format, length, order, ranges that do not overlap, start indices; `cover_glyphs`, `cover_place`
-- `coverage_bytes`: ranges only where that is shorter
unfoldable pub coverages : List Bool
coverages =
    cover_readable (words (2 ∷ 2 ∷ 3 ∷ 4 ∷ 0 ∷ 6 ∷ 6 ∷ 2 ∷ [])) ∷ not (cover_readable (words (2 ∷ 2 ∷ 3 ∷ 4 ∷ 0 ∷ 6 ∷ 6 ∷ 1 ∷ [])))
    ∷ cover_readable (words (2 ∷ 2 ∷ 3 ∷ 4 ∷ 0 ∷ 5 ∷ 6 ∷ 2 ∷ [])) ∷ not (cover_readable (words (2 ∷ 2 ∷ 3 ∷ 4 ∷ 0 ∷ 4 ∷ 6 ∷ 2 ∷ [])))
    ∷ not (cover_readable (words (2 ∷ 1 ∷ 4 ∷ 3 ∷ 0 ∷ []))) ∷ cover_readable (words (2 ∷ 1 ∷ 0 ∷ 65535 ∷ 0 ∷ []))
    ∷ not (cover_readable (words (2 ∷ 1 ∷ 3 ∷ 4 ∷ 0 ∷ 9 ∷ []))) ∷ not (cover_readable (words (2 ∷ 1 ∷ 3 ∷ 4 ∷ [])))
    ∷ cover_readable (words (1 ∷ 2 ∷ 0 ∷ 65535 ∷ [])) ∷ not (cover_readable (words (1 ∷ 2 ∷ 3 ∷ 3 ∷ []))) ∷ not (cover_readable (words (1 ∷ 2 ∷ 3 ∷ [])))
    ∷ not (cover_readable (words (1 ∷ 1 ∷ 3 ∷ 4 ∷ []))) ∷ not (cover_readable (words (0 ∷ 0 ∷ []))) ∷ not (cover_readable (words (3 ∷ 0 ∷ []))) ∷ not (cover_readable (0 ∷ 1 ∷ 0 ∷ [])) ∷ not (cover_readable [])
    -- `coverage_of`: list or ranges, with the count
    ∷ same (header (coverage_of (words (1 ∷ 2 ∷ 3 ∷ 9 ∷ [])))) (1 ∷ 2 ∷ []) ∷ same (header (coverage_of (words (2 ∷ 1 ∷ 3 ∷ 4 ∷ 0 ∷ [])))) (2 ∷ 1 ∷ [])
    ∷ same (header (coverage_of (words (3 ∷ 0 ∷ [])))) []
    ∷ eqb (placed (cover_place (words (2 ∷ 2 ∷ 3 ∷ 4 ∷ 0 ∷ 6 ∷ 6 ∷ 2 ∷ [])) 6)) 2 ∷ eqb (placed (cover_place (words (1 ∷ 2 ∷ 3 ∷ 9 ∷ [])) 4)) 99
    ∷ covers [] ∷ covers (3 ∷ 4 ∷ 5 ∷ 6 ∷ 9 ∷ []) ∷ covers (1 ∷ 3 ∷ 300 ∷ []) ∷ covers (run 3 5) ∷ covers (run 3 5 ++ run 20 5)
    ∷ eqb (u16_at (coverage_bytes (3 ∷ 4 ∷ 5 ∷ 6 ∷ 9 ∷ [])) 0) 1 ∷ eqb (u16_at (coverage_bytes (run 3 4 ++ run 20 3)) 0) 2
    ∷ eqb (length (coverage_bytes (run 3 3))) 10 ∷ eqb (u16_at (coverage_bytes (run 3 3)) 0) 1 ∷ eqb (length (coverage_bytes (run 3 4))) 10 ∷ eqb (u16_at (coverage_bytes (run 3 4)) 0) 2
    ∷ []

abbrev entry : ℕ → ℕ → Entry
entry g c = record { glyph = g; class = c }

unfoldable pub classes : List Entry → Bool
classes es = class_readable (class_def_bytes es) && all (λ g. eqb (class_of (class_def_bytes es) g) (class_in es g)) 20

-- `class_readable`: format, length, order, the last glyph; `class_of`: 0 where a glyph is not named
-- `class_def_bytes`: class 0 is not named; ranges only where that is shorter, or where first to last spans 65,536 glyphs
unfoldable pub class_defs : List Bool
class_defs =
    class_readable (words (1 ∷ 65534 ∷ 2 ∷ 1 ∷ 1 ∷ [])) ∷ not (class_readable (words (1 ∷ 65535 ∷ 2 ∷ 1 ∷ 1 ∷ []))) ∷ not (class_readable (words (1 ∷ 3 ∷ 2 ∷ 1 ∷ [])))
    ∷ class_readable (words (2 ∷ 2 ∷ 3 ∷ 4 ∷ 1 ∷ 5 ∷ 6 ∷ 1 ∷ [])) ∷ not (class_readable (words (2 ∷ 2 ∷ 3 ∷ 4 ∷ 1 ∷ 4 ∷ 6 ∷ 1 ∷ [])))
    ∷ not (class_readable (words (2 ∷ 1 ∷ 4 ∷ 3 ∷ 0 ∷ []))) ∷ not (class_readable (words (3 ∷ 0 ∷ 0 ∷ [])))
    ∷ not (class_readable (words (0 ∷ 3 ∷ 1 ∷ 7 ∷ []))) ∷ not (class_readable (words (0 ∷ 0 ∷ [])))
    -- `class_def_of`: the count of format 1 stands behind its start glyph
    ∷ same (header (class_def_of (words (1 ∷ 5 ∷ 2 ∷ 7 ∷ 8 ∷ [])))) (1 ∷ 2 ∷ []) ∷ same (header (class_def_of (words (2 ∷ 1 ∷ 5 ∷ 6 ∷ 3 ∷ [])))) (2 ∷ 1 ∷ [])
    ∷ same (header (class_def_of (words (3 ∷ 0 ∷ 0 ∷ [])))) []
    -- `class_of`: no more glyphs or ranges than the count
    ∷ eqb (class_of (words (1 ∷ 5 ∷ 2 ∷ 7 ∷ 8 ∷ 9 ∷ [])) 7) 0 ∷ eqb (class_of (words (2 ∷ 1 ∷ 5 ∷ 6 ∷ 3 ∷ 9 ∷ 9 ∷ 4 ∷ [])) 9) 0
    ∷ eqb (class_of (words (1 ∷ 5 ∷ 2 ∷ 7 ∷ 8 ∷ [])) 6) 8 ∷ eqb (class_of (words (1 ∷ 5 ∷ 2 ∷ 7 ∷ 8 ∷ [])) 7) 0 ∷ eqb (class_of (words (1 ∷ 5 ∷ 2 ∷ 7 ∷ 8 ∷ [])) 4) 0
    ∷ eqb (class_of (words (2 ∷ 1 ∷ 5 ∷ 6 ∷ 3 ∷ [])) 6) 3 ∷ eqb (class_of (words (2 ∷ 1 ∷ 5 ∷ 6 ∷ 3 ∷ [])) 7) 0
    ∷ classes [] ∷ classes (entry 3 1 ∷ entry 4 1 ∷ entry 5 0 ∷ entry 6 2 ∷ []) ∷ classes (entry 3 1 ∷ entry 4 1 ∷ entry 17 1 ∷ entry 18 1 ∷ [])
    ∷ same (class_def_bytes (entry 3 1 ∷ entry 4 2 ∷ [])) (words (1 ∷ 3 ∷ 2 ∷ 1 ∷ 2 ∷ [])) ∷ same (class_def_bytes (entry 2 0 ∷ entry 3 1 ∷ [])) (words (1 ∷ 3 ∷ 1 ∷ 1 ∷ []))
    ∷ same (class_def_bytes (entry 3 1 ∷ entry 4 1 ∷ [])) (words (1 ∷ 3 ∷ 2 ∷ 1 ∷ 1 ∷ [])) ∷ same (class_def_bytes (entry 3 1 ∷ entry 4 1 ∷ entry 5 1 ∷ [])) (words (2 ∷ 1 ∷ 3 ∷ 5 ∷ 1 ∷ []))
    ∷ same (class_def_bytes (entry 3 1 ∷ entry 4 1 ∷ entry 6 1 ∷ [])) (words (1 ∷ 3 ∷ 4 ∷ 1 ∷ 1 ∷ 0 ∷ 1 ∷ []))
    ∷ same (class_def_bytes (entry 3 1 ∷ entry 4 1 ∷ entry 7 1 ∷ entry 8 1 ∷ [])) (words (2 ∷ 2 ∷ 3 ∷ 4 ∷ 1 ∷ 7 ∷ 8 ∷ 1 ∷ []))
    -- `joins`: a run is of one class
    ∷ same (class_def_bytes (entry 3 1 ∷ entry 4 1 ∷ entry 5 1 ∷ entry 6 2 ∷ entry 7 2 ∷ entry 8 2 ∷ [])) (words (2 ∷ 2 ∷ 3 ∷ 5 ∷ 1 ∷ 6 ∷ 8 ∷ 2 ∷ []))
    ∷ same (first_glyph [] ∷ last_glyph [] ∷ span [] ∷ []) (0 ∷ 0 ∷ 0 ∷ [])
    ∷ same (class_def_bytes (entry 0 1 ∷ entry 65535 2 ∷ [])) (words (2 ∷ 2 ∷ 0 ∷ 0 ∷ 1 ∷ 65535 ∷ 65535 ∷ 2 ∷ []))
    ∷ []

-- a table of format 1, of three sets, and one of format 2, of two rows and two columns: value formats 0011 and 0004
unfoldable pub table1 : List ℕ
table1 = words (1 ∷ 0 ∷ 0x11 ∷ 0x04 ∷ 3 ∷ 0 ∷ 0 ∷ 0 ∷ [])

unfoldable pub table2 : List ℕ
table2 = words (2 ∷ 0 ∷ 0x11 ∷ 0x04 ∷ 0 ∷ 0 ∷ 2 ∷ 2 ∷ []) ++ replicate 24 0

-- of a table of format 2 with devices in both value records: five rows, three columns
unfoldable pub wide2 : List ℕ
wide2 = words (2 ∷ 0 ∷ 0x17 ∷ 0x44 ∷ 0 ∷ 0 ∷ 5 ∷ 3 ∷ [])

-- the numbers of a shape, its own and shared parts, and its slots
unfoldable pub described : Shape → List ℕ → List ℕ → List ℕ → List ℕ → Bool
described sh numbers own shared slots =
    every (same (sh.format ∷ sh.header ∷ sh.count_at ∷ sh.count ∷ sh.item ∷ sh.unit ∷ []) numbers
    ∷ same sh.own own ∷ same sh.shared shared ∷ same (heads sh) (own ++ shared) ∷ same sh.slots slots ∷ [])

-- `shape1`, `shape2`, `exact`: header, items and their sizes; `is_slot`: the header's slots and one in each unit at its devices
-- `set_readable`, `first_record`: a set that is long enough, and the first record with the glyph
unfoldable pub pairs : List Bool
pairs =
    exact table1 ∷ not (exact (table1 ++ (0 ∷ []))) ∷ exact table2 ∷ not (exact (words (2 ∷ 0 ∷ 0x11 ∷ 0x04 ∷ 0 ∷ 0 ∷ 2 ∷ 2 ∷ []) ++ replicate 22 0))
    ∷ eqb (item_at (shape_of table1) 2) 14 ∷ eqb (item_at (shape_of table2) 1) 28 ∷ eqb (shape_of table1).count_at 8 ∷ eqb (shape_of table2).count_at 12
    ∷ described (shape_of table1) (1 ∷ 10 ∷ 8 ∷ 3 ∷ 2 ∷ 2 ∷ []) (2 ∷ []) [] (0 ∷ [])
    ∷ described (shape_of wide2) (2 ∷ 16 ∷ 12 ∷ 5 ∷ 36 ∷ 12 ∷ []) (2 ∷ 8 ∷ []) (10 ∷ []) (6 ∷ 10 ∷ [])
    ∷ eqb (record_size table2) 6 ∷ same (device_slots table2) (2 ∷ [])
    ∷ is_slot (shape_of table1) 2 ∷ not (is_slot (shape_of table1) 8) ∷ is_slot (shape_of table1) 10 ∷ not (is_slot (shape_of table1) 11) ∷ is_slot (shape_of table1) 14
    ∷ is_slot (shape_of table2) 8 ∷ is_slot (shape_of table2) 10 ∷ not (is_slot (shape_of table2) 16) ∷ is_slot (shape_of table2) 18 ∷ is_slot (shape_of table2) 24 ∷ not (is_slot (shape_of table2) 20)
    ∷ set_readable (words (1 ∷ 5 ∷ 3 ∷ [])) 2 ∷ not (set_readable (words (2 ∷ 5 ∷ 3 ∷ [])) 2) ∷ not (set_readable (0 ∷ []) 2)
    ∷ set_readable (words (0 ∷ [])) 2 ∷ not (set_readable (words (1 ∷ 5 ∷ []) ++ (3 ∷ [])) 2) ∷ eqb (values_at 6 0) 4 ∷ eqb (values_at 6 3) 28
    ∷ not (is_some (first_record (words (1 ∷ 5 ∷ 3 ∷ [])) 2 0)) ∷ not (is_some (first_record (words (2 ∷ 5 ∷ 3 ∷ [])) 2 5))
    -- `set_sorted`, `ascending`: neither equal nor falling, from glyph 0 on, by the record's size; a byte too many, one too few, under 2 bytes, no records
    ∷ set_sorted (words (2 ∷ 5 ∷ 9 ∷ 6 ∷ 3 ∷ [])) 2 ∷ not (set_sorted (words (2 ∷ 5 ∷ 3 ∷ 5 ∷ 4 ∷ [])) 2) ∷ not (set_sorted (words (2 ∷ 6 ∷ 3 ∷ 5 ∷ 4 ∷ [])) 2)
    ∷ set_sorted (words (3 ∷ 0 ∷ 1 ∷ 65535 ∷ [])) 0 ∷ not (set_sorted (words (3 ∷ 0 ∷ 7 ∷ 7 ∷ [])) 0) ∷ not (set_sorted (words (3 ∷ 7 ∷ 0 ∷ 8 ∷ [])) 0)
    ∷ not (set_sorted (words (2 ∷ 5 ∷ 9 ∷ 6 ∷ 3 ∷ []) ++ (0 ∷ [])) 2) ∷ not (set_sorted (words (2 ∷ 5 ∷ 9 ∷ 6 ∷ []) ++ (0 ∷ [])) 2) ∷ not (set_sorted (words (1 ∷ 5 ∷ 9 ∷ 6 ∷ 3 ∷ [])) 2)
    ∷ set_sorted (words (0 ∷ [])) 2 ∷ not (set_sorted (0 ∷ []) 2) ∷ not (set_sorted [] 2)
    ∷ eqb (placed (first_record (words (2 ∷ 5 ∷ 3 ∷ 5 ∷ 4 ∷ [])) 2 5)) 0 ∷ eqb (placed (first_record (words (2 ∷ 5 ∷ 3 ∷ 6 ∷ 4 ∷ [])) 2 6)) 1 ∷ not (is_some (first_record (words (1 ∷ 5 ∷ 3 ∷ [])) 2 3))
    ∷ []

-- a table of four mark classes; two marks of classes 1 and 3; two bases of two classes each
unfoldable pub mark_table : List ℕ
mark_table = words (1 ∷ 0 ∷ 0 ∷ 4 ∷ 0 ∷ 0 ∷ [])

unfoldable pub two_marks : List ℕ
two_marks = words (2 ∷ 1 ∷ 0 ∷ 3 ∷ 0 ∷ [])

unfoldable pub two_bases : List ℕ
two_bases = words (2 ∷ 0 ∷ 0 ∷ 0 ∷ 0 ∷ [])

-- `class_count`, `mark_count`, `mark_class`, `class_before`, `base_count`, `column_at`: what stands where
-- `is_table_slot`, `is_mark_slot`, `is_base_slot`: slots, and what lies beside; `marks_readable`, `bases_readable`: exact lengths, and a class below the class count
unfoldable pub marks : List Bool
marks =
    eqb (MarkBasePos.format_of mark_table) 1 ∷ eqb (class_count mark_table) 4 ∷ eqb table_size 12 ∷ same own (2 ∷ 8 ∷ 10 ∷ []) ∷ same MarkBasePos.heads (2 ∷ 4 ∷ 8 ∷ 10 ∷ [])
    ∷ is_table_slot 2 ∷ is_table_slot 4 ∷ is_table_slot 8 ∷ is_table_slot 10 ∷ not (is_table_slot 0) ∷ not (is_table_slot 6) ∷ not (is_table_slot 9)
    ∷ eqb (mark_count two_marks) 2 ∷ eqb (mark_class two_marks 1) 3 ∷ eqb (mark_slot 1) 8 ∷ eqb (class_before two_marks 8) 3
    ∷ is_mark_slot 4 ∷ is_mark_slot 8 ∷ not (is_mark_slot 0) ∷ not (is_mark_slot 6) ∷ not (is_mark_slot 5)
    ∷ marks_readable 4 two_marks ∷ not (marks_readable 3 two_marks) ∷ not (marks_readable 4 (two_marks ++ (0 ∷ []))) ∷ not (marks_readable 4 []) ∷ marks_readable 0 (words (0 ∷ []))
    ∷ eqb (base_count two_bases) 2 ∷ eqb (base_slot 3) 8 ∷ eqb (column_at 2 4) 1 ∷ eqb (column_at 2 6) 0
    ∷ is_base_slot 2 ∷ is_base_slot 4 ∷ not (is_base_slot 0) ∷ not (is_base_slot 3)
    ∷ bases_readable 2 two_bases ∷ not (bases_readable 3 two_bases) ∷ not (bases_readable 2 (two_bases ++ (0 ∷ []))) ∷ not (bases_readable 0 []) ∷ bases_readable 0 (words (7 ∷ []))
    ∷ []

-- a list of two lookups; a lookup of two subtables with these flags, and what stands behind their offsets
unfoldable pub lookup_list : List ℕ
lookup_list = words (2 ∷ 9 ∷ 9 ∷ [])

unfoldable pub lookup_of : ℕ → List ℕ → List ℕ
lookup_of flags behind = words (4 ∷ flags ∷ 2 ∷ 9 ∷ 9 ∷ behind)

-- `lookup_count`, `lookup_type`, `subtable_count`: what stands where; `list_exact`, `lookup_exact`, `filters`: exact lengths, two bytes more with the flag's bit alone
-- `is_one_of`, `is_list_slot`, `is_subtable_slot`: slots, and what lies beside: before, between and behind them
unfoldable pub lookups : List Bool
lookups =
    eqb (lookup_count lookup_list) 2 ∷ list_exact lookup_list ∷ not (list_exact (lookup_list ++ (0 ∷ []))) ∷ not (list_exact (words (2 ∷ 9 ∷ []))) ∷ not (list_exact [])
    ∷ list_exact (words (0 ∷ []))
    ∷ is_list_slot lookup_list 2 ∷ is_list_slot lookup_list 4 ∷ not (is_list_slot lookup_list 0) ∷ not (is_list_slot lookup_list 3) ∷ not (is_list_slot lookup_list 6)
    ∷ eqb (lookup_type (lookup_of 0 [])) 4 ∷ eqb (subtable_count (lookup_of 0 [])) 2
    ∷ lookup_exact (lookup_of 0 []) ∷ lookup_exact (lookup_of 0xFFEF []) ∷ not (lookup_exact (lookup_of 0 (7 ∷ []))) ∷ not (lookup_exact (lookup_of 0x10 []))
    ∷ lookup_exact (lookup_of 0x10 (7 ∷ [])) ∷ lookup_exact (lookup_of 0xFFFF (7 ∷ [])) ∷ not (lookup_exact (lookup_of 0x10 (7 ∷ 7 ∷ [])))
    ∷ not (lookup_exact (words (4 ∷ 0 ∷ []))) ∷ lookup_exact (words (4 ∷ 0 ∷ 0 ∷ []))
    ∷ is_subtable_slot (lookup_of 0 []) 6 ∷ is_subtable_slot (lookup_of 0 []) 8 ∷ not (is_subtable_slot (lookup_of 0 []) 4) ∷ not (is_subtable_slot (lookup_of 0 []) 7)
    ∷ not (is_subtable_slot (lookup_of 0x10 (7 ∷ [])) 10)
    ∷ []

pub pinned : every (numbers ++ values ++ coverages ++ class_defs ++ pairs ++ marks ++ lookups) ≡ true
unfolding Folds.computes Lists.computes compared.computes Numbers.computes Values.computes Coverage.computes ClassDef.computes PairPos.computes placed kind_number header numbers values covers coverages classes class_defs table1 table2 wide2 described pairs MarkBasePos.computes mark_table two_marks two_bases marks Lookup.computes lookup_list lookup_of lookups
pinned = refl

-- every third glyph from g on, n of them, of class 1
unfoldable pub thirds : ℕ → ℕ → List Entry
thirds g zero = []
thirds g (suc n) = entry g 1 ∷ thirds (g + 3) n

-- `in_ranges`: ranges that are not shorter, where first to last spans 65,536 glyphs, and where it spans one less
pub spans : every (in_ranges (thirds 0 21846) ∷ not (in_ranges (entry 0 1 ∷ thirds 2 21845)) ∷ []) ≡ true
unfolding compared.computes Coverage.computes ClassDef.computes thirds
spans = refl

-- A MarkBasePos table and its two arrays: where an array is linked, when it can be read, and where each has its links. Assumes nothing.
use Rattle.std.specs.Prelude.{ℕ, Bool, List}
use Rattle.ot_layouts.specs.MarkBasePos.{mark_array_at, base_array_at, marks_readable, bases_readable, is_table_slot, is_mark_slot, is_base_slot}
use Rattle.ot_markbasepos.specs.declared.ArrayKind.{ArrayKind}
use Rattle.ot_markbasepos.specs.declared.ArrayKind.TheVariants as Array
use Rattle.ot_markbasepos.specs.declared.Holder.{Holder}
use Rattle.ot_markbasepos.specs.declared.Holder.TheVariants.{Table, Marks, Bases}

-- where the table links each array
abbrev pub array_at : ArrayKind → ℕ
array_at Array.Marks = mark_array_at
array_at Array.Bases = base_array_at

-- when it can be read, in a table of so many classes
abbrev pub readable_as : ArrayKind → ℕ → List ℕ → Bool
readable_as Array.Marks = marks_readable
readable_as Array.Bases = bases_readable

-- where a link of each may stand
abbrev pub slot_of : Holder → ℕ → Bool
slot_of Table = is_table_slot
slot_of Marks = is_mark_slot
slot_of Bases = is_base_slot

-- Marks as covered glyphs with their classes: no byte of a new object depends on an anchor. Assumes nothing.
use Rattle.std.specs.Prelude.{ℕ, List, map, None}
use Rattle.ot_layouts.specs.Coverage.{Entry}
use Rattle.cut_parts.specs.Tables.{paired}
use Rattle.mark_rules.specs.Table.{Mark}

-- a mark without its anchor
abbrev pub entry_from : Mark → Entry
entry_from m = record { glyph = m.glyph; class = m.class }

abbrev pub entries_from : List Mark → List Entry
entries_from ms = map entry_from ms

-- and as a mark again, with none
abbrev pub mark_from : Entry → Mark
mark_from e = record { glyph = e.glyph; class = e.class; anchor = None }

-- the marks of glyphs and classes
abbrev pub marks_from : List ℕ → List ℕ → List Mark
marks_from gs ks = map mark_from (paired gs ks)

-- The class of a glyph by a ClassDef's header: in a list of classes, or by the range that has it. Assumes nothing.
use Rattle.std.specs.Prelude.{ℕ, ◌+◌, ◌-◌, ◌*◌, cond, ◌&&◌, List, leb, ltb}
use Rattle.ot_layouts.specs.Numbers.{u16_at}
use Rattle.ot_layouts.specs.ClassDef.{beside_or}
use Rattle.ot_ranges.specs.Ranges.{range_of}

-- format 1: one of n classes, the first of them that of the start glyph
abbrev pub list_class : List ℕ → ℕ → ℕ → ℕ
list_class b n g = cond (leb (u16_at b 2) g && ltb g (u16_at b 2 + n)) (u16_at b (6 + 2 * (g - u16_at b 2))) 0

-- format 2: the class beside one of n ranges
abbrev pub range_class : List ℕ → ℕ → ℕ → ℕ
range_class b n g = beside_or b (range_of b n g)

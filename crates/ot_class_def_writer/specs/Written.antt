-- The two forms of a class definition of named entries, past their heads, and what decides between them. Assumes nothing.
use Rattle.std.specs.Prelude.{ℕ, ◌+◌, ◌*◌, Bool, ◌||◌, List, ltb, eqb}
use Rattle.folds.specs.Folds.{flat}
use Rattle.ot_layouts.specs.Numbers.{be16}
use Rattle.ot_layouts.specs.Coverage.{Entry}
use Rattle.ot_layouts.specs.ClassDef.{span, class_in}

-- "format 2 only where shorter or where first to last spans 65,536 glyphs, which format 1 can't count"
abbrev pub ranges_win : ℕ → ℕ → Bool
ranges_win runs span = ltb (4 + 6 * runs) (6 + 2 * span) || eqb span 65536

-- n classes from glyph g on, "with 0 for glyphs between"
abbrev pub class_row : List Entry → ℕ → ℕ → List ℕ
class_row es g n = flat (λ j. be16 (class_in es (g + j))) n

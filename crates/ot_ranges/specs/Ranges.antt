-- The range that has a glyph, of a Coverage or a ClassDef of format 2, and the bytes of a range. Assumes nothing.
use Rattle.std.specs.Prelude.{ℕ, Bool, ◌&&◌, List, ◌++◌, leb, Option}
use Rattle.folds.specs.Folds.{first_at}
use Rattle.ot_layouts.specs.Numbers.{be16}
use Rattle.ot_layouts.specs.Coverage.{start_at, end_at}

-- range k has glyph g
abbrev pub in_range : List ℕ → ℕ → ℕ → Bool
in_range b g k = leb (start_at b k) g && leb g (end_at b k)

-- the first of n ranges that has glyph g
abbrev pub range_of : List ℕ → ℕ → ℕ → Option ℕ
range_of b n g = first_at (in_range b g) n

-- the six bytes of a range (OpenType: start glyph, end glyph, and a third number)
abbrev pub range_bytes : ℕ → ℕ → ℕ → List ℕ
range_bytes start end beside = be16 start ++ be16 end ++ be16 beside

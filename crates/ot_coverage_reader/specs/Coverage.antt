-- What the functions over a Coverage take and answer, beside what OpenType says of one. Assumes nothing.
use Rattle.std.specs.Prelude.{ℕ, ◌≡◌, List, Some}
use Rattle.ot_layouts.specs.Coverage.{coverage_of}
use Rattle.ot_layouts.specs.declared.Kind.TheVariants as Kind

-- a readable Coverage, a list of n glyphs
abbrev pub AsList : List ℕ → ℕ → Type 0
AsList b n = coverage_of b ≡ Some (record { kind = Kind.List; count = n })

-- a readable Coverage of n ranges
abbrev pub AsRanges : List ℕ → ℕ → Type 0
AsRanges b n = coverage_of b ≡ Some (record { kind = Kind.Ranges; count = n })

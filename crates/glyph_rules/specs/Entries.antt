-- Covered glyphs with their items: those of a range of items, and their items counted from its first. Assumes nothing.
use Rattle.std.specs.Prelude.{ℕ, ◌-◌, ◌&&◌, List, map, leb, ltb}
use Rattle.folds.specs.Lists.{sift}
use Rattle.ot_layouts.specs.Coverage.{Entry}

-- the entries of class lo up to hi, hi left out
unfoldable pub within : ℕ → ℕ → List Entry → List Entry
within lo hi es = sift (λ e. leb lo e.class && ltb e.class hi) es

-- "classes reduced by its first"
abbrev pub reduced : ℕ → List Entry → List Entry
reduced lo es = map (λ e. record { glyph = e.glyph; class = e.class - lo }) es

-- all of this file's definitions, for checks that compute
unfoldable pub computes : Unit {0}
unfolding within
computes = tt

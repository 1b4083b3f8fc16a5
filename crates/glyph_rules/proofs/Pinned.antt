-- Covered glyphs of a range and their estimates, held against small lists, as one check; each line pins what its comment says. Assumes nothing.
use Prim.Native.Nat.{ℕ}
use mathlib.Core.Path.{◌≡◌, refl}
use mathlib.Core.Bool.{Bool, true}
use mathlib.Core.List.{List, [], ◌∷◌}
use lib.Dec.{eqb}
use Rattle.folds.specs.Folds as Folds
use Rattle.folds.specs.Lists as Lists
use Rattle.folds.proofs.Compared as compared
use Rattle.folds.proofs.Compared.{same, every}
use Rattle.ot_layouts.specs.Coverage as Coverage
use Rattle.ot_layouts.specs.Coverage.{Entry}
use Rattle.ot_layouts.specs.ClassDef as ClassDef
use Rattle.glyph_rules.specs.Entries as Entries
use Rattle.glyph_rules.specs.Entries.{within, reduced}
use Rattle.glyph_rules.specs.Estimates as Estimates
use Rattle.glyph_rules.specs.Estimates.{estimate, cover_size, class_size, beside_rows}

abbrev entry : ℕ → ℕ → Entry
entry g c = record { glyph = g; class = c }

-- entries as numbers
unfoldable pub numbers : List Entry → List ℕ
numbers [] = []
numbers (e ∷ es) = e.glyph ∷ e.class ∷ numbers es

-- an estimate as a list
unfoldable pub estimated : List Entry → List ℕ
estimated es = (estimate es).first ∷ (estimate es).last ∷ (estimate es).glyphs ∷ (estimate es).runs ∷ (estimate es).listed ∷ (estimate es).ranged ∷ []

-- glyphs of the classes 0, 1, 2 and 0, with a gap before the last
unfoldable pub some : List Entry
some = entry 5 0 ∷ entry 6 1 ∷ entry 7 2 ∷ entry 9 0 ∷ []

unfoldable pub pins : List Bool
pins =
    -- `within`: from lo on, and below hi
    same (numbers (within 1 2 some)) (6 ∷ 1 ∷ []) ∷ same (numbers (within 0 1 some)) (5 ∷ 0 ∷ 9 ∷ 0 ∷ [])
    -- `reduced`: classes less the first
    ∷ same (numbers (reduced 1 (within 1 3 some))) (6 ∷ 0 ∷ 7 ∷ 1 ∷ [])
    -- `estimate`: with no glyph the two figures are 6 and 4; class 0 counts for first, last and coverage, and is not named
    ∷ same (estimated []) (0 ∷ 0 ∷ 0 ∷ 0 ∷ 6 ∷ 4 ∷ []) ∷ same (estimated some) (5 ∷ 9 ∷ 4 ∷ 2 ∷ 16 ∷ 16 ∷ [])
    -- `cover_size`, `class_size`: the smaller of a list and of ranges
    ∷ eqb (cover_size (estimate (entry 5 0 ∷ []))) 6 ∷ eqb (cover_size (estimate (entry 5 0 ∷ entry 6 0 ∷ entry 7 0 ∷ entry 8 0 ∷ []))) 10
    ∷ eqb (class_size (estimate (entry 5 1 ∷ []))) 8 ∷ eqb (class_size (estimate (entry 5 1 ∷ entry 90 0 ∷ []))) 10
    -- `beside_rows`: of coverage, class definition 1 and class definition 2 the largest is taken off, each in its turn
    ∷ eqb (beside_rows 6 (estimate (entry 5 0 ∷ entry 9 0 ∷ entry 20 0 ∷ []))) 10
    ∷ eqb (beside_rows 410 (estimate some)) 28 ∷ eqb (beside_rows 14 (estimate some)) 26 ∷ eqb (beside_rows 4 (estimate some)) 16
    ∷ []

pub pinned : every pins ≡ true
unfolding Folds.computes Lists.computes Coverage.computes ClassDef.computes Entries.computes Estimates.computes compared.computes numbers estimated some pins
pinned = refl

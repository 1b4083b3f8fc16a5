-- ClassDef: its bytes read, and written for entries in ascending order. Assumes nothing.
use Rattle.ot_layouts.specs.declared.Header.{Header}
use Rattle.std.specs.Prelude.{ℕ, ◌+◌, ◌-◌, ◌*◌, Bool, cond, not, ◌&&◌, ◌||◌, List, [], ◌∷◌, ◌++◌, length, leb, ltb, eqb, Option, Some, None}
use Rattle.folds.specs.Folds.{flat, first_at}
use Rattle.folds.specs.Lists.{sift}
use Rattle.ot_layouts.specs.Numbers.{u16_at, be16}
use Rattle.ot_layouts.specs.Coverage.{Entry, Run, start_at, end_at, beside_at, ranges_fit, reading, runs}

-- ---- read

-- "start glyph, count, classes, length 6+2n, last glyph at most 65,535. Format 2: ranges as above with a class, length 4+6r."
unfoldable pub class_readable : List ℕ → Bool
class_readable b =
    eqb (u16_at b 0) 1 && eqb (length b) (6 + 2 * u16_at b 4) && leb (u16_at b 2 + u16_at b 4) 65536
    || eqb (u16_at b 0) 2 && ranges_fit b (u16_at b 2)

-- read into a header, as a Coverage is; the count of format 1 stands behind its start glyph
unfoldable pub class_def_of : List ℕ → Option Header
class_def_of b = reading (class_readable b) (u16_at b 0) (cond (eqb (u16_at b 0) 1) (u16_at b 4) (u16_at b 2))

-- the class of the range that was found; "A glyph not named has class 0."
abbrev pub beside_or : List ℕ → Option ℕ → ℕ
beside_or b (Some k) = beside_at b k
beside_or b None = 0

-- the class of glyph g by a readable one
unfoldable pub class_of : List ℕ → ℕ → ℕ
class_of b g =
    cond (eqb (u16_at b 0) 1)
    (cond (leb (u16_at b 2) g && ltb g (u16_at b 2 + u16_at b 4)) (u16_at b (6 + 2 * (g - u16_at b 2))) 0)
    (beside_or b (first_at (λ k. leb (start_at b k) g && leb g (end_at b k)) (u16_at b 2)))

-- ---- written

-- the first glyph of entries in ascending order
unfoldable pub first_glyph : List Entry → ℕ
first_glyph [] = 0
first_glyph (e ∷ es) = e.glyph

-- the last glyph of entries in ascending order
unfoldable pub last_glyph : List Entry → ℕ
last_glyph [] = 0
last_glyph (e ∷ []) = e.glyph
last_glyph (e ∷ f ∷ es) = last_glyph (f ∷ es)

-- "first to last": how many glyphs lie from one to the other, both counted
unfoldable pub span : List Entry → ℕ
span [] = 0
span (e ∷ es) = last_glyph (e ∷ es) + 1 - e.glyph

-- "ClassDef names only classes other than 0"
unfoldable pub named : List Entry → List Entry
named es = sift (λ e. not (eqb e.class 0)) es

-- the class of g among the entries, "with 0 for glyphs between"
unfoldable pub class_in : List Entry → ℕ → ℕ
class_in [] g = 0
class_in (e ∷ es) g = cond (eqb e.glyph g) e.class (class_in es g)

-- format 2's ranges (OpenType: start glyph, end glyph, class)
unfoldable pub class_ranges : List Run → List ℕ
class_ranges [] = []
class_ranges (r ∷ rs) = be16 r.start ++ be16 r.end ++ be16 r.class ++ class_ranges rs

-- "format 2 only where shorter or where first to last spans 65,536 glyphs, which format 1 can't count"
abbrev pub in_ranges : List Entry → Bool
in_ranges es = ltb (4 + 6 * length (runs es)) (6 + 2 * span es) || eqb (span es) 65536

-- of entries of classes other than 0; format 1 is start glyph, count, classes
abbrev pub named_bytes : List Entry → List ℕ
named_bytes es =
    cond (in_ranges es)
    (be16 2 ++ be16 (length (runs es)) ++ class_ranges (runs es))
    (be16 1 ++ be16 (first_glyph es) ++ be16 (span es) ++ flat (λ j. be16 (class_in es (first_glyph es + j))) (span es))

-- the bytes of a class definition for some glyphs with their classes
unfoldable pub class_def_bytes : List Entry → List ℕ
class_def_bytes es = named_bytes (named es)

-- all of this file's definitions, for checks that compute
unfoldable pub computes : Unit {0}
unfolding class_readable class_def_of class_of first_glyph last_glyph span named class_in class_ranges class_def_bytes
computes = tt

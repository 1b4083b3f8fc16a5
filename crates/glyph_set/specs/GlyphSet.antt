-- A set of glyphs in lent bytes: "Glyph g is bit g mod 8 of byte g div 8". Assumes nothing.
use Rattle.std.specs.Prelude.{ℕ, ◌+◌, ◌/◌, ◌%◌, ◌^◌, Bool, cond, List, [], ◌∷◌, ◌≡◌, eqb, ltb, length, get_or, set}
use Rattle.std.specs.Int.Bits.{bit_or}
use Rattle.folds.specs.Folds.{before, upto}
use Rattle.folds.specs.Lists.{sift}
use Rattle.ot_layouts.specs.Coverage.{runs, plain}

-- g is in the set
unfoldable pub member : List ℕ → ℕ → Bool
member s g = eqb (get_or s (g / 8) 0 / 2 ^ (g % 8) % 2) 1

-- the set with g in it
unfoldable pub mark : List ℕ → ℕ → List ℕ
mark s g = set s (g / 8) (bit_or (get_or s (g / 8) 0) (2 ^ (g % 8)))

-- the set with nothing in the byte of g
unfoldable pub blank : List ℕ → ℕ → List ℕ
blank s g = set s (g / 8) 0

-- with each glyph of a list in it, one after the other
unfoldable pub mark_all : List ℕ → List ℕ → List ℕ
mark_all s [] = s
mark_all s (g ∷ gs) = mark_all (mark s g) gs

-- with nothing in the bytes of a list's glyphs
unfoldable pub blank_all : List ℕ → List ℕ → List ℕ
blank_all s [] = s
blank_all s (g ∷ gs) = blank_all (blank s g) gs

-- the glyphs of the set in ascending order, out of 65,536
unfoldable pub members : List ℕ → List ℕ
members s = sift (member s) (upto (λ g. g) 65536)

-- how many runs they form
unfoldable pub run_count : List ℕ → ℕ
run_count s = length (runs (plain (members s)))

-- 1 where g is in the set, else 0
abbrev pub present : List ℕ → ℕ → ℕ
present s g = cond (member s g) 1 0

-- the glyph behind g; 65,535 is the last
unfoldable pub behind : List ℕ → ℕ → ℕ
behind s g = cond (ltb (g + 1) 65536) (present s (g + 1)) 0

-- how many of the two neighbours of g are in the set
unfoldable pub joined : List ℕ → ℕ → ℕ
joined s g = before (present s) g + behind s g

-- every byte is 0
abbrev pub Empty : List ℕ → Type 0
Empty s = (i : ℕ) → get_or s i 0 ≡ 0

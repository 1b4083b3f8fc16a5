-- Coverage: its bytes read, and written for glyphs in ascending order. Assumes nothing.
use Rattle.ot_layouts.specs.declared.Header.{Header}
use Rattle.std.specs.Prelude.{ℕ, ◌+◌, ◌-◌, ◌*◌, ◌<◌, ◌≤◌, Bool, cond, ◌&&◌, ◌||◌, List, [], ◌∷◌, ◌++◌, map, length, leb, ltb, eqb, Option, Some, None}
use Rattle.folds.specs.Folds.{all, sum, before, flat, upto, run}
use Rattle.folds.specs.Lists.{find}
use Rattle.ot_layouts.specs.Numbers.{u16_at, be16, words}
use Rattle.ot_layouts.specs.declared.Kind.{Kind}

-- ---- read

-- format 1: glyph k
abbrev pub glyph_at : List ℕ → ℕ → ℕ
glyph_at b k = u16_at b (4 + 2 * k)

-- format 2, also of a ClassDef (OpenType: start glyph, end glyph, and a third number): range k's first glyph
abbrev pub start_at : List ℕ → ℕ → ℕ
start_at b k = u16_at b (4 + 6 * k)

-- the range's last glyph
abbrev pub end_at : List ℕ → ℕ → ℕ
end_at b k = u16_at b (6 + 6 * k)

-- the number beside the range: start index, or class
abbrev pub beside_at : List ℕ → ℕ → ℕ
beside_at b k = u16_at b (8 + 6 * k)

-- how many glyphs it has
abbrev pub size_at : List ℕ → ℕ → ℕ
size_at b k = end_at b k + 1 - start_at b k

-- "strictly ascending glyphs, length 4+2n"
unfoldable pub list_fits : List ℕ → ℕ → Bool
list_fits b n = eqb (length b) (4 + 2 * n) && all (λ k. leb (before (λ j. glyph_at b j + 1) k) (glyph_at b k)) n

-- "ranges of start ≤ end, each start above the end before, .. length 4+6r"
unfoldable pub ranges_fit : List ℕ → ℕ → Bool
ranges_fit b r = eqb (length b) (4 + 6 * r) && all (λ k. leb (before (λ j. end_at b j + 1) k) (start_at b k) && leb (start_at b k) (end_at b k)) r

-- "start index equal to the glyphs before"
unfoldable pub indexed : List ℕ → ℕ → Bool
indexed b r = all (λ k. eqb (beside_at b k) (sum (size_at b) k)) r

-- "Anything else is unreadable."
unfoldable pub cover_readable : List ℕ → Bool
cover_readable b =
    eqb (u16_at b 0) 1 && list_fits b (u16_at b 2)
    || eqb (u16_at b 0) 2 && ranges_fit b (u16_at b 2) && indexed b (u16_at b 2)

-- format 1 is a list, format 2 ranges, also of a ClassDef
abbrev pub kind_of : ℕ → Kind
kind_of f = cond (eqb f 1) Kind.List Kind.Ranges

-- a header of that format and count where the test holds
abbrev pub reading : Bool → ℕ → ℕ → Option Header
reading b f n = cond b (Some (record { kind = kind_of f; count = n })) None

-- "Coverage is read into a header that says list or ranges, with the count."
unfoldable pub coverage_of : List ℕ → Option Header
coverage_of b = reading (cover_readable b) (u16_at b 0) (u16_at b 2)

-- the glyphs that a readable one covers, in order
unfoldable pub cover_glyphs : List ℕ → List ℕ
cover_glyphs b = cond (eqb (u16_at b 0) 1) (upto (glyph_at b) (u16_at b 2)) (flat (λ k. run (start_at b k) (size_at b k)) (u16_at b 2))

-- the place of a glyph among them
unfoldable pub cover_place : List ℕ → ℕ → Option ℕ
cover_place b g = find (cover_glyphs b) g

-- ---- written

-- a covered glyph, with its class
pub record Entry : Type 0 where
  pub glyph : ℕ
  pub class : ℕ

-- a run of glyphs of one class
pub record Run : Type 0 where
  pub start : ℕ
  pub end : ℕ
  pub class : ℕ

-- an entry alone
abbrev pub single : Entry → Run
single e = record { start = e.glyph; end = e.glyph; class = e.class }

-- the run with one entry more at its start
abbrev pub longer : Entry → Run → Run
longer e r = record { start = e.glyph; end = r.end; class = r.class }

-- the entry lengthens the run: it adjoins it, and is of its class
abbrev pub joins : Entry → Run → Bool
joins e r = eqb (e.glyph + 1) r.start && eqb e.class r.class

-- some runs with an entry before them
unfoldable pub extend : Entry → List Run → List Run
extend e [] = single e ∷ []
extend e (r ∷ rs) = cond (joins e r) (longer e r ∷ rs) (single e ∷ r ∷ rs)

-- the longest runs of entries in ascending order
unfoldable pub runs : List Entry → List Run
runs [] = []
runs (e ∷ es) = extend e (runs es)

-- glyphs alone: all of one class
abbrev pub plain : List ℕ → List Entry
plain gs = map (λ g. record { glyph = g; class = 0 }) gs

-- format 2's ranges, of which the first has i glyphs before it
unfoldable pub cover_ranges : ℕ → List Run → List ℕ
cover_ranges i [] = []
cover_ranges i (r ∷ rs) = be16 r.start ++ be16 r.end ++ be16 i ++ cover_ranges (i + (r.end + 1 - r.start)) rs

-- "Coverage is written in format 2 only where that is shorter."
unfoldable pub coverage_bytes : List ℕ → List ℕ
coverage_bytes gs =
    cond (ltb (4 + 6 * length (runs (plain gs))) (4 + 2 * length gs))
    (be16 2 ++ be16 (length (runs (plain gs))) ++ cover_ranges 0 (runs (plain gs)))
    (be16 1 ++ be16 (length gs) ++ words gs)

-- the glyphs ascend, from lo on
abbrev pub Ascends : ℕ → List Entry → Type 0
Ascends lo [] = Unit {0}
Ascends lo (e ∷ es) = (lo ≤ e.glyph) × Ascends (e.glyph + 1) es

-- all glyphs lie below n
abbrev pub Under : ℕ → List Entry → Type 0
Under n [] = Unit {0}
Under n (e ∷ es) = (e.glyph < n) × Under n es

-- all of this file's definitions, for checks that compute
unfoldable pub computes : Unit {0}
unfolding list_fits ranges_fit indexed cover_readable coverage_of cover_glyphs cover_place extend runs cover_ranges coverage_bytes
computes = tt

-- The scratch that a call is lent: how much it takes (check 6), and how it is left. Assumes nothing.
use Rattle.std.specs.Prelude.{ℕ, ◌*◌, Bool, ◌||◌, List, length, replicate, ltb}
use Rattle.call_rules.specs.declared.Lengths.{Lengths}

-- "walk, two numbers an object in use; glyph set, 8,192 bytes; glyphs and classes, one entry each per covered glyph; cuts, one entry per item"
pub record Scratch : Type 0 where
  pub walk : List ℕ
  pub set : List ℕ
  pub glyphs : List ℕ
  pub classes : List ℕ
  pub cuts : List ℕ

-- for contracts
abbrev pub scratch_of : List ℕ → List ℕ → List ℕ → List ℕ → List ℕ → Scratch
scratch_of w b g c k = record { walk = w; set = b; glyphs = g; classes = c; cuts = k }

-- how long each scratch is
abbrev pub lengths_of : Scratch → Lengths
lengths_of w =
    record { walk = length w.walk; glyph_set = length w.set; glyphs = length w.glyphs; classes = length w.classes; cuts = length w.cuts }

-- 6: "a scratch shorter than above", for a store of so many objects and a table of so many covered glyphs and items
unfoldable pub lengths_short : Lengths → ℕ → ℕ → ℕ → Bool
lengths_short n objects glyphs items =
    ltb n.walk (2 * objects) || ltb n.glyph_set 8192 || ltb n.glyphs glyphs || ltb n.classes glyphs || ltb n.cuts items

-- as many zeros as xs has numbers
abbrev zeros : List ℕ → List ℕ
zeros xs = replicate (length xs) 0

-- "All lent scratch is zero after every call."
unfoldable pub cleared : Scratch → Scratch
cleared w = record { walk = zeros w.walk; set = zeros w.set; glyphs = zeros w.glyphs; classes = zeros w.classes; cuts = zeros w.cuts }

-- all of this file's definitions, for checks that compute
unfoldable pub computes : Unit {0}
unfolding lengths_short cleared
computes = tt

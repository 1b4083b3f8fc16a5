-- `glyph_parts::glyphs_of` meets its contract: the part was read. Assumes nothing.
use mathlib.Core.Path.{◌∙◌, ap}
use mathlib.Core.List.{List, []}
use Prim.Native.Nat.{ℕ}
use lib.ListN.{length}
use Rattle.ot_layouts.specs.Coverage.{coverage_of, cover_glyphs}
use Rattle.glyph_parts.proofs.glyphs_of.Goals as goal

pub glyph_count-requires : goal.glyph_count-requires
glyph_count-requires c = ap coverage_of (c.bytes_of.ensures [] []) ∙ c.requires.header [] []

pub returns : goal.returns
returns c l k = c.glyph_count.ensures.0 ∙ ap (λ (b : List ℕ). length (cover_glyphs b)) (c.bytes_of.ensures l k)

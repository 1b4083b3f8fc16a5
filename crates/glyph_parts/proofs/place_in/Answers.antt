-- `glyph_parts::place_in` meets its contract: the part was read. Assumes nothing.
use mathlib.Core.Path.{◌∙◌, ap}
use mathlib.Core.List.{List, []}
use Prim.Native.Nat.{ℕ}
use Rattle.ot_layouts.specs.Coverage.{coverage_of, cover_place}
use Rattle.glyph_parts.proofs.place_in.Goals as goal

pub place_of-requires : goal.place_of-requires
place_of-requires c = ap coverage_of (c.bytes_of.ensures [] []) ∙ c.requires.header [] []

pub returns : goal.returns
returns c l k = c.place_of.ensures ∙ ap (λ (b : List ℕ). cover_place b c.args.glyph) (c.bytes_of.ensures l k)

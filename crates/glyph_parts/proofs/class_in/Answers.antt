-- `glyph_parts::class_in` meets its contract: the part was read. Assumes nothing.
use mathlib.Core.Path.{◌∙◌, ap}
use mathlib.Core.List.{List, []}
use Prim.Native.Nat.{ℕ}
use Rattle.ot_layouts.specs.ClassDef.{class_def_of, class_of}
use Rattle.glyph_parts.proofs.class_in.Goals as goal

pub class_of-requires : goal.class_of-requires
class_of-requires c = ap class_def_of (c.bytes_of.ensures [] []) ∙ c.requires.header [] []

pub returns : goal.returns
returns c l k = c.class_of.ensures ∙ ap (λ (b : List ℕ). class_of b c.args.glyph) (c.bytes_of.ensures l k)

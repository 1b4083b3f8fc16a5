-- `glyph_parts::read_as` meets its contract: each kind by its own reader. Assumes nothing.
use mathlib.Core.Path.{◌∙◌, sym, ap}
use Rattle.glyph_parts.specs.declared.PartKind.{PartKind}
use Rattle.glyph_parts.specs.Parts.{read_as}
use Rattle.glyph_parts.proofs.read_as.Goals as goal

pub returns-in-Coverage : goal.returns-in-Coverage
returns-in-Coverage c =
    let a = c.args in
    c.read_coverage.ensures ∙ sym (ap (λ (k : PartKind). read_as k a.bytes.now) c.in-Coverage.is)

pub returns-in-ClassDef : goal.returns-in-ClassDef
returns-in-ClassDef c =
    let a = c.args in
    c.read_class_def.ensures ∙ sym (ap (λ (k : PartKind). read_as k a.bytes.now) c.in-ClassDef.is)

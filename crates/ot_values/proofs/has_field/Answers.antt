-- `ot_values::has_field` meets its contract: the row's mask is one bit, and the format keeps it or not. Assumes nothing.
use borrow.Author.Rules.{rules}
use mathlib.Core.Path.{ap, ◌∙◌}
use Rattle.ot_layouts.specs.declared.Field.{Field}
use Rattle.ot_layouts.proofs.Values.{field_rule}
use Rattle.ot_values.proofs.Ones.{bit_test}
use Rattle.ot_values.proofs.has_field.Goals as goal

pub returns : goal.returns
returns c =
    let j = c.args.j in
    bit_test c.args.format j c.field_at-mask.result.mask (search rules)
    (ap (λ (f : Field). f.mask) (c.field_at-mask.ensures ∙ field_rule j (search rules)))

-- `ot_layouts::field_at` meets its contract: the code's table and the definition's follow one rule, row for row. Assumes nothing.
use borrow.Author.Rules.{rules}
use mathlib.Core.Path.{sym, ◌∙◌}
use mathlib.Core.Bool.{false}
use Rattle.ot_layouts.specs.Values.{field, fields}
use Rattle.ot_layouts.proofs.Values.{row_rule, field_rule}
use Rattle.ot_layouts.proofs.field_at.Goals as goal

pub returns : goal.returns
unfolding fields
returns c = row_rule (field 0 false 0) c.args.j (search rules) ∙ sym (field_rule c.args.j (search rules))

-- `glyph_set::present` meets its contract: the test, as a number. Assumes nothing.
use mathlib.Core.Path.{◌≡◌, refl, ap, ◌∙◌}
use mathlib.Core.Bool.{Bool, true, false, cond}
use mir.Val.{bool_byte}
use Rattle.glyph_set.proofs.present.Goals as goal

as_number : (b : Bool) → bool_byte b ≡ cond b 1 0
as_number true = refl
as_number false = refl

pub returns : goal.returns
returns c = c.from.ensures ∙ as_number c.contains.result ∙ ap (λ (b : Bool). cond b 1 0) c.contains.ensures

-- `pair_values::numbers_at` meets its contract: the fields before `j` are read, and each field's name is its row. Assumes nothing.
use Prim.Native.Nat.{ℕ, ◌-◌, ◌<◌}
use mathlib.Core.Path.{◌≡◌, refl, ap, ◌∙◌}
use native.Mathlib.Omega.{arith}
use mir.Syntax.{w32}
use mir.ValLaws.{to_z-of_z}
use Rattle.ot_layouts.specs.declared.Field.{Field}
use Rattle.ot_layouts.specs.Values.{field_at}
use Rattle.ot_layouts.proofs.Values.{field_rule}
use Rattle.pair_values.proofs.Filled.{unfilled, fill, full}
use borrow.Author.Rules.{rules}
use Rattle.pair_values.proofs.numbers_at.Goals as goal

-- a field's name is its row
row : (j : ℕ) {f : Field} → j < 8 → f ≡ field_at j → f.name ≡ j
row j h e = ap (λ (f : Field). f.name) (e ∙ field_rule j h)

pub loop-j-init : goal.loop-j-init
loop-j-init c = unfilled _ _ _ refl

pub number_at-requires : goal.number_at-requires
number_at-requires c = record { value_record = c.requires; j_bound = c.loop-j-test.true }

pub offset_bounds-numbers-name : goal.offset_bounds-numbers-name
offset_bounds-numbers-name c = omega (arith, row c.loop-j.j c.loop-j-test.true c.field_at-name.ensures, c.loop-j-test.true)

pub bounds-numbers-name : goal.bounds-numbers-name
bounds-numbers-name c = omega (arith, row c.loop-j.j c.loop-j-test.true c.field_at-name.ensures, c.loop-j-test.true)

pub loop-j-preserved : goal.loop-j-preserved
loop-j-preserved c =
    rw (row c.loop-j.j c.loop-j-test.true c.field_at-name.ensures)
    (fill _ _ _ c.loop-j.invariant c.loop-j-test.true (to_z-of_z w32 c.number_at.result (search rules) ∙ c.number_at.ensures))

pub returns : goal.returns
returns c = full _ _ _ c.loop-j.invariant c.loop-j-test.false

-- `ot_values::position` meets its contract: the row's mask is one bit, and the ones below it are the fields before. Assumes nothing.
use mathlib.Core.Path.{◌≡◌, ap, ◌∙◌}
use Prim.Native.Nat.{◌^◌, ◌≤◌}
use native.Mathlib.Omega.{arith}
use lib.Pow.{pow_pos}
use Rattle.ot_layouts.specs.declared.Field.{Field}
use Rattle.ot_layouts.proofs.Values.{field_rule}
use Rattle.ot_values.proofs.Ones.{masked_ones, position_fits_lem}
use Rattle.ot_values.proofs.position.Goals as goal

pub overflow_sub-below : goal.overflow_sub-below
overflow_sub-below c =
    let mask : c.field_at-below.result.mask ≡ 2 ^ c.args.j = ap (λ (f : Field). f.mask) (c.field_at-below.ensures ∙ field_rule c.args.j c.requires) in
    rw (mask) (pow_pos c.args.j)

pub overflow_cast-result : goal.overflow_cast-result
overflow_cast-result c =
    let mask : c.field_at-below.result.mask ≡ 2 ^ c.args.j = ap (λ (f : Field). f.mask) (c.field_at-below.ensures ∙ field_rule c.args.j c.requires) in
    let a = c.args in
    let j : a.j ≤ 8 = omega (arith, c.requires) in
    rw (mask) (omega (arith, masked_ones a.format a.j j, position_fits_lem a.format a.j j))

pub returns : goal.returns
returns c =
    let mask : c.field_at-below.result.mask ≡ 2 ^ c.args.j = ap (λ (f : Field). f.mask) (c.field_at-below.ensures ∙ field_rule c.args.j c.requires) in
    rw (mask) (masked_ones c.args.format c.args.j (omega (arith, c.requires)))

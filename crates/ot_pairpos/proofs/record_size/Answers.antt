-- `ot_pairpos::record_size` meets its contract: a format has at most eight fields. Assumes nothing.
use Prim.Native.Nat.{◌+◌, ◌≤◌}
use native.Mathlib.Omega.{arith}
use Rattle.ot_layouts.proofs.Values.{field_count_le}
use Rattle.ot_pairpos.proofs.record_size.Goals as goal

pub overflow_add-result : goal.overflow_add-result
overflow_add-result c =
    let few : c.field_count.result + c.field_count-2.result ≤ 16 = let a = c.args in
    omega (arith, c.field_count-2.ensures, c.field_count.ensures, field_count_le a.value1, field_count_le a.value2) in
    omega (arith, few)

pub overflow_mul-result : goal.overflow_mul-result
overflow_mul-result c =
    let few : c.field_count.result + c.field_count-2.result ≤ 16 = let a = c.args in
    omega (arith, c.field_count-2.ensures, c.field_count.ensures, field_count_le a.value1, field_count_le a.value2) in
    omega (arith, few)

pub returns : goal.returns
returns c =
    let few : c.field_count.result + c.field_count-2.result ≤ 16 = let a = c.args in
    omega (arith, c.field_count-2.ensures, c.field_count.ensures, field_count_le a.value1, field_count_le a.value2) in
    (omega (arith, c.field_count-2.ensures, c.field_count.ensures), omega (arith, few))

-- `pair_values::number_at` meets its contract: absent, device or plain. Assumes nothing.
use mathlib.Core.Path.{ap, ◌∙◌}
use mir.Syntax.{w32}
use mir.ValLaws.{to_z-of_z}
use native.Mathlib.Omega.{arith}
use Prim.Native.Nat.{ℕ}
use lib.ListN.{length}
use mathlib.Core.List.{List}
use Rattle.pair_values.proofs.Fields.{object_inside, links_in_order, children_small, object_small, absent, field_within, device, plain}
use borrow.Author.Rules.{rules}
use mathlib.Core.Bool.{not}
use Rattle.pair_values.proofs.number_at.Goals as goal

pub returns-then-not-has_field : goal.returns-then-not-has_field
returns-then-not-has_field c =
    let a = c.args in
    absent c.requires.value_record a.j c.requires.j_bound c.has_field.ensures (ap not c.if-not-has_field.true)

pub overflow_mul-place : goal.overflow_mul-place
overflow_mul-place c =
    let a = c.args in
    omega (arith, field_within c.requires.value_record a.j c.requires.j_bound c.has_field.ensures (ap not c.if-not-has_field.false), object_small c.requires.value_record, c.position.ensures)

pub overflow_add-place : goal.overflow_add-place
overflow_add-place c =
    let a = c.args in
    omega (arith, field_within c.requires.value_record a.j c.requires.j_bound c.has_field.ensures (ap not c.if-not-has_field.false), object_small c.requires.value_record, c.position.ensures)

pub overflow_cast-place : goal.overflow_cast-place
overflow_cast-place c =
    let a = c.args in
    omega (arith, field_within c.requires.value_record a.j c.requires.j_bound c.has_field.ensures (ap not c.if-not-has_field.false), object_small c.requires.value_record, c.position.ensures)

pub device_number-requires : goal.device_number-requires
device_number-requires c = record { in_order_lem = links_in_order c.requires.value_record; by_index = children_small c.requires.value_record }

pub returns-then-field_at : goal.returns-then-field_at
returns-then-field_at c =
    let a = c.args in
    to_z-of_z w32 c.device_number.result (search rules)
    ∙ device c.requires.value_record a.j c.requires.j_bound c.has_field.ensures
    (ap not c.if-not-has_field.false) c.position.ensures c.field_at.ensures
    c.if-field_at.true (c.device_number.ensures a.«data».now a.objects.now)

pub bytes_of-requires : goal.bytes_of-requires
bytes_of-requires c = object_inside c.requires.value_record

pub u16_at-requires : goal.u16_at-requires
u16_at-requires c =
    let a = c.args in
    omega (
      arith,
      ap (λ (b : List ℕ). length b) (c.bytes_of.ensures a.links.now a.counts),
      field_within c.requires.value_record a.j
          c.requires.j_bound c.has_field.ensures (ap not c.if-not-has_field.false),
      c.position.ensures,
    )

pub returns : goal.returns
returns c =
    let a = c.args in
    to_z-of_z w32 c.signed.result (search rules)
    ∙ plain c.requires.value_record a.j c.requires.j_bound c.has_field.ensures
    (ap not c.if-not-has_field.false) c.position.ensures
    c.field_at.ensures c.if-field_at.false
    (c.bytes_of.ensures a.links.now a.counts) c.u16_at.ensures c.signed.ensures

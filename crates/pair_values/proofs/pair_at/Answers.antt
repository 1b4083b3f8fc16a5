-- `pair_values::pair_at` meets its contract: two value records, the second behind the first. Assumes nothing.
use mathlib.Core.Path.{sym, subst, ap, ◌∙◌}
use mathlib.Core.Bool.{true}
use Prim.Native.Nat.{ℕ, ◌+◌, ◌*◌}
use native.Mathlib.Omega.{arith}
use Rattle.folds.specs.Folds.{upto}
use Rattle.store_rules.specs.Store.{lent}
use Rattle.pair_rules.specs.Pairs.{number_of}
use Rattle.pair_values.specs.Values.{ValueRecord}
use Rattle.pair_values.proofs.Fields.{object_small}
use Rattle.pair_values.proofs.pair_at.Goals as goal

pub overflow_mul-behind : goal.overflow_mul-behind
overflow_mul-behind c = omega (arith, object_small c.requires.value_record, c.requires.value_record.within, c.field_count.ensures)

pub overflow_add-behind : goal.overflow_add-behind
overflow_add-behind c = omega (arith, object_small c.requires.value_record, c.requires.value_record.within, c.field_count.ensures)

pub numbers_at-second-requires : goal.numbers_at-second-requires
numbers_at-second-requires c =
    let a = c.args in
    subst (λ (n : ℕ). ValueRecord (lent a.«data».now a.objects.now a.links.now a.counts) a.object (a.at + 2 * n) a.layout.value2) (sym c.field_count.ensures) c.requires.value_record_2

pub returns : goal.returns
returns c =
    let a = c.args in
    let second = c.numbers_at-second.ensures ∙ ap (λ (n : ℕ). upto (number_of (lent a.«data».now a.objects.now a.links.now a.counts) a.object (a.at + 2 * n) a.layout.value2) 8) c.field_count.ensures in
    λ i. record { found = true; first = c.numbers_at-first.ensures i; second = second i }

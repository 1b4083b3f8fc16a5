-- `ot_pairpos::open_format2` meets its contract: the length is what rows and columns ask for, or it is not. Assumes nothing.
use native.Mathlib.Omega.{arith}
use Rattle.ot_pairpos.proofs.Opening.{short_format2, bad_format2, opened_format2, rows_fit}
use borrow.Author.Rules.{rules}
use Rattle.ot_pairpos.proofs.open_format2.Goals as goal

pub returns-then-table-lt16 : goal.returns-then-table-lt16
returns-then-table-lt16 c = short_format2 c.args.table.now c.requires.0 c.requires.1 (search rules)

pub overflow_mul-item : goal.overflow_mul-item
overflow_mul-item c = let f = rows_fit c.record_size-unit.result c.from.result c.u16_at-count.result c.record_size-unit.ensures.1 (omega arith) (search rules) in omega arith

pub overflow_mul-item-2 : goal.overflow_mul-item-2
overflow_mul-item-2 c = let f = rows_fit c.record_size-unit.result c.from.result c.from-2.result c.record_size-unit.ensures.1 (omega arith) (omega arith) in omega arith

pub overflow_add-item : goal.overflow_add-item
overflow_add-item c = let f = rows_fit c.record_size-unit.result c.from.result c.from-2.result c.record_size-unit.ensures.1 (omega arith) (omega arith) in omega arith

pub returns-then-table-item : goal.returns-then-table-item
returns-then-table-item c =
    bad_format2 c.args.table.now c.requires.0 c.requires.1 c.u16_at-value1.ensures
    c.u16_at-value2.ensures c.record_size-unit.ensures.0 c.u16_at-columns.ensures
    c.u16_at-count.ensures (rw (c.from.ensures, c.from-2.ensures) at c.if-table-item.true)

pub returns : goal.returns
returns c =
    rw c.from.ensures
    (opened_format2 c.args.table.now c.requires.0 c.requires.1 c.u16_at-value1.ensures
    c.u16_at-value2.ensures c.record_size-unit.ensures.0 c.u16_at-columns.ensures
    c.u16_at-count.ensures (rw (c.from.ensures, c.from-2.ensures) at c.if-table-item.false))

-- `ot_pairpos::open_format1` meets its contract: the length is what the count asks for, or it is not. Assumes nothing.
use native.Mathlib.Omega.{arith}
use Rattle.ot_pairpos.proofs.Opening.{bad_format1, opened_format1}
use Rattle.ot_pairpos.proofs.open_format1.Goals as goal

pub returns-then-table-lt10 : goal.returns-then-table-lt10
returns-then-table-lt10 c = bad_format1 c.args.table.now c.requires.0 c.requires.1 (λ e. omega arith)

pub returns-then-table-from : goal.returns-then-table-from
returns-then-table-from c = bad_format1 c.args.table.now c.requires.0 c.requires.1 (λ e. omega (arith, c.u16_at-count.ensures, c.from.ensures))

pub returns : goal.returns
returns c =
    rw (c.u16_at-count.ensures, c.u16_at.ensures, c.u16_at-2.ensures)
    (opened_format1 c.args.table.now c.requires.0 c.requires.1 (omega (arith, c.u16_at-count.ensures, c.from.ensures)))

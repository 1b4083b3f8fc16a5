-- `ot_pairpos::open` meets its contract: by format. Assumes nothing.
use native.Mathlib.Omega.{arith}
use Rattle.ot_pairpos.proofs.Opening.{no_format, other_format}
use borrow.Author.Rules.{rules}
use Rattle.ot_pairpos.proofs.open.Goals as goal

pub returns-then-table-lt2 : goal.returns-then-table-lt2
returns-then-table-lt2 c = no_format c.args.table.now (search rules)

pub returns-in_default : goal.returns-in_default
returns-in_default c = other_format c.args.table.now (search rules) (λ n. omega arith) (λ n. omega arith)

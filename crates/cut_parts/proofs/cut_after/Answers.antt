-- `cut_parts::cut_after` meets its contract: there is a cut behind j, or none. Assumes nothing.
use Prim.Native.Nat.{◌+◌}
use mathlib.Core.Path.{sym}
use lib.ListN.{get_or-eq_default}
use Rattle.folds.proofs.Parts.{get_d_default}
use borrow.Author.Rules.{rules}
use Rattle.cut_parts.proofs.cut_after.Goals as goal

pub returns-then-j-cuts : goal.returns-then-j-cuts
returns-then-j-cuts c = get_d_default c.args.cuts.now (c.args.j + 1) 0 c.args.count c.if-j-cuts.true

pub returns : goal.returns
returns c = sym (get_or-eq_default c.args.cuts.now c.args.count {n = c.args.j + 1} (search rules))

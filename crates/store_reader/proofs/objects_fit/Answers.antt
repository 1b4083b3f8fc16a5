-- `store_reader::objects_fit` meets its contract: the rows below `i` fit, and `least` is the tail of the last of them. Assumes nothing.
use Prim.Native.Nat.{ℕ, ◌+◌, ◌*◌}
use mathlib.Core.Path.{sym}
use lib.ListN.{get_or}
use Rattle.folds.proofs.Folds.{before_none, before_more}
use Rattle.store_reader.proofs.Checks.{start, turn, stop, fail}
use mathlib.Core.Path.{ap}
use mathlib.Core.Bool.{not}
use Rattle.store_reader.proofs.objects_fit.Goals as goal

pub loop-i-init : goal.loop-i-init
loop-i-init c = (λ b l. start, sym (before_none (λ (j : ℕ). get_or c.args.objects.now (2 * j + 1) 0)))

pub returns-then-not-object_fits : goal.returns-then-not-object_fits
returns-then-not-object_fits c = λ b l. fail (c.loop-i.invariant.0 b l) c.loop-i-test.true (c.object_fits.ensures b l) (ap not c.if-not-object_fits.true)

pub loop-i-preserved : goal.loop-i-preserved
loop-i-preserved c = (
  λ b l. turn (c.loop-i.invariant.0 b l) c.loop-i-test.true (c.object_fits.ensures b l) (ap not c.if-not-object_fits.false),
  sym (before_more (λ (j : ℕ). get_or c.args.objects.now (2 * j + 1) 0) c.loop-i.i),
)

pub returns : goal.returns
returns c = λ b l. stop (c.loop-i.invariant.0 b l) c.loop-i-test.false

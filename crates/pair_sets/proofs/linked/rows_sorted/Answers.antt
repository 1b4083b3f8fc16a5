-- `pair_sets::linked::rows_sorted` meets its contract: all rows passed lead to sorted sets. Assumes nothing.
use Prim.Native.Nat.{◌+◌, ◌-◌, ◌<◌}
use native.Mathlib.Omega.{arith}
use borrow.Author.Rules.{rules}
use Rattle.store_rules.specs.Store.{lent}
use Rattle.store_reader.proofs.Checks.{start, turn, stop, fail}
use Rattle.pair_sets.specs.Sets.{leads_sorted}
use Rattle.pair_sets.proofs.Slots.{rows_passed}
use mathlib.Core.Path.{ap}
use mathlib.Core.Bool.{not}
use Rattle.pair_sets.proofs.linked.rows_sorted.Goals as goal

pub loop-i-init : goal.loop-i-init
loop-i-init c = (λ k. start, search rules)

pub row_sorted-requires : goal.row_sorted-requires
row_sorted-requires c =
    let a = c.args in
    let inv = c.loop-i.invariant in
    let below : c.loop-i.i < a.rows.after - a.rows.first = c.loop-i-test.true in record { row_inside = c.requires.by_index (a.rows.first + c.loop-i.i) (omega arith); by_index = λ k j from to. rows_passed (leads_sorted (lent a.«data».now a.objects.now a.links.now k) a.size) (inv.0 k) j from to; size_bound = (c.requires.first_le_after.1, omega (arith, c.requires.first_le_after.2, inv.1)) }

pub returns-then-not-row_sorted : goal.returns-then-not-row_sorted
returns-then-not-row_sorted c k = fail (c.loop-i.invariant.0 k) c.loop-i-test.true (c.row_sorted.ensures k) (ap not c.if-not-row_sorted.true)

pub loop-i-preserved : goal.loop-i-preserved
loop-i-preserved c = (λ k. turn (c.loop-i.invariant.0 k) c.loop-i-test.true (c.row_sorted.ensures k) (ap not c.if-not-row_sorted.false), search rules)

pub returns : goal.returns
returns c k = stop (c.loop-i.invariant.0 k) c.loop-i-test.false

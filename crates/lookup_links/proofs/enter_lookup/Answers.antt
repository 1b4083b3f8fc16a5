-- `lookup_links::enter_lookup` meets its contract: the links of the rows before k are written. Assumes nothing.
use native.Mathlib.Omega.{arith}
use Rattle.lookup_links.proofs.Lookup.{all_are, entered_start, entered_stop, row_ready, entered_turn}
use Rattle.lookup_links.proofs.enter_lookup.Goals as goal

pub rows_of-rows-requires : goal.rows_of-rows-requires
rows_of-rows-requires c = record { in_order_lem = c.requires.order; parent_bound = c.requires.used }

pub loop-k-init : goal.loop-k-init
loop-k-init c = entered_start _ _ _ _ _ _ c.args.counts _ c.requires c.rows_of-rows.ensures

pub enter_row-next-requires : goal.enter_row-next-requires
enter_row-next-requires c =
    let more = c.loop-k-test.true in
    row_ready _ _ _ _ _ _ _ _ _ c.loop-k.invariant more (c.requires.small _ (omega (arith, more, c.rows_of-rows.ensures.after.within))) c.requires.few

pub loop-k-preserved : goal.loop-k-preserved
loop-k-preserved c = entered_turn _ _ _ _ _ _ _ _ _ c.loop-k.invariant c.loop-k-test.true c.enter_row-next.ensures

pub returns : goal.returns
returns c =
    let all = all_are _ _ _ _ _ _ c.args.counts _ c.requires c.rows_of-rows.ensures in
    entered_stop _ _ _ _ _ _ _ _ _ c.loop-k.invariant c.loop-k-test.false all

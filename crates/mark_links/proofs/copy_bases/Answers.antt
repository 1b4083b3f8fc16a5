-- `mark_links::copy_bases` meets its contract: the links of the bases before this one are copied. Assumes nothing.
use Rattle.store_link_rows.proofs.Copying.{turns_start, turns_source, turns_room, turns_turn, turns_stop}
use Rattle.mark_links.proofs.Bases.{by_base}
use Rattle.mark_links.proofs.copy_bases.Goals as goal

pub loop-base-init : goal.loop-base-init
loop-base-init c = turns_start _ _ _ _ _ (rw by_base at c.requires.rows_room)

pub copy_base-reached-requires-clause-source : goal.copy_base-reached-requires-clause-source
copy_base-reached-requires-clause-source c = turns_source _ _ _ _ _ c.loop-base.invariant c.loop-base-test.true _ _ c.requires.source

pub copy_base-reached-requires-clause-rows_room : goal.copy_base-reached-requires-clause-rows_room
copy_base-reached-requires-clause-rows_room c = turns_room _ _ _ _ _ c.loop-base.invariant c.loop-base-test.true

pub loop-base-preserved : goal.loop-base-preserved
loop-base-preserved c = turns_turn _ _ _ _ _ c.loop-base.invariant c.loop-base-test.true c.copy_base-reached.ensures

pub returns : goal.returns
returns c = rw by_base (turns_stop _ _ _ _ _ c.loop-base.invariant c.loop-base-test.false)

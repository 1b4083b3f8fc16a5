-- `mark_links::copy_marks` meets its contract: the slots of the marks before k are copied. Assumes nothing.
use native.Mathlib.Omega.{arith}
use Rattle.store_rules.specs.SlotLinks.{slot_links}
use Rattle.mark_links.specs.Copies.{mark_copies}
use Rattle.store_link_rows.proofs.Copying.{turns_start, turns_source, turns_room, turns_turn, turns_stop}
use Rattle.mark_links.proofs.copy_marks.Goals as goal

pub loop-k-init : goal.loop-k-init
unfolding mark_copies slot_links
loop-k-init c = turns_start _ _ _ _ _ c.requires.rows_room

pub copy_slot-reached-requires : goal.copy_slot-reached-requires
copy_slot-reached-requires c =
    let inv = c.loop-k.invariant in
    let more = c.loop-k-test.true in
    record {
      source = (turns_source _ _ _ _ _ inv more _ _ c.requires.source.0, omega (arith, c.type_inv.places c.loop-k.k));
      rows_room = turns_room _ _ _ _ _ inv more;
    }

pub loop-k-preserved : goal.loop-k-preserved
loop-k-preserved c = turns_turn _ _ _ _ _ c.loop-k.invariant c.loop-k-test.true c.copy_slot-reached.ensures

pub returns : goal.returns
unfolding mark_copies slot_links
returns c = turns_stop _ _ _ _ _ c.loop-k.invariant c.loop-k-test.false

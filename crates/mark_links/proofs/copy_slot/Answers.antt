-- `mark_links::copy_slot` meets its contract: by the child that the old array has there, if it has one. Assumes nothing.
use Rattle.mark_links.proofs.Slots.{nowhere_copied, room_for_one, one_copied}
use Rattle.store_reader.proofs.Rows.{among-parent}
use mathlib.Core.List.{[]}
use Rattle.mark_links.proofs.copy_slot.Goals as goal

pub row_near-row-requires : goal.row_near-row-requires
row_near-row-requires c =
    let (source, low) = c.requires.source in
    (source.order, among-parent source.rows_are _ low)

pub returns-in_default : goal.returns-in_default
returns-in_default c = nowhere_copied _ c.args.counts _ _ _ _ _ (c.child_in.ensures [] []) c.in_default.is

pub put_link-requires : goal.put_link-requires
put_link-requires c = room_for_one _ c.args.counts _ _ _ _ _ (c.child_in.ensures [] []) c.in-Some.is c.requires.rows_room

pub returns : goal.returns
returns c = one_copied _ c.args.counts _ _ _ _ _ (c.child_in.ensures [] []) c.in-Some.is _ c.put_link.ensures

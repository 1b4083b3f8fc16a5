-- `call_lists::list_places` meets its contract: by the room for the places. Assumes nothing.
use Rattle.call_lists.proofs.Handing.{handed_short, handed_places}
use Rattle.call_lists.proofs.list_places.Goals as goal

pub returns-then-places-count : goal.returns-then-places-count
returns-then-places-count c =
    let a = c.args in
    handed_short a.cuts.now a.places.now c.if-places-count.true

pub returns : goal.returns
returns c =
    let a = c.args in
    handed_places a.cuts.now a.places.now c.if-places-count.false c.copy_places.ensures

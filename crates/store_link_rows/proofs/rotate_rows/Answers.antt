-- `store_link_rows::rotate_rows` meets its contract: the numbers of the rows are rotated. Assumes nothing.
use Rattle.store_link_rows.proofs.Rotating.{moved_fit, turned, rotated}
use Rattle.store_link_rows.proofs.rotate_rows.Goals as goal

pub returns : goal.returns
returns c =
    let a = c.args in
    let (ab, bm, room) = c.requires in
    let fit = moved_fit a.links.now a.a a.b a.m ab bm room in
    rotated a.links.now a.a a.b a.m ab bm room (turned _ _ fit c.reverse.ensures.after c.reverse-2.ensures.after c.reverse-3.ensures.after)

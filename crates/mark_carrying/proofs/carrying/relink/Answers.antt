-- `carrying::relink` meets its contract: the marks' places are arranged, and the links then copied by them. Assumes nothing.
use Rattle.mark_carrying.proofs.LinksAfter.{places_asked, links_asked}
use Rattle.mark_carrying.proofs.carrying.relink.Goals as goal

pub arrange_places-requires : goal.arrange_places-requires
arrange_places-requires c =
    let a = c.args in
    let (b, o, k) = c.requires in
    (a.links.now, a.counts, a.table, places_asked k)

pub copy_links-requires : goal.copy_links-requires
copy_links-requires c =
    let a = c.args in
    let (b, o, k) = c.requires in
    record { bytes = b; objects = o; known = links_asked k c.of-arrays.ensures (c.arrange_places.ensures a.links.now a.counts a.table (places_asked k)) }

pub returns : goal.returns
returns c b o k =
    let a = c.args in
    c.copy_links.ensures b o (links_asked k c.of-arrays.ensures (c.arrange_places.ensures a.links.now a.counts a.table (places_asked k)))

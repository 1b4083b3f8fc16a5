-- `lookup_links::redirect_links` meets its contract: each row is redirected, and then the order-only rows of each parent are put in order. Assumes nothing.
use Rattle.lookup_links.proofs.Reordering.{rows_led, all-ordered}
use Rattle.lookup_links.proofs.redirect_links.Goals as goal

pub lead_links-requires : goal.lead_links-requires
lead_links-requires c = c.requires.leading

pub order_rows-requires : goal.order_rows-requires
order_rows-requires c = rows_led c.requires c.requires.leading.lookups (c.lead_links.ensures c.requires.leading.lookups c.requires.leading.marked)

pub returns : goal.returns
returns c =
    λ ps marked.
    all-ordered c.requires ps (c.lead_links.ensures ps marked) c.order_rows.ensures

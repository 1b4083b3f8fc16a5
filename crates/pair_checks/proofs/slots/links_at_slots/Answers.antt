-- `pair_checks::slots::links_at_slots` meets its contract: the table's layout decides at each position. Assumes nothing.
use borrow.Author.Rules.{rules}
use Rattle.ot_layouts.specs.PairPos.{shape_of, is_slot}
use Rattle.store_rules.specs.Store.{lent, bytes_of}
use Rattle.pair_rules.specs.Table.{all_at_slots}
use Rattle.pair_checks.proofs.slots.links_at_slots.Goals as goal

pub returns : goal.returns
unfolding all_at_slots
returns c b o sounds e =
    let a = c.args in
    let bytes = bytes_of (lent b o a.links.now a.counts) a.table in
    c.all_offsets.ensures b o (is_slot (shape_of bytes)) sounds (λ q r small told. search rules)

-- `pair_reading::pair_of` meets its contract: no pair, or the one that stands at the spot. Assumes nothing.
use Rattle.store_rules.specs.Store.{lent}
use Rattle.pair_checks.proofs.Refusals.{opens}
use Rattle.pair_reading.proofs.Answering.{no_spot, first_record_lem, second_record, at_spot}
use Rattle.pair_reading.proofs.pair_of.Goals as goal

pub returns-in_default : goal.returns-in_default
returns-in_default c =
    let a = c.args in
    no_spot (opens (lent a.«data».now a.objects.now a.links.now a.counts) a.table a.opened c.requires.table_value) a.first a.second c.spot_of-spot.ensures c.in_default.is c.no_pair.ensures

pub pair_at-requires : goal.pair_at-requires
pair_at-requires c =
    let a = c.args in
    let o = opens (lent a.«data».now a.objects.now a.links.now a.counts) a.table a.opened c.requires.table_value in
    record {
      value_record = first_record_lem o a.first a.second c.spot_of-spot.ensures c.in-Some.is;
      value_record_2 = second_record o a.first a.second c.spot_of-spot.ensures c.in-Some.is;
    }

pub returns : goal.returns
returns c =
    let a = c.args in
    at_spot (opens (lent a.«data».now a.objects.now a.links.now a.counts) a.table a.opened c.requires.table_value) a.first a.second c.spot_of-spot.ensures c.in-Some.is c.pair_at.ensures

-- `measuring::measure_all` meets its contract: the split's needs, and then those of the lookups. Assumes nothing.
use Rattle.store_rules.specs.Store.{lent}
use Rattle.pair_rules.specs.Written.{new_tables}
use Rattle.pair_carrying.proofs.Counting.{tables_many}
use Rattle.lookup_carrying.proofs.measuring.measure_all.Goals as goal
use Rattle.lookup_carrying.proofs.NeedsMeasured.{all_over, all_fit}

pub measure_needs-split-requires : goal.measure_needs-split-requires
measure_needs-split-requires c = (c.args.links.now, c.args.counts, c.args.table, c.requires.arranging)

pub measure-requires : goal.measure-requires
measure-requires c = record { sound_is = c.requires.arranging.opens.reads.sounds; lookups = c.requires.lookups; few = c.requires.few; short = c.requires.short }

pub returns-in-Err : goal.returns-in-Err
returns-in-Err c =
    let a = c.args in
    let s = lent a.«data».now a.objects.now a.links.now a.counts in
    let cs = a.cuts.now in
    all_over s a.table cs a.lookups.now (c.measure.ensures (new_tables s a.table cs) (tables_many s a.table cs))
    (c.measure_needs-split.ensures a.links.now a.counts a.table c.requires.arranging) c.in-Err.is

pub returns-in-Ok : goal.returns-in-Ok
returns-in-Ok c =
    let a = c.args in
    let s = lent a.«data».now a.objects.now a.links.now a.counts in
    let cs = a.cuts.now in
    all_fit s a.table cs a.lookups.now (c.measure.ensures (new_tables s a.table cs) (tables_many s a.table cs))
    (c.measure_needs-split.ensures a.links.now a.counts a.table c.requires.arranging) c.in-Ok.is

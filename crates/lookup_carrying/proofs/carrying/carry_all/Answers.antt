-- `carrying::carry_all` meets its contract: the split, and then the lookups, which find the new tables at the front of the list. Assumes nothing.
use Rattle.lookup_carrying.proofs.CarryAll.{front_fits, front_is, lookups_asked, all_carried}
use Rattle.lookup_carrying.proofs.carrying.carry_all.Goals as goal

pub slice_bounds-enter_lookups-end : goal.slice_bounds-enter_lookups-end
slice_bounds-enter_lookups-end c = front_fits c.requires c.carry_out.ensures

pub slice_bounds-enter_lookups-end-2 : goal.slice_bounds-enter_lookups-end-2
slice_bounds-enter_lookups-end-2 c = front_is c.requires c.carry_out.ensures

pub enter_lookups-requires : goal.enter_lookups-requires
enter_lookups-requires c = lookups_asked c.requires c.carry_out.ensures

pub returns : goal.returns
returns c = all_carried c.requires c.carry_out.ensures c.enter_lookups.ensures

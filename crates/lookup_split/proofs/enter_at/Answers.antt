-- `lookup_split::enter_at` meets its contract: too many subtables, no room, or carried out. Assumes nothing.
use Rattle.lookup_split.proofs.EnterAt.{measure_asked, in_use_lem, short_is, too_many, no_room_lem, can_carry, all-entered}
use Rattle.lookup_split.proofs.enter_at.Goals as goal

pub measure_all-requires : goal.measure_all-requires
measure_all-requires c = measure_asked c.args.counts.now c.requires

pub returns-in_default : goal.returns-in_default
returns-in_default c =
    let a = c.args in
    too_many a.counts.now c.requires a.new_tables.now c.measure_all.ensures c.in_default.is

pub is_short_for_both-requires : goal.is_short_for_both-requires
is_short_for_both-requires c = in_use_lem c.args.counts.now c.requires c.args.new_tables.now (c.of-lent.ensures c.args.counts.now)

pub returns-then-is_short_for_both : goal.returns-then-is_short_for_both
returns-then-is_short_for_both c =
    let a = c.args in
    let short = short_is a.counts.now c.requires a.new_tables.now (c.of-lent.ensures a.counts.now) _ c.is_short_for_both.ensures in
    no_room_lem a.counts.now c.requires a.new_tables.now c.measure_all.ensures c.in-Ok.is short c.if-is_short_for_both.true

pub carry_all-requires : goal.carry_all-requires
carry_all-requires c =
    let a = c.args in
    let short = short_is a.counts.now c.requires a.new_tables.now (c.of-lent.ensures a.counts.now) _ c.is_short_for_both.ensures in
    can_carry a.counts.now c.requires a.new_tables.now c.measure_all.ensures c.in-Ok.is short c.if-is_short_for_both.false

pub returns : goal.returns
returns c =
    let a = c.args in
    let short = short_is a.counts.now c.requires a.new_tables.now (c.of-lent.ensures a.counts.now) _ c.is_short_for_both.ensures in
    all-entered a.counts.now c.requires a.new_tables.now c.measure_all.ensures c.in-Ok.is short c.if-is_short_for_both.false c.carry_all.ensures

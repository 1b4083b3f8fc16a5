-- `pair_split::split_at` meets its contract: the needs are measured, and there is room for them or not. Assumes nothing.
use Rattle.pair_split.proofs.SplitAt.{in_use_lem, short_is, no_room_lem, can_carry, carried}
use Rattle.pair_split.proofs.split_at.Goals as goal

pub is_short-requires : goal.is_short-requires
is_short-requires c = in_use_lem c.args.counts.now c.requires c.args.new_tables.now (c.of-lent.ensures c.args.counts.now)

pub returns-then-is_short : goal.returns-then-is_short
returns-then-is_short c =
    let a = c.args in
    let measured = c.measure_needs-needs.ensures a.links.now a.counts.now a.table c.requires in
    let short = short_is a.counts.now c.requires a.new_tables.now (c.of-lent.ensures a.counts.now) _ c.is_short.ensures in
    no_room_lem a.counts.now c.requires a.new_tables.now measured short c.if-is_short.true

pub carry_out-requires : goal.carry_out-requires
carry_out-requires c =
    let a = c.args in
    let measured = c.measure_needs-needs.ensures a.links.now a.counts.now a.table c.requires in
    let short = short_is a.counts.now c.requires a.new_tables.now (c.of-lent.ensures a.counts.now) _ c.is_short.ensures in
    can_carry a.counts.now c.requires a.new_tables.now measured short c.if-is_short.false

pub returns : goal.returns
returns c =
    let a = c.args in
    let measured = c.measure_needs-needs.ensures a.links.now a.counts.now a.table c.requires in
    let short = short_is a.counts.now c.requires a.new_tables.now (c.of-lent.ensures a.counts.now) _ c.is_short.ensures in
    carried a.counts.now c.requires a.new_tables.now measured short c.if-is_short.false c.carry_out.ensures

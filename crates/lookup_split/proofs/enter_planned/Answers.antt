-- `lookup_split::enter_planned` meets its contract: nothing to cut, or the lookups in order, and then by what is entered at the plan's places. Assumes nothing.
use native.Mathlib.Omega.{arith}
use Rattle.lookup_split.proofs.Planned.{nothing, both_small, marks_long_lem, lookups_end, placing, entered}
use Rattle.lookup_split.proofs.enter_planned.Goals as goal

pub returns-then-count-eq0 : goal.returns-then-count-eq0
returns-then-count-eq0 c = nothing c.requires c.if-count-eq0.true c.args.new_tables.now

pub order_lookups-found-requires : goal.order_lookups-found-requires
order_lookups-found-requires c = record { object_in_use = record { sounds = c.requires.plan.opens.reads.sounds; used = c.requires.good.used }; table_value = c.requires.good.fine; counts_in_bounds = c.requires.long }

pub slice_bounds-enter_at-end : goal.slice_bounds-enter_at-end
slice_bounds-enter_at-end c = marks_long_lem c.requires c.if-count-eq0.false c.order_lookups-found.ensures c.order_lookups-found.auto.walk

pub overflow_add-marks : goal.overflow_add-marks
overflow_add-marks c = omega (arith, both_small c.requires c.if-count-eq0.false c.order_lookups-found.ensures)

pub offset_bounds-ordered-marks : goal.offset_bounds-ordered-marks
offset_bounds-ordered-marks c = omega (arith, both_small c.requires c.if-count-eq0.false c.order_lookups-found.ensures)

pub slice_bounds-enter_at-end-2 : goal.slice_bounds-enter_at-end-2
slice_bounds-enter_at-end-2 c = lookups_end c.requires c.if-count-eq0.false c.order_lookups-found.ensures c.order_lookups-found.auto.walk

pub enter_at-requires : goal.enter_at-requires
enter_at-requires c = placing c.requires c.if-count-eq0.false c.order_lookups-found.ensures

pub returns : goal.returns
returns c w = entered c.requires c.if-count-eq0.false c.order_lookups-found.ensures c.args.new_tables.now w (c.enter_at.ensures w)

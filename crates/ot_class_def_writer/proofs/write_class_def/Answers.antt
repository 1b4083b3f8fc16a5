-- `ot_class_def_writer::write_class_def` meets its contract: the outline decides the form that is written. Assumes nothing.
use mathlib.Core.Path.{sym, ◌∙◌}
use native.Mathlib.Omega.{arith}
use Rattle.ot_class_def_writer.proofs.Written.{ranges_long, ranges_done, list_long, countable, list_done}
use Rattle.ot_class_def_writer.proofs.write_class_def.Goals as goal

pub write_ranges-requires : goal.write_ranges-requires
write_ranges-requires c =
    let h = ranges_long _ _ _ _ c.outline-outline.ensures (sym c.ranges_win.ensures ∙ c.if-ranges_win.true) in
    record {
      count_value = c.outline-outline.ensures.runs_are;
      count_bound = omega (arith, c.requires.first_len_bound, c.outline-outline.ensures.runs_are);
      count_in_bounds = omega (arith, c.requires.first_in_bounds);
    }

pub write_list-requires : goal.write_list-requires
write_list-requires c =
    let t = sym c.ranges_win.ensures ∙ c.if-ranges_win.false in
    let h = list_long _ _ _ _ c.outline-outline.ensures t in
    record {
      outlines = c.outline-outline.ensures;
      span_bound = countable _ _ _ _ c.outline-outline.ensures t;
      span_in_bounds = omega (arith, c.requires.first_in_bounds);
    }

pub returns-then-ranges_win : goal.returns-then-ranges_win
returns-then-ranges_win c =
    let t = sym c.ranges_win.ensures ∙ c.if-ranges_win.true in
    let all = ranges_done _ _ _ _ c.outline-outline.ensures t _ _ (c.write_ranges.ensures.out_value, c.write_ranges.ensures.value) in
    record { out_value = all.0; value = all.1 }

pub returns-else-ranges_win : goal.returns-else-ranges_win
returns-else-ranges_win c =
    let t = sym c.ranges_win.ensures ∙ c.if-ranges_win.false in
    let all = list_done _ _ _ _ c.outline-outline.ensures t _ _ (c.write_list.ensures.out_value, c.write_list.ensures.value) in
    record { out_value = all.0; value = all.1 }

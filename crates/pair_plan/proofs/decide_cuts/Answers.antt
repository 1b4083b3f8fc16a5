-- `pair_plan::decide_cuts` meets its contract: the table is cut, and then the rest is settled. Assumes nothing.
use native.Mathlib.Omega.{arith}
use Rattle.call_rules.specs.Scratch.{Scratch, scratch_of}
use Rattle.pair_plan.proofs.Deciding.{can_begin, header_fits, table_marked, is_open, can_cut, decided_cut}
use Rattle.pair_plan.proofs.decide_cuts.Goals as goal

pub overflow_cast-layout : goal.overflow_cast-layout
overflow_cast-layout c =
    let a = c.args in
    let w : Scratch = scratch_of a.walk.now a.glyph_set.now a.glyphs.now a.classes.now a.cuts.now in
    omega (arith, header_fits a.«data».now a.objects.now a.links.now a.counts a.table w a.opened c.requires.cuts_value)

pub begin_walk-requires : goal.begin_walk-requires
begin_walk-requires c =
    let a = c.args in
    let w : Scratch = scratch_of a.walk.now a.glyph_set.now a.glyphs.now a.classes.now a.cuts.now in
    let ready = can_begin a.«data».now a.objects.now a.links.now a.counts a.table w a.opened c.requires.cuts_value in
    record { by_index = ready.0; table_bound = (ready.1, ready.2, omega (arith, ready.3)) }

pub cut_table-count-requires : goal.cut_table-count-requires
cut_table-count-requires c =
    let a = c.args in
    let w : Scratch = scratch_of a.walk.now a.glyph_set.now a.glyphs.now a.classes.now a.cuts.now in
    can_cut a.«data».now a.objects.now a.links.now a.counts a.table w a.opened c.requires.cuts_value (c.begin_walk.ensures a.«data».now)

pub settle_cuts-requires : goal.settle_cuts-requires
settle_cuts-requires c =
    let a = c.args in
    let w : Scratch = scratch_of a.walk.now a.glyph_set.now a.glyphs.now a.classes.now a.cuts.now in
    let marked = table_marked a.«data».now a.objects.now a.links.now a.counts a.table w a.opened c.requires.cuts_value in
    record {
      opens = is_open a.«data».now a.objects.now a.links.now a.counts a.table w a.opened c.requires.cuts_value;
      tells_cycle = (c.cut_table-count.ensures.tells_cycle, omega (arith, marked, c.walk-1.given, c.walk-2-1.given));
    }

pub returns : goal.returns
returns c =
    let a = c.args in
    let w : Scratch = scratch_of a.walk.now a.glyph_set.now a.glyphs.now a.classes.now a.cuts.now in
    decided_cut a.«data».now a.objects.now a.links.now a.counts a.table w a.opened c.requires.cuts_value
    c.requires.settings_value c.cut_table-count.ensures.cuts_table c.settle_cuts.ensures

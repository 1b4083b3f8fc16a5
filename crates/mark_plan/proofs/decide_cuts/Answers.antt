-- `mark_plan::decide_cuts` meets its contract: a cycle refuses, and else the table is cut. Assumes nothing.
use native.Mathlib.Omega.{arith}
use Rattle.call_rules.specs.Scratch.{Scratch, scratch_of}
use Rattle.mark_plan.proofs.Deciding.{can_begin, table_marked, can_cut, decided_cycle, decided_cut}
use Rattle.mark_plan.proofs.decide_cuts.Goals as goal

pub begin_walk-requires : goal.begin_walk-requires
begin_walk-requires c =
    let scratch : Scratch = let a = c.args in scratch_of a.walk.now a.glyph_set.now a.glyphs.now a.classes.now a.cuts.now in
    let can = can_begin (scratch) c.requires.passed in
    record { by_index = (c.args.«data».now, c.requires.passed.opens.reads.sounds); table_bound = (can.0, can.1, omega arith) }

pub bounds-walk-table : goal.bounds-walk-table
bounds-walk-table c =
    let scratch : Scratch = let a = c.args in scratch_of a.walk.now a.glyph_set.now a.glyphs.now a.classes.now a.cuts.now in
    omega (arith, table_marked (scratch) c.requires.passed, c.walk-1.given)

pub returns-then-walk-table-ne0 : goal.returns-then-walk-table-ne0
returns-then-walk-table-ne0 c =
    let scratch : Scratch = let a = c.args in scratch_of a.walk.now a.glyph_set.now a.glyphs.now a.classes.now a.cuts.now in
    decided_cycle (scratch) c.requires.passed (c.begin_walk.ensures c.args.«data».now) c.requires.settings_value c.if-walk-table-ne0.true

pub cut_table-count-requires : goal.cut_table-count-requires
cut_table-count-requires c =
    let scratch : Scratch = let a = c.args in scratch_of a.walk.now a.glyph_set.now a.glyphs.now a.classes.now a.cuts.now in
    (c.args.table, can_cut (scratch) c.requires.passed (c.begin_walk.ensures c.args.«data».now))

pub returns : goal.returns
returns c =
    let scratch : Scratch = let a = c.args in scratch_of a.walk.now a.glyph_set.now a.glyphs.now a.classes.now a.cuts.now in
    let walked = c.begin_walk.ensures c.args.«data».now in
    decided_cut (scratch) c.requires.passed walked c.requires.settings_value c.if-walk-table-ne0.false
    (c.cut_table-count.ensures c.args.table (can_cut (scratch) c.requires.passed walked))

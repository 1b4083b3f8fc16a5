-- `mark_checks::slots::links_at_slots` meets its contract: the table, the mark array and the base array, one after another. Assumes nothing.
use mathlib.Core.Path.{ap}
use mathlib.Core.Bool.{not}
use borrow.Author.Rules.{rules}
use Rattle.ot_markbasepos.specs.declared.Holder.TheVariants.{Table, Marks, Bases}
use Rattle.ot_markbasepos.specs.Kinds.{slot_of}
use Rattle.mark_checks.proofs.AtSlots.{opened_in_order, table_small, marks_small, bases_small, own_fails, marks_fail, bases_decide}
use Rattle.mark_checks.proofs.slots.links_at_slots.Goals as goal

pub all_offsets-requires : goal.all_offsets-requires
all_offsets-requires c = record { order = opened_in_order c.requires.2; parent_bound = table_small c.requires.2; callable = search rules }

pub returns-then-not-all_offsets : goal.returns-then-not-all_offsets
returns-then-not-all_offsets c b o v =
    own_fails v (c.all_offsets.ensures b o (slot_of Table) v.reads.sounds (λ q r small told. search rules)) (ap not c.if-not-all_offsets.true)

pub all_offsets-requires-2 : goal.all_offsets-requires-2
all_offsets-requires-2 c = record { order = opened_in_order c.requires.2; parent_bound = marks_small c.requires.2; callable = search rules }

pub returns-then-not-all_offsets-2 : goal.returns-then-not-all_offsets-2
returns-then-not-all_offsets-2 c b o v =
    let own = c.all_offsets.ensures b o (slot_of Table) v.reads.sounds (λ q r small told. search rules) in
    marks_fail v own (ap not c.if-not-all_offsets.false)
    (c.all_offsets-2.ensures b o (slot_of Marks) v.reads.sounds (λ q r small told. search rules)) (ap not c.if-not-all_offsets-2.true)

pub all_offsets-requires-3 : goal.all_offsets-requires-3
all_offsets-requires-3 c = record { order = opened_in_order c.requires.2; parent_bound = bases_small c.requires.2; callable = search rules }

pub returns : goal.returns
returns c b o v =
    let own = c.all_offsets.ensures b o (slot_of Table) v.reads.sounds (λ q r small told. search rules) in
    let marks = c.all_offsets-2.ensures b o (slot_of Marks) v.reads.sounds (λ q r small told. search rules) in
    bases_decide v own (ap not c.if-not-all_offsets.false) marks (ap not c.if-not-all_offsets-2.false)
    (c.all_offsets-3.ensures b o (slot_of Bases) v.reads.sounds (λ q r small told. search rules))

-- `lookup_plan::ask_list` meets its contract: 12, 1, 2 and 9 one after another. Assumes nothing.
use Rattle.store_rules.specs.Store.{Store, lent}
use Rattle.lookup_plan.proofs.Asking.{unknown, unsound, no_table_lem, no_list_lem, list_used, bad_list_lem, good_list_lem}
use mathlib.Core.Path.{ap}
use mathlib.Core.Bool.{not}
use Rattle.lookup_plan.proofs.ask_list.Goals as goal

pub returns-then-not-is_known : goal.returns-then-not-is_known
returns-then-not-is_known c =
    let store : Store = let a = c.args in lent a.«data».now a.objects.now a.links.now a.counts in
    unknown c.args.settings (store) c.args.list c.args.table c.is_known.ensures (ap not c.if-not-is_known.true)

pub returns-then-not-is_sound : goal.returns-then-not-is_sound
returns-then-not-is_sound c =
    let store : Store = let a = c.args in lent a.«data».now a.objects.now a.links.now a.counts in
    unsound c.args.settings (store) c.args.list c.args.table c.is_known.ensures (ap not c.if-not-is_known.false)
    c.is_sound.ensures (ap not c.if-not-is_sound.true)

pub returns-then-counts-table : goal.returns-then-counts-table
returns-then-counts-table c =
    let store : Store = let a = c.args in lent a.«data».now a.objects.now a.links.now a.counts in
    no_table_lem c.args.settings (store) c.args.list c.args.table c.is_known.ensures (ap not c.if-not-is_known.false)
    c.is_sound.ensures (ap not c.if-not-is_sound.false) c.if-counts-table.true

pub returns-then-counts-list : goal.returns-then-counts-list
returns-then-counts-list c =
    let store : Store = let a = c.args in lent a.«data».now a.objects.now a.links.now a.counts in
    no_list_lem c.args.settings (store) c.args.list c.args.table c.is_known.ensures (ap not c.if-not-is_known.false)
    c.is_sound.ensures (ap not c.if-not-is_sound.false) c.if-counts-table.false c.if-counts-list.true

pub check_list-requires : goal.check_list-requires
check_list-requires c =
    let store : Store = let a = c.args in lent a.«data».now a.objects.now a.links.now a.counts in
    list_used c.args.settings (store) c.args.list c.args.table c.is_known.ensures (ap not c.if-not-is_known.false)
    c.is_sound.ensures (ap not c.if-not-is_sound.false) c.if-counts-table.false c.if-counts-list.false

pub returns-then-not-check_list : goal.returns-then-not-check_list
returns-then-not-check_list c =
    let store : Store = let a = c.args in lent a.«data».now a.objects.now a.links.now a.counts in
    bad_list_lem c.args.settings (store) c.args.list c.args.table c.is_known.ensures (ap not c.if-not-is_known.false)
    c.is_sound.ensures (ap not c.if-not-is_sound.false) c.if-counts-table.false c.if-counts-list.false
    c.check_list.ensures (ap not c.if-not-check_list.true)

pub returns : goal.returns
returns c =
    let store : Store = let a = c.args in lent a.«data».now a.objects.now a.links.now a.counts in
    good_list_lem c.args.settings (store) c.args.list c.args.table c.is_known.ensures (ap not c.if-not-is_known.false)
    c.is_sound.ensures (ap not c.if-not-is_sound.false) c.if-counts-table.false c.if-counts-list.false
    c.check_list.ensures (ap not c.if-not-check_list.false)

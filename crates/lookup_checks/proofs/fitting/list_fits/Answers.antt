-- `lookup_checks::fitting::list_fits` meets its contract: its length, and then its slots. Assumes nothing.
use borrow.Author.Rules.{rules}
use Prim.Native.Nat.{ℕ}
use mathlib.Core.Path.{ap, ◌∙◌}
use Rattle.ot_layouts.specs.Lookup.{is_one_of, list_header, list_exact, is_list_slot}
use Rattle.store_rules.specs.Store.{lent, all_at}
use Rattle.lookup_rules.specs.Listed.{good_list}
use Rattle.lookup_checks.proofs.Objects.{lies, searchable, length_fails, slots_decide, list_long}
use mathlib.Core.Bool.{not}
use Rattle.lookup_checks.proofs.fitting.list_fits.Goals as goal

pub bytes_of-bytes-requires : goal.bytes_of-bytes-requires
bytes_of-bytes-requires c = lies c.requires

pub returns-then-not-list_exact : goal.returns-then-not-list_exact
unfolding good_list
returns-then-not-list_exact c =
    let a = c.args in
    let s = lent a.«data».now a.objects.now a.links.now a.counts in
    length_fails s a.list list_exact is_list_slot
    (c.bytes_of-bytes.ensures a.links.now a.counts) c.list_exact.ensures (ap not c.if-not-list_exact.true)

pub lookup_count-count-requires : goal.lookup_count-count-requires
lookup_count-count-requires c =
    let a = c.args in
    let s = lent a.«data».now a.objects.now a.links.now a.counts in
    list_long s a.list (c.bytes_of-bytes.ensures a.links.now a.counts) c.list_exact.ensures (ap not c.if-not-list_exact.false)

pub all_offsets-requires : goal.all_offsets-requires
all_offsets-requires c = let (order, small) = searchable c.requires in record { order = order; parent_bound = small; callable = search rules }

pub returns : goal.returns
unfolding good_list is_list_slot
returns c =
    let a = c.args in
    let s = lent a.«data».now a.objects.now a.links.now a.counts in
    slots_decide s a.list list_exact is_list_slot
    (c.bytes_of-bytes.ensures a.links.now a.counts) c.list_exact.ensures (ap not c.if-not-list_exact.false)
    (c.all_offsets.ensures a.«data».now a.objects.now (is_one_of list_header c.lookup_count-count.result) c.requires.sounds (λ q r small told. search rules)
    ∙ ap (λ (n : ℕ). all_at s a.list (is_one_of list_header n)) c.lookup_count-count.ensures)

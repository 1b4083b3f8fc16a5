-- `lookup_checks::fitting::lookup_fits` meets its contract: its length, and then its slots. Assumes nothing.
use borrow.Author.Rules.{rules}
use Prim.Native.Nat.{ℕ}
use mathlib.Core.Path.{ap, ◌∙◌}
use Rattle.ot_layouts.specs.Lookup.{is_one_of, lookup_header, lookup_exact, is_subtable_slot}
use Rattle.store_rules.specs.Store.{lent, all_at}
use Rattle.lookup_rules.specs.Listed.{good_lookup}
use Rattle.lookup_checks.proofs.Objects.{lies, searchable, length_fails, slots_decide, lookup_long}
use mathlib.Core.Bool.{not}
use Rattle.lookup_checks.proofs.fitting.lookup_fits.Goals as goal

pub bytes_of-bytes-requires : goal.bytes_of-bytes-requires
bytes_of-bytes-requires c = lies c.requires

pub returns-then-not-lookup_exact : goal.returns-then-not-lookup_exact
unfolding good_lookup
returns-then-not-lookup_exact c =
    let a = c.args in
    let s = lent a.«data».now a.objects.now a.links.now a.counts in
    length_fails s a.lookup lookup_exact is_subtable_slot
    (c.bytes_of-bytes.ensures a.links.now a.counts) c.lookup_exact.ensures (ap not c.if-not-lookup_exact.true)

pub subtable_count-count-requires : goal.subtable_count-count-requires
subtable_count-count-requires c =
    let a = c.args in
    let s = lent a.«data».now a.objects.now a.links.now a.counts in
    lookup_long s a.lookup (c.bytes_of-bytes.ensures a.links.now a.counts) c.lookup_exact.ensures (ap not c.if-not-lookup_exact.false)

pub all_offsets-requires : goal.all_offsets-requires
all_offsets-requires c = let (order, small) = searchable c.requires in record { order = order; parent_bound = small; callable = search rules }

pub returns : goal.returns
unfolding good_lookup is_subtable_slot
returns c =
    let a = c.args in
    let s = lent a.«data».now a.objects.now a.links.now a.counts in
    slots_decide s a.lookup lookup_exact is_subtable_slot
    (c.bytes_of-bytes.ensures a.links.now a.counts) c.lookup_exact.ensures (ap not c.if-not-lookup_exact.false)
    (c.all_offsets.ensures a.«data».now a.objects.now (is_one_of lookup_header c.subtable_count-count.result) c.requires.sounds (λ q r small told. search rules)
    ∙ ap (λ (n : ℕ). all_at s a.lookup (is_one_of lookup_header n)) c.subtable_count-count.ensures)

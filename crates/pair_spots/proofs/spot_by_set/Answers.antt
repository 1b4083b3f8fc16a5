-- `pair_spots::spot_by_set` meets its contract: by the count of sets, and by the link at the slot. Assumes nothing.
use native.Mathlib.Omega.{arith}
use Rattle.store_reader.proofs.Rows.{rows_in_order}
use Rattle.store_rules.specs.Store.{lent}
use Rattle.pair_spots.proofs.Finding.{no_set, no_link_lem, set-inside, set_is_sorted, in_linked_set}
use Rattle.pair_spots.proofs.spot_by_set.Goals as goal

pub returns-then-from-k : goal.returns-then-from-k
returns-then-from-k c = let a = c.args in no_set (lent a.«data».now a.objects.now a.links.now a.counts) a.table a.layout a.second a.k (omega arith)

pub child_at-requires : goal.child_at-requires
child_at-requires c =
    let a = c.args in
    rows_in_order (lent a.«data».now a.objects.now a.links.now a.counts) c.requires.0

pub returns-in_err-object : goal.returns-in_err-object
returns-in_err-object c =
    let a = c.args in
    rw c.from_residual.ensures
    (no_link_lem (lent a.«data».now a.objects.now a.links.now a.counts) a.table a.layout a.second a.k (omega arith)
    (c.child_at.ensures a.«data».now a.objects.now) c.in_err-object.was)

pub spot_in_set-requires : goal.spot_in_set-requires
spot_in_set-requires c =
    let a = c.args in
    let s = lent a.«data».now a.objects.now a.links.now a.counts in
    let child = c.child_at.ensures a.«data».now a.objects.now in
    record {
      inside = set-inside s a.table a.layout a.second a.k (omega arith) child c.in_ok-object.was c.requires.0;
      size_bound = (
        c.record_size-size.ensures.1,
        set_is_sorted s a.table a.layout a.second a.k (omega arith) child c.in_ok-object.was c.requires.1 c.record_size-size.ensures.0,
      );
    }

pub returns : goal.returns
returns c =
    let a = c.args in
    in_linked_set (lent a.«data».now a.objects.now a.links.now a.counts) a.table a.layout a.second a.k (omega arith)
    (c.child_at.ensures a.«data».now a.objects.now) c.in_ok-object.was
    c.record_size-size.ensures.0 (c.spot_in_set.ensures a.links.now a.counts)

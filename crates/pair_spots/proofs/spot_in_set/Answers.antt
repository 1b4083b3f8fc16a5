-- `pair_spots::spot_in_set` meets its contract: by what the search finds. Assumes nothing.
use mathlib.Core.List.{[]}
use native.Mathlib.Omega.{arith}
use Rattle.store_rules.specs.Store.{lent}
use Rattle.pair_spots.proofs.Finding.{record_in, no_record_in, record_place}
use Rattle.pair_spots.proofs.spot_in_set.Goals as goal

pub record_in_set-requires : goal.record_in_set-requires
record_in_set-requires c = (c.requires.size_bound.0, rw (c.bytes_of-set.ensures [] []) (c.requires.size_bound.1 [] []))

pub overflow_mul-at : goal.overflow_mul-at
overflow_mul-at c = let a = c.args in omega (arith, record_place c.bytes_of-set.result.now a.size a.second _ c.record_in_set.ensures c.in_ok-r.was)

pub overflow_add-at-2 : goal.overflow_add-at-2
overflow_add-at-2 c = let a = c.args in omega (arith, record_place c.bytes_of-set.result.now a.size a.second _ c.record_in_set.ensures c.in_ok-r.was)

pub returns-in_err-r : goal.returns-in_err-r
returns-in_err-r c l k =
    let a = c.args in
    rw c.from_residual.ensures
    (no_record_in (lent a.«data».now a.objects.now l k) a.size a.second a.object (c.bytes_of-set.ensures l k) c.record_in_set.ensures c.in_err-r.was)

pub returns : goal.returns
returns c l k =
    let a = c.args in
    record_in (lent a.«data».now a.objects.now l k) a.size a.second a.object (c.bytes_of-set.ensures l k) c.record_in_set.ensures c.in_ok-r.was

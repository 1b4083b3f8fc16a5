-- The pair reading takes the old table and each resulting one. Assumes nothing.
use Rattle.std.specs.Prelude.{Option, None}
use Prim.Native.Nat.{ℕ, zero, suc, ◌<◌}
use mathlib.Core.Path.{◌≡◌, ap}
use mathlib.Core.List.{List}
use native.Mathlib.Omega.{arith}
use lib.ListN.{length, get_or}
use Rattle.folds.proofs.Folds.{length-upto}
use Rattle.folds.proofs.FromTheFront.{upto-at}
use Rattle.store_rules.specs.Store.{Store}
use Rattle.store_rules.specs.Appended.{new_number}
use Rattle.pair_rules.specs.Table.{cut_places, shape}
use Rattle.pair_rules.specs.Written.{new_tables, per_table}
use Rattle.pair_rules.specs.Pairs.{pair_of}
use Rattle.call_rules.specs.declared.Settings.{Settings}
use Rattle.call_rules.specs.Answers.{first_case}
use Rattle.pair_rules.specs.Calls.{pair_cases, pair_call, reported, settle_pair}
use Rattle.call_rules.specs.Scratch.{Scratch}
use Rattle.pair_rules.proofs.SortedSets.{pairs_no_case}
use Rattle.promise_calls.specs.Unchanged.{Octets}
use Rattle.promise_pairs.specs.Demands.{Splits, resulting, store_then, ReadingsKept}
use Rattle.promise_pairs.proofs.GoesAhead.{splits_may, splits_ready}
use Rattle.promise_pairs.proofs.WrittenAfresh.{written_afresh}

takes : (s : Store) (t a b : ℕ) → first_case (pair_cases s t) ≡ None → pair_call s t a b ≡ reported 0 (pair_of s t a b)
unfolding pair_call settle_pair
takes s t a b e = ap (λ (o : Option ℕ). settle_pair o (pair_of s t a b)) e

-- each of the resulting tables can be read
each_read : (how : Settings) (s : Store) (t : ℕ) (w : Scratch) (list : List ℕ) → Octets s → Splits how s t w list → (i : ℕ) → i < length (resulting how s t) → first_case (pair_cases (store_then how s t w list) (get_or (resulting how s t) i 0)) ≡ None
unfolding new_tables
each_read how s t w list octets p zero l = (written_afresh how s t w list octets p).kept.readable
each_read how s t w list octets p (suc j) l =
    let cs = cut_places how s t in
    let m : j < length cs = omega (arith, length-upto (new_number s (per_table (shape s t))) (length cs)) in
    rw (upto-at (new_number s (per_table (shape s t))) (length cs) j 0 m) ((written_afresh how s t w list octets p).fresh j m).readable

-- the same, of the exported reading
pub readings_kept : ReadingsKept
readings_kept how s t w list octets p a b =
    let (g, e) = splits_ready how s t w list p in (
      takes s t a b (pairs_no_case s t (record { reads = g.reads; sorted = (splits_may how s t w list p).checked.sorted })),
      λ i l. takes (store_then how s t w list) (get_or (resulting how s t) i 0) a b (each_read how s t w list octets p i l),
    )

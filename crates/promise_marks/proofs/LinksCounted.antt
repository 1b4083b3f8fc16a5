-- A split takes what its room was asked for: 4 links a new table and as many as both arrays have. Assumes nothing.
use Prim.Native.Nat.{ℕ, ◌+◌}
use mathlib.Core.Path.{◌≡◌, refl, ap}
use mathlib.Core.List.{List}
use lib.ListN.{length}
use Rattle.store_rules.specs.Store.{Store}
use Rattle.store_rules.specs.Appended.{appended, with_bytes}
use Rattle.mark_rules.specs.Table.{cut_places}
use Rattle.mark_rules.specs.Written.{new_links, need_objects, need_links, kept_table, split_store}
use Rattle.mark_rules.proofs.LinkCounts as Counts
use Rattle.promise_marks.specs.Demands.{TakesNeeded}
use Rattle.promise_marks.proofs.Ready.{Ready, many_new, splits_ready, store_written}

pub many_links : (s : Store) (t : ℕ) (cs : List ℕ) → Ready s t cs → length (new_links s t cs) ≡ s.link_count + need_links s t (length cs)
many_links s t cs g = Counts.many_links s t cs g.cuts g.some_cut g.reads g.fit g.at_slots

pub takes_needed : TakesNeeded
unfolding split_store kept_table with_bytes appended need_objects
takes_needed how s t w list p =
    let cs = cut_places how s t in
    let (g, e) = splits_ready how s t w list p in
    rw (store_written how s t w list p) (ap (λ (k : ℕ). s.object_count + k) (many_new s t cs g), many_links s t cs g, refl)

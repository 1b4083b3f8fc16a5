-- The links before redirection: those of the split, then those of the new lookups. They ascend, and each leads to an object of the split. Assumes nothing.
use Rattle.std.specs.Prelude.{Option, Some, None}
use Prim.Native.Nat.{ℕ, ◌+◌, ◌<◌, ◌≤◌}
use mathlib.Core.Path.{◌≡◌}
use mathlib.Core.List.{List, ◌++◌}
use native.Mathlib.Omega.{arith}
use lib.ListN.{length, get_or}
use Rattle.folds.proofs.Each.{Each, each_upto}
use Rattle.store_rules.specs.Store.{Store, Link, bytes_of, links_of}
use Rattle.store_rules.specs.Appended.{new_number}
use Rattle.store_rules.proofs.Sound.{Fits}
use Rattle.store_rules.proofs.LinksAscend.{Climb}
use Rattle.pair_rules.specs.Table.{shape}
use Rattle.pair_rules.specs.Written.{new_tables, split_store, per_table}
use Rattle.pair_rules.proofs.NewCounts.{per_two}
use Rattle.lookup_rules.specs.Listed.{rewritten}
use Rattle.lookup_rules.specs.Written.{new_slots, new_lookup_links}
use Rattle.lookup_rules.proofs.RedirectedRows.{Old}
use Rattle.lookup_rules.proofs.Unled as any
use Rattle.pair_after.proofs.Ready.{objects_then, new_used}
use Rattle.pair_after.proofs.SoundThen.{fits_then_lem}
use Rattle.lookup_after.proofs.Entering.{Entering}

module _ (s : Store) (l t : ℕ) (cs : List ℕ) (e : Entering s l t cs) where
  abbrev s' : Store
  s' = split_store s t cs

  abbrev us : List ℕ
  us = new_tables s t cs

  abbrev ps : List ℕ
  ps = rewritten s l t

  abbrev n : ℕ
  n = (split_store s t cs).object_count

  abbrev slots : ℕ → List (Option ℕ)
  slots m = new_slots s t (new_tables s t cs) (get_or (rewritten s l t) m 0)

  -- those of the new lookups, and all
  abbrev pub more : List Link
  more = new_lookup_links s t (new_tables s t cs) (rewritten s l t) (split_store s t cs).object_count

  abbrev pub unled : List Link
  unled = links_of (split_store s t cs) ++ new_lookup_links s t (new_tables s t cs) (rewritten s l t) (split_store s t cs).object_count

  pub fit' : Fits s'
  fit' = fits_then_lem s t cs e.ready

  pub old_used : s.object_count ≤ n
  old_used = omega (arith, objects_then s t cs e.ready)

  -- the new tables are in use after the split
  pub tables_used : Each (λ c. c < n) us
  unfolding new_tables
  tables_used =
      each_upto (λ c. c < n) (new_number s (per_table (shape s t))) (length cs)
      (λ j k. omega (arith, new_used s t cs e.ready j 0 k (omega (arith, per_two (bytes_of s t)))))

  pub slot_used : (m i c : ℕ) → i < length (slots m) → get_or (slots m) i None ≡ Some c → c < n
  slot_used = any.slot_used s t us ps s' e.ready.fit fit' old_used tables_used e.counts

  pub old_links : Each (Old n) unled
  old_links = any.old_links s t us ps s' e.ready.fit fit' old_used tables_used e.counts

  pub climb_unled : Climb 0 0 (n + length ps) unled
  climb_unled = any.climb_unled s t us ps s' e.ready.fit fit' old_used tables_used e.counts

-- The resulting tables, the kept one first: each is the table of its range, and passes the checks of a split that look at a table. Assumes nothing.
use Prim.Native.Nat.{ℕ, suc, ◌<◌, ◌≤◌}
use mathlib.Core.Path.{◌≡◌, sym, subst}
use mathlib.Core.Bool.{true, false}
use mathlib.Core.List.{List, ◌∷◌}
use native.Mathlib.Numerals.{add-one}
use native.Mathlib.Omega.{arith}
use lib.ListN.{length, get_or}
use Rattle.folds.specs.Lists.{among, Bytes}
use Rattle.folds.proofs.Each.{each_upto, each_among}
use Rattle.folds.proofs.Parts.{get_d_default}
use Rattle.store_rules.specs.Store.{Store, bytes_of}
use Rattle.store_rules.specs.Reach.{on_cycle}
use Rattle.store_rules.specs.Appended.{new_number}
use Rattle.cut_rules.proofs.CutPlaces.{lo_at}
use Rattle.pair_rules.specs.Table.{shape, all_at_slots}
use Rattle.pair_rules.specs.Reads.{Reads}
use Rattle.pair_rules.specs.Written.{split_store, new_tables, per_table}
use Rattle.pair_rules.proofs.NewCounts.{per_two}
use Rattle.pair_after.proofs.Ready.{Ready, objects_then, new_used}
use Rattle.pair_after.proofs.View.{View}
use Rattle.pair_after.proofs.KeptAndNew.{view_kept, view_new}
use Rattle.pair_after.proofs.SoundThen.{sound_then}
use Rattle.pair_after.proofs.ViewReads.{view_reads}
use Rattle.pair_after.proofs.SameReach.{at_slots_lem, still_acyclic}
use Rattle.pair_after.proofs.NewChecked.{new_at_slots, new_acyclic}

-- object u is the table of range j
pub record TableOf (s : Store) (t : ℕ) (cs : List ℕ) (u : ℕ) : Type 0 where
  pub j : ℕ
  pub some : j ≤ length cs
  pub used : u < (split_store s t cs).object_count
  pub view : View s t (split_store s t cs) u (lo_at cs j) (get_or cs j (shape s t).count)
  -- 7 does not apply
  pub at_slots : all_at_slots (split_store s t cs) u ≡ true
  pub acyclic : on_cycle (split_store s t cs) u ≡ false

module _ (s : Store) (t : ℕ) (cs : List ℕ) (g : Ready s t cs) where
  kept_table_lem : TableOf s t cs t
  kept_table_lem =
      record {
        j = 0;
        some = omega arith;
        used = omega (arith, g.reads.used, objects_then s t cs g);
        view = subst (λ (hi : ℕ). View s t (split_store s t cs) t 0 hi) (sym (get_d_default cs 0 (shape s t).count 0 g.some_cut)) (view_kept s t cs g);
        at_slots = at_slots_lem s t cs g;
        acyclic = still_acyclic s t cs g;
      }

  new_table_lem : (j : ℕ) → j < length cs → TableOf s t cs (new_number s (per_table (shape s t)) j)
  new_table_lem j l =
      let u = new_number s (per_table (shape s t)) j in
      record {
        j = suc j;
        some = l;
        used = omega (arith, new_used s t cs g j 0 l (omega (arith, per_two (bytes_of s t))));
        view = subst (λ (k : ℕ). View s t (split_store s t cs) u (get_or cs j 0) (get_or cs k (shape s t).count)) (add-one j) (view_new s t cs g j l);
        at_slots = new_at_slots s t cs g j l;
        acyclic = new_acyclic s t cs g j l;
      }

  -- the kept table, and each of the result list
  pub resulting_table : (u : ℕ) → among u (t ∷ new_tables s t cs) ≡ true → TableOf s t cs u
  unfolding new_tables
  resulting_table u h =
      each_among (TableOf s t cs) (t ∷ new_tables s t cs) u
      (kept_table_lem, each_upto (TableOf s t cs) (new_number s (per_table (shape s t))) (length cs) new_table_lem) h

  -- nor do 1 to 5 apply to it
  pub resulting_reads : Bytes s.bytes → {u : ℕ} → TableOf s t cs u → Reads (split_store s t cs) u
  resulting_reads octets w = view_reads w.view g.reads (sound_then s t cs g) w.used octets

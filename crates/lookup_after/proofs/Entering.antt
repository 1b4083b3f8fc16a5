-- New tables that can be entered: what the checks of a call give of the store, the list, the table and the room. Assumes nothing.
use Prim.Native.Nat.{ℕ, ◌+◌, ◌*◌, ◌<◌, ◌≤◌}
use mathlib.Core.Path.{◌≡◌}
use mathlib.Core.Bool.{true, false}
use mathlib.Core.List.{List}
use native.Mathlib.Omega.{arith}
use lib.ListN.{length, get_or}
use Rattle.folds.specs.Folds.{sum}
use Rattle.folds.specs.Lists.{join}
use Rattle.store_rules.specs.Store.{Store, per_link, object_room, byte_room, link_room, bytes_of}
use Rattle.store_rules.specs.Reach.{on_cycle}
use Rattle.cut_rules.specs.Places.{Places}
use Rattle.pair_rules.specs.Table.{shape, all_at_slots, entries_of}
use Rattle.pair_rules.specs.Written.{new_of, need_objects, need_links, new_tables}
use Rattle.pair_rules.specs.Reads.{Reads}
use Rattle.pair_rules.proofs.NewCounts.{new_many}
use Rattle.lookup_rules.specs.Listed.{rewritten, bad_list}
use Rattle.lookup_rules.specs.Written.{new_slots, new_lookups, links_needed}
use Rattle.pair_after.proofs.Ready.{Ready, ready}

-- table t of s, cut at cs, is ready to be entered in the lookups of list l
pub record Entering (s : Store) (l t : ℕ) (cs : List ℕ) : Type 0 where
  -- the split is ready
  pub ready : Ready s t cs
  -- 2 and 9 do not apply to the list
  pub used : l < s.object_count
  pub fine : bad_list s l t ≡ false
  -- nor does 10
  pub counts : (m : ℕ) → m < length (rewritten s l t) → length (new_slots s t (new_tables s t cs) (get_or (rewritten s l t) m 0)) ≤ 65535
  -- nor 8, over both
  pub objects_room : 2 * (s.object_count + length (new_of s t cs) + length (rewritten s l t)) ≤ length s.objects
  pub objects_most : s.object_count + length (new_of s t cs) + length (rewritten s l t) ≤ 65536
  pub bytes_room : s.byte_count + length (join (new_of s t cs)) + length (join (new_lookups s t (new_tables s t cs) (rewritten s l t))) ≤ length s.bytes
  pub bytes_most : s.byte_count + length (join (new_of s t cs)) + length (join (new_lookups s t (new_tables s t cs) (rewritten s l t))) ≤ 16777216
  pub links_room : per_link
      * (s.link_count + need_links (shape s t) (length cs) + sum (λ m. links_needed s t (new_tables s t cs) (get_or (rewritten s l t) m 0)) (length (rewritten s l t)))
      ≤ length s.links
  pub links_most : s.link_count + need_links (shape s t) (length cs)
      + sum (λ m. links_needed s t (new_tables s t cs) (get_or (rewritten s l t) m 0)) (length (rewritten s l t))
      ≤ 262144

-- what is asked before it, and room for split and lookups together, make it ready
pub entering : (s : Store) (l t : ℕ) (cs : List ℕ) → Reads s t → all_at_slots s t ≡ true → on_cycle s t ≡ false → Places (shape s t).count cs → 0 < length cs
    → l < s.object_count → bad_list s l t ≡ false
    → ((m : ℕ) → m < length (rewritten s l t) → length (new_slots s t (new_tables s t cs) (get_or (rewritten s l t) m 0)) ≤ 65535)
    → s.object_count + (need_objects (shape s t) (length cs) + length (rewritten s l t)) ≤ object_room (length s.objects)
    → s.link_count
    + (need_links (shape s t) (length cs) + sum (λ m. links_needed s t (new_tables s t cs) (get_or (rewritten s l t) m 0)) (length (rewritten s l t)))
    ≤ link_room (length s.links)
    → s.byte_count + (length (join (new_of s t cs)) + length (join (new_lookups s t (new_tables s t cs) (rewritten s l t)))) ≤ byte_room (length s.bytes)
    → Entering s l t cs
unfolding object_room byte_room link_room
entering s l t cs r slots acyclic cuts some used fine counts o k b =
    let many = new_many (shape s t) (bytes_of s t) (entries_of s t) cs in
    record {
      ready = ready s t cs r slots acyclic cuts some (omega arith) (omega arith) (omega arith);
      used = used;
      fine = fine;
      counts = counts;
      objects_room = omega arith;
      objects_most = omega arith;
      bytes_room = omega arith;
      bytes_most = omega arith;
      links_room = omega arith;
      links_most = omega arith;
    }

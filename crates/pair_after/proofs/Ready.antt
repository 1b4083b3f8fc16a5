-- A split that goes ahead: what its checks give of the store, the table and its cuts. Assumes nothing.
use Prim.Native.Nat.{ℕ, ◌+◌, ◌*◌, ◌<◌, ◌≤◌}
use mathlib.Core.Path.{◌≡◌, sym, ◌∙◌}
use mathlib.Core.Bool.{true, false}
use mathlib.Core.List.{List}
use native.Mathlib.Omega.{arith}
use native.Mathlib.Nat.{mul-le-mul_left, mul-add}
use lib.ListN.{length}
use Rattle.folds.specs.Lists.{join}
use Rattle.ot_layouts.specs.PairPos.{item_at}
use Rattle.store_rules.specs.Store.{per_link, Store, size_of, bytes_of, object_room, byte_room, link_room}
use Rattle.store_rules.specs.Reach.{on_cycle}
use Rattle.pair_rules.specs.Table.{shape, all_at_slots, entries_of}
use Rattle.pair_rules.specs.Written.{new_of, need_links, need_objects, split_store, store_after, new_links, per_table, kept_table}
use Rattle.cut_rules.specs.Ranges.{from}
use Rattle.store_rules.proofs.Sound.{Fits, sound_fits, size_bytes}
use Rattle.store_rules.specs.Appended.{new_number, with_bytes, with_tail}
use Rattle.store_rules.proofs.Appended as behind
use Rattle.cut_rules.specs.Places.{Places}
use Rattle.pair_rules.specs.Reads.{Reads}
use Rattle.pair_rules.proofs.Checks.{Parts, parts_read}
use Rattle.pair_rules.proofs.NewCounts.{new_many}

-- table t of s is ready to be split at cs
pub record Ready (s : Store) (t : ℕ) (cs : List ℕ) : Type 0 where
  -- 1 to 5 do not apply
  pub reads : Reads s t
  pub fit : Fits s
  pub size : size_of s t ≡ item_at (shape s t) (shape s t).count
  pub parts : Parts s t
  -- nor does 7
  pub at_slots : all_at_slots s t ≡ true
  pub acyclic : on_cycle s t ≡ false
  -- there is a cut, and each is an item
  pub cuts : Places (shape s t).count cs
  pub some_cut : 0 < length cs
  -- and 8 does not apply
  pub objects_room : 2 * (s.object_count + length (new_of s t cs)) ≤ length s.objects
  pub objects_most : s.object_count + length (new_of s t cs) ≤ 65536
  pub bytes_room : s.byte_count + length (join (new_of s t cs)) ≤ length s.bytes
  pub bytes_most : s.byte_count + length (join (new_of s t cs)) ≤ 16777216
  pub links_room : per_link * (s.link_count + need_links (shape s t) (length cs)) ≤ length s.links
  pub links_most : s.link_count + need_links (shape s t) (length cs) ≤ 262144

-- what is asked before a split, and room for what it needs, make it ready
pub ready : (s : Store) (t : ℕ) (cs : List ℕ) → Reads s t → all_at_slots s t ≡ true → on_cycle s t ≡ false → Places (shape s t).count cs → 0 < length cs
    → s.object_count + need_objects (shape s t) (length cs) ≤ object_room (length s.objects)
    → s.link_count + need_links (shape s t) (length cs) ≤ link_room (length s.links)
    → s.byte_count + length (join (new_of s t cs)) ≤ byte_room (length s.bytes)
    → Ready s t cs
unfolding object_room byte_room link_room
ready s t cs r slots acyclic cuts some o l b =
    let f = sound_fits s r.sounds in
    let many : length (new_of s t cs) ≡ need_objects (shape s t) (length cs) = new_many (shape s t) (bytes_of s t) (entries_of s t) cs in
    record {
      reads = r;
      fit = f;
      size = sym (size_bytes s f t r.used) ∙ r.exactly;
      parts = parts_read s t r.parts;
      at_slots = slots;
      acyclic = acyclic;
      cuts = cuts;
      some_cut = some;
      objects_room = omega arith;
      objects_most = omega arith;
      bytes_room = omega arith;
      bytes_most = omega arith;
      links_room = omega arith;
      links_most = omega arith;
    }

module _ (s : Store) (t : ℕ) (cs : List ℕ) (g : Ready s t cs) where
  -- the first cut is an item, so the kept table is no longer than the old one
  pub first_cut : from cs 0 < (shape s t).count
  first_cut = g.cuts.below 0 g.some_cut

  -- ---- what the store has then
  pub objects_then : (split_store s t cs).object_count ≡ s.object_count + length (new_of s t cs)
  unfolding split_store store_after kept_table with_bytes with_tail
  objects_then = behind.objects_then (kept_table s t (shape s t) (from cs 0)) (new_of s t cs) (new_links s t (shape s t) cs)

  -- how many objects are new
  pub many_new : length (new_of s t cs) ≡ per_table (shape s t) * length cs + length (shape s t).own
  unfolding need_objects
  many_new = new_many (shape s t) (bytes_of s t) (entries_of s t) cs

  -- object r of new table j is in use
  pub new_used : (j r : ℕ) → j < length cs → r < per_table (shape s t) → new_number s (per_table (shape s t)) j + r < (split_store s t cs).object_count
  new_used j r l h =
      let per = per_table (shape s t) in
      omega (arith, mul-le-mul_left {m = j + 1} {n = length cs} per (omega arith), mul-add per j 1, many_new, objects_then)

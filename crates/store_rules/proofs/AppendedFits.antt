-- A store with objects and links added is sound where each link fits and they ascend, and a store of bytes where the new ones are. Assumes nothing.
use Prim.Native.Nat.{ℕ, ◌*◌, ◌<◌, ◌≤◌}
use mathlib.Core.List.{List}
use native.Mathlib.Omega.{arith}
use lib.ListN.{length}
use Rattle.folds.specs.Lists.{Bytes, join}
use Rattle.folds.proofs.Each.{Each}
use Rattle.folds.proofs.Put.{length-put}
use Rattle.folds.proofs.Bytes.{bytes_put, bytes_join}
use Rattle.store_rules.specs.Store.{per_link, Store, Link, size_of}
use Rattle.store_rules.specs.Appended.{appended, row_numbers}
use Rattle.store_rules.proofs.Sound.{Fits}
use Rattle.store_rules.proofs.LinkRows.{rows_numbers}
use Rattle.store_rules.proofs.LinksAscend.{Climb}
use Rattle.store_rules.proofs.LinksFit.{Fitting, rows_fit}
use Rattle.store_rules.proofs.Appended.{Room, links_then, objects_then, bytes_then, links_count, bytes_length, rows_long, object_fits_lem}

module _ (s : Store) (new : List (List ℕ)) (ls : List Link) (room : Room s new) where
  abbrev s' : Store
  s' = appended s new ls

  links_room_lem : per_link * length ls ≤ length s.links → per_link * s'.link_count ≤ length s'.links
  unfolding appended
  links_room_lem h = omega (arith, length-put s.links 0 (row_numbers ls) (omega (arith, rows_numbers ls)))

  sizes : (i : ℕ) → i < s'.object_count → size_of s' i ≤ 16777216
  sizes i h = omega (arith, (object_fits_lem s new ls room i h).inside, bytes_then s new ls, room.bytes_most)

  pub appended_fits : Each (Fitting s') ls → (e : ℕ) → Climb 0 0 e ls → per_link * length ls ≤ length s.links → length ls ≤ 262144 → Fits s'
  appended_fits fit e climbs within most =
      let objects = objects_then s new ls in
      let bytes = bytes_then s new ls in
      record {
        bytes_in = omega (arith, bytes_length s new ls room, room.bytes_in);
        bytes_most = omega (arith, room.bytes_most);
        objects_in = omega (arith, rows_long s new ls room, room.objects_in);
        objects_most = omega (arith, room.objects_most);
        links_in = links_room_lem within;
        links_most = omega (arith, links_count s new ls);
        object = object_fits_lem s new ls room;
        link = rows_fit s' ls (links_then s new ls) sizes fit e climbs;
      }

  pub appended_bytes : Bytes s.bytes → Each Bytes new → Bytes s'.bytes
  unfolding appended
  appended_bytes old each = bytes_put s.bytes s.byte_count (join new) (omega (arith, room.bytes_in)) old (bytes_join new each)

-- Room that is not short, as numbers. Assumes nothing.
use Prim.Native.Nat.{ℕ, ◌+◌, ◌*◌, ◌≤◌}
use mathlib.Core.Path.{◌≡◌}
use mathlib.Core.Bool.{true, false}
use mathlib.Core.List.{List}
use native.Mathlib.Omega.{arith}
use lib.ListN.{length}
use lib.Dec.{ltb}
use borrow.Author.Tests.{ltb-false}
use Rattle.folds.proofs.Tests.{or_none}
use Rattle.store_rules.specs.Store.{Store, sound, per_link, byte_room, object_room, link_room}
use Rattle.store_rules.proofs.Sound.{sound_fits}
use Rattle.call_rules.specs.declared.Needs.{Needs}
use Rattle.call_rules.specs.Needs.{InUse, lent_of, counts_of, short_by, room_short}

-- what is in use of a sound store is within the room
pub sound_in_use : (s : Store) (list : List ℕ) → sound s ≡ true → InUse (lent_of s list) (counts_of s)
unfolding byte_room object_room link_room
sound_in_use s list h =
    let f = sound_fits s h in
    record {
      bytes = omega (arith, f.bytes_in, f.bytes_most);
      objects = omega (arith, f.objects_in, f.objects_most);
      links = omega (arith, f.links_in, f.links_most);
    }

-- 8 does not apply
pub record Enough (s : Store) (list : List ℕ) (n : Needs) : Type 0 where
  pub objects_in : 2 * (s.object_count + n.objects) ≤ length s.objects
  pub objects_most : s.object_count + n.objects ≤ 65536
  pub links_in : per_link * (s.link_count + n.links) ≤ length s.links
  pub links_most : s.link_count + n.links ≤ 262144
  pub bytes_in : s.byte_count + n.bytes ≤ length s.bytes
  pub bytes_most : s.byte_count + n.bytes ≤ 16777216
  pub listed : n.entries ≤ length list

pub enough : (s : Store) (list : List ℕ) (n : Needs) → room_short s list n ≡ false → Enough s list n
unfolding short_by object_room byte_room link_room
enough s list n h =
    let objects : ℕ = object_room (length s.objects) in
    let links : ℕ = link_room (length s.links) in
    let bytes : ℕ = byte_room (length s.bytes) in
    let (x, list-test) = or_none _ (ltb (length list) n.entries) h in
    let (y, byte-test) = or_none _ (ltb bytes (s.byte_count + n.bytes)) x in
    let (object-test, link-test) = or_none _ (ltb links (s.link_count + n.links)) y in
    let o : s.object_count + n.objects ≤ objects = ltb-false objects (s.object_count + n.objects) object-test in
    let l : s.link_count + n.links ≤ links = ltb-false links (s.link_count + n.links) link-test in
    let b : s.byte_count + n.bytes ≤ bytes = ltb-false bytes (s.byte_count + n.bytes) byte-test in
    record {
      objects_in = omega arith;
      objects_most = omega arith;
      links_in = omega arith;
      links_most = omega arith;
      bytes_in = omega arith;
      bytes_most = omega arith;
      listed = ltb-false (length list) n.entries list-test;
    }

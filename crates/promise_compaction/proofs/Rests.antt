-- No gaps are left, what was in use and is no more is zero, and the room is freed. Assumes nothing.
use Prim.Native.Nat.{ℕ, ◌+◌, ◌-◌, ◌*◌, ◌≤◌}
use mathlib.Core.Path.{◌≡◌, sym, ◌∙◌}
use mathlib.Core.Bool.{Bool, false, ◌||◌}
use mathlib.Core.List.{List}
use mathlib.Core.Logic.{⊎_elim}
use native.Mathlib.Omega.{arith}
use lib.ListN.{length}
use lib.Dec.{ltb}
use borrow.Author.Tests.{lt-ltb, le-ltb, ltb-false}
use Rattle.folds.proofs.Tests.{either, or_none}
use Rattle.store_rules.specs.Store.{Store, byte_room, object_room, link_room}
use Rattle.store_rules.proofs.Sound.{Fits}
use Rattle.call_rules.specs.declared.Lengths.{Lengths}
use Rattle.call_rules.specs.declared.Needs.{Needs}
use Rattle.call_rules.specs.Scratch.{lengths_short}
use Rattle.call_rules.specs.Needs.{short_by, room_short}
use Rattle.compact_rules.specs.Compacted.{compacted}
use Rattle.compact_rules.proofs.Numbers.{number_most}
use Rattle.compact_rules.proofs.Objects.{objects_left_lem, bytes_left_lem, kept_within}
use Rattle.compact_rules.proofs.Links.{rows_left, no_more_links}
use Rattle.compact_rules.proofs.Rests as rests
use Rattle.promise_compaction.specs.Rests.{NoGaps, AllWiped, short_having, RoomFreed}

-- ---- room, of which `old - new` is freed

freed_by : (room new old n : ℕ) → new ≤ old → ltb room (new + n) ≡ ltb (room + (old - new)) (old + n)
freed_by room new old n h =
    ⊎_elim
    (λ lt. lt-ltb room (new + n) lt ∙ sym (lt-ltb (room + (old - new)) (old + n) (omega arith)))
    (λ ge. le-ltb room (new + n) ge ∙ sym (le-ltb (room + (old - new)) (old + n) (omega arith)))
    (either room (new + n))

-- more room is not short where less is not
more_room : (a b m : ℕ) → ltb a b ≡ false → ltb (a + m) b ≡ false
more_room a b m h = le-ltb (a + m) b (omega (arith, ltb-false a b h))

pub room_stays : (more : Needs) (s : Store) (list : List ℕ) (n : Needs) → room_short s list n ≡ false → short_having more s list n ≡ false
unfolding short_by short_having
room_stays more s list n h =
    let (three, entries) = or_none _ (ltb (length list) n.entries) h in
    let (two, bytes) = or_none _ (ltb (byte_room (length s.bytes)) (s.byte_count + n.bytes)) three in
    let (objects, links) = or_none _ (ltb (link_room (length s.links)) (s.link_count + n.links)) two in
    rw (more_room _ _ more.objects objects, more_room _ _ more.links links, more_room _ _ more.bytes bytes) entries

-- scratch for more objects is enough for fewer
pub fewer_enough : (n : Lengths) (new old glyphs items : ℕ) → new ≤ old → lengths_short n old glyphs items ≡ false → lengths_short n new glyphs items ≡ false
unfolding lengths_short
fewer_enough n new old glyphs items h e =
    let (four, cuts) = or_none _ (ltb n.cuts items) e in
    let (three, classes) = or_none _ (ltb n.classes glyphs) four in
    let (two, covered) = or_none _ (ltb n.glyphs glyphs) three in
    let (walk, set) = or_none (ltb n.walk (2 * old)) (ltb n.glyph_set 8192) two in
    rw (le-ltb n.walk (2 * new) (omega (arith, ltb-false n.walk (2 * old) walk)), set, covered, classes, cuts)

module _ (s : Store) (f : Fits s) (keep : ℕ → Bool) where
  abbrev left : Store
  left = compacted s keep

  fewer_bytes : left.byte_count ≤ s.byte_count
  fewer_bytes = omega (arith, bytes_left_lem s f keep, kept_within s f keep)

  fewer_objects : left.object_count ≤ s.object_count
  fewer_objects = omega (arith, objects_left_lem s keep, number_most keep s.object_count)

  fewer_links : left.link_count ≤ s.link_count
  fewer_links = omega (arith, rows_left s keep, no_more_links s keep)

  pub no_gaps : NoGaps left
  no_gaps = record { heads = rests.no_gap s f keep; end = rests.no_gap_behind s f keep }

  pub all-wiped : AllWiped s left
  all-wiped =
      record {
        bytes = record { long = rests.bytes_long s f keep; less = fewer_bytes; zeros = rests.bytes_zero s f keep; behind = rests.bytes_behind s f keep };
        objects = record { long = rests.objects_long s f keep; less = omega (arith, fewer_objects); zeros = rests.objects_zero s f keep; behind = rests.objects_behind s f keep };
        links = record { long = rests.links_long s f keep; less = omega (arith, fewer_links); zeros = rests.links_zero s f keep; behind = rests.links_behind s f keep };
      }

  -- 8, over the lent lengths
  abbrev short_for : ℕ → ℕ → ℕ → List ℕ → Needs → Bool
  short_for d o l list n =
      ltb (object_room o) (left.object_count + n.objects) || ltb (link_room l) (left.link_count + n.links) || ltb (byte_room d) (left.byte_count + n.bytes)
      || ltb (length list) n.entries

  pub room_freed : RoomFreed s left
  unfolding short_by short_having
  room_freed list n =
      let o = freed_by (object_room (length s.objects)) left.object_count s.object_count n.objects fewer_objects in
      let l = freed_by (link_room (length s.links)) left.link_count s.link_count n.links fewer_links in
      let b = freed_by (byte_room (length s.bytes)) left.byte_count s.byte_count n.bytes fewer_bytes in
      (λ i. short_for (rests.bytes_long s f keep i) (rests.objects_long s f keep i) (rests.links_long s f keep i) list n)
      ∙ (λ i. o i || l i || b i || ltb (length list) n.entries)

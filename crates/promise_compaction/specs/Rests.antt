-- No gaps before the new counts, zero up to the old ones, and all behind as it came; and the room that is freed. Assumes nothing.
use Rattle.std.specs.Prelude.{ℕ, ◌+◌, ◌-◌, ◌*◌, ◌<◌, ◌≤◌, ◌≡◌, Bool, ◌||◌, List, length, get_or, ltb}
use Rattle.folds.specs.Folds.{before}
use Rattle.store_rules.specs.Store.{Store, per_link, byte_room, object_room, link_room, head_of, tail_of}
use Rattle.call_rules.specs.declared.Needs.{Needs}
use Rattle.call_rules.specs.Needs.{room_short}

-- "close all gaps": each object starts where the one before it ends, the first at 0, and the data in use end with the last
pub record NoGaps (left : Store) : Type 0 where
  pub heads : (m : ℕ) → m < left.object_count → head_of left m ≡ before (tail_of left) m
  pub end : left.byte_count ≡ before (tail_of left) left.object_count

-- a buffer of which so many numbers were in use and so many are: "what lies between the new and the old counts is zero"
pub record Wiped (came left : List ℕ) (old new : ℕ) : Type 0 where
  pub long : length left ≡ length came
  pub less : new ≤ old
  pub zeros : (i : ℕ) → new ≤ i → i < old → get_or left i 0 ≡ 0
  pub behind : (i : ℕ) → old ≤ i → get_or left i 0 ≡ get_or came i 0

pub record AllWiped (s left : Store) : Type 0 where
  pub bytes : Wiped s.bytes left.bytes s.byte_count left.byte_count
  pub objects : Wiped s.objects left.objects (2 * s.object_count) (2 * left.object_count)
  pub links : Wiped s.links left.links (per_link * s.link_count) (per_link * left.link_count)

-- what was dropped
abbrev pub freed : Store → Store → Needs
freed s left =
    record { objects = s.object_count - left.object_count; links = s.link_count - left.link_count; bytes = s.byte_count - left.byte_count; entries = 0 }

-- 8, had there been so much more room: `room_short` with `more` beside what is lent, or beside the maximum where that is less
unfoldable pub short_having : Needs → Store → List ℕ → Needs → Bool
short_having more s list n =
    ltb (object_room (length s.objects) + more.objects) (s.object_count + n.objects)
    || ltb (link_room (length s.links) + more.links) (s.link_count + n.links)
    || ltb (byte_room (length s.bytes) + more.bytes) (s.byte_count + n.bytes)
    || ltb (length list) n.entries

-- "Freed room is used by the next split": whatever a call needs, room is short for it exactly if it would have been with what was dropped as well
abbrev pub RoomFreed : Store → Store → Type 0
RoomFreed s left = (list : List ℕ) (n : Needs) → room_short left list n ≡ short_having (freed s left) s list n

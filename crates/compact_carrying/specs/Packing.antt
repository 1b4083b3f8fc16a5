-- What the steps of a compaction leave, over the marks in the walk. Assumes nothing.
use Rattle.std.specs.Prelude.{ℕ, ◌+◌, ◌-◌, ◌*◌, ◌≤◌, ◌<◌, ◌≡◌, Bool, true, cond, List, [], ◌∷◌, length, get_or, eqb}
use Rattle.folds.specs.Lists.{put, part, join}
use Rattle.store_rules.specs.Store.{Store, sound, per_link}
use Rattle.store_rules.specs.Appended.{rows_from, row_numbers}
use Rattle.compact_rules.specs.Kept.{renumber, head_then}
use Rattle.compact_rules.specs.Marks.{has_mark, MarksKept}
use Rattle.compact_rules.specs.Compacted.{kept_objects, kept_links, wiped, bytes_moved}
use Rattle.compact_rules.specs.Calls.{roots_used}
use Rattle.compact_carrying.specs.declared.objects.Placed.{Placed}
use Rattle.compact_carrying.specs.declared.objects.Packed.{Packed}

-- the new number of object i of n
abbrev pub number_in : List ℕ → ℕ → ℕ → ℕ
number_in w n i = get_or w (n + i) 0

-- behind the marks of n objects stand their new numbers
pub record Numbered (w : List ℕ) (n : ℕ) : Type 0 where
  pub long : 2 * n ≤ length w
  pub number : (i : ℕ) → i < n → number_in w n i ≡ renumber (has_mark w) i

-- they are written, and the marks stay
pub record Numbers (came left : List ℕ) (n : ℕ) : Type 0 where
  pub numbered : Numbered left n
  pub marks : (i : ℕ) → i < n → get_or left i 0 ≡ get_or came i 0
  pub long : length left ≡ length came

-- object i may be moved down to byte a, as object j
pub record Placing (d o : List ℕ) (i j a : ℕ) : Type 0 where
  pub row : 2 * i + 1 < length o
  pub lower : j ≤ i
  pub down : a ≤ get_or o (2 * i) 0
  pub ordered : get_or o (2 * i) 0 ≤ get_or o (2 * i + 1) 0
  pub inside : get_or o (2 * i + 1) 0 ≤ length d
  pub small : get_or o (2 * i + 1) 0 ≤ 16777216

-- its length
abbrev pub size_in : List ℕ → ℕ → ℕ
size_in o i = get_or o (2 * i + 1) 0 - get_or o (2 * i) 0

-- it is there
pub record PlacedAt (d o : List ℕ) (i j a : ℕ) (d' o' : List ℕ) (r : Placed) : Type 0 where
  pub bytes : d' ≡ put d a (part d (get_or o (2 * i) 0) (get_or o (2 * i + 1) 0))
  pub row : o' ≡ put o (2 * j) (a ∷ (a + size_in o i) ∷ [])
  pub end : r.end ≡ a + size_in o i
  pub moved : r.moved ≡ cond (eqb a (get_or o (2 * i) 0)) 0 (size_in o i)

-- all of the store's objects for which `keep` holds are moved down
pub record PackedObjects (s : Store) (keep : ℕ → Bool) (d o : List ℕ) (r : Packed) : Type 0 where
  pub bytes : d ≡ put s.bytes 0 (join (kept_objects s keep))
  pub rows : o ≡ put s.objects 0 (rows_from 0 (kept_objects s keep))
  pub end : r.bytes ≡ head_then s keep s.object_count
  pub many : r.objects ≡ renumber keep s.object_count
  pub moved : r.moved ≡ bytes_moved s keep

-- the store's links that keep both ends stand behind one another, and so many they are
pub record PackedLinks (s : Store) (keep : ℕ → Bool) (l : List ℕ) (n : ℕ) : Type 0 where
  pub rows : l ≡ put s.links 0 (row_numbers (kept_links s keep))
  pub many : n ≡ length (kept_links s keep)

-- and what they leave is zero
pub record ObjectsLeft (s : Store) (keep : ℕ → Bool) (d o : List ℕ) (r : Packed) : Type 0 where
  pub bytes : d ≡ put (wiped s.bytes s.byte_count) 0 (join (kept_objects s keep))
  pub rows : o ≡ put (wiped s.objects (2 * s.object_count)) 0 (rows_from 0 (kept_objects s keep))
  pub end : r.bytes ≡ length (join (kept_objects s keep))
  pub many : r.objects ≡ length (kept_objects s keep)
  pub moved : r.moved ≡ bytes_moved s keep

pub record LinksLeft (s : Store) (keep : ℕ → Bool) (l : List ℕ) (n : ℕ) : Type 0 where
  pub rows : l ≡ put (wiped s.links (per_link * s.link_count)) 0 (row_numbers (kept_links s keep))
  pub many : n ≡ length (kept_links s keep)

-- a compaction may be carried out: none of its refusals applies, and exactly what is kept has a mark
pub record Carrying (s : Store) (roots w : List ℕ) : Type 0 where
  pub sounds : sound s ≡ true
  pub used : roots_used s.object_count roots ≡ true
  pub long : 2 * s.object_count ≤ length w
  pub marks : MarksKept s roots w

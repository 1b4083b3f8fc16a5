-- New objects written one behind another, with their rows. Assumes nothing.
use Rattle.std.specs.Prelude.{ℕ, ◌+◌, ◌*◌, ◌≤◌, ◌<◌, ◌≡◌, List, length, get_or}
use Rattle.folds.specs.Lists.{put, join}
use Rattle.store_rules.specs.Store.{Store}
use Rattle.store_rules.specs.Appended.{rows_from}

-- bytes xs stand from `at` on, and end at r
pub record Laid (d : List ℕ) (at : ℕ) (xs d' : List ℕ) (r : ℕ) : Type 0 where
  pub bytes : d' ≡ put d at xs
  pub ends : r ≡ at + length xs

-- there is room for new objects from byte `at` and row `row` on, and the last ends within 32 bits
pub record ObjectsRoom (d o : List ℕ) (at row : ℕ) (new : List (List ℕ)) : Type 0 where
  pub bytes : at + length (join new) ≤ length d
  pub rows : 2 * (row + length new) ≤ length o
  pub small : at + length (join new) < 4294967296

-- they are written, and the last ends at r
pub record Written (d o : List ℕ) (at row : ℕ) (new : List (List ℕ)) (d' o' : List ℕ) (r : ℕ) : Type 0 where
  pub bytes : d' ≡ put d at (join new)
  pub rows : o' ≡ put o (2 * row) (rows_from at new)
  pub ends : r ≡ at + length (join new)

-- d and o are the bytes and the object rows of s, of which only what lies behind those in use may be other
pub record Behind (s : Store) (d o : List ℕ) : Type 0 where
  pub bytes_long : length d ≡ length s.bytes
  pub rows_long : length o ≡ length s.objects
  pub byte : (i : ℕ) → i < s.byte_count → get_or d i 0 ≡ get_or s.bytes i 0
  pub row : (i : ℕ) → i < 2 * s.object_count → get_or o i 0 ≡ get_or s.objects i 0

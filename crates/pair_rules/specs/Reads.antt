-- A table that the checks 1 to 5 do not refuse, and one whose pairs are read. Assumes nothing.
use Rattle.std.specs.Prelude.{ℕ, ◌<◌, ◌≤◌, ◌≡◌, true, false, ◌&&◌, ◌||◌, length, eqb, ltb}
use Rattle.ot_layouts.specs.PairPos.{format_of, item_at}
use Rattle.store_rules.specs.Store.{Store, sound, bytes_of}
use Rattle.pair_rules.specs.Table.{shape, parts_readable, glyphs_of, sets_sorted}

-- 1 to 5 do not apply, and the format is 1 or 2
pub record Reads (s : Store) (t : ℕ) : Type 0 where
  pub sounds : sound s ≡ true
  pub used : t < s.object_count
  pub two : 2 ≤ length (bytes_of s t)
  pub known : (eqb (format_of (bytes_of s t)) 1 || eqb (format_of (bytes_of s t)) 2) ≡ true
  pub exactly : length (bytes_of s t) ≡ item_at (shape s t) (shape s t).count
  pub parts : parts_readable s t ≡ true
  pub enough : (eqb (format_of (bytes_of s t)) 1 && ltb (length (glyphs_of s t)) (shape s t).count) ≡ false

-- nor does 11: the table's pairs can be read
pub record ReadsPairs (s : Store) (t : ℕ) : Type 0 where
  pub reads : Reads s t
  pub sorted : sets_sorted s t ≡ true

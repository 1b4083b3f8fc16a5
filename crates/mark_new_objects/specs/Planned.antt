-- What is known when a table is to be split: its cuts, and its marks' glyphs and classes, those of one table together. Assumes nothing.
use Rattle.std.specs.Prelude.{ℕ, ◌≤◌, ◌<◌, List, map, length}
use Rattle.ot_layouts.specs.Coverage.{Entry}
use Rattle.ot_ranges.specs.Ascending.{Ascending}
use Rattle.cut_parts.specs.Tables.{paired, entries_at, Parted}
use Rattle.mark_new_table.specs.Arrays.{Classes}

-- the marks of a table of the classes lo up to hi, in ascending order
pub record RangeMarks (gs ks : List ℕ) (lo hi : ℕ) : Type 0 where
  pub ascending : Ascending gs
  pub classes : Classes ks lo hi

-- a table of n classes is to be split at cs: its marks are parted by table, and those of each are in ascending order
pub record PlannedParts (gs ks cs : List ℕ) (n : ℕ) : Type 0 where
  pub parts : Parted gs ks cs n
  pub few : length gs < 65536
  pub count : n < 65536
  pub ascending : (k : ℕ) → k ≤ length cs → Ascending (map (λ (e : Entry). e.glyph) (entries_at n cs (paired gs ks) k))

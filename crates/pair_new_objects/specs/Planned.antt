-- What is known when a table is to be split: its cuts, and the covered glyphs with their items, those of one table together. Assumes nothing.
use Rattle.std.specs.Prelude.{ℕ, ◌*◌, ◌≤◌, ◌<◌, ◌≡◌, false, List, map, length, eqb}
use Rattle.ot_layouts.specs.Coverage.{Entry, runs}
use Rattle.ot_layouts.specs.ClassDef.{named}
use Rattle.ot_ranges.specs.Ascending.{Ascending}
use Rattle.glyph_rules.specs.Entries.{reduced}
use Rattle.cut_parts.specs.Tables.{paired, low_at, entries_at, Parted}
use Rattle.ot_pairpos.specs.declared.Layout.{Layout}

-- the covered glyphs of one table of format f and first item lo, in ascending order: a class definition can count its ranges
pub record Beside (f lo : ℕ) (es : List Entry) : Type 0 where
  pub ascending : Ascending (map (λ e. e.glyph) es)
  pub countable : eqb f 1 ≡ false → length (runs (named (reduced lo es))) < 65536

-- a table of layout l is to be split at cs: its items are parted by table, and it is at most 16,777,216 bytes long
pub record PlannedParts (gs ks cs : List ℕ) (l : Layout) : Type 0 where
  pub parts : Parted gs ks cs l.count
  pub few : length gs ≤ 65536
  pub beside : (k : ℕ) → k ≤ length cs → Beside l.format (low_at cs k) (entries_at l.count cs (paired gs ks) k)
  pub header : l.header ≤ 16
  pub count : l.count < 65536
  pub size : l.item * l.count ≤ 16777216

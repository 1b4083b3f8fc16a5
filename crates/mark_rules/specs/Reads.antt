-- A table that the checks of a reading do not refuse. Assumes nothing.
use Rattle.std.specs.Prelude.{ℕ, ◌<◌, ◌≤◌, ◌≡◌, true, length}
use Rattle.ot_layouts.specs.MarkBasePos.{format_of, table_size}
use Rattle.store_rules.specs.Store.{Store, sound, bytes_of}
use Rattle.mark_rules.specs.Table.{parts_readable, glyphs_of, marks_in}

-- none of them applies, and the format is 1
pub record Reads (s : Store) (t : ℕ) : Type 0 where
  pub sounds : sound s ≡ true
  pub used : t < s.object_count
  pub known : format_of (bytes_of s t) ≡ 1
  pub exactly : length (bytes_of s t) ≡ table_size
  pub parts : parts_readable s t ≡ true
  pub enough : marks_in s t ≤ length (glyphs_of s t)

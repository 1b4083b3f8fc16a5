-- What is known of a table when its cut places are asked. Assumes nothing.
use Rattle.std.specs.Prelude.{ℕ, ◌+◌, ◌-◌, ◌*◌, ◌≤◌, ◌≡◌, true, List, length, get_or}
use Rattle.store_rules.specs.Store.{Store}
use Rattle.store_walk.specs.Marks.{no_row, Marks}
use Rattle.mark_rules.specs.Table.{all_at_slots}
use Rattle.mark_checks.specs.declared.MarkTable.{MarkTable}
use Rattle.mark_checks.specs.Opens.{Opens}
use Rattle.mark_arrays.specs.Arrays.{arrays_of}
use Rattle.mark_points.specs.declared.table_info.TableInfo.{TableInfo}

-- the table's own numbers, a start of 16 plus the base coverage's length, and the marks from 2 on
abbrev pub info_of : List ℕ → MarkTable → TableInfo
info_of o p =
    let c = p.base_coverage.object in
    record {
      arrays = arrays_of p;
      start = 16 + (get_or o (2 * c + 1) 0 - get_or o (2 * c) 0);
      epoch = 2;
    }

-- the table has passed the checks, a walk in epoch 2 has seen nothing yet, and no scratch is too short
pub record Looked (s : Store) (t : ℕ) (p : MarkTable) (w set gs ks cuts : List ℕ) : Type 0 where
  pub opens : Opens s t p
  pub slots : all_at_slots s t ≡ true
  pub marks : Marks s no_row 2 w
  pub room : p.classes ≤ length cuts
  pub long : 8192 ≤ length set
  pub glyphs : p.glyphs ≤ length gs
  pub classes : p.glyphs ≤ length ks

-- The links of new arrays and of a new table, part by part. Assumes nothing.
use Prim.Native.Nat.{ℕ, ◌+◌, ◌*◌, ◌≤◌}
use mathlib.Core.Path.{◌≡◌}
use mathlib.Core.List.{List}
use native.Mathlib.Omega.{arith}
use lib.ListN.{length}
use Rattle.folds.specs.Lists.{put}
use Rattle.ot_layouts.specs.MarkBasePos.{own, heads}
use Rattle.store_rules.specs.Store.{Link, per_link}
use Rattle.store_rules.specs.Appended.{row_numbers}
use Rattle.store_rules.specs.Header.{header_links}
use Rattle.store_reader.specs.declared.LinkRows.{LinkRows}
use Rattle.mark_arrays.specs.declared.Arrays.{Arrays}
use Rattle.mark_arrays.specs.declared.ArrayRows.{ArrayRows}
use Rattle.store_link_rows.specs.Copies.{in_use, Source, RowsRoom, Copied}
use Rattle.mark_links.specs.Copies.{mark_copies, base_copies, array_copies, table_copies, Sources}
use Rattle.store_link_rows.proofs.Copying.{room_first, room_then, copied_then, source_then}

-- ---- arrays

module _ (ls counts : List ℕ) (a : Arrays) (places : List ℕ) (lo hi at p : ℕ)
    (room : RowsRoom ls counts at (array_copies (in_use ls counts) a places lo hi p)) where
  abbrev marks : List Link
  marks = mark_copies (in_use ls counts) a.mark_array places p

  abbrev bases : List Link → List Link
  bases old = base_copies old a.base_array a.bases a.classes lo hi (p + 1)

  pub marks_room : RowsRoom ls counts at marks
  unfolding array_copies
  marks_room = room_first marks (bases (in_use ls counts)) room

  module _ {mid : List ℕ} {r : ℕ} (done : Copied ls at marks mid r) where
    pub bases_room : RowsRoom mid counts r (bases (in_use mid counts))
    unfolding array_copies
    bases_room = room_then marks bases room done

    pub bases_source : (q : ℕ) (rows : LinkRows) → Source ls counts q rows → Source mid counts q rows
    unfolding array_copies
    bases_source q rows s = source_then marks bases room done q rows s

    pub arrays_copied : {out : List ℕ} {r' : ℕ} → Copied mid r (bases (in_use mid counts)) out r'
        → Copied ls at (array_copies (in_use ls counts) a places lo hi p) out r'
    unfolding array_copies
    arrays_copied more = copied_then marks bases room done more

-- ---- a table

module _ (ls counts : List ℕ) (a : Arrays) (places : List ℕ) (lo hi at u : ℕ)
    (room : RowsRoom ls counts at (table_copies (in_use ls counts) a places lo hi u)) where
  abbrev header : List Link
  header = header_links own heads u (λ q. a.base_coverage)

  abbrev arrays : List Link → List Link
  arrays old = array_copies old a places lo hi (u + 2)

  pub header_room : per_link * (at + 4) ≤ length ls
  unfolding table_copies header_links
  header_room = (room_first header (arrays (in_use ls counts)) room).fits

  module _ {mid : List ℕ} (written : mid ≡ put ls (per_link * at) (row_numbers header)) where
    done : Copied ls at header mid (at + 4)
    unfolding header_links
    done = record { rows_are = written; next = omega arith }

    pub arrays_room : RowsRoom mid counts (at + 4) (arrays (in_use mid counts))
    unfolding table_copies
    arrays_room = room_then header arrays room done

    pub arrays_sources : (rows : ArrayRows) → Sources ls counts a rows → Sources mid counts a rows
    unfolding table_copies
    arrays_sources rows s =
        record {
          marks = source_then header arrays room done a.mark_array rows.marks s.marks;
          bases = source_then header arrays room done a.base_array rows.bases s.bases;
          short = s.short;
        }

    pub table_copied : {out : List ℕ} {r : ℕ} → Copied mid (at + 4) (arrays (in_use mid counts)) out r
        → Copied ls at (table_copies (in_use ls counts) a places lo hi u) out r
    unfolding table_copies
    table_copied more = copied_then header arrays room done more

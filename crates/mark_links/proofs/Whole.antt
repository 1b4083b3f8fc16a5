-- The links of all new objects: those of the new tables, and then of the kept table's arrays. Assumes nothing.
use Prim.Native.Nat.{ℕ, ◌+◌, ◌*◌, ◌≤◌}
use mathlib.Core.Path.{◌≡◌, sym, subst}
use mathlib.Core.List.{List}
use native.Mathlib.Omega.{arith}
use lib.ListN.{length, get_or}
use Rattle.folds.specs.Lists.{part}
use Rattle.folds.proofs.Parts.{length_part}
use Rattle.store_rules.specs.Store.{Link}
use Rattle.cut_rules.specs.Ranges.{from}
use Rattle.cut_parts.specs.Tables.{PartEnd}
use Rattle.mark_rules.specs.Written.{per_table}
use Rattle.mark_arrays.specs.declared.Arrays.{Arrays}
use Rattle.mark_arrays.specs.declared.ArrayRows.{ArrayRows}
use Rattle.mark_arrays.specs.Arrays.{RowsKnown}
use Rattle.store_link_rows.specs.Copies.{in_use, RowsRoom, Copied}
use Rattle.mark_links.specs.Copies.{array_copies, Sources}
use Rattle.mark_links.specs.Splitting.{places_in, tables_copies, new_copies, CopyReady}
use Rattle.store_link_rows.proofs.Copying.{room_first, room_then, copied_then, source_then}
use Rattle.mark_links.proofs.NewTables.{kept_places}

module _ (ls counts : List ℕ) (a : Arrays) (ps ks cs : List ℕ) (g : CopyReady ls counts a ps ks cs) where
  -- how many rows and objects are in use
  abbrev rows : ℕ
  rows = get_or counts 2 0

  abbrev objects : ℕ
  objects = get_or counts 1 0

  abbrev tables : List Link
  tables = tables_copies (in_use ls counts) a ps ks cs objects

  -- of the kept table's arrays, of the marks at these places
  abbrev kept_arrays : List ℕ → List Link → List Link
  kept_arrays places old = array_copies old a places 0 (from cs 0) (objects + per_table * length cs + 1)

  pub all_sources : {rs : ArrayRows} → RowsKnown ls counts a rs → Sources ls counts a rs
  all_sources k =
      record { marks = record { order = g.order; rows_are = k.marks }; bases = record { order = g.order; rows_are = k.bases }; short = g.short }

  pub tables_room : RowsRoom ls counts rows tables
  unfolding new_copies
  tables_room = room_first tables (kept_arrays (places_in ps ks 0 (from cs 0)) (in_use ls counts)) g.room

  module _ (end : ℕ) (e : PartEnd ks 0 (from cs 0) end) {mid : List ℕ} {r : ℕ} (done : Copied ls rows tables mid r) where
    its_part : places_in ps ks 0 (from cs 0) ≡ part ps 0 end
    its_part = kept_places a ps ks cs g.parts end e

    pub kept_many : length (part ps 0 end) ≤ length ps
    kept_many = let s = g.parts.same in let i = e.inside in omega (arith, length_part ps 0 end (omega arith) (omega arith))

    pub kept_inside : from cs 0 ≤ a.classes
    kept_inside = omega (arith, g.parts.places.below 0 g.parts.some)

    pub kept_sources : (rs : ArrayRows) → Sources ls counts a rs → Sources mid counts a rs
    unfolding new_copies
    kept_sources rs s =
        let old = kept_arrays (places_in ps ks 0 (from cs 0)) in
        record {
          marks = source_then tables old g.room done a.mark_array rs.marks s.marks;
          bases = source_then tables old g.room done a.base_array rs.bases s.bases;
          short = s.short;
        }

    pub kept_room : RowsRoom mid counts r (kept_arrays (part ps 0 end) (in_use mid counts))
    unfolding new_copies
    kept_room =
        subst (λ (places : List ℕ). RowsRoom mid counts r (kept_arrays places (in_use mid counts))) its_part
        (room_then tables (kept_arrays (places_in ps ks 0 (from cs 0))) g.room done)

    pub all_copied : {out : List ℕ} {r' : ℕ} → Copied mid r (kept_arrays (part ps 0 end) (in_use mid counts)) out r'
        → Copied ls rows (new_copies (in_use ls counts) a ps ks cs objects) out r'
    unfolding new_copies
    all_copied {out} {r'} more =
        copied_then tables (kept_arrays (places_in ps ks 0 (from cs 0))) g.room done
        (subst (λ (places : List ℕ). Copied mid r (kept_arrays places (in_use mid counts)) out r') (sym its_part) more)

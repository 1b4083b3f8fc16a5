-- The links of the new tables, one table behind another. Assumes nothing.
use Prim.Native.Nat.{ℕ, ◌+◌, ◌*◌, ◌<◌, ◌≤◌}
use mathlib.Core.Path.{◌≡◌, sym, subst, ap, ◌∙◌}
use mathlib.Core.List.{List, map}
use native.Mathlib.Omega.{arith}
use lib.ListN.{length, get_or}
use Rattle.folds.specs.Folds.{flat}
use Rattle.folds.specs.Lists.{part}
use Rattle.folds.proofs.Parts.{length_part}
use Rattle.ot_layouts.specs.Coverage.{Entry}
use Rattle.store_rules.specs.Store.{Link}
use Rattle.cut_rules.specs.Ranges.{from, to}
use Rattle.cut_parts.specs.Tables.{high_at, PartEnd, Halved, Parted}
use Rattle.cut_parts.proofs.Parting.{paired_glyphs}
use Rattle.cut_parts.proofs.TableParts.{kept_half, kept_entries, same_part, new_rises, new_inside, new_half, new_entries, new_same}
use Rattle.mark_rules.specs.Written.{per_table}
use Rattle.mark_arrays.specs.declared.Arrays.{Arrays}
use Rattle.mark_arrays.specs.declared.ArrayRows.{ArrayRows}
use Rattle.store_link_rows.specs.Copies.{in_use, RowsRoom, Copied}
use Rattle.mark_links.specs.Copies.{table_copies, Sources}
use Rattle.mark_links.specs.Splitting.{places_in, table_turn}
use Rattle.store_link_rows.proofs.Copying.{Turns, turns_start, turns_source, turns_room, turns_turn}

-- the links of the new tables before j are written; the next one's number is `table`, and its marks start at `start`
pub record NewTables (ls counts : List ℕ) (a : Arrays) (ps ks cs : List ℕ) (at first : ℕ) (out : List ℕ) (start next table j : ℕ) : Type 0 where
  pub turns : Turns ls counts at (table_turn a ps ks cs first) (length cs) out next j
  pub halved : Halved ks (high_at a.classes cs j) start
  pub table_is : table ≡ first + per_table * j

module _ (ls counts : List ℕ) (a : Arrays) (ps ks cs : List ℕ) (at first : ℕ) (p : Parted ps ks cs a.classes) where
  pub tables_start : (start : ℕ) → PartEnd ks 0 (from cs 0) start → RowsRoom ls counts at (flat (table_turn a ps ks cs first (in_use ls counts)) (length cs))
      → NewTables ls counts a ps ks cs at first ls start at first 0
  tables_start start e room =
      record {
        turns = turns_start ls counts at (table_turn a ps ks cs first) (length cs) room;
        halved = kept_half ps ks cs a.classes p start e;
        table_is = omega arith;
      }

  module _ {out : List ℕ} {start next table j : ℕ} (t : NewTables ls counts a ps ks cs at first out start next table j) (h : j < length cs) where
    pub turn_sources : (rows : ArrayRows) → Sources ls counts a rows → Sources out counts a rows
    turn_sources rows s =
        record {
          marks = turns_source ls counts at (table_turn a ps ks cs first) (length cs) t.turns h a.mark_array rows.marks s.marks;
          bases = turns_source ls counts at (table_turn a ps ks cs first) (length cs) t.turns h a.base_array rows.bases s.bases;
          short = s.short;
        }

    module _ (hi end : ℕ) (b : hi ≡ get_or cs (j + 1) a.classes) (e : PartEnd ks start hi end) where
      e' : PartEnd ks start (get_or cs (j + 1) a.classes) end
      e' = subst (λ (n : ℕ). PartEnd ks start n end) b e

      turn_inside : (start ≤ end) × (end ≤ length ps)
      turn_inside = (e.after, omega (arith, e.inside, p.same))

      pub turn_many : length (part ps start end) ≤ length ps
      turn_many = omega (arith, length_part ps start end turn_inside.0 turn_inside.1, turn_inside)

      pub turn_range : (from cs j ≤ hi) × (hi ≤ a.classes)
      turn_range = (
        omega (arith, new_rises ps ks cs a.classes p j start end h t.halved e'),
        omega (arith, new_inside ps ks cs a.classes p j start end h t.halved e'),
      )

      -- the table's part has the places of its marks
      its_places : places_in ps ks (from cs j) (to a.classes cs j) ≡ part ps start end
      its_places =
          ap (map (λ (x : Entry). x.glyph)) (new_entries ps ks cs a.classes p j start end h t.halved e')
          ∙ paired_glyphs (part ps start end) (part ks start end) (new_same ps ks cs a.classes p j start end h t.halved e')

      turn_is : (old : List Link) → table_turn a ps ks cs first old j ≡ table_copies old a (part ps start end) (from cs j) hi table
      turn_is old = λ i. table_copies old a (its_places i) (from cs j) (sym b i) (sym t.table_is i)

      pub turn_room : RowsRoom out counts next (table_copies (in_use out counts) a (part ps start end) (from cs j) hi table)
      turn_room =
          subst (λ (x : List Link). RowsRoom out counts next x) (turn_is (in_use out counts))
          (turns_room ls counts at (table_turn a ps ks cs first) (length cs) t.turns h)

      pub tables_turn : {out' : List ℕ} {next' : ℕ} → Copied out next (table_copies (in_use out counts) a (part ps start end) (from cs j) hi table) out' next'
          → NewTables ls counts a ps ks cs at first out' end next' (table + 4) (j + 1)
      tables_turn {out'} {next'} more =
          record {
            turns =
                turns_turn ls counts at (table_turn a ps ks cs first) (length cs) t.turns h
                (subst (λ (x : List Link). Copied out next x out' next') (sym (turn_is (in_use out counts))) more);
            halved = new_half ps ks cs a.classes p j start end h t.halved e';
            table_is = omega (arith, t.table_is);
          }

-- the kept table's part
module _ (a : Arrays) (ps ks cs : List ℕ) (p : Parted ps ks cs a.classes) (end : ℕ) (e : PartEnd ks 0 (from cs 0) end) where
  pub kept_places : places_in ps ks 0 (from cs 0) ≡ part ps 0 end
  kept_places =
      ap (map (λ (x : Entry). x.glyph)) (kept_entries ps ks cs a.classes p end e)
      ∙ paired_glyphs (part ps 0 end) (part ks 0 end) (same_part ps ks cs a.classes p 0 end (omega arith) e.inside)

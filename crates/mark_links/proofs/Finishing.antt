-- For a store that is to be split: all of it can be written, and what is written is its links after the split. Assumes nothing.
use Rattle.std.specs.Prelude.{Option, Some, unwrap_or}
use Prim.Native.Nat.{ℕ, ◌+◌, ◌*◌, ◌<◌, ◌≤◌}
use mathlib.Core.Path.{◌≡◌, sym, subst, ap, ap₂, ◌∙◌}
use mathlib.Core.List.{List, ◌++◌, map}
use native.Mathlib.Omega.{arith}
use lib.ListN.{length, get_or}
use Rattle.folds.specs.Lists.{put}
use Rattle.folds.proofs.Folds.{length-upto}
use Rattle.folds.proofs.Put.{put-before}
use Rattle.ot_layouts.specs.Coverage.{Entry}
use Rattle.ot_layouts.specs.MarkBasePos.{mark_array_at, base_array_at, own, mark_class}
use Rattle.store_rules.specs.Store.{Store, Link, lent, per_link, links_of, child_at, linked_at, linked_bytes}
use Rattle.store_rules.specs.Appended.{row_numbers}
use Rattle.store_rules.specs.Header.{kept}
use Rattle.store_rules.proofs.Sound.{Fits, sound_fits, size_bytes}
use Rattle.store_rules.proofs.Lookups.{child_used_lem, linked_some}
use Rattle.store_rules.proofs.LinkRows.{rows_numbers}
use Rattle.store_reader.proofs.Rows.{in_order_lem}
use Rattle.store_link_rows.specs.Rows.{segment, row, kept_row}
use Rattle.store_link_rows.proofs.Spans.{span_ext}
use Rattle.store_link_rows.proofs.RowLaws.{row_below}
use Rattle.store_link_rows.proofs.Links.{numbers_append}
use Rattle.store_link_rows.proofs.Keeping.{kept_is, kept_long, kept_numbers}
use Rattle.cut_parts.specs.Tables.{Parted}
use Rattle.cut_parts.proofs.Arranging.{arranged_parted}
use Rattle.mark_rules.specs.Table.{classes_of, mark_bytes, marks_in, bases_in}
use Rattle.mark_rules.specs.Written.{per_table, need_links, fresh_links, new_links}
use Rattle.mark_rules.proofs.Checks.{Parts, parts_read, at_slots_lem}
use Rattle.mark_rules.proofs.LinkCounts.{fresh_many, many_links}
use Rattle.mark_arrays.specs.declared.Arrays.{Arrays}
use Rattle.store_link_rows.specs.Copies.{in_use, Copied}
use Rattle.mark_order.specs.Marks.{mark_places}
use Rattle.mark_links.specs.Splitting.{new_copies, CopyReady, Splitting, LinksSplit}
use Rattle.mark_links.proofs.SameLinks.{same_links}

module _ (b o ls counts : List ℕ) (t : ℕ) (a : Arrays) (ps ks cs : List ℕ) (g : Splitting (lent b o ls counts) t a ps ks cs) where
  abbrev s : Store
  s = lent b o ls counts

  -- the links of the new objects
  abbrev new : List Link
  new = new_copies (in_use ls counts) a ps ks cs (get_or counts 1 0)

  fits : Fits s
  fits = sound_fits s g.reads.sounds

  parts : Parts s t
  parts = parts_read s t g.reads.parts

  -- an object that the table links is in use, and lies within the data
  linked_short : (q : ℕ) → (c : ℕ) × (child_at s t q ≡ Some c) → (linked_at s t q < 65536) × (length (linked_bytes s t q) ≤ 16777216)
  linked_short q (c, e) =
      let used = child_used_lem s t fits q c e in
      let is : linked_at s t q ≡ c = ap (λ (x : Option ℕ). unwrap_or x 0) e in (
        omega (arith, is, fits.objects_most),
        omega (arith, ap length (linked_some s t q c e), size_bytes s fits c used, (fits.object c used).inside, fits.bytes_most),
      )

  same : fresh_links s t cs ≡ new
  unfolding links_of
  same = same_links s t a ps ks cs g

  many : length new ≡ need_links s t (length cs)
  many = ap length (sym same) ∙ fresh_many s t cs g.cuts g.some g.reads fits (at_slots_lem s t g.at_slots)

  pub ready : CopyReady ls counts a ps ks cs
  ready =
      let marks = linked_short mark_array_at parts.marks in
      let bases = linked_short base_array_at parts.bases in
      let slots : a.bases * a.classes ≡ bases_in s t * classes_of s t = ap₂ (λ (x y : ℕ). x * y) g.bases_is g.classes_is in
      let entry_at : ℕ → Entry = λ i. record { glyph = i; class = mark_class (mark_bytes s t) i } in
      record {
        order = in_order_lem s fits;
        used = (omega (arith, g.mark_array_is, marks), omega (arith, g.base_array_is, bases));
        short = omega (arith, slots, parts.bases_long, bases);
        parts = subst (Parted ps ks cs) (sym g.classes_is) (arranged_parted ps ks cs (classes_of s t) (mark_places s t) g.arranged g.cuts g.some);
        few = omega (arith, g.arranged.long, length-upto entry_at (marks_in s t), parts.marks_long, marks);
        numbers = g.numbers;
        room = record { behind = omega arith; fits = omega (arith, many, g.link_room) };
      }

  -- ---- the rows at exit

  -- the first of the kept table's new objects
  abbrev v : ℕ
  v = get_or counts 1 0 + per_table * length cs

  abbrev stays : List ℕ
  stays = segment (kept_row ls own t v) 0 (get_or counts 2 0)

  link_numbers : row_numbers (new_links s t cs) ≡ stays ++ row_numbers new
  unfolding new_links
  link_numbers =
      numbers_append (map (kept own t v) (links_of s)) (fresh_links s t cs)
      ∙ ap₂ (λ (x y : List ℕ). x ++ y) (kept_numbers s own t v) (ap row_numbers same)

  module _ {mid : List ℕ} {r : ℕ} (copied : Copied ls (get_or counts 2 0) new mid r) where
    stay : segment (kept_row mid own t v) 0 (get_or counts 2 0) ≡ stays
    stay =
        span_ext (kept_row mid own t v) (kept_row ls own t v) 0 (get_or counts 2 0)
        (λ k l h.
        kept_is ls mid own t v k k
        (ap (λ (x : List ℕ). row x k) copied.rows_are
        ∙ row_below ls (per_link * get_or counts 2 0) (row_numbers new) (omega (arith, fits.links_in)) k (omega arith)))

    pub split_done : {out : List ℕ} → out ≡ put mid 0 (segment (kept_row mid own t v) 0 (get_or counts 2 0)) → LinksSplit s t cs out r
    split_done h =
        let long = kept_long ls own t v 0 (get_or counts 2 0) (omega arith) in
        record {
          count_is_lem = omega (arith, copied.next, many, many_links s t cs g.cuts g.some g.reads fits (at_slots_lem s t g.at_slots));
          added = omega (arith, copied.next, many);
          rows_are =
              h
              ∙ ap₂ (λ (d x : List ℕ). put d 0 x) copied.rows_are stay
              ∙ put-before ls 0 stays (per_link * get_or counts 2 0) (row_numbers new) (omega arith) (omega (arith, rows_numbers new, many, g.link_room))
              ∙ ap (put ls 0) (sym link_numbers);
        }

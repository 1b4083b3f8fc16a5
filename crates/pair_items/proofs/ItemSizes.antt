-- One item measured after another, and what counts as seen after a cut. Assumes nothing.
use Prim.Native.Nat.{ℕ, ◌+◌, ◌≤◌, ◌<◌}
use mathlib.Core.Path.{◌≡◌, sym, ap, subst, ◌∙◌}
use mathlib.Core.Bool.{Bool, true, false, cond}
use mathlib.Core.List.{List}
use native.Mathlib.Omega.{arith}
use Rattle.ot_layouts.specs.PairPos.{Shape, item_at}
use Rattle.ot_layouts.proofs.Shapes.{items_rise}
use borrow.Author.Tests.{eq-eqb, ne_eqb}
use Rattle.store_rules.specs.Store.{Store}
use Rattle.store_rules.specs.Reach.{rows_of, item_size}
use Rattle.cut_rules.specs.Cuts.{second, seen_from}
use Rattle.pair_rules.specs.Table.{of_items}
use Rattle.store_rules.proofs.Sound.{Fits, sound_fits}
use Rattle.store_reader.specs.Rows.{orders, key_of, row_key, InOrder, FirstRow}
use Rattle.store_reader.proofs.Rows.{in_order_lem, rows_rise}
use Rattle.store_walk.specs.Marks.{Offsets, Marks, Walked, Grown}
use Rattle.store_walk.proofs.Marks.{marks_same, marks_next}
use Rattle.store_walk.proofs.Grown.{grown_item}
use Rattle.store_walk.proofs.Items.{items, items_none, ItemRows, item_offsets, item_grown}
use Rattle.store_walk.proofs.Cycles.{item_back, item_back_again}
use Rattle.pair_items.specs.declared.measuring.Measured.{Measured}
use Rattle.pair_items.specs.Measuring.{At, Measures, AtCut, Restarts}

module _ {s : Store} {t : ℕ} {sh : Shape} {a i row e : ℕ} {w : List ℕ} (x : At s t sh a i row e w) where
  pub at_fits : Fits s
  at_fits = sound_fits s x.is_sound

  pub at_in_order : InOrder s.links s.link_count
  at_in_order = in_order_lem s at_fits

  -- the rows before the item's stand before its end
  pub rows_before : {end : ℕ} → end ≡ item_at sh (i + 1) → (k : ℕ) → k < row → row_key s.links k < key_of t end
  rows_before q k h = omega (arith, x.first.below k h, items_rise sh i (i + 1) (omega arith))

  module _ {end next : ℕ} (q : end ≡ item_at sh (i + 1)) (short : end ≤ orders) (n : FirstRow s.links s.link_count (key_of t end) next) where
    item_rows : ItemRows s t (item_at sh) i row next
    item_rows = record { first = x.first; next = subst (λ (p : ℕ). FirstRow s.links s.link_count (key_of t p) next) q n; short = omega arith }

    pub measured_offsets : Offsets s.links row next
    measured_offsets = item_offsets at_fits item_rows

    pub measured : {w' : List ℕ} {size : ℕ} → Walked s (items s t (item_at sh) a i) row next e w w' size
        → Measures s t sh a i row e w (record { size = size; next = next }) w'
    measured {w'} {size} d =
        record {
          size = grown_item (of_items t sh) a i grown;
          most = d.most;
          later = later;
          after = record {
            is_sound = x.is_sound;
            order = omega (arith, x.order);
            first = item_rows.next;
            marks = grown.marks;
            used = x.used;
            begun = x.begun;
            back = item_back at_fits item_rows x.used x.begun a (omega (arith, x.marks.room)) later d x.back;
          };
        }
      where
        grown : Grown s (rows_of s (of_items t sh) a i) (rows_of s (of_items t sh) a (i + 1)) e w' size
        grown = item_grown at_fits item_rows (items_rise sh) x.order x.marks d

        later : row ≤ next
        later = rows_rise x.first item_rows.next (omega (arith, items_rise sh i (i + 1) (omega arith)))

  -- a cut before item i: the next epoch, in which nothing counts as seen
  at_next : At s t sh i i row (e + 1) w
  at_next =
      record {
        is_sound = x.is_sound;
        order = omega arith;
        first = x.first;
        marks = marks_next at_fits x.marks (λ k h. items_none s t (item_at sh) i k);
        used = x.used;
        begun = omega arith;
        back = x.back;
      }

-- ---- the item at a cut

-- it was measured
pub at_cut : {s : Store} {t : ℕ} {sh : Shape} {a i row e : ℕ} {w : List ℕ} {m : Measured} {w' : List ℕ} → item_at sh (i + 1) ≤ orders → At s t sh a i row e w
    → Measures s t sh a i row e w m w' → AtCut s t sh i row m.next (e + 1) w'
at_cut short x y = record { first = x.first; short = short; after = at_next y.after }

module _ {s : Store} {t : ℕ} {sh : Shape} {i row next e : ℕ} {w : List ℕ} (x : AtCut s t sh i row next e w) where
  -- edition 1: it stays as it was measured, and objects count as seen from the next item on
  pub stays_measured : {edition : ℕ} → (edition ≡ 2 → ⊥) → (before : ℕ) → Restarts s t sh i next edition e before before w
  unfolding seen_from
  stays_measured {edition} ne before =
      let no : second edition ≡ false = ne_eqb edition 2 ne in
      record {
        size = sym (ap (λ (b : Bool). cond b (item_size s (of_items t sh) i i) before) no);
        most = λ h. h;
        after = subst (λ (b : Bool). At s t sh (cond b i (i + 1)) (i + 1) next e w) (sym no) x.after;
      }

  -- what counts as seen is nothing, also from this item on
  pub marks_here : Marks s (items s t (item_at sh) i i) e w
  marks_here =
      marks_same (at_fits x.after) x.after.marks
      (λ k h. items_none s t (item_at sh) (i + 1) k ∙ sym (items_none s t (item_at sh) i k))

  rows_here : ItemRows s t (item_at sh) i row next
  rows_here = record { first = x.first; next = x.after.first; short = x.short }

  pub offsets_here : Offsets s.links row next
  offsets_here = item_offsets (at_fits x.after) rows_here

  -- edition 2: it is measured again
  pub measured_again : {edition : ℕ} → edition ≡ 2 → {w' : List ℕ} {size : ℕ} (before : ℕ) → Walked s (items s t (item_at sh) i i) row next e w w' size
      → Restarts s t sh i next edition e before size w'
  unfolding seen_from
  measured_again {edition} two {w'} {size} before d =
      record {
        size = grown_item (of_items t sh) i i grown ∙ sym (ap (λ (b : Bool). cond b (item_size s (of_items t sh) i i) before) yes);
        most = λ h. d.most;
        after = subst (λ (b : Bool). At s t sh (cond b i (i + 1)) (i + 1) next e w') (sym yes) again;
      }
    where
      yes : second edition ≡ true
      yes = eq-eqb edition 2 two

      grown : Grown s (rows_of s (of_items t sh) i i) (rows_of s (of_items t sh) i (i + 1)) e w' size
      grown = item_grown (at_fits x.after) rows_here (items_rise sh) (omega arith) marks_here d

      later : row ≤ next
      later = rows_rise x.first x.after.first (omega (arith, items_rise sh i (i + 1) (omega arith)))

      again : At s t sh i (i + 1) next e w'
      again =
          record {
            is_sound = x.after.is_sound;
            order = omega arith;
            first = x.after.first;
            marks = grown.marks;
            used = x.after.used;
            begun = x.after.begun;
            back = item_back_again (at_fits x.after) rows_here x.after.used x.after.begun i (omega (arith, x.after.marks.room)) later d x.after.back;
          }

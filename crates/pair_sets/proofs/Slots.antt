-- A table's pair sets by its link rows: they are all sorted where each row of its own leads to a sorted one. Assumes nothing.
use Rattle.std.specs.Prelude.{Some}
use Prim.Native.Nat.{ℕ, ◌+◌, ◌-◌, ◌*◌, ◌/◌, ◌%◌, ◌≤◌, ◌<◌}
use mathlib.Core.Path.{◌≡◌, sym, ap, ◌∙◌}
use mathlib.Core.Bool.{Bool, true, false, not, ◌&&◌}
use mathlib.Core.List.{List}
use native.Mathlib.Omega.{arith}
use lib.ListN.{length}
use lib.Dec.{leb, ltb, eqb}
use borrow.Author.Tests.{leb-true, eqb-true, ltb-true, le-leb, lt-ltb, eq-eqb, ne_eqb, not-true, not-false}
use Rattle.folds.specs.Folds.{all}
use Rattle.folds.proofs.Agree.{both_ways}
use Rattle.folds.proofs.Tests.{and_both, by_test}
use Rattle.folds.proofs.Folds.{all_at_lem, all_intro}
use Rattle.ot_layouts.specs.Values.{field_count}
use Rattle.ot_layouts.specs.PairPos.{item_at, record_size, set_sorted}
use Rattle.ot_layouts.proofs.Shapes.{Format1, format_one}
use Rattle.ot_pairpos.specs.Layout.{layout_of}
use Rattle.ot_pairpos.specs.declared.Layout.{Layout}
use Rattle.store_rules.specs.Store.{Store, bytes_of, child_at, link_at, offset_of, parent_of, position_of, child_of, size_of}
use Rattle.store_rules.proofs.Shaped.{of_offset, of_parent, offset_inside}
use Rattle.store_rules.proofs.Sound.{Fits, sound_fits, size_bytes}
use Rattle.store_rules.proofs.Lookups.{child_row}
use Rattle.store_rules.proofs.RowChild.{row_child_lem}
use Rattle.store_reader.specs.Rows.{Inside, ParentRows}
use Rattle.store_reader.specs.declared.LinkRows.{LinkRows}
use Rattle.store_reader.proofs.Rows.{parent_rows}
use Rattle.store_reader.proofs.Checks.{Passed}
use Rattle.store_reader.proofs.Bytes.{inside}
use Rattle.pair_rules.specs.Table.{shape, sets_sorted}
use Rattle.pair_rules.specs.Reads.{Reads}
use Rattle.pair_rules.proofs.SortedSets.{no_sets, set_sorted_lem, sets_sorted_lem}
use Rattle.pair_sets.specs.Sets.{is_set_slot, leads_sorted, LeadsThere, RowInside}
use Rattle.pair_sets.specs.Marked.{RowLeads}

slot_is : (q : ℕ) → is_set_slot q ≡ true → (10 ≤ q) × (q % 2 ≡ 0)
unfolding is_set_slot
slot_is q h = let (a, b) = and_both (leb 10 q) (eqb (q % 2) 0) h in (leb-true 10 q a, eqb-true (q % 2) 0 b)

is_slot_lem : (q : ℕ) → 10 ≤ q → q % 2 ≡ 0 → is_set_slot q ≡ true
unfolding is_set_slot
is_slot_lem q a b = rw (le-leb 10 q a, eq-eqb (q % 2) 0 b)

-- ---- one row

pub at_slot : (s : Store) (size k : ℕ) → is_set_slot (position_of s k) ≡ true → leads_sorted s size k ≡ set_sorted (bytes_of s (child_of s k)) size
unfolding leads_sorted
at_slot s size k h = rw h

pub at_no_slot : (s : Store) (size k : ℕ) → is_set_slot (position_of s k) ≡ false → leads_sorted s size k ≡ true
unfolding leads_sorted
at_no_slot s size k h = rw h

module _ (s : Store) (size k : ℕ) {t : Bool} (e : t ≡ is_set_slot (position_of s k)) where
  pub no_set : not t ≡ true → true ≡ leads_sorted s size k
  no_set h = sym (at_no_slot s size k (sym e ∙ not-true t h))

  module _ (h : not t ≡ false) where
    there : is_set_slot (position_of s k) ≡ true
    there = sym e ∙ not-false t h

    pub looked_at : {v : List ℕ} {r : Bool} → v ≡ bytes_of s (child_of s k) → r ≡ set_sorted v size → r ≡ leads_sorted s size k
    looked_at y z = z ∙ ap (λ (b : List ℕ). set_sorted b size) y ∙ sym (at_slot s size k there)

    -- a row before it leads to the same set
    pub seen_before : (first other : ℕ) → LeadsThere s.links first k other (child_of s k)
        → ((j : ℕ) → first ≤ j → j < k → leads_sorted s size j ≡ true) → true ≡ leads_sorted s size k
    seen_before first other leads passed =
        sym (passed other leads.from leads.before)
        ∙ at_slot s size other leads.slot
        ∙ ap (λ (c : ℕ). set_sorted (bytes_of s c) size) leads.set
        ∙ sym (at_slot s size k there)

-- ---- all rows of the table

-- a test of rows from `first` on has passed those before row `first + n`
pub rows_passed : (p : ℕ → Bool) {first count n : ℕ} → Passed (λ i. p (first + i)) count n → (k : ℕ) → first ≤ k → k < first + n → p k ≡ true
rows_passed p {first} {count} {n} v k from to =
    let e : first + (k - first) ≡ k = omega arith in
    sym (ap p e) ∙ all_at_lem (λ i. p (first + i)) n v.passed (k - first) (omega arith)

module _ (s : Store) (t : ℕ) (reads : Reads s t) (one : eqb (shape s t).format 1 ≡ true) {r : LinkRows} (rows : ParentRows s.links s.link_count t r) where
  fits : Fits s
  fits = sound_fits s reads.sounds

  form : Format1 (shape s t)
  form = format_one (bytes_of s t) one

  abbrev size : ℕ
  size = record_size (bytes_of s t)

  -- row k is one of the table's offsets
  owned : (k : ℕ) → k < s.link_count → (leb r.first k && ltb k r.after) ≡ offset_of t (link_at s k)
  owned k l = parent_rows s fits t rows k l

  slot_place : (k : ℕ) → item_at (shape s t) k ≡ 10 + 2 * k
  slot_place k = λ i. form.header_is i + form.item_is i * k

  -- the test of the table's own rows
  abbrev rows_test : Bool
  rows_test = all (λ i. leads_sorted s (record_size (bytes_of s t)) (r.first + i)) (r.after - r.first)

  -- a slot's set, by the row that leads to it
  by_row : rows_test ≡ true → (k c : ℕ) → k < (shape s t).count → child_at s t (item_at (shape s t) k) ≡ Some c → set_sorted (bytes_of s c) size ≡ true
  by_row h k c l child =
      let (j, used, parent, position, is) = child_row s t (item_at (shape s t) k) c child in
      let (from, to) = and_both (leb r.first j) (ltb j r.after) (owned j used ∙ parent) in
      let place : position_of s j ≡ 10 + 2 * k = position ∙ slot_place k in
      let whole : Passed (λ i. leads_sorted s size (r.first + i)) (r.after - r.first) (r.after - r.first) = record { upto = omega arith; passed = h } in
      let below = ltb-true j r.after to in
      let leads = rows_passed (leads_sorted s size) whole j (leb-true r.first j from) (omega (arith, rows.rise)) in
      ap (λ (x : ℕ). set_sorted (bytes_of s x) size) (sym is) ∙ sym (at_slot s size j (is_slot_lem (position_of s j) (omega arith) (omega arith))) ∙ leads

  -- a row's set, by the slot that it stands at
  by_slot : sets_sorted s t ≡ true → (i : ℕ) → i < r.after - r.first → leads_sorted s size (r.first + i) ≡ true
  by_slot h i l =
      let k = r.first + i in
      let used : k < s.link_count = omega (arith, rows.after.within) in
      let mine : offset_of t (link_at s k) ≡ true = sym (owned k used) ∙ rw (le-leb r.first k (omega arith), lt-ltb k r.after (omega arith)) in
      let offset = of_offset t (link_at s k) mine in
      let own = of_parent t (link_at s k) mine in
      by_test (is_set_slot (position_of s k))
      (λ y.
      let (ten, even) = slot_is (position_of s k) y in
      let n = (position_of s k - 10) / 2 in
      let at : position_of s k ≡ item_at (shape s t) n = sym (slot_place n ∙ omega arith) in
      let inside : position_of s k + 2 ≤ length (bytes_of s t)
      = rw (size_bytes s fits t reads.used) (rw own at (offset_inside (size_of s (parent_of s k)) (link_at s k) offset (fits.link k used).shape)) in
      let long : length (bytes_of s t) ≡ 10 + 2 * (shape s t).count = reads.exactly ∙ slot_place (shape s t).count in
      let child : child_at s t (item_at (shape s t) n) ≡ Some (child_of s k)
      = ap (child_at s t) (sym at) ∙ ap (λ (p : ℕ). child_at s p (position_of s k)) (sym own) ∙ row_child_lem s fits k used offset in
      at_slot s size k y ∙ set_sorted_lem s t h one n (child_of s k) (omega arith) child)
      (at_no_slot s size k)

  pub rows_decide : rows_test ≡ sets_sorted s t
  rows_decide =
      both_ways rows_test (sets_sorted s t)
      (λ h. sets_sorted_lem s t (λ e. by_row h))
      (λ h. all_intro (λ i. leads_sorted s size (r.first + i)) (r.after - r.first) (by_slot h))

-- ---- what the test asks of them

module _ (s : Store) (t : ℕ) (reads : Reads s t) where
  pub table_small : t < 65536
  table_small = omega (arith, reads.used, (sound_fits s reads.sounds).objects_most)

  pub row_inside : (k : ℕ) → k < s.link_count → RowInside (length s.bytes) s.objects s.links k
  row_inside k l =
      let f = sound_fits s reads.sounds in
      record { room = omega (arith, f.links_in); small = omega (arith, f.links_most); child = inside s f (child_of s k) (f.link k l).child_used }

  pub row_leads : (k : ℕ) → k < s.link_count → RowLeads s.links s.object_count k
  row_leads k l =
      let f = sound_fits s reads.sounds in
      record { room = omega (arith, f.links_in); small = omega (arith, f.links_most); child = (f.link k l).child_used }

  pub objects_inside : (i : ℕ) → i < s.object_count → Inside (length s.bytes) s.objects i
  objects_inside = inside s (sound_fits s reads.sounds)

  -- by what the code holds of the table
  module _ {l : Layout} (layout : l ≡ layout_of (bytes_of s t)) where
    format_is : eqb (shape s t).format 1 ≡ eqb l.format 1
    unfolding layout_of
    format_is = ap (λ (x : Layout). eqb x.format 1) (sym layout)

    pub no_pair_sets : (l.format ≡ 1 → ⊥) → true ≡ sets_sorted s t
    no_pair_sets n = sym (no_sets s t (format_is ∙ ne_eqb l.format 1 n))

    size_is : {size : ℕ} → size ≡ 2 * (field_count l.value1 + field_count l.value2) → size ≡ record_size (bytes_of s t)
    unfolding layout_of record_size
    size_is e = e ∙ ap (λ (x : Layout). 2 * (field_count x.value1 + field_count x.value2)) layout

    pub by_rows : l.format ≡ 1 → {r : LinkRows} → ParentRows s.links s.link_count t r
        → {size : ℕ} → size ≡ 2 * (field_count l.value1 + field_count l.value2)
        → {x : Bool} → x ≡ all (λ i. leads_sorted s size (r.first + i)) (r.after - r.first) → x ≡ sets_sorted s t
    by_rows one {r} rows {size} e y =
        y ∙ ap (λ (n : ℕ). all (λ i. leads_sorted s n (r.first + i)) (r.after - r.first)) (size_is e)
        ∙ rows_decide s t reads (format_is ∙ eq-eqb l.format 1 one) rows

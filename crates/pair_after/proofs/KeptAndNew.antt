-- The kept table and each new one are the tables of their ranges. Assumes nothing.
use Rattle.std.specs.Prelude.{Option, Some, unwrap_or}
use Prim.Native.Nat.{ℕ, ◌+◌, ◌-◌, ◌*◌, ◌<◌, ◌≤◌}
use mathlib.Core.Path.{◌≡◌, ap, ap₂, ◌∙◌}
use mathlib.Core.Bool.{false}
use mathlib.Core.List.{List, [], map}
use mathlib.Core.Logic.{◌⊎◌, inl, inr, ⊎_elim}
use native.Mathlib.Omega.{arith}
use lib.ListN.{length, get_or}
use lib.Dec.{eqb}
use Rattle.folds.specs.Lists.{part, put}
use Rattle.folds.proofs.Put.{put-below, put-above, length-put}
use Rattle.folds.proofs.Parts.{length_part, part_at}
use Rattle.folds.proofs.Offsets.{put-at}
use Rattle.ot_layouts.specs.Numbers.{u16_at, be16}
use Rattle.ot_layouts.specs.Coverage.{coverage_bytes}
use Rattle.ot_layouts.specs.ClassDef.{class_def_bytes}
use Rattle.ot_layouts.specs.PairPos.{Shape, cover_at, class1_at, class2_at, item_at}
use Rattle.ot_layouts.proofs.Head.{two_bytes}
use Rattle.ot_layouts.proofs.Shapes.{items_rise, count_in_header, formats, header_long, own_within, format_two}
use Rattle.store_rules.specs.Store.{Store, child_at, bytes_of}
use Rattle.glyph_rules.specs.Entries.{within, reduced}
use Rattle.pair_rules.specs.Table.{shape, entries_of}
use Rattle.pair_rules.specs.Written.{split_store, new_table, part_of, new_parts, per_table}
use Rattle.store_rules.specs.Header.{own_child}
use Rattle.store_rules.proofs.Header as Header
use Rattle.cut_rules.specs.Ranges.{from, to}
use Rattle.cut_rules.proofs.CutPlaces.{range_high}
use Rattle.store_rules.proofs.Lookups.{child_used_lem, child_other, mapped, mapped_id}
use Rattle.store_rules.specs.Appended.{new_number}
use Rattle.pair_rules.proofs.NewCounts.{per_two}
use Rattle.pair_rules.proofs.NewTable.{new_long, new_count_lem, new_same, new_wide, new_rows_lem}
use Rattle.pair_after.proofs.Ready.{Ready, first_cut}
use Rattle.pair_after.proofs.NewLinks.{others_child, new_item, new_cover, new_class1, new_class2, kept_child}
use Rattle.pair_after.proofs.NewBytes.{table_object, kept_bytes_lem, kept_object, other_bytes}
use Rattle.pair_after.proofs.View.{View}

module _ (s : Store) (t : ℕ) (cs : List ℕ) (g : Ready s t cs) where
  abbrev sh : Shape
  sh = shape s t

  abbrev s' : Store
  s' = split_store s t cs

  -- what t leads to is in use, and is as it was
  pub child_kept : (q c : ℕ) → child_at s t q ≡ Some c → (bytes_of s' c ≡ bytes_of s c) × ((p : ℕ) → child_at s' c p ≡ child_at s c p)
  child_kept q c e =
      let l = child_used_lem s t g.fit q c e in
      let n = child_other s t g.fit g.acyclic q c e in
      (other_bytes s t cs g c l n, λ p. others_child s t cs g c p l n)

  class2_same : (two : eqb sh.format 1 ≡ false) → (c : ℕ) × (child_at s t 10 ≡ Some c) × (bytes_of s' c ≡ bytes_of s c)
  class2_same two = let (c, e) = g.parts.class2 two in (c, e, (child_kept 10 c e).0)

  -- ---- the own parts of a table of items lo up to hi

  part_cover : (lo hi : ℕ) → get_or (new_parts sh (entries_of s t) lo hi) 0 [] ≡ coverage_bytes (map (λ e. e.glyph) (within lo hi (entries_of s t)))
  unfolding new_parts part_of
  part_cover lo hi = ⊎_elim (λ f. rw f.own_is) (λ f. rw f.own_is) (formats (bytes_of s t))

  part-class : eqb sh.format 1 ≡ false → (lo hi : ℕ) → get_or (new_parts sh (entries_of s t) lo hi) 1 [] ≡ class_def_bytes (reduced lo (within lo hi (entries_of s t)))
  unfolding new_parts part_of
  part-class two lo hi = rw (format_two (bytes_of s t) two).own_is

  two_own : eqb sh.format 1 ≡ false → length sh.own ≡ 2
  two_own two = ap length (format_two (bytes_of s t) two).own_is

  -- ---- a new table

  module _ (j : ℕ) (l : j < length cs) where
    abbrev lo : ℕ
    lo = from cs j

    abbrev hi : ℕ
    hi = to (shape s t).count cs j

    abbrev u : ℕ
    u = new_number s (per_table (shape s t)) j

    low : lo ≤ hi
    low = let (a, b) = range_high sh.count cs g.cuts j l in omega arith

    high : hi ≤ sh.count
    high = (range_high sh.count cs g.cuts j l).1

    pub bytes_new : bytes_of s' u ≡ new_table sh (bytes_of s t) lo hi
    bytes_new =
        let z : u ≡ u + 0 = omega arith in
        ap (bytes_of s') z ∙ table_object s t cs g j 0 l (omega (arith, per_two (bytes_of s t)))

    cover_new_lem : bytes_of s' (u + 1) ≡ coverage_bytes (map (λ e. e.glyph) (within lo hi (entries_of s t)))
    cover_new_lem = table_object s t cs g j 1 l (omega (arith, per_two (bytes_of s t))) ∙ part_cover lo hi

    class_new_lem : eqb sh.format 1 ≡ false → bytes_of s' (u + 2) ≡ class_def_bytes (reduced lo (within lo hi (entries_of s t)))
    class_new_lem two = table_object s t cs g j 2 l (omega (arith, two_own two)) ∙ part-class two lo hi

    pub view_new : View s t s' u lo hi
    view_new =
        let b = bytes_of s t in
        let whole = g.reads.exactly in
        record {
          low = low;
          high = high;
          long = ap length bytes_new ∙ new_long b whole lo hi low high;
          counted = ap (λ (v : List ℕ). u16_at v sh.count_at) bytes_new ∙ new_count_lem b whole lo hi low high;
          same = λ i d. ap (λ (v : List ℕ). get_or v i 0) bytes_new ∙ new_same b whole lo hi low high i d;
          wide = λ two i h k. ap (λ (v : List ℕ). get_or v i 0) bytes_new ∙ new_wide b whole lo hi low high two i h k;
          rows = λ two i h k. ap (λ (v : List ℕ). get_or v i 0) bytes_new ∙ new_rows_lem b whole lo hi low high two i h k;
          links = λ q h k. new_item s t cs g j q l h k;
          cover = (u + 1, omega arith, new_cover s t cs g j l, cover_new_lem);
          class1 = λ two. (u + 2, omega arith, new_class1 s t cs g j l two, class_new_lem two);
          class2 = λ two. let (c, e, f) = class2_same two in (c, new_class2 s t cs g j l two ∙ ap (λ (o : Option ℕ). Some (unwrap_or o 0)) e, e, f);
        }

  -- ---- the kept table

  abbrev p0 : ℕ
  p0 = from cs 0

  -- its coverage is the first of its new parts
  abbrev v : ℕ
  v = new_number s (per_table (shape s t)) (length cs)

  abbrev old_part : List ℕ
  old_part = part (bytes_of s t) 0 (item_at sh p0)

  old_part-length : length old_part ≡ item_at sh p0
  old_part-length =
      let c = first_cut s t cs g in
      length_part (bytes_of s t) 0 (item_at sh p0) (omega arith) (omega (arith, items_rise sh p0 sh.count (omega arith), g.reads.exactly)) ∙ omega arith

  count_in : sh.count_at + 2 ≤ item_at sh p0
  count_in = omega (arith, count_in_header (bytes_of s t))

  -- a byte but those of the count
  kept_at : (i : ℕ) → (i < sh.count_at) ⊎ (sh.count_at + 2 ≤ i) → i < item_at sh p0 → get_or (bytes_of s' t) i 0 ≡ get_or (bytes_of s t) i 0
  unfolding be16
  kept_at i d h =
      let c : sh.count_at ≤ length old_part = omega (arith, count_in, old_part-length) in
      ap (λ (x : List ℕ). get_or x i 0) (kept_bytes_lem s t cs g)
      ∙ ⊎_elim (λ a. put-below old_part sh.count_at (be16 p0) c i a) (λ a. put-above old_part sh.count_at (be16 p0) c i a) d
      ∙ part_at (bytes_of s t) 0 (item_at sh p0) i (omega arith) ∙ ap (λ (n : ℕ). get_or (bytes_of s t) n 0) (omega arith)

  -- a byte before the count
  front_at : (i : ℕ) → i < 8 → get_or (bytes_of s' t) i 0 ≡ get_or (bytes_of s t) i 0
  front_at i h = ⊎_elim (λ f. kept_at i (inl (omega arith)) (omega (arith, count_in))) (λ f. kept_at i (inl (omega arith)) (omega (arith, count_in))) (formats (bytes_of s t))

  count_kept : u16_at (bytes_of s' t) sh.count_at ≡ p0 - 0
  unfolding be16 u16_at
  count_kept =
      let c = sh.count_at in
      let z : c ≡ c + 0 = omega arith in
      let n : c ≤ length old_part = omega (arith, count_in, old_part-length) in
      ap (λ (x : List ℕ). u16_at x c) (kept_bytes_lem s t cs g)
      ∙ ap₂ (λ (a b : ℕ). 256 * a + b) (ap (λ (m : ℕ). get_or (put old_part c (be16 p0)) m 0) z ∙ put-at old_part c (be16 p0) n 0 (omega arith)) (put-at old_part c (be16 p0) n 1 (omega arith))
      ∙ two_bytes p0 ∙ omega arith

  -- a link of an item has the child that it had
  item_kept : (q : ℕ) → sh.header ≤ q → mapped (own_child sh.own v q) (child_at s t q) ≡ child_at s t q
  item_kept q h = mapped_id (own_child sh.own v q) (λ c. Header.child_other sh.own v q c (own_within (bytes_of s t) q h)) (child_at s t q)

  -- a link of the header
  header_kept : (q : ℕ) → q < 10 → child_at s' t q ≡ mapped (own_child sh.own v q) (child_at s t q)
  header_kept q h = kept_child s t cs g q (inl (omega (arith, header_long (bytes_of s t))))

  cover_kept : bytes_of s' v ≡ coverage_bytes (map (λ e. e.glyph) (within 0 p0 (entries_of s t)))
  cover_kept =
      let z : v ≡ v + 0 = omega arith in
      ap (bytes_of s') z ∙ kept_object s t cs g 0 (omega (arith, per_two (bytes_of s t))) ∙ part_cover 0 p0

  class_kept : eqb sh.format 1 ≡ false → bytes_of s' (v + 1) ≡ class_def_bytes (reduced 0 (within 0 p0 (entries_of s t)))
  class_kept two = kept_object s t cs g 1 (omega (arith, two_own two)) ∙ part-class two 0 p0

  -- where its header's links lead
  child_cover : (c : ℕ) → own_child sh.own v cover_at c ≡ v
  unfolding own_child
  child_cover c = ⊎_elim (λ f. rw f.own_is) (λ f. rw f.own_is) (formats (bytes_of s t))

  child_class1 : eqb sh.format 1 ≡ false → (c : ℕ) → own_child sh.own v class1_at c ≡ v + 1
  unfolding own_child
  child_class1 two c = rw (format_two (bytes_of s t) two).own_is

  child_class2 : eqb sh.format 1 ≡ false → (c : ℕ) → own_child sh.own v class2_at c ≡ c
  unfolding own_child
  child_class2 two c = rw (format_two (bytes_of s t) two).own_is

  pub view_kept : View s t s' t 0 p0
  unfolding be16
  view_kept =
      let c = first_cut s t cs g in
      let z : sh.item * 0 ≡ 0 = omega arith in
      record {
        low = omega arith;
        high = omega arith;
        long =
            ap length (kept_bytes_lem s t cs g) ∙ length-put old_part sh.count_at (be16 p0) (omega (arith, count_in, old_part-length)) ∙ old_part-length
            ∙ ap (λ (n : ℕ). sh.header + sh.item * n) (omega arith);
        counted = count_kept;
        same = λ i d. front_at i (⊎_elim {C = i < 8} (λ a. omega arith) (λ (a, b). b) d);
        wide = λ two i h m. let f = format_two (bytes_of s t) two in kept_at i (inr (omega arith)) (omega arith);
        rows = λ two i h m. kept_at i (inr (omega (arith, count_in_header (bytes_of s t)))) (omega arith) ∙ ap (λ (n : ℕ). get_or (bytes_of s t) n 0) (omega arith);
        links = λ q h m. kept_child s t cs g q (inl (omega arith)) ∙ item_kept q h ∙ ap (child_at s t) (omega arith);
        cover = let (d, e) = g.parts.cover in (v, omega arith, header_kept 2 (omega arith) ∙ rw e (ap Some (child_cover d)), cover_kept);
        class1 = λ two. let (d, e) = g.parts.class1 two in (v + 1, omega arith, header_kept 8 (omega arith) ∙ rw e (ap Some (child_class1 two d)), class_kept two);
        class2 = λ two. let f = format_two (bytes_of s t) two in let (d, e, h) = class2_same two in (d, kept_child s t cs g 10 (inl (omega arith)) ∙ rw e (ap Some (child_class2 two d)), e, h);
      }

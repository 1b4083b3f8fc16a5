-- Covered glyphs arranged by tables: what order by glyph leaves of an order by item, and glyphs whose items are their places. Assumes nothing.
use Prim.Native.Nat.{ℕ, zero, suc, ◌+◌, ◌-◌, ◌<◌, ◌≤◌}
use mathlib.Core.Path.{◌≡◌, sym, subst, ap, ap₂, ◌∙◌}
use mathlib.Core.List.{List, [], ◌∷◌, map}
use mathlib.Core.Logic.{⊎_elim}
use native.Mathlib.Omega.{arith}
use native.Mathlib.Nat.{eq-or-lt_of_le, le_of_suc-le-suc, not-suc-le-zero}
use lib.ListN.{length, get_or, get_or-map, get_or-eq_default}
use lib.Dec.{leb, ltb}
use borrow.Author.Tests.{leb-true, ltb-true}
use Rattle.folds.specs.Folds.{before, upto}
use Rattle.folds.specs.Lists.{part}
use Rattle.folds.proofs.Tests.{either, and_both}
use Rattle.folds.proofs.Folds.{length-upto, before_none, before_more}
use Rattle.folds.proofs.FromTheFront.{upto-at}
use Rattle.folds.proofs.Parts.{length_part, part_at, get_d_default}
use Rattle.folds.proofs.Moved.{length-map, map-upto}
use Rattle.folds.proofs.Each.{Each, each_at, each_sift}
use Rattle.ot_layouts.specs.Coverage.{Entry, Ascends}
use Rattle.ot_layouts.proofs.RunStarts.{entry}
use Rattle.glyph_rules.specs.Entries.{within}
use Rattle.cut_rules.specs.Ranges.{from}
use Rattle.glyph_rules.proofs.Entries.{in_range}
use Rattle.cut_rules.proofs.CutPlaces.{cuts_rise}
use Rattle.cut_rules.specs.Places.{Places}
use Rattle.glyph_sort.specs.ByClass.{ByClass}
use Rattle.cut_parts.specs.Tables.{paired, low_at, high_at, entries_at, PartEnd, Halved, Parted}
use Rattle.cut_parts.specs.Order.{Sorted, PartsOrdered, Arranged}
use Rattle.cut_parts.proofs.Parting.{halved_none, halved_next, paired_maps, within_part}
use Rattle.cut_parts.proofs.Ordering.{halved_only, halved_rise, low_high, high_low}
use Rattle.cut_parts.proofs.Keys.{Small, items_many, glyphs_many, items_ascend, range_glyphs, range_items}

-- entries in order by item, and the cuts of a table
pub sorted_by_item : (gs ks cs : List ℕ) (n : ℕ) (es : List Entry) → ByClass es gs ks → Ascends 0 es → Small es → Places n cs → Sorted gs ks cs n
sorted_by_item gs ks cs n es o up small p =
    record {
      same = items_many gs ks es o up small ∙ sym (glyphs_many gs ks es o up small);
      ascends = items_ascend gs ks es o up small;
      below = λ j l. let h : from cs j < n = p.below j l in omega arith;
      rising = cuts_rise n cs p;
    }

-- ---- where items reach a bound

first_end : (ks : List ℕ) (h : ℕ) → (r : ℕ) × PartEnd ks 0 h r
first_end [] h = (0, record { after = omega arith; inside = omega arith; below = λ i a l. absurd (not-suc-le-zero l); above = λ l. absurd (not-suc-le-zero l) })
first_end (k ∷ ks) h = ⊎_elim (λ lt. more lt (first_end ks h)) (λ ge. (0, record { after = omega arith; inside = omega arith; below = λ i a l. absurd (not-suc-le-zero l); above = λ l. ge })) (either k h)
  where
    more : k < h → (r : ℕ) × PartEnd ks 0 h r → (r : ℕ) × PartEnd (k ∷ ks) 0 h r
    more lt (r, e) = (suc r, record { after = omega arith; inside = omega (arith, e.inside); below = go; above = λ l. e.above (omega arith) })
      where
        go : (i : ℕ) → 0 ≤ i → i < suc r → get_or (k ∷ ks) i 0 < h
        go zero a l = lt
        go (suc i) a l = e.below i (omega arith) (omega arith)

-- ---- order by glyph

module _ (gs ks cs : List ℕ) (n : ℕ) (es : List Entry) (gs' ks' : List ℕ) (o : ByClass es gs ks) (up : Ascends 0 es) (small : Small es) (s : Sorted gs ks cs n) (r : PartsOrdered gs ks cs n gs' ks') where
  -- how many items lie below h
  end : ℕ → ℕ
  end h = (first_end ks h).0

  half : (h : ℕ) → Halved ks h (end h)
  unfolding end
  half h = halved_next ks 0 h 0 (end h) (λ i j a b l. omega (arith, s.ascends i j a b)) (omega arith) (halved_none ks) (first_end ks h).1

  -- the part of table k
  abbrev a : ℕ → ℕ
  a k = end (low_at cs k)

  -- and its end
  abbrev b : ℕ → ℕ
  b k = end (high_at n cs k)

  a_le_b_lem : (k : ℕ) → k ≤ length cs → a k ≤ b k
  a_le_b_lem k h = halved_rise ks (low_at cs k) (high_at n cs k) (a k) (b k) (low_high gs ks cs n s k h) (half (low_at cs k)) (half (high_at n cs k))

  a_first : a 0 ≡ 0
  unfolding before
  a_first = halved_only ks 0 (end 0) 0 (half 0) (halved_none ks)

  low_is : (k : ℕ) → k < length cs → low_at cs (suc k) ≡ high_at n cs k
  unfolding before
  low_is k h = get_d_default cs k 0 n h

  a_next : (k : ℕ) → k < length cs → a (suc k) ≡ b k
  a_next k h = ap end (low_is k h)

  b_inside : (k : ℕ) → b k ≤ length ks'
  b_inside k = omega (arith, (half (high_at n cs k)).inside, r.same_items)

  table_glyphs : (k : ℕ) → k ≤ length cs → part gs' (a k) (b k) ≡ map (λ e. e.glyph) (entries_at n cs es k)
  table_glyphs k h =
      (r.tables k (a k) (b k) h (half (low_at cs k)) (half (high_at n cs k))).0
      ∙ range_glyphs gs ks es o up small (low_at cs k) (high_at n cs k) (a k) (b k) (half (low_at cs k)) (half (high_at n cs k)) (a_le_b_lem k h)

  table_items : (k : ℕ) → k ≤ length cs → part ks' (a k) (b k) ≡ map (λ e. e.class) (entries_at n cs es k)
  table_items k h =
      (r.tables k (a k) (b k) h (half (low_at cs k)) (half (high_at n cs k))).1
      ∙ range_items gs ks es o up small (low_at cs k) (high_at n cs k) (a k) (b k) (half (low_at cs k)) (half (high_at n cs k)) (a_le_b_lem k h)

  in_range_lem : (lo hi : ℕ) → Each (λ e. (lo ≤ e.class) × (e.class < hi)) (within lo hi es)
  unfolding within
  in_range_lem lo hi =
      each_sift (λ e. (e.glyph < 65536) × (e.class < 65536)) (λ e. (lo ≤ e.class) × (e.class < hi)) (in_range lo hi)
      (λ e h t. let (x, y) = and_both (leb lo e.class) (ltb e.class hi) t in (leb-true lo e.class x, ltb-true e.class hi y)) es small

  in_table : (k i : ℕ) → k ≤ length cs → a k ≤ i → i < b k → (low_at cs k ≤ get_or ks' i 0) × (get_or ks' i 0 < high_at n cs k)
  in_table k i h l m =
      let w = entries_at n cs es k in
      let q : a k + (i - a k) ≡ i = omega arith in
      let long : length w ≡ b k - a k = sym (length-map (λ (e : Entry). e.class) w) ∙ sym (ap length (table_items k h)) ∙ length_part ks' (a k) (b k) (a_le_b_lem k h) (b_inside k) in
      let z : get_or ks' i 0 ≡ (get_or w (i - a k) (entry 0 0)).class =
      sym (ap (λ (j : ℕ). get_or ks' j 0) q) ∙ sym (part_at ks' (a k) (b k) (i - a k) (omega arith)) ∙ ap (λ (x : List ℕ). get_or x (i - a k) 0) (table_items k h) ∙ get_or-map (λ (e : Entry). e.class) w (i - a k) (entry 0 0) in
      let x = each_at (λ e. (low_at cs k ≤ e.class) × (e.class < high_at n cs k)) w (in_range_lem (low_at cs k) (high_at n cs k)) (i - a k) (omega arith) (entry 0 0) in
      (omega arith, omega arith)

  low_half : (k i : ℕ) → k ≤ length cs → i < b k → get_or ks' i 0 < high_at n cs k
  low_half zero i h l = (in_table zero i h (omega (arith, a_first)) l).1
  low_half (suc k) i h l =
      ⊎_elim
      (λ lt. omega (arith, low_half k i (omega arith) (omega (arith, a_next k (omega arith))), high_low gs ks cs n s k (suc k) (omega arith) h, low_high gs ks cs n s (suc k) h))
      (λ ge. (in_table (suc k) i h ge l).1)
      (either i (a (suc k)))

  high_half : (k m i : ℕ) → k ≤ m → m ≤ length cs → b k ≤ i → i < b m → high_at n cs k ≤ get_or ks' i 0
  high_half k zero i h l p q = let e : k ≡ zero = omega arith in let no : ⊥ = omega (arith, ap b e) in absurd no
  high_half k (suc m) i h l p q =
      ⊎_elim
      (λ e. let no : ⊥ = omega (arith, ap b e) in absurd no)
      (λ lt. ⊎_elim
      (λ x. high_half k m i (le_of_suc-le-suc lt) (omega arith) p (omega (arith, a_next m (omega arith))))
      (λ x. omega (arith, (in_table (suc m) i l x q).0, high_low gs ks cs n s k (suc m) lt l))
      (either i (a (suc m))))
      (eq-or-lt_of_le h)

  top : high_at n cs (length cs) ≡ n
  top = get_or-eq_default cs n {n = length cs} (omega arith)

  high_top : (k : ℕ) → k ≤ length cs → high_at n cs k ≤ n
  high_top k h = ⊎_elim (λ e. omega (arith, top, ap (high_at n cs) e)) (λ lt. omega (arith, get_d_default cs k n 0 lt, s.below k lt)) (eq-or-lt_of_le h)

  all_half : Halved ks n (b (length cs))
  all_half = subst (λ (h : ℕ). Halved ks h (b (length cs))) top (half (high_at n cs (length cs)))

  new_half : (k : ℕ) → k ≤ length cs → Halved ks' (high_at n cs k) (b k)
  new_half k h =
      record {
        inside = b_inside k;
        low = λ i l. low_half k i h l;
        high = λ i l m. ⊎_elim
            (λ lt. high_half k (length cs) i h (omega arith) l lt)
            (λ ge. omega (arith, (r.others (b (length cs)) i all_half ge).1, all_half.high i ge (omega (arith, r.same_items)), high_top k h))
            (either i (b (length cs)));
      }

  new_low : (k : ℕ) → k ≤ length cs → Halved ks' (low_at cs k) (a k)
  unfolding before
  new_low zero h = subst (λ (x : ℕ). Halved ks' 0 x) (sym a_first) (halved_none ks')
  new_low (suc k) h =
      subst (λ (x : ℕ). Halved ks' (low_at cs (suc k)) x) (sym (a_next k (omega arith)))
      (subst (λ (y : ℕ). Halved ks' y (b k)) (sym (low_is k (omega arith))) (new_half k (omega arith)))

  same' : length ks' ≡ length gs'
  same' = r.same_items ∙ s.same ∙ sym r.same_glyphs

  pub ordered_arranged : Arranged gs' ks' cs n es
  ordered_arranged =
      record {
        same = same';
        long = r.same_glyphs ∙ glyphs_many gs ks es o up small;
        parted = λ k i j h l m x.
            let v = new_half k h in
            ⊎_elim (λ lt. v.low i (omega arith)) (λ ge. let no : ⊥ = omega (arith, v.high j ge m) in absurd no) (either j (b k));
        entries = λ k h.
            within_part gs' ks' (low_at cs k) (high_at n cs k) (a k) (b k) same' (new_low k h) (new_half k h) (a_le_b_lem k h)
            ∙ ap₂ paired (table_glyphs k h) (table_items k h)
            ∙ paired_maps (entries_at n cs es k);
      }

-- ---- items that are places

module _ (h : ℕ → ℕ) (m : ℕ) (cs : List ℕ) (n : ℕ) where
  abbrev placed : List Entry
  placed = upto (λ k. entry (h k) k) m

  abbrev glyphs : List ℕ
  glyphs = map (λ (e : Entry). e.glyph) placed

  abbrev items : List ℕ
  items = map (λ (e : Entry). e.class) placed

  item_at_lem : (i : ℕ) → i < m → get_or items i 0 ≡ i
  item_at_lem i l = ap (λ (x : List ℕ). get_or x i 0) (map-upto (λ (e : Entry). e.class) (λ k. entry (h k) k) m) ∙ upto-at (λ k. k) m i 0 l

  pub places_arranged : Arranged glyphs items cs n placed
  places_arranged =
      let p : length items ≡ m = length-map (λ (e : Entry). e.class) placed ∙ length-upto (λ k. entry (h k) k) m in
      record {
        same = length-map (λ (e : Entry). e.class) placed ∙ sym (length-map (λ (e : Entry). e.glyph) placed);
        long = length-map (λ (e : Entry). e.glyph) placed;
        parted = λ k i j a l b c. omega (arith, item_at_lem i (omega arith), item_at_lem j (omega arith));
        entries = λ k a. ap (λ (x : List Entry). entries_at n cs x k) (paired_maps placed);
      }

-- ---- what arranged lists give

module _ (gs ks cs : List ℕ) (n : ℕ) (es : List Entry) (r : Arranged gs ks cs n es) where
  pub arranged_parted : Places n cs → 0 < length cs → Parted gs ks cs n
  arranged_parted p some = record { same = r.same; some = some; places = p; parted = r.parted }

  -- the kept table's entries
  pub kept_same : 0 < length cs → within 0 (from cs 0) (paired gs ks) ≡ within 0 (from cs 0) es
  kept_same some =
      subst (λ (h : ℕ). within 0 h (paired gs ks) ≡ within 0 h es) (get_d_default cs 0 n 0 some)
      (subst (λ (lo : ℕ). within lo (high_at n cs 0) (paired gs ks) ≡ within lo (high_at n cs 0) es) (before_none (from cs)) (r.entries 0 (omega arith)))

  -- those of new table j
  pub new_same : (j : ℕ) → j < length cs → within (from cs j) (get_or cs (j + 1) n) (paired gs ks) ≡ within (from cs j) (get_or cs (j + 1) n) es
  new_same j h =
      subst (λ (lo : ℕ). within lo (get_or cs (j + 1) n) (paired gs ks) ≡ within lo (get_or cs (j + 1) n) es) (before_more (from cs) j) (r.entries (j + 1) (omega arith))

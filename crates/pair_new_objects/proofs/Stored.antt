-- What a caller has of the covered glyphs of a table in a store: the plan, the old table, and that the new objects are those of document 01. Assumes nothing.
use Prim.Native.Nat.{ℕ, ◌+◌, ◌*◌, ◌<◌, ◌≤◌}
use mathlib.Core.Path.{◌≡◌, refl, sym, subst, ap, ap₂, ◌∙◌}
use mathlib.Core.Bool.{true, false}
use mathlib.Core.List.{List, [], ◌∷◌, ◌++◌, map}
use native.Mathlib.Omega.{arith}
use lib.ListN.{length, get_or}
use lib.Dec.{eqb}
use Rattle.folds.specs.Folds.{upto}
use Rattle.folds.specs.Lists.{join, part, Bytes}
use Rattle.folds.proofs.FromTheFront.{flat-same, upto_get_d}
use Rattle.folds.proofs.Moved.{map-upto}
use Rattle.ot_layouts.specs.Numbers.{u16_at}
use Rattle.ot_layouts.specs.Coverage.{Entry, Ascends, Under}
use Rattle.ot_layouts.specs.ClassDef.{class_of}
use Rattle.ot_layouts.specs.PairPos.{Shape, shape1, shape2, shape_of}
use Rattle.ot_layouts.proofs.RunStarts.{entry}
use Rattle.ot_layouts.proofs.Shapes.{by_format}
use Rattle.ot_layouts.proofs.Octets.{bytes_u16}
use Rattle.ot_layouts.proofs.Entries.{Agrees, ascends_plain}
use Rattle.ot_layouts.proofs.BytesWritten.{class_of_bits}
use Rattle.ot_ranges.proofs.Ascending.{ascending}
use Rattle.store_rules.specs.Store.{Store, head_of, tail_of, bytes_of, linked_at, linked_bytes}
use Rattle.glyph_rules.specs.Entries.{within}
use Rattle.pair_rules.specs.Table.{shape, entries_of, glyphs_of}
use Rattle.cut_rules.specs.Ranges.{from, to}
use Rattle.pair_rules.specs.Written.{part_of, new_table, new_parts, new_objects, new_of}
use Rattle.store_rules.proofs.Sound.{Fits, sound_fits, size_bytes}
use Rattle.cut_rules.specs.Places.{Places}
use Rattle.pair_rules.proofs.Entries.{entries1, entries_agree}
use Rattle.glyph_rules.proofs.Entries.{within_ascends}
use Rattle.pair_rules.specs.Reads.{Reads}
use Rattle.pair_rules.proofs.Checks.{entries_ascend, entries_under, count_bits}
use Rattle.store_rules.proofs.Bytes.{object_bytes_lem}
use Rattle.pair_rules.proofs.NamedRuns.{range_runs_few}
use Rattle.ot_pairpos.specs.declared.Layout.{Layout}
use Rattle.ot_pairpos.specs.Layout.{layout_of}
use Rattle.glyph_sort.specs.ByClass.{ByClass}
use Rattle.cut_parts.specs.Tables.{paired, low_at, high_at}
use Rattle.cut_parts.specs.Order.{Sorted, PartsOrdered, Arranged}
use Rattle.cut_parts.proofs.Keys.{Small}
use Rattle.cut_parts.proofs.Arranging.{sorted_by_item, ordered_arranged, places_arranged, arranged_parted, kept_same, new_same}
use Rattle.store_object_rows.specs.Objects.{ObjectsRoom, Written}
use Rattle.pair_new_objects.specs.Planned.{Beside, PlannedParts}
use Rattle.pair_new_objects.specs.Objects.{old_table, Old, objects_of, Length}

-- ---- the objects

pub same_objects : (gs ks cs : List ℕ) (es : List Entry) (sh : Shape) (b : List ℕ) → Arranged gs ks cs sh.count es → 0 < length cs
    → new_objects sh b (paired gs ks) cs ≡ new_objects sh b es cs
unfolding new_objects new_parts
same_objects gs ks cs es sh b r some =
    ap₂ (λ (x y : List (List ℕ)). x ++ y)
    (flat-same (λ j. new_table sh b (from cs j) (to sh.count cs j) ∷ new_parts sh (paired gs ks) (from cs j) (to sh.count cs j))
    (λ j. new_table sh b (from cs j) (to sh.count cs j) ∷ new_parts sh es (from cs j) (to sh.count cs j)) (length cs)
    (λ j h. ap (λ (y : List (List ℕ)). new_table sh b (from cs j) (to sh.count cs j) ∷ y)
    (parts (from cs j) (to sh.count cs j) (new_same gs ks cs sh.count es r j h))))
    (parts 0 (from cs 0) (kept_same gs ks cs sh.count es r some))
  where
    parts : (lo hi : ℕ) → within lo hi (paired gs ks) ≡ within lo hi es → new_parts sh (paired gs ks) lo hi ≡ new_parts sh es lo hi
    parts lo hi e = ap (λ (x : List Entry). map (part_of x lo) sh.own) e

-- ---- the entries of a table in a store

-- glyphs in ascending order below n are at most n
few_entries : (es : List Entry) (lo n : ℕ) → lo ≤ n → Ascends lo es → Under n es → lo + length es ≤ n
few_entries [] lo n h a u = omega arith
few_entries (e ∷ es) lo n h a u =
    let l : lo ≤ e.glyph = a.0 in
    let m : e.glyph < n = u.0 in
    omega (arith, few_entries es (e.glyph + 1) n (omega arith) a.1 u.1)

small_entries : (es : List Entry) (f : ℕ → ℕ) → ((g : ℕ) → f g < 65536) → Under 65536 es → Agrees f es → Small es
small_entries [] f h u a = tt
small_entries (e ∷ es) f h u a = let q : f e.glyph ≡ e.class = a.0 in ((u.0, omega (arith, h e.glyph)), small_entries es f h u.1 a.1)

module _ (s : Store) (t : ℕ) (reads : Reads s t) (octets : Bytes s.bytes) where
  abbrev sh : Shape
  sh = shape s t

  abbrev es : List Entry
  es = entries_of s t

  abbrev l : Layout
  l = layout_of (bytes_of s t)

  fits : Fits s
  fits = sound_fits s reads.sounds

  up : Ascends 0 es
  up = entries_ascend s t reads

  under : Under 65536 es
  under = entries_under s t reads octets

  class_bits : (i : ℕ) → u16_at (linked_bytes s t 8) i < 65536
  class_bits = bytes_u16 (linked_bytes s t 8) (object_bytes_lem s octets (linked_at s t 8))

  pub stored_beside : (lo hi : ℕ) → Beside sh.format lo (within lo hi es)
  stored_beside lo hi =
      record {
        ascending = ascending (map (λ e. e.glyph) (within lo hi es)) (ascends_plain (within lo hi es) 0 (within_ascends lo hi es 0 up));
        countable = λ two. range_runs_few s t reads two lo hi octets;
      }

  header_small : sh.header ≤ 16
  unfolding shape1 shape2
  header_small = by_format (λ sh. sh.header ≤ 16) (bytes_of s t) (λ e. omega arith) (λ e. omega arith)

  table_long : head_of s t + (sh.header + sh.item * sh.count) ≡ tail_of s t
  table_long = omega (arith, reads.exactly, size_bytes s fits t reads.used, (fits.object t reads.used).ordered)

  pub stored_plan : (gs ks cs : List ℕ) → Arranged gs ks cs sh.count es → Places sh.count cs → 0 < length cs → PlannedParts gs ks cs l
  unfolding layout_of
  stored_plan gs ks cs r p some =
      record {
        parts = arranged_parted gs ks cs sh.count es r p some;
        few = omega (arith, r.long, few_entries es 0 65536 (omega arith) up under);
        beside = λ k h.
            subst (λ (x : List Entry). Beside sh.format (low_at cs k) x) (sym (r.entries k h))
            (stored_beside (low_at cs k) (high_at sh.count cs k));
        header = header_small;
        count = count_bits s t octets;
        size = omega (arith, table_long, (fits.object t reads.used).inside, fits.bytes_most);
      }

  -- the table as it stands in the data
  pub stored_table : old_table s.bytes (head_of s t) l ≡ bytes_of s t
  unfolding layout_of bytes_of
  stored_table = ap (part s.bytes (head_of s t)) table_long

  table_before : head_of s t + (l.header + l.item * l.count) ≤ s.byte_count
  unfolding layout_of
  table_before = omega (arith, table_long, (fits.object t reads.used).inside)

  pub stored_old : Old s.bytes (head_of s t) l s.byte_count
  stored_old = record { layout_is = ap layout_of (sym stored_table); before = table_before; inside = fits.bytes_in }

  pub stored_objects : (gs ks cs : List ℕ) → Arranged gs ks cs sh.count es → 0 < length cs
      → objects_of s.bytes (head_of s t) l (paired gs ks) cs ≡ new_of s t cs
  stored_objects gs ks cs r some =
      ap (λ (b : List ℕ). new_objects (shape_of b) b (paired gs ks) cs) stored_table ∙ same_objects gs ks cs es sh (bytes_of s t) r some

  module _ (gs ks cs : List ℕ) (r : Arranged gs ks cs sh.count es) (some : 0 < length cs) where
    pub stored_length : (n : ℕ) → Length l (paired gs ks) cs n → n ≡ length (join (new_of s t cs))
    stored_length n h = h.is (bytes_of s t) refl reads.exactly ∙ ap (λ (x : List (List ℕ)). length (join x)) (same_objects gs ks cs es sh (bytes_of s t) r some)

    pub stored_room : ObjectsRoom s.bytes s.objects s.byte_count s.object_count (new_of s t cs)
        → ObjectsRoom s.bytes s.objects s.byte_count s.object_count (objects_of s.bytes (head_of s t) l (paired gs ks) cs)
    stored_room h = subst (λ (new : List (List ℕ)). ObjectsRoom s.bytes s.objects s.byte_count s.object_count new) (sym (stored_objects gs ks cs r some)) h

    pub stored_written : (d o : List ℕ) (n : ℕ)
        → Written s.bytes s.objects s.byte_count s.object_count (objects_of s.bytes (head_of s t) l (paired gs ks) cs) d o n
        → Written s.bytes s.objects s.byte_count s.object_count (new_of s t cs) d o n
    stored_written d o n h = subst (λ (new : List (List ℕ)). Written s.bytes s.objects s.byte_count s.object_count new d o n) (stored_objects gs ks cs r some) h

  -- ---- how they come to be arranged

  -- format 1: the covered glyphs, each with its place
  pub arranged1 : eqb sh.format 1 ≡ true → (cs : List ℕ) → Arranged (glyphs_of s t) (upto (λ k. k) (length (glyphs_of s t))) cs sh.count es
  arranged1 one cs =
      let gs = glyphs_of s t in
      let h : ℕ → ℕ = λ k. get_or gs k 0 in
      let placed : List Entry = upto (λ k. entry (h k) k) (length gs) in
      subst (λ (x : List Entry). Arranged gs (upto (λ k. k) (length gs)) cs sh.count x) (sym (entries1 s t one))
      (subst (λ (x : List ℕ). Arranged x (upto (λ k. k) (length gs)) cs sh.count placed)
      (map-upto (λ (e : Entry). e.glyph) (λ k. entry (h k) k) (length gs) ∙ upto_get_d gs 0)
      (subst (λ (x : List ℕ). Arranged (map (λ (e : Entry). e.glyph) placed) x cs sh.count placed)
      (map-upto (λ (e : Entry). e.class) (λ k. entry (h k) k) (length gs))
      (places_arranged h (length gs) cs sh.count)))

  module _ (two : eqb sh.format 1 ≡ false) (gs ks cs : List ℕ) (o : ByClass es gs ks) (p : Places sh.count cs) where
    small : Small es
    small = small_entries es (class_of (linked_bytes s t 8)) (class_of_bits (linked_bytes s t 8) class_bits) under (entries_agree s t two)

    -- format 2: what an order by class gives may be put in order by glyph
    pub sorted2 : Sorted gs ks cs sh.count
    sorted2 = sorted_by_item gs ks cs sh.count es o up small p

    pub arranged2 : (gs' ks' : List ℕ) → PartsOrdered gs ks cs sh.count gs' ks' → Arranged gs' ks' cs sh.count es
    arranged2 gs' ks' r = ordered_arranged gs ks cs sh.count es gs' ks' o up small sorted2 r

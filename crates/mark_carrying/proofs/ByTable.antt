-- The marks of a table put together by its cuts, from ascending numbers: their glyphs, or their places. Assumes nothing.
use Rattle.std.specs.Prelude.{Some}
use Prim.Native.Nat.{ℕ, ◌+◌, ◌*◌, ◌≤◌, ◌<◌}
use mathlib.Core.Path.{◌≡◌, sym, ap, ap₂, subst, ◌∙◌}
use mathlib.Core.List.{List, [], ◌∷◌, map}
use native.Mathlib.Omega.{arith}
use lib.ListN.{length, get_or}
use Rattle.folds.specs.Folds.{upto}
use Rattle.folds.specs.Lists.{put, part, Bytes}
use Rattle.folds.proofs.Folds.{length-upto, upto-same}
use Rattle.folds.proofs.FromTheFront.{upto-at}
use Rattle.folds.proofs.Moved.{map-upto}
use Rattle.folds.proofs.Each.{each_upto}
use Rattle.folds.proofs.Parts.{part_at}
use Rattle.folds.proofs.Fronts.{front_long, back, front_again}
use Rattle.ot_layouts.specs.Coverage.{Entry, plain, Ascends, coverage_of, cover_glyphs}
use Rattle.ot_layouts.specs.MarkBasePos.{mark_class}
use Rattle.ot_layouts.proofs.Entries.{ascends_plain}
use Rattle.ot_layouts.proofs.Octets.{bytes_u16}
use Rattle.ot_layouts.proofs.RunStarts.{entry}
use Rattle.ot_ranges.proofs.Ascending.{ascends, ascending, apart}
use Rattle.store_rules.specs.Store.{Store, bytes_of}
use Rattle.store_rules.proofs.Bytes.{object_bytes_lem}
use Rattle.store_reader.specs.Rows.{Inside}
use Rattle.glyph_parts.proofs.Parts.{part-inside}
use Rattle.glyph_parts.proofs.Covered.{glyphs_ready, glyphs_written}
use Rattle.glyph_sort.specs.ByClass.{ByClass}
use Rattle.cut_rules.specs.Places.{Places}
use Rattle.cut_parts.specs.Order.{Sorted, PartsOrdered, Arranged}
use Rattle.cut_parts.proofs.Keys.{Small}
use Rattle.cut_parts.proofs.Arranging.{sorted_by_item, ordered_arranged}
use Rattle.mark_rules.specs.Table.{classes_of, glyphs_of, mark_array, mark_bytes, marks_in, marks_of}
use Rattle.mark_rules.specs.Reads.{Reads}
use Rattle.mark_checks.specs.declared.MarkTable.{MarkTable}
use Rattle.mark_checks.specs.Opens.{Opens}
use Rattle.mark_checks.proofs.Opened.{same_marks, marks_long_lem, marks_are}
use Rattle.mark_order.specs.Marks.{entries_by}
use Rattle.mark_order.proofs.Entries.{numbers_are}
use Rattle.mark_new_objects.specs.Marks.{entries_from}
use Rattle.mark_new_objects.proofs.Stored.{entries_are, stored_ascend}
use Rattle.mark_order.specs.Marks.{mark_places}
use Rattle.mark_carrying.specs.Arranging.{MarksNumbered, Arranging}

-- ---- ascending numbers of the marks of an array

-- entries ascend as their glyphs do
plain_ascends : (es : List Entry) (lo : ℕ) → Ascends lo (plain (map (λ e. e.glyph) es)) → Ascends lo es
plain_ascends [] lo a = tt
plain_ascends (e ∷ es) lo a = (a.0, plain_ascends es (e.glyph + 1) a.1)

module _ {b xs ks set cs : List ℕ} {n : ℕ} (k : MarksNumbered b xs ks set cs n) (octets : Bytes b) (bits : (i : ℕ) → get_or xs i 0 < 65536) where
  abbrev es : List Entry
  es = entries_by b xs

  up : Ascends 0 es
  up =
      plain_ascends es 0
      (subst (λ (x : List ℕ). Ascends 0 (plain x)) (sym (numbers_are b xs)) (ascends xs (λ i l. k.rising i (i + 1) (omega arith) l)))

  small : Small es
  unfolding entries_by
  small =
      each_upto (λ (e : Entry). (e.glyph < 65536) × (e.class < 65536)) (λ i. entry (get_or xs i 0) (mark_class b i)) (length xs)
      (λ i l. (bits i, bytes_u16 b octets (2 + 4 * i)))

  module _ {gs hs : List ℕ} (o : ByClass es gs hs) where
    pub by_class_lem : Sorted gs hs cs n
    by_class_lem = sorted_by_item gs hs cs n es o up small k.places

    pub by_parts : {gs' hs' : List ℕ} → PartsOrdered gs hs cs n gs' hs' → Arranged gs' hs' cs n es
    by_parts {gs'} {hs'} r = ordered_arranged gs hs cs n es gs' hs' o up small by_class_lem r

-- mark i has number f i
entries_by_lem : (b xs : List ℕ) (f : ℕ → ℕ) (m : ℕ) → length xs ≡ m → ((i : ℕ) → i < m → get_or xs i 0 ≡ f i)
    → entries_by b xs ≡ upto (λ i. entry (f i) (mark_class b i)) m
unfolding entries_by
entries_by_lem b xs f m long is =
    ap (upto (λ i. entry (get_or xs i 0) (mark_class b i))) long
    ∙ upto-same (λ i. entry (get_or xs i 0) (mark_class b i)) (λ i. entry (f i) (mark_class b i)) m
    (λ i l. ap (λ (g : ℕ). entry g (mark_class b i)) (is i l))

-- ---- of a table that is open

-- its marks under the numbers f, each with its class
abbrev marks_by : Store → ℕ → (ℕ → ℕ) → List Entry
marks_by s t f = upto (λ i. entry (f i) (mark_class (mark_bytes s t) i)) (marks_in s t)

module _ {s : Store} {t : ℕ} {p : MarkTable} {many : ℕ} {xs ks set cs : List ℕ} (k : Arranging s t p many xs ks set cs) where
  abbrev o : Opens s t p
  o = k.opens

  pub coverage_inside : Inside (length s.bytes) s.objects p.coverage.object
  coverage_inside = part-inside o.reads.sounds o.coverage

  -- lists of numbers f, which ascend
  module _ {b : List ℕ} (e : b ≡ bytes_of s p.marks.object) (ns : List ℕ) (f : ℕ → ℕ) (long : length ns ≡ p.marks.count)
      (is : (i : ℕ) → i < marks_in s t → get_or ns i 0 ≡ f i) where
    numbered : ((i j : ℕ) → i < j → j < marks_in s t → f i < f j) → MarksNumbered b ns ks set cs p.classes
    numbered rise =
        record {
          same = k.classes ∙ sym long;
          long = omega (arith, long, marks_are o, ap length e, marks_long_lem o);
          rising = λ i j h l.
              let low : j < marks_in s t = omega (arith, long, marks_are o) in
              omega (arith, is i (omega arith), is j low, rise i j h low);
          scratch = k.scratch;
          places = subst (λ (n : ℕ). Places n cs) (sym o.classes) k.places;
        }

    same_entries : entries_by b ns ≡ marks_by s t f
    same_entries =
        entries_by_lem b ns f (marks_in s t) (long ∙ marks_are o) is
        ∙ ap (λ (x : List ℕ). upto (λ i. entry (f i) (mark_class x i)) (marks_in s t)) (e ∙ same_marks o)

    arranged : {ns' ks' : List ℕ} → Arranged ns' ks' cs p.classes (entries_by b ns) → Arranged ns' ks' cs (classes_of s t) (marks_by s t f)
    arranged {ns'} {ks'} h =
        subst (λ (es : List Entry). Arranged ns' ks' cs (classes_of s t) es) same_entries
        (subst (λ (n : ℕ). Arranged ns' ks' cs n (entries_by b ns)) o.classes h)

-- ---- by their glyphs

module _ (s : Store) (t : ℕ) (reads : Reads s t) (octets : Bytes s.bytes) where
  abbrev stored : List Entry
  stored = entries_from (marks_of s t)

  abbrev glyph_at : ℕ → ℕ
  glyph_at i = get_or (glyphs_of s t) i 0

  numbers : map (λ (e : Entry). e.glyph) stored ≡ upto glyph_at (marks_in s t)
  numbers =
      ap (map (λ (e : Entry). e.glyph)) (entries_are s t reads octets)
      ∙ map-upto (λ (e : Entry). e.glyph) (λ i. entry (glyph_at i) (mark_class (mark_bytes s t) i)) (marks_in s t)

  number_at : (i : ℕ) → i < marks_in s t → get_or (map (λ (e : Entry). e.glyph) stored) i 0 ≡ glyph_at i
  number_at i l = ap (λ (x : List ℕ). get_or x i 0) numbers ∙ upto-at glyph_at (marks_in s t) i 0 l

  glyphs_rise : (i j : ℕ) → i < j → j < marks_in s t → glyph_at i < glyph_at j
  glyphs_rise i j h l =
      let gs : List ℕ = map (λ (e : Entry). e.glyph) stored in
      let long : length gs ≡ marks_in s t = ap length numbers ∙ length-upto glyph_at (marks_in s t) in
      let up = ascending gs (ascends_plain stored 0 (stored_ascend s t reads octets)) in
      omega (arith, apart gs up i j h (omega arith), number_at i (omega arith), number_at j l)

-- the marks' are among the covered ones
pub marks_room : {s : Store} {t : ℕ} {p : MarkTable} {gs ks set cs : List ℕ} → Arranging s t p p.glyphs gs ks set cs → p.marks.count ≤ length gs
marks_room k = omega (arith, k.numbers, k.opens.glyphs, marks_are k.opens, k.opens.reads.enough)

module _ {s : Store} {t : ℕ} {p : MarkTable} {gs ks set cs : List ℕ} (k : Arranging s t p p.glyphs gs ks set cs) (octets : Bytes s.bytes)
    {d : List ℕ} (c : d ≡ bytes_of s p.coverage.object) where
  room : length gs ≡ length (glyphs_of s t)
  room = k.numbers ∙ k.opens.glyphs

  pub cover_ready : (coverage_of d ≡ Some p.coverage.header) × (length (cover_glyphs d) ≤ length gs)
  cover_ready = glyphs_ready k.opens.coverage c gs room

  module _ {gs' : List ℕ} (f : gs' ≡ put gs 0 (cover_glyphs d)) where
    written : gs' ≡ glyphs_of s t
    written = glyphs_written k.opens.coverage c gs room f

    pub marks_few : p.marks.count ≤ length gs'
    marks_few = omega (arith, marks_room k, room, ap length written)

    front_at : (i : ℕ) → i < marks_in s t → get_or (part gs' 0 p.marks.count) i 0 ≡ get_or (glyphs_of s t) i 0
    front_at i l =
        let z : 0 + i ≡ i = omega arith in
        part_at gs' 0 p.marks.count i (omega (arith, marks_are k.opens))
        ∙ ap₂ (λ (x : List ℕ) (j : ℕ). get_or x j 0) written z

    front_many : length (part gs' 0 p.marks.count) ≡ p.marks.count
    front_many = front_long gs' p.marks.count marks_few

    module _ {b : List ℕ} (e : b ≡ bytes_of s p.marks.object) where
      pub glyphs_numbered : MarksNumbered b (part gs' 0 p.marks.count) ks set cs p.classes
      glyphs_numbered =
          numbered k e (part gs' 0 p.marks.count) (λ i. get_or (glyphs_of s t) i 0) front_many front_at (glyphs_rise s t k.opens.reads octets)

      pub glyphs_arranged : {ns ks' : List ℕ} → length ns ≡ length (part gs' 0 p.marks.count)
          → Arranged ns ks' cs p.classes (entries_by b (part gs' 0 p.marks.count))
          → Arranged (part (back gs' p.marks.count ns) 0 p.marks.count) ks' cs (classes_of s t) (entries_from (marks_of s t))
      glyphs_arranged {ns} {ks'} same h =
          subst (λ (x : List ℕ). Arranged x ks' cs (classes_of s t) (entries_from (marks_of s t))) (sym (front_again gs' p.marks.count marks_few ns same))
          (subst (λ (es : List Entry). Arranged ns ks' cs (classes_of s t) es) (sym (entries_are s t k.opens.reads octets))
          (arranged k e (part gs' 0 p.marks.count) (λ i. get_or (glyphs_of s t) i 0) front_many front_at h))

-- ---- by their places

module _ {s : Store} {t : ℕ} {p : MarkTable} {ps ks set cs : List ℕ} (k : Arranging s t p p.marks.count ps ks set cs) where
  pub few_places : Bytes s.bytes → length ps ≤ 65536
  few_places octets = omega (arith, k.numbers, marks_are k.opens, bytes_u16 (mark_bytes s t) (object_bytes_lem s octets (mark_array s t)) 0)

  module _ {ps' : List ℕ} (f : ps' ≡ upto (λ i. i) (length ps)) where
    place_at : (i : ℕ) → i < marks_in s t → get_or ps' i 0 ≡ i
    place_at i l = ap (λ (x : List ℕ). get_or x i 0) f ∙ upto-at (λ i. i) (length ps) i 0 (omega (arith, k.numbers, marks_are k.opens))

    places_many : length ps' ≡ p.marks.count
    places_many = ap length f ∙ length-upto (λ i. i) (length ps) ∙ k.numbers

    module _ {b : List ℕ} (e : b ≡ bytes_of s p.marks.object) where
      pub places_numbered : MarksNumbered b ps' ks set cs p.classes
      places_numbered = numbered k e ps' (λ i. i) places_many place_at (λ i j h l. h)

      pub places_arranged : {ns ks' : List ℕ} → Arranged ns ks' cs p.classes (entries_by b ps') → Arranged ns ks' cs (classes_of s t) (mark_places s t)
      places_arranged h = arranged k e ps' (λ i. i) places_many place_at h

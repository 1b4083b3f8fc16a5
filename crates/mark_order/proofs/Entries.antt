-- The entries' classes and numbers, one after another. Assumes nothing.
use Prim.Native.Nat.{ℕ, ◌+◌, ◌≤◌, ◌<◌}
use mathlib.Core.Path.{◌≡◌, sym, ap, ap₂, subst, ◌∙◌}
use mathlib.Core.List.{List, map}
use native.Mathlib.Omega.{arith}
use lib.ListN.{length, get_or}
use Rattle.folds.specs.Folds.{upto, run}
use Rattle.folds.specs.Ascending.{ascending}
use Rattle.folds.proofs.FromTheFront.{upto-at, upto_get_d}
use Rattle.folds.proofs.Folds.{length-upto, upto-same}
use Rattle.folds.proofs.Moved.{map-upto}
use Rattle.ot_layouts.specs.Coverage.{Entry}
use Rattle.ot_layouts.specs.MarkBasePos.{mark_class}
use Rattle.ot_layouts.proofs.CoverageGlyphs.{Sorted, sorted_run, sorted_ascends, sorted_under}
use Rattle.glyph_class_parts.specs.ClassParts.{OrderedByClass}
use Rattle.glyph_sort.specs.Pairs.{pairs, keys_of, beside_of}
use Rattle.glyph_sort.specs.ByClass.{ByClass, class_pairs}
use Rattle.mark_order.specs.Marks.{entries_by, places_by}

module _ (b xs : List ℕ) where
  pub classes_are : map (λ (e : Entry). e.class) (entries_by b xs) ≡ upto (mark_class b) (length xs)
  unfolding entries_by
  classes_are = map-upto (λ (e : Entry). e.class) (λ i. record { glyph = get_or xs i 0; class = mark_class b i }) (length xs)

  pub numbers_are : map (λ (e : Entry). e.glyph) (entries_by b xs) ≡ xs
  unfolding entries_by
  numbers_are = map-upto (λ (e : Entry). e.glyph) (λ i. record { glyph = get_or xs i 0; class = mark_class b i }) (length xs) ∙ upto_get_d xs 0

  -- what a sort by class leaves of them
  pub in_class_order : {ks xs' ks' : List ℕ} → ks ≡ upto (mark_class b) (length xs) → ks' ≡ keys_of (ascending (pairs ks xs))
      → xs' ≡ beside_of (ascending (pairs ks xs)) → ByClass (entries_by b xs) xs' ks'
  unfolding class_pairs
  in_class_order {ks} e k g =
      let same : pairs ks xs ≡ pairs (map (λ (x : Entry). x.class) (entries_by b xs)) (map (λ (x : Entry). x.glyph) (entries_by b xs)) =
      ap₂ pairs (e ∙ sym classes_are) (sym numbers_are) in
      record { glyphs = g ∙ ap (λ (z : List ℕ). beside_of (ascending z)) same; classes = k ∙ ap (λ (z : List ℕ). keys_of (ascending z)) same }

-- ---- numbered by their places

module _ (b : List ℕ) (n : ℕ) where
  abbrev numbers : List ℕ
  numbers = upto (λ k. k) n

  numbered : (i : ℕ) → i < n → get_or numbers i 0 ≡ i
  numbered i h = upto-at (λ k. k) n i 0 h

  pub places_ascend_lem : {xs : List ℕ} → xs ≡ numbers → (i j : ℕ) → i < j → j < length xs → get_or xs i 0 < get_or xs j 0
  places_ascend_lem e i j h l =
      let inside : j < n = omega (arith, ap length e, length-upto (λ (k : ℕ). k) n) in
      rw e (omega (arith, numbered i (omega arith), numbered j inside))

  places_are : entries_by b numbers ≡ places_by b n
  unfolding entries_by
  places_are =
      ap (upto (λ i. record { glyph = get_or numbers i 0; class = mark_class b i })) (length-upto (λ (k : ℕ). k) n)
      ∙ upto-same (λ i. record { glyph = get_or numbers i 0; class = mark_class b i }) (λ i. record { glyph = i; class = mark_class b i }) n
      (λ j h. ap (λ (x : ℕ). record { glyph = x; class = mark_class b j }) (numbered j h))

  pub by_places : {xs ys ks : List ℕ} → xs ≡ numbers → ByClass (entries_by b xs) ys ks → ByClass (places_by b n) ys ks
  by_places {ys = ys} {ks = ks} e y = subst (λ (es : List Entry). ByClass es ys ks) (ap (entries_by b) e ∙ places_are) y

  places_sorted : Sorted 0 (0 + n) (map (λ e. e.glyph) (places_by b n))
  places_sorted =
      let glyphs = map-upto (λ (e : Entry). e.glyph) (λ i. record { glyph = i; class = mark_class b i }) n in
      let same : map (λ e. e.glyph) (places_by b n) ≡ run 0 n = glyphs ∙ upto-same (λ k. k) (λ k. 0 + k) n (λ j h. omega arith) in
      subst (Sorted 0 (0 + n)) (sym same) (sorted_run 0 n)

  -- the places ascend, and are below 65,536
  pub places_in_order : n ≤ 65536 → {ps cs : List ℕ} → ByClass (places_by b n) ps cs → OrderedByClass (places_by b n) ps cs
  places_in_order few y =
      record {
        up = sorted_ascends (places_by b n) 0 (0 + n) places_sorted;
        under = sorted_under (places_by b n) 0 (0 + n) 65536 (omega arith) places_sorted;
        by_class = y;
      }

-- What is copied is what is to be written. Assumes nothing.
use Prim.Native.Nat.{ℕ, zero, suc, ◌+◌, ◌-◌, ◌*◌, ◌<◌}
use mathlib.Core.Path.{◌≡◌, refl, sym, ap, ap₂, ◌∙◌}
use mathlib.Core.Bool.{Bool}
use mathlib.Core.List.{List, [], ◌∷◌, ◌++◌, map}
use native.Mathlib.Nat.{not-suc-le-zero}
use native.Mathlib.Omega.{arith}
use lib.ListN.{length, get_or}
use Rattle.folds.specs.Folds.{flat}
use Rattle.folds.proofs.FromTheFront.{flat-same}
use Rattle.folds.proofs.Moved.{length-map}
use Rattle.folds.proofs.Picked.{picked, sift-upto, map-picked}
use Rattle.ot_layouts.specs.Coverage.{Entry}
use Rattle.ot_layouts.specs.MarkBasePos.{cover_at, base_cover_at, mark_array_at, base_array_at, own, heads, mark_class, mark_slot, base_slot}
use Rattle.glyph_rules.specs.Entries as entries
use Rattle.store_rules.specs.Store.{Store, Link, links_of, lookup, child_at, linked_at}
use Rattle.store_rules.specs.Appended.{link, new_number}
use Rattle.store_rules.specs.Header.{own_child, header_links}
use Rattle.store_rules.specs.SlotLinks.{slot_link, slot_links}
use Rattle.cut_rules.specs.Ranges.{from, to}
use Rattle.cut_parts.proofs.Arranging.{kept_same, new_same}
use Rattle.mark_rules.specs.Table.{Mark, in_classes, classes_of, mark_bytes, marks_in, mark_at, marks_of, mark_anchor, marks_within, base_anchor}
use Rattle.mark_rules.specs.Written.{no_mark, per_table, mark_links, base_links, array_links, table_links, fresh_links}
use Rattle.mark_arrays.specs.declared.Arrays.{Arrays}
use Rattle.mark_links.specs.Copies.{old_slot, mark_copies, base_copies, array_copies, table_copies}
use Rattle.mark_order.specs.Marks.{mark_places}
use Rattle.mark_links.specs.Splitting.{places_in, table_turn, tables_copies, new_copies, Splitting}

mapped_at : {A B : Type 0} (f : A → B) (xs : List A) (k : ℕ) (d : A) (e : B) → k < length xs → get_or (map f xs) k e ≡ f (get_or xs k d)
mapped_at f [] k d e l = absurd (not-suc-le-zero l)
mapped_at f (x ∷ xs) zero d e l = refl
mapped_at f (x ∷ xs) (suc k) d e l = mapped_at f xs k d e (omega arith)

module _ (s : Store) (t : ℕ) (a : Arrays) (ps ks cs : List ℕ) (g : Splitting s t a ps ks cs) where
  -- ---- the marks of a range

  -- mark i is one of them
  abbrev inside : ℕ → ℕ → ℕ → Bool
  inside lo hi i = in_classes lo hi (mark_class (mark_bytes s t) i)

  -- their places
  abbrev places : ℕ → ℕ → List ℕ
  places lo hi = picked (inside lo hi) (λ i. i) (marks_in s t)

  marks_placed : (lo hi : ℕ) → marks_within lo hi (marks_of s t) ≡ map (mark_at s t) (places lo hi)
  unfolding marks_within marks_of mark_at
  marks_placed lo hi =
      sift-upto (λ m. in_classes lo hi m.class) (mark_at s t) (marks_in s t) ∙ sym (map-picked (mark_at s t) (inside lo hi) (λ i. i) (marks_in s t))

  entries_placed : (lo hi : ℕ) → map (λ (e : Entry). e.glyph) (entries.within lo hi (mark_places s t)) ≡ places lo hi
  unfolding entries.within
  entries_placed lo hi =
      let entry_at : ℕ → Entry = λ i. record { glyph = i; class = mark_class (mark_bytes s t) i } in
      ap (map (λ (e : Entry). e.glyph)) (sift-upto (λ e. in_classes lo hi e.class) entry_at (marks_in s t))
      ∙ map-picked (λ (e : Entry). e.glyph) (inside lo hi) entry_at (marks_in s t)

  kept_placed : places_in ps ks 0 (from cs 0) ≡ places 0 (from cs 0)
  kept_placed =
      ap (map (λ (e : Entry). e.glyph)) (kept_same ps ks cs (classes_of s t) (mark_places s t) g.arranged g.some) ∙ entries_placed 0 (from cs 0)

  new_placed : (j : ℕ) → j < length cs → places_in ps ks (from cs j) (to (classes_of s t) cs j) ≡ places (from cs j) (to (classes_of s t) cs j)
  new_placed j h =
      ap (map (λ (e : Entry). e.glyph)) (new_same ps ks cs (classes_of s t) (mark_places s t) g.arranged j h)
      ∙ entries_placed (from cs j) (to (classes_of s t) cs j)

  -- ---- the links of its arrays

  anchor_at : (xs : List ℕ) (k : ℕ) → k < length xs
      → (get_or (map (mark_at s t) xs) k no_mark).anchor ≡ lookup (links_of s) a.mark_array (mark_slot (get_or xs k 0))
  unfolding mark_at mark_anchor child_at
  anchor_at xs k l =
      ap (λ (m : Mark). m.anchor) (mapped_at (mark_at s t) xs k 0 no_mark l)
      ∙ ap (λ (p : ℕ). lookup (links_of s) p (mark_slot (get_or xs k 0))) (sym g.mark_array_is)

  same_marks : (p lo hi : ℕ) → mark_links s t p lo hi ≡ mark_copies (links_of s) a.mark_array (places lo hi) p
  unfolding mark_links mark_copies slot_links
  same_marks p lo hi =
      let at : List Mark → ℕ → List Link = λ ms k. slot_link p (mark_slot 0 + 4 * k) (get_or ms k no_mark).anchor in
      let xs = places lo hi in
      ap (λ (ms : List Mark). flat (at ms) (length ms)) (marks_placed lo hi)
      ∙ ap (flat (at (map (mark_at s t) xs))) (length-map (mark_at s t) xs)
      ∙ flat-same (at (map (mark_at s t) xs))
      (λ k. slot_link p (mark_slot 0 + 4 * k) (lookup (links_of s) a.mark_array (mark_slot (get_or xs k 0)))) (length xs)
      (λ k l. ap (slot_link p (mark_slot 0 + 4 * k)) (anchor_at xs k l))

  same_bases : (p lo hi : ℕ) → base_links s t p lo hi ≡ base_copies (links_of s) a.base_array a.bases a.classes lo hi p
  unfolding base_links base_copies base_anchor child_at
  same_bases p lo hi =
      λ i.
      slot_links p (base_slot 0) 2 (λ k. lookup (links_of s) (sym g.base_array_is i) (base_slot (old_slot (sym g.classes_is i) lo (hi - lo) k)))
      (sym g.bases_is i * (hi - lo))

  same_arrays : (p lo hi : ℕ) → array_links s t p lo hi ≡ array_copies (links_of s) a (places lo hi) lo hi p
  unfolding array_links array_copies
  same_arrays p lo hi = ap₂ (λ (x y : List Link). x ++ y) (same_marks p lo hi) (same_bases (p + 1) lo hi)

  -- ---- of a new table, and of all

  same_header : (u : ℕ) → header_links own heads u (linked_at s t) ≡ header_links own heads u (λ q. a.base_coverage)
  unfolding header_links own_child
  same_header u =
      ap (λ (c : ℕ). link u cover_at (u + 1) ∷ link u base_cover_at c ∷ link u mark_array_at (u + 1 + 1) ∷ link u base_array_at (u + 1 + 1 + 1) ∷ [])
      (sym g.base_cover_is)

  same_table : (u lo hi : ℕ) → table_links s t u lo hi ≡ table_copies (links_of s) a (places lo hi) lo hi u
  unfolding table_links table_copies
  same_table u lo hi = ap₂ (λ (x y : List Link). x ++ y) (same_header u) (same_arrays (u + 2) lo hi)

  same_turn : (j : ℕ) → j < length cs
      → table_links s t (new_number s per_table j) (from cs j) (to (classes_of s t) cs j) ≡ table_turn a ps ks cs s.object_count (links_of s) j
  same_turn j h =
      let u = new_number s per_table j in
      let lo = from cs j in
      same_table u lo (to (classes_of s t) cs j)
      ∙ ap (λ (xs : List ℕ). table_copies (links_of s) a xs lo (to (classes_of s t) cs j) u) (sym (new_placed j h))
      ∙ ap (λ (n : ℕ). table_copies (links_of s) a (places_in ps ks lo (to n cs j)) lo (to n cs j) u) (sym g.classes_is)

  pub same_links : fresh_links s t cs ≡ new_copies (links_of s) a ps ks cs s.object_count
  unfolding fresh_links new_copies tables_copies
  same_links =
      let p = new_number s per_table (length cs) + 1 in
      let table : ℕ → List Link = λ j. table_links s t (new_number s per_table j) (from cs j) (to (classes_of s t) cs j) in
      ap₂ (λ (x y : List Link). x ++ y)
      (flat-same table (table_turn a ps ks cs s.object_count (links_of s)) (length cs) same_turn)
      (same_arrays p 0 (from cs 0) ∙ ap (λ (xs : List ℕ). array_copies (links_of s) a xs 0 (from cs 0) p) (sym kept_placed))

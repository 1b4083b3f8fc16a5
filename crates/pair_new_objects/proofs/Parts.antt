-- Writing what stands beside a table: what each step may do, and what they leave together. Assumes nothing.
use Prim.Native.Nat.{ℕ, ◌+◌, ◌*◌, ◌<◌, ◌≤◌}
use mathlib.Core.Path.{◌≡◌, sym, subst, ap, ap₂, ◌∙◌}
use mathlib.Core.Bool.{cond}
use mathlib.Core.List.{List, [], ◌∷◌}
use native.Mathlib.Omega.{arith}
use lib.ListN.{length, get_or}
use lib.Dec.{eqb}
use borrow.Author.Tests.{eq-eqb, ne_eqb}
use Rattle.folds.specs.Lists.{put, join}
use Rattle.folds.proofs.Tests.{by_test}
use Rattle.folds.proofs.Moved.{length-map}
use Rattle.ot_layouts.specs.Coverage.{Entry, coverage_bytes, runs}
use Rattle.ot_layouts.specs.ClassDef.{named, class_def_bytes}
use Rattle.ot_layouts.proofs.CoverageLength.{cover_length}
use Rattle.ot_coverage_writer.proofs.Counts.{at_most}
use Rattle.ot_ranges.specs.Ascending.{Ascending}
use Rattle.glyph_rules.specs.Entries.{reduced}
use Rattle.ot_class_def_writer.specs.Entries.{reduced_entries}
use Rattle.cut_parts.specs.Tables.{paired}
use Rattle.cut_parts.proofs.Parting.{paired_glyphs, length-paired}
use Rattle.store_object_rows.specs.Objects.{ObjectsRoom, Written}
use Rattle.folds.proofs.Joining.{join_one, join_two}
use Rattle.store_object_rows.proofs.Writing.{written_one, one_fits, one_row, one_small, rest_room, rest_done}
use Rattle.pair_new_objects.specs.Planned.{Beside}
use Rattle.pair_new_objects.specs.Objects.{parts_of}
use Rattle.pair_new_objects.proofs.Beside.{parts_one, parts_two, paired_reduced, class_def_short}

module _ (gs ks : List ℕ) (f lo : ℕ) (same : length ks ≡ length gs) where
  -- the class definition in format 2
  abbrev rest : List (List ℕ)
  rest = cond (eqb f 1) [] (class_def_bytes (reduced_entries gs ks lo) ∷ [])

  pub parts_are : parts_of f (paired gs ks) lo ≡ coverage_bytes gs ∷ rest
  parts_are =
      by_test (eqb f 1)
      (λ e. parts_one f (paired gs ks) lo e ∙ rw e (ap (λ (x : List ℕ). coverage_bytes x ∷ []) (paired_glyphs gs ks same)))
      (λ e.
      parts_two f (paired gs ks) lo e
      ∙ rw e (ap₂ (λ (x : List ℕ) (y : List Entry). coverage_bytes x ∷ class_def_bytes y ∷ []) (paired_glyphs gs ks same) (sym (paired_reduced gs ks lo))))

  rest_none : f ≡ 1 → rest ≡ []
  rest_none e = rw (eq-eqb f 1 e)

  rest_class : (f ≡ 1 → ⊥) → rest ≡ class_def_bytes (reduced_entries gs ks lo) ∷ []
  rest_class e = rw (ne_eqb f 1 e)

  pub one_length : (r : ℕ) → f ≡ 1 → r ≡ length (coverage_bytes gs) → r ≡ length (join (parts_of f (paired gs ks) lo))
  one_length r e q =
      q
      ∙ sym
      (ap (λ (x : List (List ℕ)). length (join x)) (parts_are ∙ ap (λ (x : List (List ℕ)). coverage_bytes gs ∷ x) (rest_none e))
      ∙ join_one (coverage_bytes gs))

  pub two_length : (m n : ℕ) → (f ≡ 1 → ⊥) → m ≡ length (coverage_bytes gs) → n ≡ length (class_def_bytes (reduced_entries gs ks lo))
      → m + n ≡ length (join (parts_of f (paired gs ks) lo))
  two_length m n e q r =
      ap₂ (λ (x y : ℕ). x + y) q r
      ∙ sym
      (ap (λ (x : List (List ℕ)). length (join x)) (parts_are ∙ ap (λ (x : List (List ℕ)). coverage_bytes gs ∷ x) (rest_class e))
      ∙ join_two (coverage_bytes gs) (class_def_bytes (reduced_entries gs ks lo)))

  module _ (k : Beside f lo (paired gs ks)) where
    pub glyphs_ascend : Ascending gs
    glyphs_ascend = subst (λ (x : List ℕ). Ascending x) (paired_glyphs gs ks same) k.ascending

    -- both are short
    pub both_small : ((i : ℕ) → get_or gs i 0 < 65536) → (m n : ℕ) → m ≡ length (coverage_bytes gs)
        → n ≡ length (class_def_bytes (reduced_entries gs ks lo)) → m + n ≤ 524296
    both_small bits m n q r =
        let z : length (reduced lo (paired gs ks)) ≡ length (paired gs ks) = length-map _ (paired gs ks) in
        omega (
          arith,
          at_most gs glyphs_ascend bits,
          (cover_length gs).1,
          class_def_short (reduced_entries gs ks lo),
          ap length (paired_reduced gs ks lo),
          length-paired gs ks same,
        )

    runs_few : (f ≡ 1 → ⊥) → length (runs (named (reduced_entries gs ks lo))) < 65536
    runs_few e = subst (λ (es : List Entry). length (runs (named es)) < 65536) (sym (paired_reduced gs ks lo)) (k.countable (ne_eqb f 1 e))

    module _ (d o : List ℕ) (at row : ℕ) (room : ObjectsRoom d o at row (parts_of f (paired gs ks) lo)) where
      whole : ObjectsRoom d o at row (coverage_bytes gs ∷ rest)
      whole = subst (λ (new : List (List ℕ)). ObjectsRoom d o at row new) parts_are room

      pub cover_ready : Ascending gs × (at + length (coverage_bytes gs) ≤ length d)
      cover_ready = (glyphs_ascend, one_fits (coverage_bytes gs) rest whole)

      pub middle_small : (middle : ℕ) → middle ≡ at + length (coverage_bytes gs) → middle < 4294967296
      middle_small middle q = one_small (coverage_bytes gs) rest whole q

      pub row_inside : 2 * row + 1 < length o
      row_inside = one_row (coverage_bytes gs) rest whole

      module _ (d' o' : List ℕ) (middle : ℕ) (e : (d' ≡ put d at (coverage_bytes gs)) × (middle ≡ at + length (coverage_bytes gs)))
          (g : o' ≡ put o (2 * row) (at ∷ middle ∷ [])) where
        pub one_done : f ≡ 1 → Written d o at row (parts_of f (paired gs ks) lo) d' o' middle
        one_done q =
            subst (λ (new : List (List ℕ)). Written d o at row new d' o' middle)
            (sym (parts_are ∙ ap (λ (x : List (List ℕ)). coverage_bytes gs ∷ x) (rest_none q)))
            (written_one (coverage_bytes gs) e.0 g e.1)

        module _ (two : f ≡ 1 → ⊥) where
          abbrev definition : List ℕ
          definition = class_def_bytes (reduced_entries gs ks lo)

          class_room : ObjectsRoom d' o' middle (row + 1) (definition ∷ [])
          class_room =
              subst (λ (new : List (List ℕ)). ObjectsRoom d' o' middle (row + 1) new) (rest_class two) (rest_room (coverage_bytes gs) rest whole e.0 g e.1)

          pub class_ready : (length ks ≡ length gs)
              × (Ascending gs × ((length (runs (named (reduced_entries gs ks lo))) < 65536) × (middle + length definition ≤ length d')))
          class_ready = (same, (glyphs_ascend, (runs_few two, one_fits definition [] class_room)))

          pub end_small : (end : ℕ) → end ≡ middle + length definition → end < 4294967296
          end_small end q = one_small definition [] class_room q

          pub next_inside : 2 * (row + 1) + 1 < length o'
          next_inside = one_row definition [] class_room

          pub two_done : (d'' o'' : List ℕ) (end : ℕ) → (d'' ≡ put d' middle definition) × (end ≡ middle + length definition)
              → o'' ≡ put o' (2 * (row + 1)) (middle ∷ end ∷ [])
              → Written d o at row (parts_of f (paired gs ks) lo) d'' o'' end
          two_done d'' o'' end q h =
              subst (λ (new : List (List ℕ)). Written d o at row new d'' o'' end) (sym parts_are)
              (rest_done (coverage_bytes gs) rest whole e.0 g e.1
              (subst (λ (new : List (List ℕ)). Written d' o' middle (row + 1) new d'' o'' end) (sym (rest_class two)) (written_one definition q.0 h q.1)))

-- Each resulting table of two or more classes fits, together with its parts and all that its anchors reach. Assumes nothing.
use Rattle.std.specs.Prelude.{Some}
use Prim.Native.Nat.{ℕ, ◌+◌, ◌-◌, ◌*◌, ◌≤◌}
use mathlib.Core.Path.{◌≡◌, sym, ap, ◌∙◌}
use mathlib.Core.Bool.{true}
use mathlib.Core.List.{List, map}
use native.Mathlib.Nat.{mul_assoc}
use native.Mathlib.Omega.{arith}
use lib.ListN.{length, get_or}
use Rattle.folds.proofs.Moved.{length-map}
use Rattle.ot_layouts.specs.MarkBasePos.{cover_at, base_cover_at, table_size}
use Rattle.ot_layouts.proofs.CoverageLength.{cover_length}
use Rattle.store_rules.specs.Store.{Store, bytes_of, child_at, size_of, linked_at}
use Rattle.store_rules.proofs.Sound.{size_bytes}
use Rattle.store_rules.proofs.Lookups.{child_used_lem, linked_is}
use Rattle.cut_rules.specs.Measure.{table_fits}
use Rattle.cut_rules.proofs.CutPlaces.{lo_at}
use Rattle.cut_rules.proofs.TablesUncut.{range_fits}
use Rattle.cut_rules.proofs.Totals.{table_total}
use Rattle.call_rules.specs.Settings.{second_edition}
use Rattle.mark_rules.specs.Rules.{mark_rule}
use Rattle.mark_rules.specs.Table.{Mark, classes_of, bases_in, mark_array, base_array, marks_of, marks_within, rule_of}
use Rattle.mark_rules.specs.Written.{new_coverage, split_store}
use Rattle.mark_rules.proofs.NewArrays.{array_long, base_long}
use Rattle.mark_rules.proofs.Measured.{class_marks, classes_reach, classes_take, totals, beside_marks}
use Rattle.promise_marks.proofs.Ready.{Ready}
use Rattle.promise_marks.proofs.StaysSound.{fits_then_lem}
use Rattle.promise_marks.proofs.SameReach.{reach_same}
use Rattle.mark_fits.specs.Together.{reached_by_classes, marks_together}
use Rattle.mark_fits.specs.Guaranteed.{within_by2, MarksFit}
use Rattle.mark_fits.proofs.Resulting.{TableOf, resulting_table, base_same}

module _ (s : Store) (t : ℕ) (cs : List ℕ) (g : Ready s t cs) {u : ℕ} (w : TableOf s t cs u) where
  abbrev s' : Store
  s' = split_store s t cs

  abbrev lo : ℕ
  lo = lo_at cs w.j

  abbrev hi : ℕ
  hi = get_or cs w.j (classes_of s t)

  -- its marks
  abbrev ms : List Mark
  ms = marks_within lo hi (marks_of s t)

  -- ---- how long its parts are

  linked_size : (q c : ℕ) → child_at s' u q ≡ Some c → size_of s' (linked_at s' u q) ≡ length (bytes_of s' c)
  linked_size q c e = ap (size_of s') (linked_is s' u q c e) ∙ sym (size_bytes s' (fits_then_lem s t cs g) c (child_used_lem s' u (fits_then_lem s t cs g) q c e))

  table_size_lem : size_of s' u ≡ table_size
  table_size_lem = sym (size_bytes s' (fits_then_lem s t cs g) u w.reads.used) ∙ w.view.exactly

  cover_most : size_of s' (linked_at s' u cover_at) ≤ 4 + 2 * class_marks s t lo hi
  unfolding new_coverage
  cover_most =
      let (c, n, e, f) = w.view.cover in
      omega (arith, linked_size cover_at c e, ap length f, (cover_length (map (λ (m : Mark). m.glyph) ms)).1, length-map (λ (m : Mark). m.glyph) ms)

  marks_size_lem : size_of s' (mark_array s' u) ≡ 2 + 4 * class_marks s t lo hi
  marks_size_lem = let (c, n, e, f, h) = w.view.marks in linked_size 8 c e ∙ ap length f ∙ array_long lo ms

  bases_size : size_of s' (base_array s' u) ≡ 2 + 2 * (bases_in s t * (hi - lo))
  bases_size = let (c, n, e, f, h) = w.view.bases in linked_size 10 c e ∙ ap length f ∙ base_long (bases_in s t) (hi - lo)

  reached_then : reached_by_classes s' u ≡ classes_reach s t lo hi
  unfolding reached_by_classes
  reached_then =
      let low = w.view.low in
      let y : lo + (hi - lo) ≡ hi = omega arith in
      ap (classes_reach s' u 0) w.view.classes
      ∙ reach_same s t cs g w.view w.reads w.slots (hi - lo) (omega arith)
      ∙ ap (classes_reach s t lo) y

  -- ---- together

  module _ (limit : within_by2 s t cs ≡ true) (two : 2 ≤ classes_of (split_store s t cs) u) where
    range_within : table_fits (rule_of second_edition s t) lo hi ≡ true
    unfolding within_by2 rule_of mark_rule
    range_within = range_fits (rule_of second_edition s t) cs limit w.j w.some

    whole : 16 + size_of s (linked_at s t base_cover_at) + classes_take s t lo hi + (4 + 2 * class_marks s t lo hi) ≤ 65535
    unfolding rule_of mark_rule
    whole =
        let last : hi - 1 + 1 ≡ hi = omega (arith, w.view.classes) in
        let beside = beside_marks second_edition s t lo (hi - 1) ∙ ap (λ (n : ℕ). 4 + 2 * class_marks s t lo n) last in
        omega (
          arith,
          beside,
          table_total (rule_of second_edition s t) (classes_take s t) (totals s t g.fit second_edition) lo hi (omega (arith, w.view.classes)) range_within,
        )

    together_fits : marks_together s' u ≤ 65535
    unfolding marks_together
    together_fits =
        omega (
          arith,
          whole,
          table_size_lem,
          cover_most,
          base_same s t cs g w.view,
          marks_size_lem,
          bases_size,
          reached_then,
          mul_assoc 2 (bases_in s t) (hi - lo),
        )

pub marks_fit : (s : Store) (t : ℕ) (cs : List ℕ) → Ready s t cs → within_by2 s t cs ≡ true → MarksFit s t cs
marks_fit s t cs g limit u h two = together_fits s t cs g (resulting_table s t cs g u h) limit two

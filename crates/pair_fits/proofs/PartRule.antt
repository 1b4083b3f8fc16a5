-- Edition 2's rule for a table of a range is the old table's for that range alone. Assumes nothing.
use Prim.Native.Nat.{ℕ, ◌+◌, ◌<◌, ◌≤◌}
use mathlib.Core.Path.{◌≡◌, sym, ap, ap₂, ◌∙◌}
use mathlib.Core.Bool.{true, false}
use mathlib.Core.List.{List}
use native.Mathlib.Omega.{arith}
use lib.Dec.{eqb}
use Rattle.folds.proofs.Tests.{by_test}
use Rattle.ot_layouts.specs.Coverage.{Entry}
use Rattle.ot_layouts.specs.PairPos.{Shape}
use Rattle.store_rules.specs.Store.{Store, size_of, linked_at}
use Rattle.glyph_rules.specs.Entries.{within, reduced}
use Rattle.glyph_rules.specs.Estimates.{estimate, beside_rows}
use Rattle.glyph_rules.proofs.Entries.{within_reduced}
use Rattle.glyph_rules.proofs.Estimates.{rows_reduced}
use Rattle.cut_rules.specs.Cuts.{Rule}
use Rattle.cut_rules.proofs.TablesUncut.{Restricts}
use Rattle.call_rules.specs.Settings.{second_edition}
use Rattle.pair_rules.specs.Table.{shape, entries_of, rule_of}
use Rattle.pair_rules.specs.Written.{split_store}
use Rattle.pair_rules.proofs.Checks.{entries_ascend}
use Rattle.pair_rules.proofs.TableCuts.{rule_count, rule_edition}
use Rattle.pair_rules.proofs.Measured.{rule_start, rule_cost, beside_sets, beside_rows_lem}
use Rattle.pair_after.proofs.Ready.{Ready}
use Rattle.pair_after.proofs.View.{View, view_shape, view_test, view_entries}
use Rattle.pair_after.proofs.ViewReach.{size_same}
use Rattle.pair_after.proofs.ViewParts.{class2_size, cover_less}

module _ (s : Store) (t : ℕ) (cs : List ℕ) (g : Ready s t cs) {u lo hi : ℕ} (v : View s t (split_store s t cs) u lo hi) where
  abbrev s' : Store
  s' = split_store s t cs

  -- the old table's rule, and the table's own
  abbrev old : Rule
  old = rule_of second_edition s t

  abbrev new : Rule
  new = rule_of second_edition s' u

  test : eqb (shape s' u).format 1 ≡ eqb (shape s t).format 1
  test = view_test v (entries_ascend s t g.reads)

  -- format 1: coverage is no longer than it was
  beside_one : eqb (shape s t).format 1 ≡ true → (i : ℕ) → lo + i < hi → new.beside 0 i ≤ old.beside lo (lo + i)
  beside_one one i l = omega (arith, beside_sets s' u 0 i (test ∙ one), beside_sets s t lo (lo + i) one, cover_less s t cs g v one)

  -- format 2: the estimates are no larger, and class definition 2 is the old one
  rows_of : (i : ℕ) → lo + i < hi → within 0 (i + 1) (entries_of s' u) ≡ reduced lo (within lo (lo + i + 1) (entries_of s t))
  rows_of i l =
      let z : lo + (i + 1) ≡ lo + i + 1 = omega arith in
      ap (within 0 (i + 1)) (view_entries v (entries_ascend s t g.reads))
      ∙ within_reduced lo hi (i + 1) (entries_of s t) (omega arith) ∙ ap (λ (n : ℕ). reduced lo (within lo n (entries_of s t))) z

  beside_two : eqb (shape s t).format 1 ≡ false → (i : ℕ) → lo + i < hi → new.beside 0 i ≤ old.beside lo (lo + i)
  beside_two two i l =
      omega (
        arith,
        beside_rows_lem s' u 0 i (test ∙ two),
        ap₂ (λ (n : ℕ) (es : List Entry). beside_rows n (estimate es)) (class2_size s t cs g v two) (rows_of i l),
        rows_reduced lo (within lo (lo + i + 1) (entries_of s t)) (size_of s (linked_at s t 10)),
        beside_rows_lem s t lo (lo + i) two,
      )

  pub restricts : Restricts old lo hi new
  restricts =
      record {
        edition = rule_edition second_edition s' u;
        count = rule_count second_edition s' u ∙ ap (λ (sh : Shape). sh.count) (view_shape v);
        start = rule_start second_edition s' u ∙ ap (λ (sh : Shape). sh.header) (view_shape v) ∙ sym (rule_start second_edition s t);
        cost = λ i l.
            rule_cost second_edition s' u 0 i
            ∙ ap₂ (λ (m n : ℕ). m + n) (ap (λ (sh : Shape). sh.item) (view_shape v)) (size_same s t cs g v i l)
            ∙ sym (rule_cost second_edition s t lo (lo + i));
        beside = λ i l. by_test (eqb (shape s t).format 1) (λ one. beside_one one i l) (λ two. beside_two two i l);
      }

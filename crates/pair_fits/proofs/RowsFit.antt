-- Format 2: each resulting table of two or more rows fits, together with all that the rows reach and with its parts but for the largest. Assumes nothing.
use Prim.Native.Nat.{ℕ, ◌+◌, ◌-◌}
use mathlib.Core.Path.{◌≡◌, ap, ◌∙◌}
use mathlib.Core.Bool.{true, false}
use mathlib.Core.List.{List, map}
use native.Mathlib.Omega.{arith}
use lib.ListN.{length}
use lib.Dec.{eqb}
use Rattle.ot_layouts.specs.Coverage.{Entry, coverage_bytes}
use Rattle.ot_layouts.specs.ClassDef.{class_def_bytes}
use Rattle.store_rules.specs.Store.{Store, size_of, linked_at}
use Rattle.glyph_rules.specs.Entries.{within, reduced}
use Rattle.glyph_rules.specs.Estimates.{estimate, but_largest, beside_rows}
use Rattle.glyph_rules.proofs.Estimates.{rows_written}
use Rattle.call_rules.specs.Settings.{second_edition}
use Rattle.pair_rules.specs.Table.{shape, entries_of, rule_of}
use Rattle.pair_rules.specs.Written.{split_store}
use Rattle.pair_rules.proofs.Checks.{entries_ascend}
use Rattle.pair_rules.proofs.Measured.{beside_rows_lem}
use Rattle.pair_after.proofs.Ready.{Ready}
use Rattle.pair_after.proofs.View.{within_up}
use Rattle.pair_after.proofs.ViewParts.{cover_size_lem, class1_size, class2_size}
use Rattle.pair_after.proofs.Resulting.{resulting_table}
use Rattle.pair_fits.specs.Together.{rows_together}
use Rattle.pair_fits.specs.Guaranteed.{within_by2, RowsFit}
use Rattle.pair_fits.proofs.WholeFits.{lo, hi, count_then, whole_fits}

pub rows_fit : (s : Store) (t : ℕ) (cs : List ℕ) → Ready s t cs → within_by2 s t cs ≡ true → eqb (shape s t).format 1 ≡ false → RowsFit s t cs
unfolding rows_together
rows_fit s t cs g limit rows u h two =
    let w = resulting_table s t cs g u h in
    let a = lo s t cs g w in
    let b = hi s t cs g w in
    let es : List Entry = within a b (entries_of s t) in
    let class2 = size_of s (linked_at s t 10) in
    let whole = whole_fits s t cs g w limit two in
    let last : b - 1 + 1 ≡ b = omega (arith, count_then s t cs g w) in
    let beside : (rule_of second_edition s t).beside a (b - 1) ≡ beside_rows class2 (estimate es)
    = beside_rows_lem s t a (b - 1) rows ∙ ap (λ (n : ℕ). beside_rows class2 (estimate (within a n (entries_of s t)))) last in
    let size : ℕ → ℕ = λ q. size_of (split_store s t cs) (linked_at (split_store s t cs) u q) in
    let parts : but_largest (size 2) (size 8) (size 10) ≡ but_largest (length (coverage_bytes (map (λ (e : Entry). e.glyph) es))) (length (class_def_bytes (reduced a es))) class2
    = λ i. but_largest (cover_size_lem s t cs g w.view i) (class1_size s t cs g w.view rows i) (class2_size s t cs g w.view rows i) in
    let written = rows_written a es class2 (within_up w.view (entries_ascend s t g.reads)) (omega arith) in
    omega arith

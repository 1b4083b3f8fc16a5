-- The bytes of a class definition by its outline: in ranges or as a list, and how long. Assumes nothing.
use Prim.Native.Nat.{ℕ, ◌+◌, ◌*◌, ◌<◌}
use mathlib.Core.Path.{◌≡◌, sym, ap, ap₂, ◌∙◌}
use mathlib.Core.Bool.{true, false}
use mathlib.Core.List.{List, ◌++◌}
use native.Mathlib.Nat.{eq-or-lt_of_le}
use mathlib.Core.Logic.{⊎_elim}
use native.Mathlib.Omega.{arith}
use lib.ListN.{length}
use lib.Dec.{ltb, eqb}
use borrow.Author.Tests.{eqb-false}
use Rattle.folds.specs.Lists.{put}
use Rattle.folds.proofs.Tests.{or_none}
use Rattle.folds.proofs.FromTheFront.{length_even}
use Rattle.ot_layouts.specs.Numbers.{be16}
use Rattle.ot_layouts.specs.Coverage.{runs}
use Rattle.ot_layouts.specs.ClassDef.{named, class_in, class_ranges, in_ranges, class_def_bytes}
use Rattle.ot_layouts.proofs.Numbers.{length-be16}
use Rattle.ot_layouts.proofs.RangeBytes.{ranged_length}
use Rattle.ot_class_def_writer.specs.Entries.{reduced_entries, Outlines}
use Rattle.ot_class_def_writer.specs.Written.{ranges_win, class_row}
use Rattle.ot_class_def_writer.specs.declared.named.Outline.{Outline}

module _ (gs cs : List ℕ) (first : ℕ) (o : Outline) (p : Outlines gs cs first o) where
  decides : ranges_win o.runs o.span ≡ in_ranges (named (reduced_entries gs cs first))
  decides = ap₂ ranges_win p.runs_are p.span_is

  module _ (h : ranges_win o.runs o.span ≡ true) where
    pub as_ranges_lem : class_def_bytes (reduced_entries gs cs first) ≡ be16 2 ++ be16 o.runs ++ class_ranges (runs (named (reduced_entries gs cs first)))
    unfolding class_def_bytes
    as_ranges_lem =
        rw (sym decides ∙ h)
        (ap (λ (n : ℕ). be16 2 ++ be16 n ++ class_ranges (runs (named (reduced_entries gs cs first)))) (sym p.runs_are))

    pub ranges_long : length (class_def_bytes (reduced_entries gs cs first)) ≡ 4 + 6 * o.runs
    ranges_long =
        ap length (as_ranges_lem ∙ ap (λ (n : ℕ). be16 2 ++ be16 n ++ class_ranges (runs (named (reduced_entries gs cs first)))) p.runs_are)
        ∙ ranged_length (runs (named (reduced_entries gs cs first)))
        ∙ ap (λ (n : ℕ). 4 + 6 * n) (sym p.runs_are)

    pub ranges_done : (out₀ : List ℕ) (at : ℕ) {out : List ℕ} {r : ℕ}
        → (out ≡ put out₀ at (be16 2 ++ be16 o.runs ++ class_ranges (runs (named (reduced_entries gs cs first))))) × (r ≡ at + (4 + 6 * o.runs))
        → (out ≡ put out₀ at (class_def_bytes (reduced_entries gs cs first))) × (r ≡ at + length (class_def_bytes (reduced_entries gs cs first)))
    ranges_done out₀ at {out} {r} (e, l) = (e ∙ ap (put out₀ at) (sym as_ranges_lem), omega (arith, ranges_long))

  module _ (h : ranges_win o.runs o.span ≡ false) where
    pub as_list_lem : class_def_bytes (reduced_entries gs cs first) ≡ be16 1 ++ be16 o.start ++ be16 o.span ++ class_row (named (reduced_entries gs cs first)) o.start o.span
    unfolding class_def_bytes
    as_list_lem =
        rw (sym decides ∙ h)
        (ap₂ (λ (g n : ℕ). be16 1 ++ be16 g ++ be16 n ++ class_row (named (reduced_entries gs cs first)) g n) (sym p.start_is) (sym p.span_is))

    pub list_long : length (class_def_bytes (reduced_entries gs cs first)) ≡ 6 + 2 * o.span
    unfolding be16
    list_long =
        ap length as_list_lem
        ∙ omega (arith, length_even (λ j. be16 (class_in (named (reduced_entries gs cs first)) (o.start + j))) 2 (λ j. length-be16 (class_in (named (reduced_entries gs cs first)) (o.start + j))) o.span)

    pub countable : o.span < 65536
    countable =
        let n = eqb-false o.span 65536 (or_none (ltb (4 + 6 * o.runs) (6 + 2 * o.span)) (eqb o.span 65536) h).1 in
        ⊎_elim (λ e. absurd (n e)) (λ l. l) (eq-or-lt_of_le p.spans)

    pub list_done : (out₀ : List ℕ) (at : ℕ) {out : List ℕ} {r : ℕ}
        → (out ≡ put out₀ at (be16 1 ++ be16 o.start ++ be16 o.span ++ class_row (named (reduced_entries gs cs first)) o.start o.span)) × (r ≡ at + (6 + 2 * o.span))
        → (out ≡ put out₀ at (class_def_bytes (reduced_entries gs cs first))) × (r ≡ at + length (class_def_bytes (reduced_entries gs cs first)))
    list_done out₀ at {out} {r} (e, l) = (e ∙ ap (put out₀ at) (sym as_list_lem), omega (arith, list_long))

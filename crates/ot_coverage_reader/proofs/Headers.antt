-- A header of either kind, as the functions for that kind take it. Assumes nothing.
use Rattle.std.specs.Prelude.{Some}
use mathlib.Core.Path.{◌≡◌, ap, ◌∙◌}
use mathlib.Core.List.{List}
use Prim.Native.Nat.{ℕ}
use Rattle.ot_layouts.specs.Coverage.{coverage_of}
use Rattle.ot_layouts.specs.declared.Kind.{Kind}
use Rattle.ot_layouts.specs.declared.Header.{Header}
use Rattle.ot_coverage_reader.specs.Coverage.{AsList, AsRanges}

module _ (b : List ℕ) (h : Header) (r : coverage_of b ≡ Some h) where
  pub as_list_lem : h.kind ≡ Kind.List → AsList b h.count
  as_list_lem e = r ∙ ap (λ (k : Kind). Some (record { kind = k; count = h.count })) e

  pub as_ranges_lem : h.kind ≡ Kind.Ranges → AsRanges b h.count
  as_ranges_lem e = r ∙ ap (λ (k : Kind). Some (record { kind = k; count = h.count })) e

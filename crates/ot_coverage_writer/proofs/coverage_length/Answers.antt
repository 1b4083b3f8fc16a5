-- `coverage_length` meets its contract: the shorter of the two formats. Assumes nothing.
use mathlib.Core.Path.{◌≡◌}
use mathlib.Core.List.{List}
use Prim.Native.Nat.{ℕ, ◌+◌, ◌*◌, ◌≤◌, ◌<◌}
use native.Mathlib.Omega.{arith}
use lib.ListN.{length}
use Rattle.ot_layouts.specs.Coverage.{plain, coverage_bytes}
use Rattle.ot_layouts.proofs.RunCount.{many}
use Rattle.ot_layouts.proofs.CoverageLength.{ranges_long, list_long}
use Rattle.ot_coverage_writer.proofs.coverage_length.Goals as goal

in_ranges_lem : (gs : List ℕ) {n : ℕ} → n ≡ many (plain gs) → 3 * n < length gs → 4 + 6 * n ≡ length (coverage_bytes gs)
in_ranges_lem gs {n} e h = omega (arith, ranges_long gs (omega arith))

in_list_lem : (gs : List ℕ) {n : ℕ} → n ≡ many (plain gs) → length gs ≤ 3 * n → 4 + 2 * length gs ≡ length (coverage_bytes gs)
in_list_lem gs {n} e h = omega (arith, list_long gs (omega arith))

pub returns-then-runs-glyphs : goal.returns-then-runs-glyphs
returns-then-runs-glyphs c = in_ranges_lem _ c.run_count-runs.ensures.0 c.if-runs-glyphs.true

pub returns-else-runs-glyphs : goal.returns-else-runs-glyphs
returns-else-runs-glyphs c = in_list_lem _ c.run_count-runs.ensures.0 c.if-runs-glyphs.false

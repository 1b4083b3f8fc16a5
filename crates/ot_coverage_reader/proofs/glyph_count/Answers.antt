-- `glyph_count` meets its contract: a list has its count of glyphs, two bytes each, and ranges are counted by their function. Assumes nothing.
use mathlib.Core.Path.{◌≡◌, sym, ap, ◌∙◌}
use mathlib.Core.List.{List}
use Prim.Native.Nat.{ℕ, ◌≤◌, ◌<◌}
use native.Mathlib.Omega.{arith}
use lib.ListN.{length, get_or}
use Rattle.folds.proofs.Folds.{length-upto}
use Rattle.ot_layouts.specs.Numbers.{u16_at}
use Rattle.ot_layouts.specs.Coverage.{glyph_at, cover_glyphs}
use Rattle.ot_layouts.proofs.CoverageRead.{Listed, header_list}
use Rattle.ot_coverage_reader.proofs.Headers.{as_ranges_lem}
use Rattle.ot_coverage_reader.proofs.glyph_count.Goals as goal

listed : {part : List ℕ} {n : ℕ} → Listed part n → ((i : ℕ) → get_or part i 0 < 256) → (n ≡ length (cover_glyphs part)) × (n ≤ 65536)
unfolding u16_at
listed {part} {n} r bytes =
    (sym (ap length r.glyphs ∙ length-upto (glyph_at part) n), omega (arith, r.count, bytes 2, bytes 3))

pub count_in_ranges-requires : goal.count_in_ranges-requires
count_in_ranges-requires c = as_ranges_lem _ c.args.header c.requires c.in-Ranges.is

pub returns-in-List : goal.returns-in-List
returns-in-List c = listed (header_list _ c.args.header c.requires c.in-List.is) (λ i. omega (arith, c.shared_slice_known-1.given i))

-- `write_coverage` meets its contract: the shorter of the two formats is written, and glyphs in ascending order fit its count. Assumes nothing.
use mathlib.Core.Path.{◌≡◌, sym, ap, ◌∙◌}
use mathlib.Core.List.{List, ◌++◌}
use Prim.Native.Nat.{ℕ, ◌+◌, ◌*◌, ◌≤◌, ◌<◌}
use native.Mathlib.Omega.{arith}
use lib.ListN.{length, get_or}
use Rattle.folds.specs.Lists.{put}
use Rattle.ot_layouts.specs.Numbers.{be16, words}
use Rattle.ot_layouts.specs.Coverage.{runs, plain, cover_ranges, coverage_bytes}
use Rattle.ot_layouts.proofs.RunCount.{many}
use Rattle.ot_layouts.proofs.CoverageLength.{as_ranges_lem, ranges_long, as_list_lem, list_long}
use Rattle.ot_ranges.specs.Ascending.{Ascending}
use Rattle.ot_coverage_writer.proofs.Counts.{at_most, listed}
use Rattle.ot_coverage_writer.proofs.write_coverage.Goals as goal

-- n runs, in ranges
module _ (gs : List ℕ) {n : ℕ} (runs_are : n ≡ many (plain gs)) (h : 3 * n < length gs) where
  ranges-bytes : be16 2 ++ be16 n ++ cover_ranges 0 (runs (plain gs)) ≡ coverage_bytes gs
  ranges-bytes = ap (λ (m : ℕ). be16 2 ++ be16 m ++ cover_ranges 0 (runs (plain gs))) runs_are ∙ sym (as_ranges_lem gs (omega arith))

  ranges-length : length (coverage_bytes gs) ≡ 4 + 6 * n
  ranges-length = omega (arith, ranges_long gs (omega arith))

  ranges-few : Ascending gs → ((k : ℕ) → get_or gs k 0 < 65536) → (length gs ≤ 65536) × (n < 65536)
  ranges-few a bits = let m = at_most gs a bits in (m, omega arith)

-- as a list
module _ (gs : List ℕ) {n : ℕ} (runs_are : n ≡ many (plain gs)) (h : length gs ≤ 3 * n) where
  list-bytes : be16 1 ++ be16 (length gs) ++ words gs ≡ coverage_bytes gs
  list-bytes = sym (as_list_lem gs (omega arith))

  list_length : length (coverage_bytes gs) ≡ 4 + 2 * length gs
  list_length = list_long gs (omega arith)

  list-few : Ascending gs → ((k : ℕ) → get_or gs k 0 < 65536) → length gs < 65536
  list-few a bits = listed gs a bits (omega arith)

pub write_ranges-requires : goal.write_ranges-requires
write_ranges-requires c =
    let gs = c.args.glyphs.now in
    let few = ranges-few gs c.run_count-count.ensures.0 c.if-count-n.true c.requires.ascending (λ k. omega (arith, c.shared_slice_known-1.given k)) in
    record { glyphs_len_bound = few.0; count_value = c.run_count-count.ensures.0; count_bound = few.1; count_in_bounds = omega (arith, ranges-length gs c.run_count-count.ensures.0 c.if-count-n.true) }

pub overflow_add-result-then-count-n : goal.overflow_add-result-then-count-n
overflow_add-result-then-count-n c = omega (arith, ranges-length c.args.glyphs.now c.run_count-count.ensures.0 c.if-count-n.true)

pub write_list-requires : goal.write_list-requires
write_list-requires c =
    let gs = c.args.glyphs.now in
    record { glyphs_len_bound = list-few gs c.run_count-count.ensures.0 c.if-count-n.false c.requires.ascending (λ k. omega (arith, c.shared_slice_known-1.given k)); glyphs_in_bounds = omega (arith, list_length gs c.run_count-count.ensures.0 c.if-count-n.false) }

pub overflow_add-result-else-count-n-2 : goal.overflow_add-result-else-count-n-2
overflow_add-result-else-count-n-2 c = omega (arith, list_length c.args.glyphs.now c.run_count-count.ensures.0 c.if-count-n.false)

pub returns-then-count-n : goal.returns-then-count-n
returns-then-count-n c =
    let gs = c.args.glyphs.now in
    (c.write_ranges.ensures ∙ ap (put c.args.out.now c.args.at) (ranges-bytes gs c.run_count-count.ensures.0 c.if-count-n.true), omega (arith, ranges-length gs c.run_count-count.ensures.0 c.if-count-n.true))

pub returns-else-count-n : goal.returns-else-count-n
returns-else-count-n c =
    let gs = c.args.glyphs.now in
    (c.write_list.ensures ∙ ap (put c.args.out.now c.args.at) (list-bytes gs c.run_count-count.ensures.0 c.if-count-n.false), omega (arith, list_length gs c.run_count-count.ensures.0 c.if-count-n.false))

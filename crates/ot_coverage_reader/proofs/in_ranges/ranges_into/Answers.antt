-- `in_ranges::ranges_into` meets its contract. In the loop the glyphs of the first `k` ranges stand at the front of `out`, up to `at`. Assumes nothing.
use mathlib.Core.Path.{◌≡◌, refl, sym, ap, ap₂, ◌∙◌}
use mathlib.Core.List.{List}
use Prim.Native.Nat.{ℕ, ◌+◌, ◌-◌, ◌≤◌, ◌<◌}
use native.Mathlib.Omega.{arith}
use lib.ListN.{length}
use Rattle.folds.specs.Folds.{flat, run}
use Rattle.folds.specs.Lists.{put}
use Rattle.folds.proofs.Folds.{flat-more, sum_none, sum_more, sum_le}
use Rattle.folds.proofs.Put.{put-nil, put-put}
use Rattle.ot_layouts.specs.Coverage.{start_at, end_at, size_at, cover_glyphs}
use Rattle.ot_layouts.proofs.CoverageRead.{range_at, header_ranges, length_ranges}
use Rattle.ot_coverage_reader.specs.Coverage.{AsRanges}
use Rattle.ot_coverage_reader.proofs.in_ranges.ranges_into.Invariants.{Inv}
use Rattle.ot_coverage_reader.proofs.in_ranges.ranges_into.Goals as goal

start : (part : List ℕ) (count : ℕ) (out : List ℕ) → AsRanges part count → length (cover_glyphs part) ≤ length out → Inv part count out out 0 0
unfolding flat
start part count out a l =
    let r = header_ranges part _ a refl in
    record {
      ranged = r;
      room = omega (arith, ap length r.glyphs, length_ranges part count);
      within = omega arith;
      same = refl;
      at-is = sym (sum_none (size_at part));
      is = put-nil out 0;
    }

-- in a turn: the range ends no lower than it starts, and the output has room for it
record Fits (part : List ℕ) (out₀ : List ℕ) (at k : ℕ) : Type 0 where
  ordered : start_at part k ≤ end_at part k
  room : at + size_at part k ≤ length out₀

fits : {part : List ℕ} {count : ℕ} {out₀ out : List ℕ} {at k : ℕ} → Inv part count out₀ out at k → k < count → Fits part out₀ at k
fits {part} {count} {out₀} {out} {at} {k} i l =
    record {
      ordered = i.ranged.read.rising.ordered k l;
      room = omega (arith, i.room, i.at-is, sum_more (size_at part) k, sum_le (size_at part) (k + 1) count (omega arith));
    }

turn : {part : List ℕ} {count : ℕ} {out₀ out out' : List ℕ} {at k b e : ℕ} → Inv part count out₀ out at k → k < count
    → b ≡ start_at part k → e ≡ end_at part k → length out' ≡ length out → out' ≡ put out at (run b (e + 1 - b))
    → Inv part count out₀ out' (at + (e + 1 - b)) (k + 1)
turn {part} {count} {out₀} {out} {out'} {at} {k} {b} {e} i l pb pe n h =
    let m : at ≡ 0 + length (flat (range_at part) k) = omega (arith, i.at-is, length_ranges part k) in
    let q : run b (e + 1 - b) ≡ range_at part k = ap₂ (λ (x y : ℕ). run x (y + 1 - x)) pb pe in
    record {
      ranged = i.ranged;
      room = i.room;
      within = omega arith;
      same = n ∙ i.same;
      at-is = omega (arith, i.at-is, sum_more (size_at part) k);
      is =
          h
          ∙ ap₂ (λ (o r : List ℕ). put o at r) i.is q
          ∙ put-put out₀ 0 (flat (range_at part) k) at (range_at part k) (omega arith) m
          ∙ ap (put out₀ 0) (sym (flat-more (range_at part) k));
    }

done : {part : List ℕ} {count : ℕ} {out₀ out : List ℕ} {at k : ℕ} → Inv part count out₀ out at k → count ≤ k → out ≡ put out₀ 0 (cover_glyphs part)
done {part} {count} {out₀} {out} {at} {k} i l = let e : k ≡ count = omega (arith, i.within) in rw (i.ranged.glyphs, ← e) i.is

pub loop-k-init : goal.loop-k-init
loop-k-init c = start _ _ _ c.requires.as_ranges c.requires.part_in_bounds

pub overflow_sub-size : goal.overflow_sub-size
overflow_sub-size c =
    let fit : Fits c.args.part.now c.args.out.now c.loop-k.at c.loop-k.k = fits c.loop-k.invariant c.loop-k-test.true in
    omega (arith, fit.ordered)

pub run_into-requires : goal.run_into-requires
run_into-requires c =
    let fit : Fits c.args.part.now c.args.out.now c.loop-k.at c.loop-k.k = fits c.loop-k.invariant c.loop-k-test.true in
    record { count_in_bounds = omega (arith, fit.ordered, fit.room); count_bound = omega (arith, fit.ordered, fit.room) }

pub overflow_add-at : goal.overflow_add-at
overflow_add-at c =
    let fit : Fits c.args.part.now c.args.out.now c.loop-k.at c.loop-k.k = fits c.loop-k.invariant c.loop-k-test.true in
    omega (arith, fit.ordered, fit.room)

pub loop-k-preserved : goal.loop-k-preserved
loop-k-preserved c = turn c.loop-k.invariant c.loop-k-test.true (c.from-start.ensures ∙ c.u16_at.ensures) (c.from-end.ensures ∙ c.u16_at-in-loop-k.ensures) c.run_into.auto.out c.run_into.ensures

pub returns : goal.returns
returns c = done c.loop-k.invariant c.loop-k-test.false

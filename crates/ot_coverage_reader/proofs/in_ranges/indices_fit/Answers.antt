-- `in_ranges::indices_fit` meets its contract. In the loop `total` is how many glyphs the ranges passed have, and those are numbered right. Assumes nothing.
use mathlib.Core.Path.{◌≡◌, sym, ◌∙◌}
use mathlib.Core.Bool.{true, false}
use mathlib.Core.List.{List}
use Prim.Native.Nat.{ℕ, ◌+◌, ◌-◌, ◌≤◌, ◌<◌}
use native.Mathlib.Nat.{not-suc-le-zero}
use native.Mathlib.Omega.{arith}
use Rattle.folds.specs.Folds.{sum}
use Rattle.folds.proofs.Folds.{before_more, sum_none, sum_more}
use Rattle.folds.proofs.Halving.{Rising}
use Rattle.ot_layouts.specs.Coverage.{start_at, end_at, beside_at, size_at, ranges_fit, indexed}
use Rattle.ot_layouts.proofs.RangesRead.{ranges_read}
use Rattle.ot_layouts.proofs.CoverageRead.{index_fits, index_more, not-counts, sizes_under}
use Rattle.ot_coverage_reader.proofs.in_ranges.indices_fit.Invariants.{Inv}
use Rattle.ot_coverage_reader.proofs.in_ranges.indices_fit.Goals as goal

start : (part : List ℕ) (count : ℕ) → ranges_fit part count ≡ true → Inv part count 0 0
start part count f =
    record {
      read = ranges_read part count f;
      within = omega arith;
      total_is = sym (sum_none (size_at part));
      most = omega arith;
      index = λ k m. absurd (not-suc-le-zero m);
    }

module _ {part : List ℕ} {count total k : ℕ} (i : Inv part count total k) where
  done : count ≤ k → true ≡ indexed part count
  done l = let e : k ≡ count = omega (arith, i.within) in sym (index_fits part count (rw e at i.index))

  module _ (l : k < count) where
    -- the ranges up to this one
    rising : Rising (start_at part) (end_at part) (k + 1)
    rising = record { above = λ j m. i.read.rising.above j (omega arith); ordered = λ j m. i.read.rising.ordered j (omega arith) }

    turn : {b e x : ℕ} → e < 65536 → b ≡ start_at part k → e ≡ end_at part k → x ≡ beside_at part k → x ≡ total → Inv part count (total + (e + 1 - b)) (k + 1)
    turn {b} {e} {x} m pb pe px counted =
        let next : total + (e + 1 - b) ≡ sum (size_at part) (k + 1) = omega (arith, i.total_is, sum_more (size_at part) k) in
        record {
          read = i.read;
          within = omega arith;
          total_is = next;
          most = omega (arith, sizes_under part (k + 1) rising, before_more (λ j. end_at part j + 1) k);
          index = index_more part k i.index (sym px ∙ counted ∙ i.total_is);
        }

    stop : {x : ℕ} → x ≡ beside_at part k → (x ≡ total → ⊥) → false ≡ indexed part count
    stop {x} e h = sym (not-counts part count k l (λ q. h (e ∙ q ∙ sym i.total_is)))

pub loop-k-init : goal.loop-k-init
loop-k-init c = start _ _ c.requires

pub returns-then-index-total : goal.returns-then-index-total
returns-then-index-total c = stop c.loop-k.invariant c.loop-k-test.true (c.from-index.ensures ∙ c.u16_at-in-loop-k-2.ensures) c.if-index-total.true

pub overflow_sub-total : goal.overflow_sub-total
overflow_sub-total c = omega (arith, c.loop-k.invariant.read.rising.ordered c.loop-k.k c.loop-k-test.true)

pub loop-k-preserved : goal.loop-k-preserved
loop-k-preserved c = turn c.loop-k.invariant c.loop-k-test.true (omega arith) (c.from-start.ensures ∙ c.u16_at.ensures) (c.from-end.ensures ∙ c.u16_at-in-loop-k.ensures) (c.from-index.ensures ∙ c.u16_at-in-loop-k-2.ensures) c.if-index-total.false

pub returns : goal.returns
returns c = done c.loop-k.invariant c.loop-k-test.false

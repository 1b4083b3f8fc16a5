-- `ot_ranges::ranges_fit` meets its contract: the ranges passed rise, and the first that does not decides. Assumes nothing.
use Prim.Native.Nat.{ℕ, ◌+◌, ◌≤◌, ◌<◌}
use mathlib.Core.Path.{◌≡◌, sym, ap, ◌∙◌}
use mathlib.Core.Bool.{true, false}
use mathlib.Core.List.{List}
use native.Mathlib.Omega.{arith}
use Rattle.folds.proofs.Folds.{before_more}
use Rattle.folds.proofs.Halving.{rising_more}
use Rattle.ot_layouts.specs.Coverage.{start_at, end_at, ranges_fit}
use Rattle.ot_layouts.proofs.RangesRead.{ranges_fit_lem, not_long, not-above, not-ordered}
use Rattle.ot_ranges.proofs.ranges_fit.Invariants.{Inv, start}
use Rattle.ot_ranges.proofs.ranges_fit.Goals as goal

module _ {part : List ℕ} {count next k b : ℕ} (i : Inv part count next k) (l : k < count) (pb : b ≡ start_at part k) where
  turn : {e : ℕ} → e ≡ end_at part k → next ≤ b → b ≤ e → Inv part count (e + 1) (k + 1)
  turn {e} pe h o =
      record {
        within = omega arith;
        long = i.long;
        next_is = ap (λ (n : ℕ). n + 1) pe ∙ sym (before_more (λ j. end_at part j + 1) k);
        rising = rising_more i.rising (omega (arith, i.next_is)) (omega arith);
      }

  too-low : b < next → false ≡ ranges_fit part count
  too-low h = sym (not-above part count k l (omega (arith, i.next_is)))

  turned : {e : ℕ} → e ≡ end_at part k → e < b → false ≡ ranges_fit part count
  turned {e} pe h = sym (not-ordered part count k l (omega arith))

stop : {part : List ℕ} {count next k : ℕ} → Inv part count next k → count ≤ k → true ≡ ranges_fit part count
stop {part} {count} {next} {k} i l =
    let e : k ≡ count = omega arith in
    sym (ranges_fit_lem part count (record { long = i.long; rising = rw e at i.rising }))

pub returns-then-part-count : goal.returns-then-part-count
returns-then-part-count c = sym (not_long _ _ c.if-part-count.true)

pub loop-k-init : goal.loop-k-init
loop-k-init c = start _ _ c.if-part-count.false

pub returns-then-start-next : goal.returns-then-start-next
returns-then-start-next c = too-low c.loop-k.invariant c.loop-k-test.true (c.from-start.ensures ∙ c.u16_at.ensures) c.if-start-next.true

pub returns-then-end-start : goal.returns-then-end-start
returns-then-end-start c = turned c.loop-k.invariant c.loop-k-test.true (c.from-start.ensures ∙ c.u16_at.ensures) (c.from-end.ensures ∙ c.u16_at-in-loop-k.ensures) c.if-end-start.true

pub loop-k-preserved : goal.loop-k-preserved
loop-k-preserved c = turn c.loop-k.invariant c.loop-k-test.true (c.from-start.ensures ∙ c.u16_at.ensures) (c.from-end.ensures ∙ c.u16_at-in-loop-k.ensures) c.if-start-next.false c.if-end-start.false

pub returns : goal.returns
returns c = stop c.loop-k.invariant c.loop-k-test.false

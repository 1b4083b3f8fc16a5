-- `list::list_fits` meets its contract. In the loop the glyphs passed rise, and `next` is one above the last of them. Assumes nothing.
use mathlib.Core.Path.{◌≡◌, sym, ap, ◌∙◌}
use mathlib.Core.Bool.{true, false}
use mathlib.Core.List.{List}
use Prim.Native.Nat.{ℕ, ◌+◌, ◌*◌, ◌≤◌, ◌<◌}
use native.Mathlib.Omega.{arith}
use lib.ListN.{length}
use Rattle.folds.proofs.Folds.{before_none, before_more}
use Rattle.folds.proofs.Halving.{rising_none, rising_more}
use Rattle.ot_layouts.specs.Coverage.{glyph_at, list_fits}
use Rattle.ot_layouts.proofs.CoverageRead.{list_fits_lem, list_not_long, list_not-above}
use Rattle.ot_coverage_reader.proofs.list.list_fits.Invariants.{Inv}
use Rattle.ot_coverage_reader.proofs.list.list_fits.Goals as goal

start : (part : List ℕ) (count : ℕ) → length part ≡ 4 + 2 * count → Inv part count 0 0
start part count l =
    record { long = l; within = omega arith; next_is = sym (before_none (λ j. glyph_at part j + 1)); rising = rising_none (glyph_at part) (glyph_at part) }

turn : {part : List ℕ} {count next k glyph : ℕ} → Inv part count next k → k < count → glyph ≡ glyph_at part k → next ≤ glyph → Inv part count (glyph + 1) (k + 1)
turn {part} {count} {next} {k} {glyph} i l e h =
    record {
      long = i.long;
      within = omega arith;
      next_is = ap (λ (g : ℕ). g + 1) e ∙ sym (before_more (λ j. glyph_at part j + 1) k);
      rising = rising_more i.rising (omega (arith, i.next_is)) (omega arith);
    }

stop : {part : List ℕ} {count next k glyph : ℕ} → Inv part count next k → k < count → glyph ≡ glyph_at part k → glyph < next → false ≡ list_fits part count
stop {part} {count} {next} {k} {glyph} i l e h = sym (list_not-above part count k l (omega (arith, i.next_is)))

done : {part : List ℕ} {count next k : ℕ} → Inv part count next k → count ≤ k → true ≡ list_fits part count
done {part} {count} {next} {k} i l = let e : k ≡ count = omega arith in sym (list_fits_lem part count (record { long = i.long; rising = rw e at i.rising }))

pub returns-then-part-count : goal.returns-then-part-count
returns-then-part-count c = sym (list_not_long c.args.part.now c.args.count c.if-part-count.true)

pub loop-k-init : goal.loop-k-init
loop-k-init c = start _ _ c.if-part-count.false

pub returns-then-glyph-next : goal.returns-then-glyph-next
returns-then-glyph-next c = stop c.loop-k.invariant c.loop-k-test.true (c.from-glyph.ensures ∙ c.u16_at.ensures) c.if-glyph-next.true

pub loop-k-preserved : goal.loop-k-preserved
loop-k-preserved c = turn c.loop-k.invariant c.loop-k-test.true (c.from-glyph.ensures ∙ c.u16_at.ensures) c.if-glyph-next.false

pub returns : goal.returns
returns c = done c.loop-k.invariant c.loop-k-test.false

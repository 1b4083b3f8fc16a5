-- `write::run_count` meets its contract. In the loop the runs counted and those from glyph `k` on are all. Assumes nothing.
use mathlib.Core.Path.{◌≡◌, sym, ap, ◌∙◌}
use mathlib.Core.Bool.{true, false}
use mathlib.Core.List.{List}
use Prim.Native.Nat.{ℕ, ◌+◌, ◌≤◌, ◌<◌}
use native.Mathlib.Omega.{arith}
use lib.ListN.{length, get_or}
use Rattle.ot_layouts.specs.Coverage.{runs, plain}
use Rattle.ot_layouts.proofs.RunCount.{starting_length}
use Rattle.ot_coverage_writer.specs.Joins.{joins_next}
use Rattle.ot_coverage_writer.proofs.Tails.{tail, tail_none, tail_join, tail_part}
use Rattle.ot_coverage_writer.proofs.write.run_count.Invariants.{Inv}
use Rattle.ot_coverage_writer.proofs.write.run_count.Goals as goal

start : (g : List ℕ) → Inv g 0 0
start g = record { within = omega arith; few = omega arith; is = omega arith }

join : {g : List ℕ} {count k : ℕ} → Inv g count k → k < length g → joins_next g k ≡ true → Inv g count (k + 1)
join {g} {count} {k} i l h =
    record {
      within = omega arith;
      few = omega (arith, i.few);
      is = omega (arith, i.is, ap length (tail_join g k h), starting_length (get_or g k 0) (tail g (k + 1)));
    }

end : {g : List ℕ} {count k : ℕ} → Inv g count k → k < length g → joins_next g k ≡ false → Inv g (count + 1) (k + 1)
end {g} {count} {k} i l h = record { within = omega arith; few = omega (arith, i.few); is = omega (arith, i.is, ap length (tail_part g k l h)) }

done : {g : List ℕ} {count k : ℕ} → Inv g count k → length g ≤ k → (count ≡ length (runs (plain g))) × (count ≤ length g)
done {g} {count} {k} i l = (omega (arith, i.is, ap length (tail_none g k l)), omega (arith, i.few, i.within))

pub loop-k-init : goal.loop-k-init
loop-k-init c = start _

pub loop-k-preserved-then-joins_next : goal.loop-k-preserved-then-joins_next
loop-k-preserved-then-joins_next c = join c.loop-k.invariant c.loop-k-test.true (sym c.joins_next.ensures ∙ c.if-joins_next.true)

pub loop-k-preserved : goal.loop-k-preserved
loop-k-preserved c = end c.loop-k.invariant c.loop-k-test.true (sym c.joins_next.ensures ∙ c.if-joins_next.false)

pub returns : goal.returns
returns c = done c.loop-k.invariant c.loop-k-test.false

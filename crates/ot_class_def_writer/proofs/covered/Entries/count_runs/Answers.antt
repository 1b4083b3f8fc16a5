-- `ot_class_def_writer::covered::Entries::count_runs` meets its contract: the runs counted and the runs of the entries left are all runs. Assumes nothing.
use Prim.Native.Nat.{ℕ, ◌+◌, ◌≤◌, ◌<◌}
use mathlib.Core.Path.{◌≡◌, ap, ◌∙◌}
use mathlib.Core.List.{List}
use native.Mathlib.Omega.{arith}
use lib.ListN.{length, get_or, drop}
use Rattle.ot_layouts.specs.Coverage.{Entry, runs}
use Rattle.ot_layouts.proofs.Runs.{runs_none}
use Rattle.ot_layouts.proofs.Named.{named_none}
use Rattle.ot_class_def_writer.specs.declared.covered.Entries.{Entries}
use Rattle.ot_class_def_writer.specs.Entries.{entries_of, RunTo}
use Rattle.ot_class_def_writer.proofs.Rest.{from_none, from_skip, from_run}
use Rattle.ot_class_def_writer.proofs.covered.Entries.count_runs.Invariants.{Inv, many}
use Rattle.ot_class_def_writer.proofs.covered.Entries.count_runs.Goals as goal

start : (en : Entries) → Inv en 0 0
start en = record { within = omega arith; few = omega arith; together = omega arith }

module _ {en : Entries} {count k : ℕ} (i : Inv en count k) where
  turn : {r : ℕ} → RunTo en.glyphs.now en.classes.now k r → en.first < get_or en.classes.now k 0 → Inv en (count + 1) (r + 1)
  turn {r} t n =
      record {
        within = omega (arith, t.within);
        few = omega (arith, i.few, t.from);
        together = omega (arith, i.together, ap length (from_run en k r t n));
      }

  skip : k < length en.glyphs.now → get_or en.classes.now k 0 ≤ en.first → Inv en count (k + 1)
  skip l n =
      record {
        within = omega arith;
        few = omega (arith, i.few);
        together = omega (arith, i.together, ap (λ (es : List Entry). length (runs es)) (from_skip en k l n));
      }

  stop : length en.glyphs.now ≤ k → (count ≡ many (entries_of en)) × (count ≤ length en.glyphs.now)
  stop l =
      let none : many (drop k (entries_of en)) ≡ 0 = ap many (from_none en k (omega (arith, i.within))) ∙ rw (named_none, runs_none) in
      (omega (arith, i.together), omega (arith, i.few, i.within))

pub loop-k-init : goal.loop-k-init
loop-k-init c = start c.args.self.now

pub loop-k-preserved-then-self-k : goal.loop-k-preserved-then-self-k
loop-k-preserved-then-self-k c = turn c.loop-k.invariant c.run_last-k.ensures c.if-self-k.true

pub loop-k-preserved : goal.loop-k-preserved
loop-k-preserved c = skip c.loop-k.invariant c.loop-k-test.true c.if-self-k.false

pub returns : goal.returns
returns c = let all = stop c.loop-k.invariant c.loop-k-test.false in record { value = all.0; upper_bound = all.1 }

-- `ot_class_def_writer::named::run_last` meets its contract: each entry passed joins the next. Assumes nothing.
use Prim.Native.Nat.{ℕ, ◌+◌, ◌<◌}
use mathlib.Core.Path.{◌≡◌, sym, ◌∙◌}
use mathlib.Core.Bool.{true, false}
use mathlib.Core.List.{List}
use mathlib.Core.Logic.{⊎_elim}
use native.Mathlib.Nat.{le_of_suc-le-suc, eq-or-lt_of_le}
use native.Mathlib.Numerals.{add-one}
use native.Mathlib.Omega.{arith}
use lib.ListN.{length, get_or}
use lib.Dec.{ltb, eqb}
use borrow.Author.Tests.{ltb-true}
use Rattle.folds.proofs.Tests.{and_both}
use Rattle.ot_class_def_writer.specs.Entries.{joins_at, RunTo}
use Rattle.ot_class_def_writer.proofs.named.run_last.Invariants.{Inv}
use Rattle.ot_class_def_writer.proofs.named.run_last.Goals as goal

start : (gs cs : List ℕ) (k : ℕ) → k < length gs → Inv gs cs k k
start gs cs k l = record { from = omega arith; within = l; joined = λ j a b. absurd (omega arith) }

another : (gs cs : List ℕ) (k : ℕ) → joins_at gs cs k ≡ true → k + 1 < length gs
unfolding joins_at
another gs cs k h =
    ltb-true (k + 1) (length gs)
    (and_both (ltb (k + 1) (length gs)) (eqb (get_or cs k 0) (get_or cs (k + 1) 0)) (and_both _ (eqb (get_or gs k 0 + 1) (get_or gs (k + 1) 0)) h).0).0

turn : {gs cs : List ℕ} {k last : ℕ} → Inv gs cs k last → joins_at gs cs last ≡ true → Inv gs cs k (last + 1)
turn {gs} {cs} {k} {last} i h =
    record {
      from = omega (arith, i.from);
      within = another gs cs last h;
      joined = λ j a b. ⊎_elim (λ e. rw e h) (i.joined j a) (eq-or-lt_of_le (le_of_suc-le-suc (rw add-one at b)));
    }

stop : {gs cs : List ℕ} {k last : ℕ} → Inv gs cs k last → joins_at gs cs last ≡ false → RunTo gs cs k last
stop i h = record { from = i.from; within = i.within; joined = i.joined; parted = h }

pub loop-last-init : goal.loop-last-init
loop-last-init c = start _ _ _ c.requires.k_in_bounds

pub loop-last-preserved : goal.loop-last-preserved
loop-last-preserved c = turn c.loop-last.invariant (sym c.joined.ensures ∙ c.loop-last-test.true)

pub returns : goal.returns
returns c = stop c.loop-last.invariant (sym c.joined.ensures ∙ c.loop-last-test.false)

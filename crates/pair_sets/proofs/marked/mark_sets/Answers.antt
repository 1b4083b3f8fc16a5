-- `pair_sets::marked::mark_sets` meets its contract: what the rows before `k` lead to has a mark. Assumes nothing.
use borrow.Author.Rules.{rules}
use mathlib.Core.Path.{◌≡◌, refl}
use native.Mathlib.Omega.{arith}
use Rattle.pair_sets.proofs.Marks.{none_marked}
use Rattle.pair_sets.proofs.marked.mark_sets.Goals as goal

pub loop-k-init : goal.loop-k-init
loop-k-init c = (omega arith, c.requires.by_index.1, none_marked _ _ _ c.requires.marks_value, refl)

pub mark_set-requires : goal.mark_set-requires
mark_set-requires c =
    let k = c.loop-k.k in
    rw c.loop-k.invariant.3 (c.requires.by_index.0 k (omega arith))

pub loop-k-preserved : goal.loop-k-preserved
loop-k-preserved c =
    let (lo, hi, m, long) = c.loop-k.invariant in
    (omega arith, omega arith, c.mark_set.ensures _ lo m, search rules)

pub shape_of-marks : goal.shape_of-marks
shape_of-marks c = c.loop-k.invariant.3

pub returns : goal.returns
returns c =
    let (lo, hi, m, long) = c.loop-k.invariant in
    let e : c.loop-k.k ≡ c.args.rows.after = omega arith in
    rw (← e) m

-- `pair_sets::seventeen_rise` meets its contract: the glyphs rise where those of each five do. Assumes nothing.
use Prim.Native.Nat.{ℕ, ◌+◌, ◌*◌}
use mathlib.Core.Path.{◌≡◌, sym, ◌∙◌}
use mathlib.Core.Bool.{true}
use native.Mathlib.Omega.{arith}
use borrow.Author.Tests.{not-true, not-false}
use Rattle.pair_sets.specs.Rising.{rises}
use Rattle.pair_sets.proofs.Ascending.{part_fails, rest_decides}
use mathlib.Core.Path.{ap}
use mathlib.Core.Bool.{not}
use Rattle.pair_sets.proofs.seventeen_rise.Goals as goal

pub returns-then-not-five_rise : goal.returns-then-not-five_rise
returns-then-not-five_rise c size k e f = part_fails _ size k 16 k 4 (sym (c.five_rise.ensures size k e f) ∙ not-true _ (ap not c.if-not-five_rise.true)) (omega arith) (omega arith)

pub returns-then-not-five_rise-2 : goal.returns-then-not-five_rise-2
returns-then-not-five_rise-2 c size k e f = part_fails _ size k 16 (k + 4) 4 (sym (c.five_rise-2.ensures size (k + 4) e (omega arith)) ∙ not-true _ (ap not c.if-not-five_rise-2.true)) (omega arith) (omega arith)

pub returns-then-not-five_rise-3 : goal.returns-then-not-five_rise-3
returns-then-not-five_rise-3 c size k e f = part_fails _ size k 16 (k + 8) 4 (sym (c.five_rise-3.ensures size (k + 8) e (omega arith)) ∙ not-true _ (ap not c.if-not-five_rise-3.true)) (omega arith) (omega arith)

pub returns : goal.returns
returns c size k e f =
    let Rise : ℕ → Type 0 = λ n. (size k : ℕ) → c.args.step ≡ 2 + size → c.args.at ≡ 2 + (2 + size) * k → rises c.args.set.now size k n ≡ true in
    let four : Rise 4 = λ size k e f. sym (c.five_rise.ensures size k e f) ∙ not-false _ (ap not c.if-not-five_rise.false) in
    let eight : (Rise 8) = λ size k e f. sym (rest_decides _ size k 4 (k + 4) 4 8 (four size k e f) (omega arith) (omega arith) (omega arith))
    ∙ sym (c.five_rise-2.ensures size (k + 4) e (omega arith)) ∙ not-false _ (ap not c.if-not-five_rise-2.false) in
    let twelve : (Rise 12) = λ size k e f. sym (rest_decides _ size k 8 (k + 8) 4 12 (eight size k e f) (omega arith) (omega arith) (omega arith))
    ∙ sym (c.five_rise-3.ensures size (k + 8) e (omega arith)) ∙ not-false _ (ap not c.if-not-five_rise-3.false) in
    c.five_rise-4.ensures size (k + 12) e (omega arith)
    ∙ rest_decides _ size k 12 (k + 12) 4 16 (twelve size k e f) (omega arith) (omega arith) (omega arith)

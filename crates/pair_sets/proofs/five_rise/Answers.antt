-- `pair_sets::five_rise` meets its contract: each glyph is compared with the one before. Assumes nothing.
use Prim.Native.Nat.{ℕ, ◌+◌, ◌*◌}
use mathlib.Core.Path.{◌≡◌, refl}
use mathlib.Core.Bool.{true}
use native.Mathlib.Omega.{arith}
use Rattle.pair_sets.specs.Rising.{rises}
use Rattle.pair_sets.proofs.Ascending.{glyph_at_lem, rises_none, rises_not, rises_last, rises_more}
use Rattle.pair_sets.proofs.five_rise.Goals as goal

pub returns-then-second-first : goal.returns-then-second-first
returns-then-second-first c size k e f =
    rises_not _ size k 4 k (k + 1) refl (glyph_at_lem _ size k c.u16_at-first.ensures f)
    (glyph_at_lem _ size (k + 1) c.u16_at-second.ensures (omega arith)) (omega arith) (omega arith) c.if-second-first.true

pub returns-then-third-second : goal.returns-then-third-second
returns-then-third-second c size k e f =
    rises_not _ size k 4 (k + 1) (k + 2) (omega arith) (glyph_at_lem _ size (k + 1) c.u16_at-second.ensures (omega arith))
    (glyph_at_lem _ size (k + 2) c.u16_at-third.ensures (omega arith)) (omega arith) (omega arith) c.if-third-second.true

pub returns-then-fourth-third : goal.returns-then-fourth-third
returns-then-fourth-third c size k e f =
    rises_not _ size k 4 (k + 2) (k + 3) (omega arith) (glyph_at_lem _ size (k + 2) c.u16_at-third.ensures (omega arith))
    (glyph_at_lem _ size (k + 3) c.u16_at-fourth.ensures (omega arith)) (omega arith) (omega arith) c.if-fourth-third.true

pub returns : goal.returns
returns c size k e f =
    let Rise : ℕ → Type 0 = λ n. (size k : ℕ) → c.args.step ≡ 2 + size → c.args.at ≡ 2 + (2 + size) * k → rises c.args.set.now size k n ≡ true in
    let two : Rise 1 = λ size k e f. rises_more _ size k 0 k (k + 1) refl (glyph_at_lem _ size k c.u16_at-first.ensures f)
    (glyph_at_lem _ size (k + 1) c.u16_at-second.ensures (omega arith)) (omega arith) (rises_none _ size k 0 refl) c.if-second-first.false in
    let three : (Rise 2) = λ size k e f. rises_more _ size k 1 (k + 1) (k + 2) (omega arith) (glyph_at_lem _ size (k + 1) c.u16_at-second.ensures (omega arith))
    (glyph_at_lem _ size (k + 2) c.u16_at-third.ensures (omega arith)) refl (two size k e f) c.if-third-second.false in
    let four : (Rise 3) = λ size k e f. rises_more _ size k 2 (k + 2) (k + 3) (omega arith) (glyph_at_lem _ size (k + 2) c.u16_at-third.ensures (omega arith))
    (glyph_at_lem _ size (k + 3) c.u16_at-fourth.ensures (omega arith)) refl (three size k e f) c.if-fourth-third.false in
    rises_last _ size k 3 (k + 3) (k + 4) (omega arith) (glyph_at_lem _ size (k + 3) c.u16_at-fourth.ensures (omega arith))
    (glyph_at_lem _ size (k + 4) c.u16_at.ensures (omega arith)) refl (four size k e f)

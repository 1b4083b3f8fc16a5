-- `store_reader::links_fit` meets its contract: the rows below `k` fit, and `least` is one more than the key of the last of them. Assumes nothing.
use mathlib.Core.List.{[]}
use native.Mathlib.Omega.{arith}
use Rattle.store_reader.proofs.Keys.{climbing_start, climbing_turn, climbing_none, climbing_fails, climbing_stop, key_most}
use Rattle.store_reader.proofs.links_fit.Goals as goal

pub loop-k-init : goal.loop-k-init
loop-k-init c = λ b. climbing_start _

pub returns-in_default : goal.returns-in_default
returns-in_default c =
    let small = c.requires.0 in
    λ b. climbing_none _ small.few small.short (c.loop-k.invariant b) c.loop-k-test.true (c.in_default.ensures b)

pub returns-then-key-least : goal.returns-then-key-least
returns-then-key-least c =
    let small = c.requires.0 in
    λ b. climbing_fails _ small.few small.short (c.loop-k.invariant b) c.loop-k-test.true (c.in-Some.ensures b) c.if-key-least.true

pub overflow_add-least : goal.overflow_add-least
overflow_add-least c =
    let small = c.requires.0 in
    omega (arith, key_most _ small.few small.short (c.loop-k.invariant []) c.loop-k-test.true (c.in-Some.ensures []))

pub loop-k-preserved : goal.loop-k-preserved
loop-k-preserved c =
    let small = c.requires.0 in
    λ b. climbing_turn _ small.few small.short (c.loop-k.invariant b) c.loop-k-test.true (c.in-Some.ensures b) c.if-key-least.false

pub returns : goal.returns
returns c = λ b. climbing_stop (c.loop-k.invariant b) c.loop-k-test.false

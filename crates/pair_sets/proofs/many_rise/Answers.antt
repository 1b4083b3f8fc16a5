-- `pair_sets::many_rise` meets its contract: `at` is the place of a record behind which nothing was looked at. Assumes nothing.
use Prim.Native.Nat.{◌+◌}
use mathlib.Core.Path.{refl}
use native.Mathlib.Nat.{mul-le-mul_left}
use native.Mathlib.Omega.{arith}
use Rattle.pair_sets.proofs.Windows.{none_passed, within, fails, ends, goes_on}
use mathlib.Core.Path.{ap}
use mathlib.Core.Bool.{not}
use Rattle.pair_sets.proofs.many_rise.Goals as goal

pub overflow_sub-last : goal.overflow_sub-last
overflow_sub-last c = omega (arith, mul-le-mul_left (2 + c.args.size) c.requires.2)

pub loop-size-init : goal.loop-size-init
loop-size-init c = none_passed _ _ _ c.requires.2

pub seventeen_rise-requires : goal.seventeen_rise-requires
seventeen_rise-requires c = within c.loop-size.invariant c.requires.1

pub returns-then-not-seventeen_rise : goal.returns-then-not-seventeen_rise
returns-then-not-seventeen_rise c =
    let v = c.loop-size.invariant in
    fails v c.requires.1 (c.seventeen_rise.ensures _ v.k refl v.place) (ap not c.if-not-seventeen_rise.true)

pub returns-then-last-at : goal.returns-then-last-at
returns-then-last-at c =
    let v = c.loop-size.invariant in
    ends v c.requires.1 (c.seventeen_rise.ensures _ v.k refl v.place) (ap not c.if-not-seventeen_rise.false) c.if-last-at.true

pub loop-size-smaller : goal.loop-size-smaller
loop-size-smaller c = omega (arith, c.min-at.ensures)

pub loop-size-preserved : goal.loop-size-preserved
loop-size-preserved c =
    let v = c.loop-size.invariant in
    goes_on v c.requires.1 (c.seventeen_rise.ensures _ v.k refl v.place) (ap not c.if-not-seventeen_rise.false) c.min-at.ensures

-- `pair_values::device_number` meets its contract: by the link, whose child has a number of sixteen bits. Assumes nothing.
use mathlib.Core.List.{[]}
use native.Mathlib.Omega.{arith}
use Rattle.store_rules.specs.Store.{lent}
use Rattle.pair_values.proofs.Fields.{child_small, device_linked, device_none}
use Rattle.pair_values.proofs.device_number.Goals as goal

pub overflow_add-result : goal.overflow_add-result
overflow_add-result c =
    let a = c.args in
    omega (arith, child_small (lent [] [] a.links.now a.counts) a.object a.position (c.child_at-child.ensures [] []) c.requires.by_index c.in-Some.is)

pub overflow_cast-result : goal.overflow_cast-result
overflow_cast-result c =
    let a = c.args in
    record { sfits = omega (arith, child_small (lent [] [] a.links.now a.counts) a.object a.position (c.child_at-child.ensures [] []) c.requires.by_index c.in-Some.is) }

pub returns-in-Some : goal.returns-in-Some
returns-in-Some c b o =
    let a = c.args in
    device_linked (lent b o a.links.now a.counts) a.object a.position
    (c.child_at-child.ensures b o) c.in-Some.is
    (child_small (lent [] [] a.links.now a.counts) a.object a.position
    (c.child_at-child.ensures [] []) c.requires.by_index c.in-Some.is)

pub returns-in-None : goal.returns-in-None
returns-in-None c b o = let a = c.args in device_none (lent b o a.links.now a.counts) a.object a.position (c.child_at-child.ensures b o) c.in-None.is

-- `store_link_rows::own_child` meets its contract: by the first of its own positions that is the link's. Assumes nothing.
use mathlib.Core.Path.{◌≡◌}
use borrow.Author.Rules.{rules}
use borrow.Author.Tests.{tests}
use Rattle.std.proofs.lemmas.Iterator.{IsFirst-from_position, YieldsList-from_slice}
use Rattle.store_link_rows.proofs.Header.{FirstOwn, own_first, own_none}
use Rattle.store_link_rows.proofs.own_child.Goals as goal

pub returns-in-Some : goal.returns-in-Some
returns-in-Some c =
    let a = c.args in
    let first : FirstOwn a.own.now a.first a.position a.child c.position.result =
    IsFirst-from_position _ _ c.position.result (λ x. a.position ≡ x) (λ x. a.position ≡ x → ⊥) c.position.ensures.ran
    (YieldsList-from_slice a.own.now cc) (λ x q k. search (rules, tests)) (λ x q k. search (rules, tests)) in
    own_first a.own.now a.first a.position a.child (rw c.in-Some.is at first)

pub returns-in-None : goal.returns-in-None
returns-in-None c =
    let a = c.args in
    let first : FirstOwn a.own.now a.first a.position a.child c.position.result =
    IsFirst-from_position _ _ c.position.result (λ x. a.position ≡ x) (λ x. a.position ≡ x → ⊥) c.position.ensures.ran
    (YieldsList-from_slice a.own.now cc) (λ x q k. search (rules, tests)) (λ x q k. search (rules, tests)) in
    own_none a.own.now a.first a.position a.child (rw c.in-None.is at first)

-- `compact_call::roots_used` meets its contract: each root is looked at until one is not in use. Assumes nothing.
use Rattle.std.proofs.lemmas.Iterator.{cases_from_all, YieldsList-from_slice}
use Prim.Native.Nat.{◌<◌, ◌≤◌}
use borrow.Author.Rules.{rules}
use borrow.Author.Tests.{tests}
use Rattle.compact_call.proofs.Calling.{roots_told}
use Rattle.compact_call.proofs.roots_used.Goals as goal

pub returns : goal.returns
returns c =
    let n = c.args.count in
    roots_told n c.args.roots.now _
    (cases_from_all _ _ _ (λ x. x < n) (λ x. n ≤ x) c.all.ensures.ran (YieldsList-from_slice c.args.roots.now cc) (λ x q k. search (rules, tests)) (λ x q k. search (rules, tests)))

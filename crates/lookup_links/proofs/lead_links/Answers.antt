-- `lookup_links::lead_links` meets its contract: the rows before k are redirected. Assumes nothing.
use lib.ListN.{length-set}
use borrow.Author.Rules.{rules}
use Rattle.store_link_rows.proofs.Changing.{changed_start, changed_turn, changed_done}
use Rattle.lookup_links.proofs.Redirecting.{numbers_fit, row_redirected, all-redirected}
use Rattle.lookup_links.proofs.lead_links.Goals as goal

pub loop-k-init : goal.loop-k-init
loop-k-init c = changed_start _ _ _ (search rules)

pub moved_child-requires : goal.moved_child-requires
moved_child-requires c = numbers_fit c.requires _

pub loop-k-preserved : goal.loop-k-preserved
loop-k-preserved c =
    changed_turn _ _ _ _ _ c.loop-k.invariant _ c.loop-k-test.true (simp length-set)
    (row_redirected _ _ _ _ (search rules) _ c.moved_child.ensures)

pub returns : goal.returns
returns c = λ ps w. all-redirected ps _ w _ _ _ (changed_done _ _ _ _ _ c.loop-k.invariant c.loop-k-test.false)

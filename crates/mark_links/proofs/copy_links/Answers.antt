-- `mark_links::copy_links` meets its contract: the new rows stand behind the old ones, of which the kept table's then lead to its new objects. Assumes nothing.
use Rattle.mark_links.proofs.Finishing.{ready, split_done}
use Rattle.mark_links.proofs.copy_links.Goals as goal

pub copy_new-count-requires : goal.copy_new-count-requires
copy_new-count-requires c = ready c.requires.bytes c.requires.objects _ _ _ _ _ _ _ c.requires.known

pub returns : goal.returns
returns c =
    let counts = c.args.counts in
    λ b o known. split_done b o _ counts _ _ _ _ _ known c.copy_new-count.ensures c.keep_rows.ensures

-- `mark_plan::cutting::info_of` meets its contract: the length is what `size_of` answers. Assumes nothing.
use Rattle.mark_plan.proofs.cutting.info_of.Goals as goal

pub size_of-requires : goal.size_of-requires
size_of-requires c = (c.requires.row, c.requires.ordered)

pub returns : goal.returns
returns c = cc

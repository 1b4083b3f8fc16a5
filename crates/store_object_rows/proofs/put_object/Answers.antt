-- `store_object_rows::put_object` meets its contract: two numbers are written, one behind the other. Assumes nothing.
use Rattle.folds.proofs.Put.{put_two}
use Rattle.store_object_rows.proofs.put_object.Goals as goal

pub returns : goal.returns
returns c = put_two _ _ _ _ c.requires

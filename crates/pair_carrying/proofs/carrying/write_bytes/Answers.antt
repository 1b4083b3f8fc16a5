-- `carrying::write_bytes` meets its contract: the new objects come behind those in use, and the table is then shortened. Assumes nothing.
use Rattle.pair_carrying.proofs.Keeping.{write_asked, keep_ready, keep_wrote}
use Rattle.pair_carrying.proofs.carrying.write_bytes.Goals as goal

pub write_objects-end-requires : goal.write_objects-end-requires
write_objects-end-requires c = let all = write_asked c.requires.1 in record { planned_parts = all.0; old = all.1.0; objects_room_lem = all.1.1 }

pub keep_items-requires : goal.keep_items-requires
keep_items-requires c = keep_ready c.requires.1 c.write_objects-end.ensures

pub returns : goal.returns
returns c l w = keep_wrote w c.write_objects-end.ensures c.keep_items.ensures.data_value c.keep_items.ensures.objects_value

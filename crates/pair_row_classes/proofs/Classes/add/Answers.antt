-- `pair_row_classes::Classes::add` meets its contract: the class's glyphs stand behind those that are held. Assumes nothing.
use Prim.Native.Nat.{◌+◌}
use native.Mathlib.Omega.{arith}
use Rattle.pair_row_classes.proofs.ClassesHeld.{part-inside, held_from, held_end, held_ready, held_more}
use Rattle.pair_row_classes.proofs.Classes.add.Goals as goal

pub class_end-to-requires : goal.class_end-to-requires
class_end-to-requires c = held_from c.requires.3 c.requires.4

pub slice_bounds-add-end : goal.slice_bounds-add-end
slice_bounds-add-end c = (part-inside c.requires.3 c.args.class (c.args.class + 1) _ _ (omega arith) c.requires.4.to (held_end c.requires.3 c.requires.4 c.class_end-to.ensures)).1

pub add-requires : goal.add-requires
add-requires c = held_ready c.requires.3 c.requires.4 c.requires.2 c.requires.4.to (held_end c.requires.3 c.requires.4 c.class_end-to.ensures)

pub returns : goal.returns
returns c =
    λ es a order o v.
    (held_more o v order v.to (held_end o v c.class_end-to.ensures) c.add.ensures, v.to)

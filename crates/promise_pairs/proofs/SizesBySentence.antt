-- S of a table's items is what its sentence says. Assumes nothing.
use Prim.Native.Nat.{◌+◌}
use native.Mathlib.Omega.{arith}
use Rattle.ot_layouts.specs.PairPos.{item_at}
use Rattle.ot_layouts.proofs.Shapes.{items_rise}
use Rattle.pair_rules.specs.Table.{shape, of_items}
use Rattle.store_rules.proofs.Sound.{sound_fits}
use Rattle.store_rules.proofs.ItemSize.{item_size_is, spans_grow}
use Rattle.promise_pairs.specs.Demands.{SizesBySentence}

pub sizes_by_sentence : SizesBySentence
sizes_by_sentence s t a i h le =
    let sh = shape s t in
    item_size_is s (sound_fits s h) (of_items t sh) a i
    (spans_grow t (item_at sh a) (item_at sh i) (item_at sh (i + 1)) (items_rise sh a i le) (items_rise sh i (i + 1) (omega arith)))

-- S of a table's classes is what its sentence says. Assumes nothing.
use Prim.Native.Nat.{◌+◌}
use native.Mathlib.Omega.{arith}
use Rattle.store_rules.proofs.Sound.{sound_fits}
use Rattle.store_rules.proofs.ItemSize.{item_size_is}
use Rattle.mark_rules.specs.Table.{of_classes}
use Rattle.mark_rules.proofs.ClassLinks.{classes_grow}
use Rattle.promise_marks.specs.Demands.{SizesBySentence}

pub sizes_by_sentence : SizesBySentence
sizes_by_sentence s t a i h le = item_size_is s (sound_fits s h) (of_classes s t) a i (classes_grow s t a i (i + 1) le (omega arith))

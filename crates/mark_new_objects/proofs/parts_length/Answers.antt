-- `mark_new_objects::parts_length` meets its contract: the sum fits. Assumes nothing.
use native.Mathlib.Omega.{arith}
use Rattle.ot_layouts.proofs.CoverageLength.{cover_length}
use Rattle.mark_new_objects.proofs.Lengths.{slots_small}
use Rattle.mark_new_objects.proofs.parts_length.Goals as goal

pub overflow_add-result-2 : goal.overflow_add-result-2
overflow_add-result-2 c = omega (arith, (cover_length c.args.glyphs.now).1)

pub overflow_add-result-4 : goal.overflow_add-result-4
overflow_add-result-4 c =
    let a = c.args in
    omega (arith, (cover_length a.glyphs.now).1, slots_small a.bases a.classes (omega arith) (omega arith))

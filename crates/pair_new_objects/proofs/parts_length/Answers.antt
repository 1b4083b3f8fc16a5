-- `pair_new_objects::parts_length` meets its contract: coverage, and in format 2 class definition 1. Assumes nothing.
use native.Mathlib.Omega.{arith}
use Rattle.pair_new_objects.proofs.Parts.{one_length, two_length, glyphs_ascend, both_small}
use Rattle.pair_new_objects.proofs.parts_length.Goals as goal

pub returns-then-format-eq1 : goal.returns-then-format-eq1
returns-then-format-eq1 c = one_length _ _ _ _ c.requires.classes_len _ c.if-format-eq1.true c.coverage_length-coverage.ensures

pub class_def_length-requires : goal.class_def_length-requires
class_def_length-requires c = record { classes_len = c.requires.classes_len; ascending = glyphs_ascend _ _ _ _ c.requires.classes_len c.requires.beside }

pub overflow_add-result : goal.overflow_add-result
overflow_add-result c =
    omega (
      arith,
      both_small _ _ _ _ c.requires.classes_len
          c.requires.beside (λ i. (c.shared_slice_known-1.given i).fits) _ _
          c.coverage_length-coverage.ensures c.class_def_length.ensures,
    )

pub returns : goal.returns
returns c = two_length _ _ _ _ c.requires.classes_len _ _ c.if-format-eq1.false c.coverage_length-coverage.ensures c.class_def_length.ensures

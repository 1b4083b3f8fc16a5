-- `mark_points::anchors::class_size` meets its contract: the column, and then the marks. Assumes nothing.
use native.Mathlib.Omega.{arith}
use Rattle.store_walk.proofs.Grown.{grown_more}
use Rattle.mark_points.proofs.Walking.{walks_on, walks_most}
use Rattle.mark_points.proofs.anchors.class_size.Goals as goal

pub marks_size-marks-requires : goal.marks_size-marks-requires
marks_size-marks-requires c = (c.requires.rows_known.0.marks, walks_on c.requires.rows_known.1 c.column_size-bases.ensures)

pub overflow_add-result : goal.overflow_add-result
overflow_add-result c =
    let rows_known_1 = c.requires.rows_known.1 in
    let bases_is = c.column_size-bases.ensures in
    omega (arith, walks_most rows_known_1 bases_is, walks_most (walks_on rows_known_1 bases_is) c.marks_size-marks.ensures)

pub returns : goal.returns
returns c =
    record {
      grown = λ b from u v. let g = c.column_size-bases.ensures.grown b from u v in grown_more g (c.marks_size-marks.ensures.grown b _ u g.marks);
    }

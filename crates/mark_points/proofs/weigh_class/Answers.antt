-- `mark_points::weigh_class` meets its contract: the class's cost and the coverage of the marks in the table are the cut rule's, and a cut restarts
-- both. Assumes nothing.
use Prim.Native.Nat.{◌<◌}
use native.Mathlib.Omega.{arith}
use borrow.Author.Rules.{rules}
use Rattle.mark_points.proofs.ClassLinks.{slots_most}
use Rattle.mark_points.proofs.MarkCounts.{start_of_lem}
use Rattle.mark_points.proofs.Turns.{
  start_most,
  cut_room,
  marks_few,
  partial_few,
  class_added,
  goes_now,
  class_few,
  goes_again,
  again_few,
  class_cut,
}
use Rattle.mark_points.proofs.weigh_class.Goals as goal

pub class_end-to-requires : goal.class_end-to-requires
class_end-to-requires c = let v = c.requires.class_lt_classes.1.3 in start_of_lem v.described _ _ v.from

pub slice_bounds-own-end : goal.slice_bounds-own-end
slice_bounds-own-end c = let (inside, known) = c.requires.class_lt_classes in (marks_few known.3 inside c.class_end-to.ensures).1

pub class_size-size-requires : goal.class_size-size-requires
class_size-size-requires c =
    let (inside, known) = c.requires.class_lt_classes in
    record { class_lt_classes = (inside, slots_most known.3.described); rows_known = (c.requires.rows_known, goes_now _ known.3 inside) }

pub overflow_add-slots : goal.overflow_add-slots
overflow_add-slots c =
    let (inside, known) = c.requires.class_lt_classes in
    omega (arith, class_few _ known.3 inside c.class_end-to.ensures c.class_size-size.ensures)

pub overflow_add-partial : goal.overflow_add-partial
overflow_add-partial c =
    let (inside, known) = c.requires.class_lt_classes in omega (arith, partial_few known.3 inside c.class_end-to.ensures)

pub overflow_add-slots-2 : goal.overflow_add-slots-2
overflow_add-slots-2 c =
    let (inside, known) = c.requires.class_lt_classes in
    omega (arith, class_few _ known.3 inside c.class_end-to.ensures c.class_size-size.ensures)

pub is_due-requires : goal.is_due-requires
is_due-requires c =
    let (inside, known) = c.requires.class_lt_classes in
    let end = c.class_end-to.ensures in (
      omega (arith, known.3.filled.small),
      omega (arith, class_few _ known.3 inside end c.class_size-size.ensures),
      omega (arith, partial_few known.3 inside end),
    )

pub class_size_at_cut-again-requires : goal.class_size_at_cut-again-requires
class_size_at_cut-again-requires c =
    let (inside, known) = c.requires.class_lt_classes in
    let again = goes_again _ known.3 inside c.class_end-to.ensures c.class_size-size.ensures in
    record { class_lt_classes = (inside, slots_most known.3.described); rows_known = (c.requires.rows_known, again) }

pub overflow_add-slots-then-is_due : goal.overflow_add-slots-then-is_due
overflow_add-slots-then-is_due c =
    let (inside, known) = c.requires.class_lt_classes in
    let few : c.args.info.arrays.bases < 65536 = search rules in
    let end = c.class_end-to.ensures in
    let walks = c.class_size-size.ensures in
    omega (arith, few, class_few _ known.3 inside end walks, again_few _ known.3 inside end walks c.class_size_at_cut-again.ensures)

pub cut-requires : goal.cut-requires
cut-requires c =
    let (inside, known) = c.requires.class_lt_classes in
    let few : c.args.info.arrays.bases < 65536 = search rules in
    let end = c.class_end-to.ensures in
    let walks = c.class_size-size.ensures in (
      omega (arith, few, class_few _ known.3 inside end walks, again_few _ known.3 inside end walks c.class_size_at_cut-again.ensures),
      omega (arith, start_most known.3.described),
      cut_room known.3 inside,
    )

pub returns-then-is_due : goal.returns-then-is_due
returns-then-is_due c =
    let inside = c.requires.class_lt_classes.0 in
    let few : c.args.info.arrays.bases < 65536 = search rules in
    let end = c.class_end-to.ensures in
    let walks = c.class_size-size.ensures in
    let again = c.class_size_at_cut-again.ensures in
    λ b t d v. class_cut _ v inside end walks again c.is_due.ensures few c.if-is_due.true c.cut.ensures

pub overflow_add-slots-3 : goal.overflow_add-slots-3
overflow_add-slots-3 c =
    let (inside, known) = c.requires.class_lt_classes in
    omega (arith, class_few _ known.3 inside c.class_end-to.ensures c.class_size-size.ensures)

pub add-requires : goal.add-requires
add-requires c =
    let (inside, known) = c.requires.class_lt_classes in
    (omega (arith, known.3.filled.small), omega (arith, class_few _ known.3 inside c.class_end-to.ensures c.class_size-size.ensures))

pub returns : goal.returns
returns c =
    let few : c.args.info.arrays.bases < 65536 = search rules in
    let inside = c.requires.class_lt_classes.0 in
    let end = c.class_end-to.ensures in
    λ b t d v.
    let grown = c.class_size-size.ensures.grown b _ v.described.reads.sounds v.marks in
    class_added v inside end grown c.is_due.ensures few c.if-is_due.false c.add.ensures

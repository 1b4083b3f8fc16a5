-- `mark_points::compute_split_points` meets its contract: after each class the code stands where the cut rule does. Assumes nothing.
use mathlib.Core.Path.{refl}
use native.Mathlib.Omega.{arith}
use borrow.Author.Rules.{rules}
use Rattle.store_reader.proofs.Rows.{in_order_lem}
use Rattle.mark_points.proofs.ClassLinks.{described_fits, arrays_used}
use Rattle.mark_points.proofs.Turns.{columns_start, columns_stop}
use Rattle.mark_points.proofs.compute_split_points.Goals as goal

pub of-rows-requires : goal.of-rows-requires
of-rows-requires c =
    let u = c.requires.2.described in
    let fits = described_fits u in
    let used = arrays_used u in
    record {
      in_order_lem = in_order_lem _ fits;
      used = (omega (arith, u.marks_at, used.0, fits.objects_most), omega (arith, u.bases_at, used.1, fits.objects_most));
    }

pub loop-class-init : goal.loop-class-init
loop-class-init c = record { inside = search rules; walk = refl; long = refl; below = λ b t r. columns_start _ r c.new.ensures }

pub weigh_class-columns-requires : goal.weigh_class-columns-requires
weigh_class-columns-requires c =
    let (b, t, ready) = c.requires in
    record {
      rows_known = c.of-rows.ensures;
      class_lt_classes = (c.loop-class-test.true, (b, t, _, c.loop-class.invariant.below b t ready));
    }

pub loop-class-preserved : goal.loop-class-preserved
loop-class-preserved c =
    record {
      inside = search rules;
      walk = search rules;
      long = search rules;
      below = λ b t r. c.weigh_class-columns.ensures b t _ (c.loop-class.invariant.below b t r);
    }

pub returns : goal.returns
returns c = λ b t r. columns_stop (c.loop-class.invariant.below b t r) (search rules)

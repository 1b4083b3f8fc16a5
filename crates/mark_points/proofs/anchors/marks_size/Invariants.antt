-- `mark_points::anchors::marks_size` meets its contract: one mark's slot after another. Assumes nothing.
use lib.ListN.{length, get_or}
use Rattle.ot_layouts.specs.MarkBasePos.{mark_slot}
use Rattle.mark_points.proofs.Walking.{Walking}
use Rattle.mark_points.proofs.anchors.marks_size.Given as goal

abbrev pub invariant-loop-place : goal.invariant-loop-place
invariant-loop-place l =
    Walking l.objects l.links l.counts l.array.object (λ j. mark_slot (get_or l.places j 0)) l.epoch l.initial.walk (length l.places) l.place-index
    l.walk l.size

-- `mark_points::anchors::column_size` meets its contract: one base's slot after another. Assumes nothing.
use Prim.Native.Nat.{◌+◌, ◌*◌}
use Rattle.ot_layouts.specs.MarkBasePos.{base_slot}
use Rattle.mark_points.proofs.Walking.{Walking}
use Rattle.mark_points.proofs.anchors.column_size.Given as goal

abbrev pub invariant-loop-base : goal.invariant-loop-base
invariant-loop-base l =
    Walking l.objects l.links l.counts l.array.object (λ j. base_slot (j * l.classes + l.class)) l.epoch l.initial.walk l.bases l.base l.walk l.size

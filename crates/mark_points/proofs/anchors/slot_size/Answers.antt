-- `mark_points::anchors::slot_size` meets its contract: the rows up to the first past the position are the one that stands there, if there is one.
-- Assumes nothing.
use native.Mathlib.Omega.{arith}
use Rattle.store_rules.proofs.Sound.{sound_fits}
use Rattle.store_reader.proofs.Rows.{in_order_lem, among-parent}
use Rattle.mark_points.proofs.Walking.{slot_offsets, slot_grown}
use Rattle.mark_points.proofs.anchors.slot_size.Goals as goal

pub row_near-row-requires : goal.row_near-row-requires
row_near-row-requires c =
    (in_order_lem _ (sound_fits _ c.requires.walkable.1.1.is_sound), among-parent c.requires.walkable.0 _ (omega (arith, c.requires.position_bound)))

pub next_row-next-requires : goal.next_row-next-requires
next_row-next-requires c = (
  in_order_lem _ (sound_fits _ c.requires.walkable.1.1.is_sound),
  c.row_near-row.ensures.within,
  λ k h. omega (arith, c.row_near-row.ensures.below k h),
)

pub subgraph_size-size-requires : goal.subgraph_size-size-requires
subgraph_size-size-requires c =
    let next_is = c.next_row-next.ensures in (
      next_is.within,
      c.requires.walkable.1,
      slot_offsets _ _ (sound_fits _ c.requires.walkable.1.1.is_sound) c.requires.position_bound c.row_near-row.ensures next_is,
    )

pub returns : goal.returns
returns c =
    record {
      walked = record {
        grown = λ b from u v.
            slot_grown _ _ (sound_fits _ u) c.requires.position_bound c.row_near-row.ensures c.next_row-next.ensures v
            (c.subgraph_size-size.ensures b from v);
      };
      row_most = c.row_near-row.ensures.within;
      next_most = c.next_row-next.ensures.within;
    }

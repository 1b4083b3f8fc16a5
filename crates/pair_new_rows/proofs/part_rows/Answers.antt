-- `pair_new_rows::part_rows` meets its contract: the rows that move are the same rows behind the others. Assumes nothing.
use Prim.Native.Nat.{◌*◌, ◌≤◌}
use lib.ListN.{length}
use native.Mathlib.Omega.{arith}
use Rattle.store_rules.specs.Store.{per_link}
use Rattle.pair_new_rows.proofs.Joining.{ordered_there, floor_there, parted_done}
use Rattle.pair_new_rows.proofs.part_rows.Goals as goal

pub spread-requires : goal.spread-requires
spread-requires c =
    let (a_le_b, b_le_m, grows) = c.requires.a_le_b in
    let room : per_link * c.args.m ≤ length c.args.links.now = omega arith in
    let turned = c.rotate_rows.ensures in
    record {
      fit = c.requires.fit;
      q_le_m = omega arith;
      positions_rise = ordered_there _ _ _ _ a_le_b b_le_m room _ turned c.requires.positions_rise;
      by_index = floor_there _ _ _ _ a_le_b b_le_m room _ turned _ c.requires.by_index;
    }

pub returns : goal.returns
returns c =
    let (a_le_b, b_le_m, grows) = c.requires.a_le_b in
    let room : per_link * c.args.m ≤ length c.args.links.now = omega arith in
    parted_done _ _ _ _ a_le_b b_le_m room _ c.rotate_rows.ensures _ _ grows c.spread.ensures

-- `pair_plan::cutting::cut_rows` meets its contract: what is asked of the table and of its places goes by what the checks hold, with an empty set.
-- Assumes nothing.
use Rattle.pair_plan.proofs.Looking.{class2_beside, rows_ready, rows_placed, rows_tell}
use Rattle.pair_plan.proofs.cutting.cut_rows.Goals as goal

pub info_of-info-requires : goal.info_of-info-requires
info_of-info-requires c = class2_beside c.requires.1

pub compute_format2_split_points-requires : goal.compute_format2_split_points-requires
compute_format2_split_points-requires c = (c.requires.0, rows_ready c.requires.1 c.info_of-info.ensures (c.fill.ensures.after (λ y e. e)))

pub returns : goal.returns
returns c =
    let found = c.compute_format2_split_points.ensures in
    record {
      cuts_rows = λ b k. rows_placed k c.info_of-info.ensures (c.fill.ensures.after (λ y e. e)) c.args.settings (found.places2 b);
      rows_tell = λ b k. rows_tell k c.info_of-info.ensures (c.fill.ensures.after (λ y e. e)) (found.tells2 b);
    }

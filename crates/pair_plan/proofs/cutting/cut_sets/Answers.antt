-- `pair_plan::cutting::cut_sets` meets its contract: what is asked of the table, and of its places, goes by what the checks hold. Assumes nothing.
use Rattle.pair_plan.proofs.Looking.{coverage_beside, sets_ready, sets_placed, sets_tell_lem}
use Rattle.pair_plan.proofs.cutting.cut_sets.Goals as goal

pub info_of-info-requires : goal.info_of-info-requires
info_of-info-requires c = coverage_beside c.requires.1

pub compute_format1_split_points-requires : goal.compute_format1_split_points-requires
compute_format1_split_points-requires c = (c.requires.0, sets_ready c.requires.1 c.info_of-info.ensures)

pub returns : goal.returns
returns c =
    let found = c.compute_format1_split_points.ensures in
    record {
      cuts_sets = λ b k. sets_placed k c.info_of-info.ensures c.args.settings (found.places1 b);
      sets_tell = λ b k. sets_tell_lem k c.info_of-info.ensures (found.tells1 b);
    }

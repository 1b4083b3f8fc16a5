-- `pair_plan::cutting::cut_table` meets its contract: the format decides. Assumes nothing.
use Rattle.pair_plan.specs.Cutting.{Looked1}
use Rattle.pair_plan.proofs.cutting.cut_table.Goals as goal

pub cut_sets-requires : goal.cut_sets-requires
cut_sets-requires c = (c.args.«data».now, record { walked = c.requires.walked; one = c.if-layout-eq1.true })

pub returns-then-layout-eq1 : goal.returns-then-layout-eq1
returns-then-layout-eq1 c =
    let one = c.if-layout-eq1.true in
    let looked : Looked1 _ _ _ _ _ = record { walked = c.requires.walked; one = one } in
    record {
      cuts_table = record { placed = c.cut_sets.ensures.cuts_sets c.args.«data».now looked; fronted = λ two. absurd (two one) };
      tells_cycle = c.cut_sets.ensures.sets_tell c.args.«data».now looked;
    }

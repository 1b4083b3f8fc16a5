-- `call_lists::hand_out` meets its contract: by what was decided. Assumes nothing.
use Rattle.std.proofs.lemmas.Result.{err_from_is_err_and}
use Rattle.call_lists.proofs.Handing.{out_settled, out_places}
use Rattle.call_lists.proofs.hand_out.Goals as goal

pub returns-in_err-plan : goal.returns-in_err-plan
returns-in_err-plan g c =
    let p = err_from_is_err_and c.from_residual.result c.from_residual.ensures.1 in
    let a = c.args in
    rw (p.1, p.2) (out_settled a.cuts.now a.places.now c.in_err-plan.was)

pub returns : goal.returns
returns g c = let a = c.args in out_places a.cuts.now a.places.now c.in_ok-plan.was c.list_places.ensures

-- `measuring::links_from` meets its contract: the object's rows are counted. Assumes nothing.
use native.Mathlib.Omega.{arith}
use Rattle.store_rules.specs.Store.{lent}
use Rattle.store_rules.proofs.Sound.{sound_fits}
use Rattle.store_reader.proofs.Rows.{in_order_lem, positions_low}
use Rattle.store_link_rows.proofs.OwnLinks.{own_many}
use Rattle.mark_carrying.proofs.measuring.links_from.Goals as goal

pub returns : goal.returns
returns c =
    let a = c.args in
    record {
      upper_bound = omega (arith, c.rows_of-rows.ensures.after.within);
      by_index = λ b o sounds.
          let s = lent b o a.links.now a.counts in
          let f = sound_fits s sounds in
          own_many s (in_order_lem s f) (positions_low s f) a.object c.rows_of-rows.ensures;
    }

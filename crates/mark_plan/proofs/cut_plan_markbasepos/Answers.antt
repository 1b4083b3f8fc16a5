-- `mark_plan::cut_plan_markbasepos` meets its contract: what was decided is handed out, and the scratch is cleared. Assumes nothing.
use native.Mathlib.Omega.{arith}
use Rattle.store_rules.specs.Store.{lent}
use Rattle.call_rules.specs.Scratch.{scratch_of}
use Rattle.call_lists.proofs.GivenOut.{given_out}
use Rattle.mark_plan.proofs.Planning.{can_hand_out, plan_called}
use Rattle.mark_plan.proofs.cut_plan_markbasepos.Goals as goal

pub hand_out-listed-requires : goal.hand_out-listed-requires
hand_out-listed-requires c = can_hand_out (λ i. omega (arith, c.shared_slice_known-1.given i)) c.decide-decision.ensures

pub returns : goal.returns
returns c =
    let a = c.args in
    let same = c.decide-decision.auto in
    given_out c.hand_out-listed.result c.give_out.ensures.answer c.give_out.ensures.count
    (plan_called a.settings (lent a.«data».now a.objects.now a.links.now a.counts) a.table
    (scratch_of a.walk.now a.glyph_set.now a.glyphs.now a.classes.now a.cuts.now) a.places.now
    c.decide-decision.ensures c.hand_out-listed.ensures
    (record { walk = same.walk; set = same.glyph_set; glyphs = same.glyphs; classes = same.classes; cuts = same.cuts })
    c.clear_scratch.ensures)

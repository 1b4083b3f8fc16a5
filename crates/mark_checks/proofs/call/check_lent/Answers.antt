-- `mark_checks::call::check_lent` meets its contract: the lengths, and then the slots. Assumes nothing.
use Rattle.mark_checks.proofs.Calling.{call_short, call_slots, call_passed}
use mathlib.Core.Path.{ap}
use mathlib.Core.Bool.{not}
use Rattle.mark_checks.proofs.call.check_lent.Goals as goal

pub returns-then-is_short : goal.returns-then-is_short
returns-then-is_short c b o v = call_short v _ c.is_short.ensures c.if-is_short.true

pub returns-then-not-links_at_slots : goal.returns-then-not-links_at_slots
returns-then-not-links_at_slots c b o v =
    call_slots v _ c.is_short.ensures c.if-is_short.false (c.links_at_slots.ensures b o v) (ap not c.if-not-links_at_slots.true)

pub returns : goal.returns
returns c b o v = call_passed v _ c.is_short.ensures c.if-is_short.false (c.links_at_slots.ensures b o v) (ap not c.if-not-links_at_slots.false)

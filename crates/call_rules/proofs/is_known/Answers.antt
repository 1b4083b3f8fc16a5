-- `call_rules::is_known` meets its contract: by the first test, or else by the second. Assumes nothing.
use borrow.Author.Tests.{eq-eqb, ne_eqb}
use Rattle.call_rules.specs.Settings.{known}
use Rattle.call_rules.proofs.is_known.Goals as goal

pub returns-then-settings-eq1 : goal.returns-then-settings-eq1
unfolding known
returns-then-settings-eq1 c = let e = c.args.settings.edition in rw (eq-eqb e 1 c.if-settings-eq1.true)

pub returns-else-settings-eq1 : goal.returns-else-settings-eq1
unfolding known
returns-else-settings-eq1 c = let e = c.args.settings.edition in rw (ne_eqb e 1 c.if-settings-eq1.false)

-- `pair_checks::check_table` meets its contract: 1, and then the checks of a sound store's table. Assumes nothing.
use Rattle.store_rules.specs.Store.{lent}
use Rattle.pair_checks.proofs.Deciding.{not_sound, tested}
use mathlib.Core.Path.{ap}
use mathlib.Core.Bool.{not}
use Rattle.pair_checks.proofs.check_table.Goals as goal

pub returns-then-not-is_sound : goal.returns-then-not-is_sound
returns-then-not-is_sound c =
    let a = c.args in
    not_sound (lent a.«data».now a.objects.now a.links.now a.counts) a.table c.is_sound.ensures (ap not c.if-not-is_sound.true)

pub check_sound_table-requires : goal.check_sound_table-requires
check_sound_table-requires c =
    let a = c.args in
    tested (lent a.«data».now a.objects.now a.links.now a.counts) a.table c.is_sound.ensures (ap not c.if-not-is_sound.false)

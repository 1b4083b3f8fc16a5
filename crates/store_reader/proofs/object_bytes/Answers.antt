-- `store_reader::object_bytes` meets its contract: an object of a sound store lies within its bytes. Assumes nothing.
use mathlib.Core.Path.{◌∙◌}
use Rattle.store_rules.specs.Store.{lent}
use Rattle.store_reader.proofs.Bytes.{fits_tested, inside, handed_unsound, handed_unused, handed}
use mathlib.Core.Path.{ap}
use mathlib.Core.Bool.{not}
use Rattle.store_reader.proofs.object_bytes.Goals as goal

pub returns-then-not-is_sound : goal.returns-then-not-is_sound
returns-then-not-is_sound c =
    let a = c.args in
    handed_unsound (lent a.«data».now a.objects.now a.links.now a.counts) a.table c.is_sound.ensures (ap not c.if-not-is_sound.true)

pub returns-then-counts-table : goal.returns-then-counts-table
returns-then-counts-table c =
    let a = c.args in
    handed_unused (lent a.«data».now a.objects.now a.links.now a.counts) a.table c.if-counts-table.true

pub bytes_of-requires : goal.bytes_of-requires
bytes_of-requires c =
    let a = c.args in
    let s = lent a.«data».now a.objects.now a.links.now a.counts in
    inside s (fits_tested s c.is_sound.ensures (ap not c.if-not-is_sound.false)) a.table c.if-counts-table.false

pub returns : goal.returns
returns c =
    let a = c.args in
    c.bytes_of.ensures a.links.now a.counts
    ∙ handed (lent a.«data».now a.objects.now a.links.now a.counts) a.table c.is_sound.ensures (ap not c.if-not-is_sound.false) c.if-counts-table.false

-- `glyph_parts::linked_part` meets its contract: by the link, and by what reading the object answers. Assumes nothing.
use mathlib.Core.Path.{refl, ◌∙◌}
use Rattle.store_reader.proofs.Rows.{rows_in_order}
use Rattle.store_rules.specs.Store.{lent}
use Rattle.glyph_parts.specs.Parts.{read_as}
use Rattle.glyph_parts.proofs.Linking.{no_child_lem, child_inside, child_read, child_unread}
use Rattle.glyph_parts.proofs.linked_part.Goals as goal

pub child_at-child-requires : goal.child_at-child-requires
child_at-child-requires c =
    let a = c.args in
    rows_in_order (lent a.«data».now a.objects.now a.links.now a.counts) c.requires

pub returns-in_default : goal.returns-in_default
returns-in_default c =
    let a = c.args in
    no_child_lem (read_as a.kind) (lent a.«data».now a.objects.now a.links.now a.counts) a.table a.position
    (c.child_at-child.ensures a.«data».now a.objects.now) c.in_default.is

pub bytes_of-requires : goal.bytes_of-requires
bytes_of-requires c =
    let a = c.args in
    child_inside (read_as a.kind) (lent a.«data».now a.objects.now a.links.now a.counts) a.table a.position
    (c.child_at-child.ensures a.«data».now a.objects.now) c.in-Some.is c.requires

pub returns-in_err-header : goal.returns-in_err-header
returns-in_err-header c =
    let a = c.args in
    c.from_residual.ensures
    ∙ child_unread (read_as a.kind) (lent a.«data».now a.objects.now a.links.now a.counts) a.table a.position
    (c.child_at-child.ensures a.«data».now a.objects.now) c.in-Some.is
    (c.bytes_of.ensures a.links.now a.counts) c.in_err-header.ensures refl

pub returns : goal.returns
returns c =
    let a = c.args in
    child_read (read_as a.kind) (lent a.«data».now a.objects.now a.links.now a.counts) a.table a.position
    (c.child_at-child.ensures a.«data».now a.objects.now) c.in-Some.is
    (c.bytes_of.ensures a.links.now a.counts) c.in_ok-header.ensures refl

-- `mark_checks::check_arrays` meets its contract: an array that is missing decides, and with both the count of glyphs does. Assumes nothing.
use Rattle.std.proofs.lemmas.Result.{err_from_is_err_and}
use Rattle.ot_markbasepos.specs.declared.ArrayKind.TheVariants.{Marks, Bases}
use Rattle.store_rules.specs.Store.{lent}
use Rattle.glyph_parts.proofs.Parts.{part_read}
use Rattle.mark_checks.proofs.Parts.{no_marks, no_bases}
use Rattle.mark_checks.proofs.Deciding.{refused, array_missing, bad_parts, few_glyphs, opened}
use Rattle.mark_checks.proofs.check_arrays.Goals as goal

pub returns-in_err-marks : goal.returns-in_err-marks
returns-in_err-marks c =
    let a = c.args in
    let s = lent a.«data».now a.objects.now a.links.now a.counts in
    let k = c.requires.known in
    let p = err_from_is_err_and c.from_residual.result c.from_residual.ensures.1 in
    let (none, bad) = refused _ c.in_err-marks.ensures.value in
    rw (p.1, p.2, bad) (bad_parts k (no_marks s a.table (array_missing Marks s a.table k.count c.linked_array.ensures none)))

pub returns-in_err-bases : goal.returns-in_err-bases
returns-in_err-bases c =
    let a = c.args in
    let s = lent a.«data».now a.objects.now a.links.now a.counts in
    let k = c.requires.known in
    let p = err_from_is_err_and c.from_residual-in_err-bases.result c.from_residual-in_err-bases.ensures.1 in
    let (none, bad) = refused _ c.in_err-bases.ensures.value in
    rw (p.1, p.2, bad) (bad_parts k (no_bases s a.table (array_missing Bases s a.table k.count c.linked_array-2.ensures none)))

pub glyphs_of-glyphs-requires : goal.glyphs_of-glyphs-requires
glyphs_of-glyphs-requires c = part_read c.requires.known.sounds c.requires.coverage

pub returns-then-glyphs-marks : goal.returns-then-glyphs-marks
returns-then-glyphs-marks c =
    let a = c.args in
    few_glyphs c.requires
    (c.linked_array.ensures.found _ c.in_ok-marks.ensures.ok_part)
    (c.linked_array-2.ensures.found _ c.in_ok-bases.ensures.ok_part)
    (c.glyphs_of-glyphs.ensures a.links.now a.counts) c.if-glyphs-marks.true

pub returns : goal.returns
returns c =
    let a = c.args in
    opened c.requires
    (c.linked_array.ensures.found _ c.in_ok-marks.ensures.ok_part)
    (c.linked_array-2.ensures.found _ c.in_ok-bases.ensures.ok_part)
    (c.glyphs_of-glyphs.ensures a.links.now a.counts) c.if-glyphs-marks.false

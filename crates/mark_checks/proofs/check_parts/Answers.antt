-- `mark_checks::check_parts` meets its contract: a coverage that is missing decides, and with both the arrays do. Assumes nothing.
use Rattle.std.proofs.lemmas.Result.{err_from_is_err_and}
use Rattle.store_rules.specs.Store.{lent}
use Rattle.glyph_parts.proofs.Parts.{linked_part_lem}
use Rattle.mark_checks.proofs.Parts.{no_cover, no_base_cover}
use Rattle.mark_checks.proofs.Deciding.{refused, cover_missing, bad_parts}
use Rattle.mark_checks.proofs.check_parts.Goals as goal

pub returns-in_err-coverage : goal.returns-in_err-coverage
returns-in_err-coverage c =
    let a = c.args in
    let s = lent a.«data».now a.objects.now a.links.now a.counts in
    let p = err_from_is_err_and c.from_residual.result c.from_residual.ensures.1 in
    let (none, bad) = refused _ c.in_err-coverage.ensures.value in
    rw (p.1, p.2, bad) (bad_parts c.requires (no_cover s a.table (cover_missing s a.table 2 c.linked_part-first.ensures none)))

pub returns-in_err-base_coverage : goal.returns-in_err-base_coverage
returns-in_err-base_coverage c =
    let a = c.args in
    let s = lent a.«data».now a.objects.now a.links.now a.counts in
    let p = err_from_is_err_and c.from_residual-in_err-base_coverage.result c.from_residual-in_err-base_coverage.ensures.1 in
    let (none, bad) = refused _ c.in_err-base_coverage.ensures.value in
    rw (p.1, p.2, bad) (bad_parts c.requires (no_base_cover s a.table (cover_missing s a.table 4 c.linked_part-second.ensures none)))

pub check_arrays-requires : goal.check_arrays-requires
check_arrays-requires c =
    record {
      known = c.requires;
      coverage = linked_part_lem c.linked_part-first.ensures c.in_ok-coverage.ensures.ok_part;
      base_coverage = linked_part_lem c.linked_part-second.ensures c.in_ok-base_coverage.ensures.ok_part;
    }

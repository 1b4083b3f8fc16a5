-- `pair_plan::cutting::cut_by_class` meets its contract: the fronts of the scratch are lent, and back with glyphs and classes. Assumes nothing.
use native.Mathlib.Omega.{arith}
use Rattle.pair_plan.proofs.Fronting.{fronts_lent, fronts_looked, fronts_cut}
use Rattle.pair_plan.proofs.cutting.cut_by_class.Goals as goal

pub gather-requires : goal.gather-requires
gather-requires c =
    let a = c.args in
    record { by_index = (a.links.now, a.counts, a.table, fronts_lent c.requires.looked c.requires.fact); in_bounds = c.requires.looked.long }

pub cut_rows-requires : goal.cut_rows-requires
cut_rows-requires c = (
  c.args.«data».now,
  fronts_looked c.requires.looked c.requires.fact c.gather.auto.glyphs c.gather.auto.classes (c.gather.ensures _ c.args.counts _)
      (λ i. omega (arith, c.shared_slice_known-1.given i)) c.glyph_set-1.given,
)

pub returns : goal.returns
returns c =
    let a = c.args in
    let k = c.requires.looked in
    let two = c.requires.fact in
    let gathered = c.gather.ensures a.links.now a.counts a.table in
    record {
      cuts_by_class =
          fronts_cut k two c.gather.auto.glyphs c.gather.auto.classes gathered (λ i. omega (arith, c.shared_slice_known-1.given i)) c.glyph_set-1.given
          (c.cut_rows.ensures.cuts_rows a.«data».now);
      tells_cycle =
          c.cut_rows.ensures.rows_tell a.«data».now
          (fronts_looked k two c.gather.auto.glyphs c.gather.auto.classes gathered (λ i. omega (arith, c.shared_slice_known-1.given i))
          c.glyph_set-1.given);
    }

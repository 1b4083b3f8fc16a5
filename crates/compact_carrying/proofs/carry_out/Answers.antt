-- `compact_carrying::carry_out` meets its contract: numbers, objects, links, roots and counts one after the other are the compaction. Assumes nothing.
use Rattle.store_rules.specs.Store.{lent}
use Rattle.store_rules.proofs.Sound.{Fits, sound_fits}
use Rattle.compact_carrying.proofs.Carried.{carried, roots_low}
use Rattle.compact_carrying.proofs.carry_out.Goals as goal

pub number_kept-requires : goal.number_kept-requires
number_kept-requires c =
    let fits : Fits (lent c.args.«data».now c.args.objects.now c.args.links.now c.args.counts.now) = sound_fits (lent c.args.«data».now c.args.objects.now c.args.links.now c.args.counts.now) c.requires.sounds in
    (c.requires.long, fits.objects_most)

pub rewrite_roots-requires : goal.rewrite_roots-requires
rewrite_roots-requires c =
    let fits : Fits (lent c.args.«data».now c.args.objects.now c.args.links.now c.args.counts.now) = sound_fits (lent c.args.«data».now c.args.objects.now c.args.links.now c.args.counts.now) c.requires.sounds in
    record { by_index = roots_low c.args.«data».now c.args.objects.now c.args.links.now c.args.counts.now c.args.roots.now c.args.walk.now c.requires c.number_kept.ensures; n_in_bounds = (c.number_kept.ensures.numbered.long, fits.objects_most) }

pub returns : goal.returns
returns c = carried c.args.«data».now c.args.objects.now c.args.links.now c.args.counts.now c.args.roots.now c.args.walk.now c.requires c.number_kept.ensures c.compact_objects-packed.ensures c.compact_links-rows.ensures c.rewrite_roots.ensures (c.fill.ensures.after (λ y e. e))

-- `carrying::enter_lookups` meets its contract: new lookups, their links, the redirection, and then the counts. Assumes nothing.
use mathlib.Core.Path.{refl}
use native.Mathlib.Omega.{arith}
use Rattle.lookup_carrying.proofs.Entered.{entered}
use Rattle.lookup_carrying.proofs.Steps.{write_asked, links_known, links_asked, bytes_fit, rows_fit, redirect_asked}
use Rattle.lookup_carrying.proofs.carrying.enter_lookups.Goals as goal

pub write_lookups-bytes-requires : goal.write_lookups-bytes-requires
write_lookups-bytes-requires c = write_asked c.args.counts.now c.requires

pub enter_links-rows-requires : goal.enter_links-rows-requires
enter_links-rows-requires c = links_asked c.args.counts.now c.requires

pub redirect_links-requires : goal.redirect_links-requires
redirect_links-requires c =
    let a = c.args in
    redirect_asked a.counts.now c.requires
    (c.enter_links-rows.ensures a.«data».now a.objects.now (links_known a.counts.now c.requires))

pub overflow_cast-byte_count : goal.overflow_cast-byte_count
overflow_cast-byte_count c =
    let a = c.args in
    omega (arith, bytes_fit a.counts.now c.requires (c.write_lookups-bytes.ensures a.tables.now refl))

pub overflow_cast-link_count : goal.overflow_cast-link_count
overflow_cast-link_count c =
    let a = c.args in
    omega (
      arith,
      rows_fit a.counts.now c.requires
          (c.enter_links-rows.ensures a.«data».now a.objects.now (links_known a.counts.now c.requires)),
    )

pub returns : goal.returns
returns c =
    let a = c.args in
    entered a.«data».now a.objects.now a.links.now a.counts.now a.table a.tables.now a.lookups.now c.requires.links_in
    (c.enter_links-rows.ensures a.«data».now a.objects.now (links_known a.counts.now c.requires))
    (c.write_lookups-bytes.ensures a.tables.now refl)
    (c.redirect_links.ensures a.lookups.now c.requires.marked)

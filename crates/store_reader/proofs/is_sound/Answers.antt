-- `store_reader::is_sound` meets its contract: its tests are those of the definition, in the same order. Assumes nothing.
use Prim.Native.Nat.{◌/◌, min}
use mathlib.Core.Path.{sym, ◌∙◌}
use native.Mathlib.Omega.{arith}
use lib.ListN.{length, get_or}
use borrow.Author.Tests.{not-false}
use Rattle.store_rules.specs.Store.{lent, per_link, byte_room, object_room, link_room}
use Rattle.store_reader.proofs.Checks.{count_in, objects_short, bytes_over, objects_over, links_over, objects_unfit, links_decide}
use mathlib.Core.Path.{ap}
use mathlib.Core.Bool.{not}
use Rattle.store_reader.proofs.is_sound.Goals as goal

pub returns-then-not-count_fits : goal.returns-then-not-count_fits
unfolding byte_room
returns-then-not-count_fits c =
    let a = c.args in
    bytes_over (lent a.«data».now a.objects.now a.links.now a.counts) c.count_fits.ensures (ap not c.if-not-count_fits.true)

pub returns-then-not-count_fits-2 : goal.returns-then-not-count_fits-2
unfolding object_room
returns-then-not-count_fits-2 c =
    let a = c.args in
    objects_over (lent a.«data».now a.objects.now a.links.now a.counts) c.count_fits-2.ensures (ap not c.if-not-count_fits-2.true)

pub returns-then-not-count_fits-3 : goal.returns-then-not-count_fits-3
unfolding link_room
returns-then-not-count_fits-3 c =
    let a = c.args in
    links_over (lent a.«data».now a.objects.now a.links.now a.counts) c.count_fits-3.ensures (ap not c.if-not-count_fits-3.true)

pub objects_fit-requires : goal.objects_fit-requires
objects_fit-requires c =
    let a = c.args in
    omega (arith, count_in (get_or a.counts 1 0) (min (length a.objects.now / 2) 65536) c.count_fits-2.ensures (ap not c.if-not-count_fits-2.false))

pub returns-then-not-objects_fit : goal.returns-then-not-objects_fit
returns-then-not-objects_fit c =
    let a = c.args in
    objects_unfit (lent a.«data».now a.objects.now a.links.now a.counts) (c.objects_fit.ensures a.«data».now a.links.now) (ap not c.if-not-objects_fit.true)

pub links_fit-requires : goal.links_fit-requires
links_fit-requires c =
    let a = c.args in
    let bytes = count_in (get_or a.counts 0 0) (min (length a.«data».now) 16777216) c.count_fits.ensures (ap not c.if-not-count_fits.false) in
    let objects = count_in (get_or a.counts 1 0) (min (length a.objects.now / 2) 65536) c.count_fits-2.ensures (ap not c.if-not-count_fits-2.false) in
    let links = count_in (get_or a.counts 2 0) (min (length a.links.now / per_link) 262144) c.count_fits-3.ensures (ap not c.if-not-count_fits-3.false) in
    let s = lent a.«data».now a.objects.now a.links.now a.counts in
    let fit = sym (c.objects_fit.ensures a.«data».now a.links.now) ∙ not-false c.objects_fit.result (ap not c.if-not-objects_fit.false) in
    (record { there = omega arith; few = omega arith; short = λ i l. omega (arith, objects_short s fit i l) }, omega arith)

pub returns : goal.returns
unfolding byte_room object_room link_room
returns c =
    let a = c.args in
    c.links_fit.ensures a.«data».now
    ∙ links_decide (lent a.«data».now a.objects.now a.links.now a.counts)
    c.count_fits.ensures (ap not c.if-not-count_fits.false) c.count_fits-2.ensures (ap not c.if-not-count_fits-2.false) c.count_fits-3.ensures (ap not c.if-not-count_fits-3.false)
    (c.objects_fit.ensures a.«data».now a.links.now) (ap not c.if-not-objects_fit.false)

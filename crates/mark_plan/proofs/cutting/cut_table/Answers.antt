-- `mark_plan::cutting::cut_table` meets its contract: the marks' places by class stand in the scratch's fronts, and the cut rule is asked. Assumes nothing.
use native.Mathlib.Omega.{arith}
use Rattle.folds.specs.Lists.{Bytes}
use Rattle.mark_checks.proofs.Opened.{marks_inside, marks_bits, classes_bits}
use Rattle.mark_plan.proofs.Looking.{cover_inside, places_ready, points_ready}
use Rattle.mark_plan.proofs.cutting.cut_table.Goals as goal

pub bytes_of-array-requires : goal.bytes_of-array-requires
bytes_of-array-requires c = marks_inside c.requires.1.opens

pub info_of-info-requires : goal.info_of-info-requires
info_of-info-requires c = cover_inside c.requires.1

pub order_places-requires : goal.order_places-requires
order_places-requires c =
    let octets : Bytes c.args.«data».now = λ i. omega (arith, c.shared_slice_known-1.given i) in
    let ready = places_ready c.requires.1 (c.bytes_of-array.ensures c.args.links.now c.args.counts) (marks_bits c.requires.1.opens (octets)) in
    record { classes_len = ready.0; places_in_bounds = ready.1; in_bounds = c.requires.1.long }

pub compute_split_points-requires : goal.compute_split_points-requires
compute_split_points-requires c =
    let octets : Bytes c.args.«data».now = λ i. omega (arith, c.shared_slice_known-1.given i) in
    let a = c.args in (
      a.«data».now,
      c.requires.0,
      points_ready c.requires.1 (c.bytes_of-array.ensures a.links.now a.counts) (marks_bits c.requires.1.opens (octets)) c.order_places.ensures
          (classes_bits c.requires.1.opens (octets)) c.info_of-info.ensures c.order_places.auto.places c.order_places.auto.classes,
    )

pub returns : goal.returns
returns c t k =
    let octets : Bytes c.args.«data».now = λ i. omega (arith, c.shared_slice_known-1.given i) in
    let a = c.args in
    c.compute_split_points.ensures a.«data».now t
    (points_ready k (c.bytes_of-array.ensures a.links.now a.counts) (marks_bits k.opens (octets)) c.order_places.ensures
    (classes_bits k.opens (octets)) c.info_of-info.ensures c.order_places.auto.places c.order_places.auto.classes)

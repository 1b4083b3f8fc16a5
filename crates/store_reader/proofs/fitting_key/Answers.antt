-- `store_reader::fitting_key` meets its contract: parent and child are in use, and then the shape decides. Assumes nothing.
use mathlib.Core.Path.{refl, ◌∙◌}
use native.Mathlib.Omega.{arith}
use Rattle.store_rules.specs.Store.{lent}
use Rattle.store_reader.proofs.Rows.{place_is_child}
use Rattle.store_reader.proofs.Keys.{parent_out, child_out, both_in}
use Rattle.store_reader.proofs.fitting_key.Goals as goal

pub returns-then-counts-parent : goal.returns-then-counts-parent
returns-then-counts-parent c =
    let a = c.args in
    λ b. parent_out (lent b a.objects.now a.links.now a.counts) a.k c.if-counts-parent.true

pub returns-then-counts-links : goal.returns-then-counts-links
returns-then-counts-links c =
    let a = c.args in
    λ b. child_out (lent b a.objects.now a.links.now a.counts) a.k c.if-counts-links.true

pub returns-then-links-k-eq0 : goal.returns-then-links-k-eq0
returns-then-links-k-eq0 c =
    let a = c.args in
    λ b.
    c.offset_key.ensures b a.counts
    ∙ both_in (lent b a.objects.now a.links.now a.counts) a.k c.if-counts-parent.false c.if-counts-links.false

pub order_key-requires : goal.order_key-requires
order_key-requires c =
    let other = c.if-links-k-eq0.false in
    let there = c.requires.1 in (
      record { there = there; parent = refl; low = omega (arith, c.if-counts-parent.false, c.requires.0.few) },
      other,
      omega (arith, place_is_child c.args.links.now c.args.k other, c.if-counts-links.false, c.requires.0.few),
    )

pub returns : goal.returns
returns c =
    let a = c.args in
    λ b.
    c.order_key.ensures b a.objects.now a.counts
    ∙ both_in (lent b a.objects.now a.links.now a.counts) a.k c.if-counts-parent.false c.if-counts-links.false

-- `store_reader::offset_key` meets its contract: an offset is of its shape by width and position, and its place is its position. Assumes nothing.
use Rattle.std.specs.Prelude.{Some}
use Prim.Native.Nat.{ℕ, ◌+◌}
use mathlib.Core.Path.{ap, ◌∙◌}
use lib.Dec.{leb}
use Rattle.store_rules.specs.Store.{lent, size_of, position_of}
use Rattle.store_reader.proofs.Keys.{offset_narrow, offset_outside, offset_inside_key}
use mathlib.Core.Bool.{not}
use Rattle.store_reader.proofs.offset_key.Goals as goal

pub returns-then-links-k-ne2 : goal.returns-then-links-k-ne2
returns-then-links-k-ne2 c =
    let a = c.args in
    λ b t. offset_narrow (lent b a.objects.now a.links.now t) a.k c.requires.2 c.if-links-k-ne2.true

pub returns-then-not-position_fits : goal.returns-then-not-position_fits
returns-then-not-position_fits c =
    let a = c.args in
    λ b t.
    let s = lent b a.objects.now a.links.now t in
    offset_outside s a.k c.requires.2 c.if-links-k-ne2.false
    (c.position_fits.ensures ∙ ap (λ (p : ℕ). leb (position_of s a.k + 2) (size_of s p)) c.requires.1.parent) (ap not c.if-not-position_fits.true)

pub returns : goal.returns
returns c =
    let a = c.args in
    λ b t.
    let s = lent b a.objects.now a.links.now t in
    ap Some c.key_of.ensures
    ∙ offset_inside_key s a.k c.requires.2 c.if-links-k-ne2.false
    (c.position_fits.ensures ∙ ap (λ (p : ℕ). leb (position_of s a.k + 2) (size_of s p)) c.requires.1.parent) (ap not c.if-not-position_fits.false)
    c.requires.1.parent

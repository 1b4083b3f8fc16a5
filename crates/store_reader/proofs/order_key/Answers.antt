-- `store_reader::order_key` meets its contract: its tests are those of the shape, and its place is behind all positions, by its child. Assumes nothing.
use Rattle.std.specs.Prelude.{Some}
use mathlib.Core.Path.{ap, ◌∙◌}
use native.Mathlib.Omega.{arith}
use Rattle.store_rules.specs.Store.{lent}
use Rattle.store_reader.proofs.Rows.{place_is_child}
use Rattle.store_reader.proofs.Keys as keys
use Rattle.store_reader.proofs.order_key.Goals as goal

pub returns-then-links-k-ne1 : goal.returns-then-links-k-ne1
returns-then-links-k-ne1 c = λ b o t. keys.order_kind (lent b o c.args.links.now t) c.args.k c.requires.1 c.if-links-k-ne1.true

pub returns-then-links-k-ne0 : goal.returns-then-links-k-ne0
returns-then-links-k-ne0 c = λ b o t. keys.order_position (lent b o c.args.links.now t) c.args.k c.requires.1 c.if-links-k-ne1.false c.if-links-k-ne0.true

pub returns-then-links-k-ne0-2 : goal.returns-then-links-k-ne0-2
returns-then-links-k-ne0-2 c =
    λ b o t.
    keys.order_width (lent b o c.args.links.now t) c.args.k c.requires.1 c.if-links-k-ne1.false c.if-links-k-ne0.false
    c.if-links-k-ne0-2.true

pub overflow_add-links : goal.overflow_add-links
overflow_add-links c = omega (arith, place_is_child c.args.links.now c.args.k c.requires.1, c.requires.2)

pub returns : goal.returns
returns c =
    λ b o t.
    ap Some c.key_of.ensures
    ∙ keys.order_key_lem (lent b o c.args.links.now t) c.args.k c.requires.1 c.if-links-k-ne1.false
    c.if-links-k-ne0.false c.if-links-k-ne0-2.false c.requires.0.parent

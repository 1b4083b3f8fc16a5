-- `store_reader::child_in` meets its contract: no row but the first at or past the position can stand at it. Assumes nothing.
use Rattle.store_rules.specs.Store.{lent}
use Rattle.store_reader.proofs.Children.{child_past, child_other_parent, child_order_only, child_other_place, child_found_lem}
use Rattle.store_reader.proofs.child_in.Goals as goal

pub returns-then-counts-row : goal.returns-then-counts-row
returns-then-counts-row c = λ b o. child_past (lent b o c.args.links.now c.args.counts) _ _ _ c.requires.0 c.requires.1 c.if-counts-row.true

pub returns-then-links-row : goal.returns-then-links-row
returns-then-links-row c = λ b o. child_other_parent (lent b o c.args.links.now c.args.counts) _ _ _ c.requires.0 c.requires.1 c.if-links-row.true

pub returns-then-links-row-ne0 : goal.returns-then-links-row-ne0
returns-then-links-row-ne0 c = λ b o. child_order_only (lent b o c.args.links.now c.args.counts) _ _ _ c.requires.0 c.requires.1 c.if-links-row-ne0.true

pub returns-then-links-row-2 : goal.returns-then-links-row-2
returns-then-links-row-2 c = λ b o. child_other_place (lent b o c.args.links.now c.args.counts) _ _ _ c.requires.0 c.requires.1 c.if-links-row-2.true

pub returns : goal.returns
returns c =
    λ b o.
    child_found_lem (lent b o c.args.links.now c.args.counts) _ _ _ c.requires.0 c.requires.1
    c.if-counts-row.false c.if-links-row.false c.if-links-row-ne0.false c.if-links-row-2.false

-- `store_reader::place_at` meets its contract: an offset stands at its position, an order-only link behind all bytes. Assumes nothing.
use native.Mathlib.Omega.{arith}
use Rattle.store_reader.proofs.Rows.{place_is_position, place_is_child}
use Rattle.store_reader.proofs.place_at.Goals as goal

pub returns-then-links-k-eq0 : goal.returns-then-links-k-eq0
returns-then-links-k-eq0 c = let a = c.args in place_is_position a.links.now a.k c.if-links-k-eq0.true

pub overflow_add-result-3 : goal.overflow_add-result-3
overflow_add-result-3 c = omega (arith, place_is_child c.args.links.now c.args.k c.if-links-k-eq0.false, c.requires.1)

pub returns : goal.returns
returns c = let a = c.args in place_is_child a.links.now a.k c.if-links-k-eq0.false

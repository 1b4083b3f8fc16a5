-- `measuring::needs_of` meets its contract. Assumes nothing.
use native.Mathlib.Omega.{arith}
use Rattle.pair_carrying.proofs.Counting.{few_objects, few_links, counted}
use Rattle.pair_carrying.proofs.measuring.needs_of.Goals as goal

pub overflow_mul-result : goal.overflow_mul-result
overflow_mul-result c = omega (arith, few_objects c.args.layout.own c.args.cuts c.requires.0 c.requires.1)

pub overflow_add-result-2 : goal.overflow_add-result-2
overflow_add-result-2 c = omega (arith, few_objects c.args.layout.own c.args.cuts c.requires.0 c.requires.1)

pub overflow_mul-result-2 : goal.overflow_mul-result-2
overflow_mul-result-2 c = omega (arith, few_links c.args.layout.heads c.args.cuts c.requires.0 c.requires.2)

pub returns : goal.returns
returns c = counted c.args.layout c.args.cuts c.args.bytes

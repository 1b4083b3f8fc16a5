-- `pair_new_table::write_format2` meets its contract: head, counts and rows stand one behind another. Assumes nothing.
use native.Mathlib.Nat.{mul-sub, mul-le-mul_left}
use native.Mathlib.Omega.{arith}
use Rattle.pair_new_table.proofs.Cloning.{cloned2}
use borrow.Author.Rules.{rules}
use Rattle.pair_new_table.proofs.write_format2.Goals as goal

pub overflow_mul-first : goal.overflow_mul-first
overflow_mul-first c = let m = mul-le-mul_left c.args.row c.requires.lo_le_hi in omega arith

pub overflow_add-first : goal.overflow_add-first
overflow_add-first c = let m = mul-le-mul_left c.args.row c.requires.lo_le_hi in omega arith

pub overflow_add-first-2 : goal.overflow_add-first-2
overflow_add-first-2 c = let m = mul-le-mul_left c.args.row c.requires.lo_le_hi in omega arith

pub copy_bytes-requires : goal.copy_bytes-requires
copy_bytes-requires c =
    let a = c.args in
    let m = mul-le-mul_left a.row c.requires.lo_le_hi in
    let s = mul-sub a.row a.hi a.lo in
    record { from_in_bounds = omega arith; at_in_bounds = omega arith }

pub returns : goal.returns
returns c tail l inside q =
    let a = c.args in
    cloned2 a.«data».now a.head a.at tail a.lo a.hi inside (search rules) a.row (search rules) (search rules)
    c.write_head.ensures c.write_counts.ensures c.copy_bytes.ensures l q

-- `ot_markbasepos::bases_readable` meets its contract: two numbers of 16 bits multiply within 32. Assumes nothing.
use native.Mathlib.Omega.{arith}
use Rattle.ot_markbasepos.proofs.Readable.{bases_bad, bases_decided, slots_fit}
use Rattle.ot_markbasepos.proofs.bases_readable.Goals as goal

pub returns-then-array-lt2 : goal.returns-then-array-lt2
returns-then-array-lt2 c = bases_bad c.args.classes c.args.array.now (omega arith)

pub overflow_mul-result : goal.overflow_mul-result
overflow_mul-result c =
    let f = slots_fit c.from-bases.result c.from.result (omega arith) (omega arith) in
    omega arith

pub overflow_mul-result-2 : goal.overflow_mul-result-2
overflow_mul-result-2 c =
    let f = slots_fit c.from-bases.result c.from.result (omega arith) (omega arith) in
    omega arith

pub overflow_add-result : goal.overflow_add-result
overflow_add-result c =
    let f = slots_fit c.from-bases.result c.from.result (omega arith) (omega arith) in
    omega arith

pub returns : goal.returns
returns c =
    let a = c.args in
    rw (c.from-bases.ensures, c.from.ensures, c.u16_at.ensures) (bases_decided a.classes a.array.now)

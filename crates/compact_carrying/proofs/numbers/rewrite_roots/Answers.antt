-- `numbers::rewrite_roots` meets its contract: the roots before k have their new numbers, and all from k on are as they came. Assumes nothing.
use Prim.Native.Nat.{ℕ, ◌≤◌, ◌<◌}
use mathlib.Core.List.{List}
use native.Mathlib.Omega.{arith}
use lib.ListN.{length, get_or}
use Rattle.compact_carrying.proofs.Roots.{Rewriting, rewriting_start, rewriting_turn, rewriting_stop, root_still}
use Rattle.compact_carrying.proofs.numbers.rewrite_roots.Goals as goal

-- the next root is as small as it came
low : {f : ℕ → ℕ} {d s : List ℕ} {k n : ℕ} → Rewriting f d s k → k < length d → ((i : ℕ) → i < length d → get_or d i 0 < n) → get_or s k 0 < n
low {f} {d} {s} {k} {n} v l h = root_still f d s k v n (omega (arith, v.writing.long)) h

pub loop-k-init : goal.loop-k-init
loop-k-init c = rewriting_start _ _

pub overflow_cast-root : goal.overflow_cast-root
overflow_cast-root c = omega (arith, low c.loop-k.invariant c.loop-k-test.true c.requires.by_index, c.requires.n_in_bounds)

pub overflow_add-roots : goal.overflow_add-roots
overflow_add-roots c = omega (arith, low c.loop-k.invariant c.loop-k-test.true c.requires.by_index, c.requires.n_in_bounds)

pub offset_bounds-walk-n : goal.offset_bounds-walk-n
offset_bounds-walk-n c = omega (arith, low c.loop-k.invariant c.loop-k-test.true c.requires.by_index, c.requires.n_in_bounds)

pub bounds-walk-n : goal.bounds-walk-n
bounds-walk-n c = omega (arith, low c.loop-k.invariant c.loop-k-test.true c.requires.by_index, c.requires.n_in_bounds)

pub loop-k-preserved : goal.loop-k-preserved
loop-k-preserved c = rewriting_turn _ _ _ _ c.loop-k.invariant (omega (arith, c.loop-k-test.true, c.loop-k.invariant.writing.long))

pub shape_of-roots : goal.shape_of-roots
shape_of-roots c = c.loop-k.invariant.writing.long

pub returns : goal.returns
returns c = rewriting_stop _ _ _ _ c.loop-k.invariant (omega (arith, c.loop-k-test.false, c.loop-k.invariant.writing.long))

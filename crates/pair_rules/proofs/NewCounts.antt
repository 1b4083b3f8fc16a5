-- How many objects, and how many header links, a split writes. Assumes nothing.
use Prim.Native.Nat.{ℕ, suc, ◌+◌, ◌*◌, ◌≤◌}
use mathlib.Core.Path.{◌≡◌}
use mathlib.Core.List.{List, ◌∷◌}
use mathlib.Core.Logic.{⊎_elim}
use native.Mathlib.Omega.{arith}
use native.Mathlib.Nat.{mul-le-mul_left, mul-add}
use lib.ListN.{length, length-append}
use Rattle.folds.specs.Folds.{flat}
use Rattle.folds.proofs.Tests.{either}
use Rattle.folds.proofs.FromTheFront.{length_even}
use Rattle.folds.proofs.Moved.{length-map}
use Rattle.ot_layouts.specs.Coverage.{Entry}
use Rattle.ot_layouts.specs.PairPos.{Shape, heads, shape_of, shape1, shape2}
use Rattle.ot_layouts.proofs.Shapes.{by_format}
use Rattle.glyph_rules.specs.Entries.{within}
use Rattle.store_rules.proofs.Header.{header_many}
use Rattle.cut_rules.specs.Ranges.{from, to}
use Rattle.pair_rules.specs.Written.{part_of, new_parts, per_table, new_objects, need_objects, new_table, head_links}

-- a table and what stands beside it
pub parts_many : (sh : Shape) (es : List Entry) (lo hi : ℕ) → suc (length (new_parts sh es lo hi)) ≡ per_table sh
unfolding new_parts
parts_many sh es lo hi = omega (arith, length-map (part_of (within lo hi es) lo) sh.own)

pub new_many : (sh : Shape) (b : List ℕ) (es : List Entry) (cs : List ℕ) → length (new_objects sh b es cs) ≡ need_objects sh (length cs)
unfolding new_objects need_objects
new_many sh b es cs =
    let p = parts_many sh es 0 (from cs 0) in
    omega (
      arith,
      length-append (flat (λ j. new_table sh b (from cs j) (to sh.count cs j) ∷ new_parts sh es (from cs j) (to sh.count cs j)) (length cs)) (new_parts sh es 0 (from cs 0)),
      length_even (λ j. new_table sh b (from cs j) (to sh.count cs j) ∷ new_parts sh es (from cs j) (to sh.count cs j)) (per_table sh) (λ j. parts_many sh es (from cs j) (to sh.count cs j)) (length cs),
    )

-- each table has a coverage of its own
pub per_two : (b : List ℕ) → 2 ≤ per_table (shape_of b)
unfolding shape1 shape2
per_two b = by_format (λ sh. 2 ≤ per_table sh) b (λ e. omega arith) (λ e. omega arith)

-- tables are numbered apart
pub tables_apart : (sh : Shape) (i j : ℕ) → (i ≡ j → ⊥) → per_table sh * i ≡ per_table sh * j → ⊥
tables_apart sh i j ne h =
    ⊎_elim
    (λ lt. omega (arith, mul-le-mul_left {m = i + 1} {n = j} (per_table sh) (omega arith), mul-add (per_table sh) i 1))
    (λ ge. omega (arith, mul-le-mul_left {m = j + 1} {n = i} (per_table sh) (omega arith), mul-add (per_table sh) j 1))
    (either i j)

pub heads_many : (sh : Shape) (u : ℕ) (old : ℕ → ℕ) → length (head_links sh u old) ≡ length (heads sh)
heads_many sh u old = header_many sh.own u old (heads sh)

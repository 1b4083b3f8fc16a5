-- The tests of an array's length and classes, one by one. Assumes nothing.
use Prim.Native.Nat.{ℕ, ◌+◌, ◌*◌, ◌≤◌, ◌<◌}
use mathlib.Core.Path.{◌≡◌, refl}
use mathlib.Core.Bool.{false}
use mathlib.Core.List.{List}
use native.Mathlib.Nat.{mul-le-mul_left}
use native.Mathlib.Omega.{arith}
use lib.ListN.{length}
use lib.Dec.{ltb, eqb}
use borrow.Author.Tests.{eq-eqb, ne_eqb}
use Rattle.folds.specs.Folds.{all}
use Rattle.ot_layouts.specs.MarkBasePos.{mark_count, mark_class, marks_readable, base_count, bases_readable}

module _ (classes : ℕ) (b : List ℕ) where
  -- another length
  pub marks_bad : (length b ≡ 2 + 4 * mark_count b → ⊥) → false ≡ marks_readable classes b
  unfolding marks_readable
  marks_bad n = rw (ne_eqb (length b) (2 + 4 * mark_count b) n)

  -- the classes decide
  pub marks_decided : length b ≡ 2 + 4 * mark_count b → all (λ i. ltb (mark_class b i) classes) (mark_count b) ≡ marks_readable classes b
  unfolding marks_readable
  marks_decided e = rw (eq-eqb (length b) (2 + 4 * mark_count b) e)

  pub bases_bad : length b < 2 → false ≡ bases_readable classes b
  unfolding bases_readable
  bases_bad h = rw (ne_eqb (length b) (2 + 2 * (base_count b * classes)) (λ e. omega arith))

  pub bases_decided : eqb (length b) (2 + 2 * (base_count b * classes)) ≡ bases_readable classes b
  unfolding bases_readable
  bases_decided = refl

-- bases times classes, of 16 bits each
pub slots_fit : (bases classes : ℕ) → bases < 65536 → classes < 65536 → bases * classes ≤ 4294967296
slots_fit bases classes h g =
    let a : bases * classes ≤ bases * 65536 = mul-le-mul_left bases (omega arith) in
    omega arith

-- The tests of slots and lengths, one by one. Assumes nothing.
use Prim.Native.Nat.{ℕ, ◌+◌, ◌-◌, ◌*◌, ◌%◌, ◌<◌, ◌≤◌}
use mathlib.Core.Path.{◌≡◌, sym}
use mathlib.Core.Bool.{false}
use mathlib.Core.List.{List}
use native.Mathlib.Omega.{arith}
use lib.ListN.{length}
use lib.Dec.{leb, eqb}
use borrow.Author.Tests.{lt-leb, le-leb, lt-ltb, le-ltb, ne_eqb}
use Rattle.folds.proofs.Tests.{and_first, and_second}
use Rattle.ot_layouts.specs.Lookup.{is_one_of, lookup_count, list_header, list_exact, subtable_count, lookup_header, filters, lookup_exact}

module _ (a n q : ℕ) where
  pub before-slots : q < a → false ≡ is_one_of a n q
  unfolding is_one_of
  before-slots h = rw (lt-leb a q h)

  pub past_slots : a ≤ q → 2 * n ≤ q - a → false ≡ is_one_of a n q
  unfolding is_one_of
  past_slots g h = sym (and_first _ _ (and_second (leb a q) _ (le-ltb q (a + 2 * n) (omega arith))))

  pub among-slots : a ≤ q → q - a < 2 * n → eqb ((q - a) % 2) 0 ≡ is_one_of a n q
  unfolding is_one_of
  among-slots g h = rw (le-leb a q g, lt-ltb q (a + 2 * n) (omega arith))

-- one that has no count is too short for any
pub list_short : (b : List ℕ) → length b < list_header → false ≡ list_exact b
unfolding list_exact
list_short b h = sym (ne_eqb (length b) (list_header + 2 * lookup_count b) (λ e. omega arith))

pub lookup_short : (b : List ℕ) → length b < lookup_header → false ≡ lookup_exact b
unfolding lookup_exact
lookup_short b h = sym (ne_eqb (length b) (lookup_header + 2 * subtable_count b + 2 * filters b) (λ e. omega arith))

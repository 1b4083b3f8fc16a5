-- The slots of a lookup list and of a lookup, which stand in a row. Assumes nothing.
use Prim.Native.Nat.{ℕ, ◌+◌, ◌-◌, ◌*◌, ◌/◌, ◌%◌, ◌<◌}
use mathlib.Core.Path.{◌≡◌}
use mathlib.Core.Bool.{true}
use native.Mathlib.Omega.{arith}
use native.Mathlib.Nat.{div-add-mod}
use lib.Dec.{leb, ltb, eqb}
use borrow.Author.Tests.{leb-true, ltb-true, eqb-true}
use Rattle.folds.proofs.Joined.{and_three}
use Rattle.ot_layouts.specs.Lookup.{is_one_of}

-- which one it is
pub which_slot : (a n q : ℕ) → is_one_of a n q ≡ true → (i : ℕ) × (i < n) × (q ≡ a + 2 * i)
unfolding is_one_of
which_slot a n q h =
    let (x, y, z) = and_three (leb a q) (ltb q (a + 2 * n)) (eqb ((q - a) % 2) 0) h in
    let low = leb-true a q x in
    let high = ltb-true q (a + 2 * n) y in
    let even = eqb-true ((q - a) % 2) 0 z in
    let parts = div-add-mod (q - a) 2 in
    ((q - a) / 2, omega arith, omega arith)

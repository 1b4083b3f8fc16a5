-- Numbers written one behind the other, and bytes behind them. Assumes nothing.
use Prim.Native.Nat.{ℕ, ◌+◌, ◌≤◌}
use mathlib.Core.Path.{◌≡◌, refl}
use mathlib.Core.List.{List, ◌++◌}
use native.Mathlib.Omega.{arith}
use lib.ListN.{length}
use Rattle.folds.specs.Lists.{put}
use Rattle.folds.proofs.Put.{put_then}
use Rattle.ot_layouts.specs.Numbers.{be16}

pub two_then : (d : List ℕ) (a x y : ℕ) (xs : List ℕ) {o o' o'' : List ℕ} → a + 4 ≤ length d
    → o ≡ put d a (be16 x) → o' ≡ put o (a + 2) (be16 y) → o'' ≡ put o' (a + 4) xs → o'' ≡ put d a (be16 x ++ be16 y ++ xs)
unfolding be16
two_then d a x y xs l p q r = put_then d a _ (a + 4) xs (put_then d a _ (a + 2) _ p q refl (omega arith)) r refl (omega arith)

pub three_then : (d : List ℕ) (a x y z : ℕ) (xs : List ℕ) {o o' o'' o''' : List ℕ} → a + 6 ≤ length d
    → o ≡ put d a (be16 x) → o' ≡ put o (a + 2) (be16 y) → o'' ≡ put o' (a + 4) (be16 z) → o''' ≡ put o'' (a + 6) xs → o''' ≡ put d a (be16 x ++ be16 y ++ be16 z ++ xs)
unfolding be16
three_then d a x y z xs l p q r s = put_then d a _ (a + 6) xs (two_then d a x y (be16 z) (omega arith) p q r) s refl (omega arith)

-- Lists of bytes, and the sixteen-bit numbers in them. Assumes nothing.
use Prim.Native.Nat.{ℕ, zero, suc, ◌+◌, ◌*◌, ◌<◌}
use mathlib.Core.Path.{◌≡◌, ap₂}
use mathlib.Core.List.{List, ◌++◌}
use native.Mathlib.Omega.{arith}
use lib.ListN.{get_or}
use Rattle.folds.specs.Lists.{Bytes}
use Rattle.folds.proofs.Bytes.{bytes_append}
use Rattle.ot_layouts.specs.Numbers.{be16, u16_at}

pub bytes_be16 : (v : ℕ) → v < 65536 → Bytes (be16 v)
unfolding be16
bytes_be16 v h zero = omega arith
bytes_be16 v h (suc zero) = omega arith
bytes_be16 v h (suc (suc i)) = omega arith

-- two numbers, then bytes
pub bytes_two : (a b : ℕ) (ys : List ℕ) → a < 65536 → b < 65536 → Bytes ys → Bytes (be16 a ++ be16 b ++ ys)
bytes_two a b ys p q r = bytes_append (be16 a ++ be16 b) ys (bytes_append (be16 a) (be16 b) (bytes_be16 a p) (bytes_be16 b q)) r

-- three numbers, then bytes
pub bytes_three : (a b c : ℕ) (ys : List ℕ) → a < 65536 → b < 65536 → c < 65536 → Bytes ys → Bytes (be16 a ++ be16 b ++ be16 c ++ ys)
bytes_three a b c ys p q r y = bytes_append (be16 a ++ be16 b ++ be16 c) ys (bytes_two a b (be16 c) p q (bytes_be16 c r)) y

-- ---- numbers of two bytes

pub bytes_u16 : (b : List ℕ) → Bytes b → (i : ℕ) → u16_at b i < 65536
unfolding u16_at
bytes_u16 b h i = omega (arith, h i, h (i + 1))

-- the same bytes are the same number
pub u16_same : (x y : List ℕ) (i j : ℕ) → get_or x i 0 ≡ get_or y j 0 → get_or x (i + 1) 0 ≡ get_or y (j + 1) 0 → u16_at x i ≡ u16_at y j
unfolding u16_at
u16_same x y i j a b = ap₂ (λ (m n : ℕ). 256 * m + n) a b

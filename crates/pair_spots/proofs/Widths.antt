-- The place of a record by its row and column. Assumes nothing.
use Prim.Native.Nat.{ℕ, ◌+◌, ◌*◌, ◌^◌, ◌≤◌, ◌<◌}
use native.Mathlib.Nat.{mul-le-mul_left}
use native.Mathlib.Omega.{arith}

-- its number, and its place behind a header, are counted without wrapping
pub row_fits : (x m : ℕ) → x < 65536 → m < 65536 → x * m < 2 ^ 32
row_fits x m h k = let a : x * m ≤ x * 65536 = mul-le-mul_left x (omega arith) in omega arith

pub place_fits : (u r : ℕ) → u ≤ 32 → r < 2 ^ 33 → u * r < 2 ^ 64
place_fits u r h k = let a : u * r ≤ u * 2 ^ 33 = mul-le-mul_left u (omega arith) in omega arith

pub behind_fits : (u r : ℕ) → u ≤ 32 → r < 2 ^ 33 → 16 + u * r < 2 ^ 64
behind_fits u r h k = let a : u * r ≤ u * 2 ^ 33 = mul-le-mul_left u (omega arith) in omega arith

-- Records in a row, over their width: each ends within the row. Pair sets, rows of records and value records are read by this one fact. Assumes nothing.
use Prim.Native.Nat.{ℕ, suc, ◌+◌, ◌*◌, ◌≤◌, ◌<◌}
use native.Mathlib.Nat.{mul-suc, mul-le-mul_left}
use native.Mathlib.Omega.{arith}

-- record r of n, each w wide
pub record_within : (w r n : ℕ) → r < n → w * r + w ≤ w * n
record_within w r n h = let a : w * suc r ≤ w * n = mul-le-mul_left w h in rw (mul-suc w r) at a

-- how many bytes the records of a set take
pub records_fit : (size n : ℕ) → size ≤ 32 → n < 65536 → (2 + size) * n ≤ 34 * 65536
records_fit size n w s = let a : (2 + size) * n ≤ (2 + size) * 65536 = mul-le-mul_left (2 + size) (omega arith) in omega arith

-- The front of a list, lent on and given back. Assumes nothing.
use Prim.Native.Nat.{ℕ, ◌+◌, ◌-◌, ◌≤◌}
use mathlib.Core.Path.{◌≡◌, ap}
use mathlib.Core.List.{List, ◌++◌}
use native.Mathlib.Omega.{arith}
use lib.ListN.{length, drop}
use lib.Seq.{take_at}
use Rattle.folds.specs.Lists.{put, part}
use Rattle.folds.proofs.Parts.{length_part}

pub front_long : (xs : List ℕ) (n : ℕ) → n ≤ length xs → length (part xs 0 n) ≡ n
front_long xs n h = omega (arith, length_part xs 0 n (omega arith) h)

-- the list with ys, which was its front of n, back
abbrev pub back : List ℕ → ℕ → List ℕ → List ℕ
back xs n ys = ys ++ drop (n - 0) xs

module _ (xs : List ℕ) (n : ℕ) (h : n ≤ length xs) (ys : List ℕ) (e : length ys ≡ length (part xs 0 n)) where
  pub front_back : back xs n ys ≡ put xs 0 ys
  unfolding put
  front_back = let q : n - 0 ≡ 0 + length ys = omega (arith, front_long xs n h) in ap (λ (m : ℕ). ys ++ drop m xs) q

  -- its front, lent again
  pub front_again : part (back xs n ys) 0 n ≡ ys
  front_again = take_at ys (drop (n - 0) xs) (n - 0) (omega (arith, front_long xs n h))

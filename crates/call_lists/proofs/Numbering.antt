-- The numbers f 0, f 1 .. written at the front of a list. Assumes nothing.
use Prim.Native.Nat.{ℕ, ◌+◌, ◌*◌, ◌≤◌, ◌<◌}
use mathlib.Core.Path.{◌≡◌}
use mathlib.Core.List.{List}
use native.Mathlib.Nat.{mul-le-mul_left}
use native.Mathlib.Omega.{arith}
use lib.ListN.{length, set}
use Rattle.folds.specs.Folds.{upto}
use Rattle.folds.specs.Lists.{put}
use Rattle.folds.proofs.Writing.{Writing, write_start, write_turn, write_stop}

-- after j turns of count
abbrev pub Numbering : (ℕ → ℕ) → List ℕ → ℕ → List ℕ → ℕ → Type 0
Numbering f d count s j = Writing f d 0 count s j

module _ (f : ℕ → ℕ) (d : List ℕ) (count : ℕ) (room : count ≤ length d) where
  pub number_start : Numbering f d count d 0
  number_start = write_start f d 0 count (omega arith)

  pub number_turn : (s : List ℕ) (j : ℕ) → Numbering f d count s j → j < count → Numbering f d count (set s j (f j)) (j + 1)
  number_turn s j w l =
      let e : 0 + j ≡ j = omega arith in
      rw e at (write_turn f d 0 count (omega arith) s j w l)

  pub number_stop : (s : List ℕ) (j : ℕ) → Numbering f d count s j → count ≤ j → s ≡ put d 0 (upto f count)
  number_stop = write_stop f d 0 count (omega arith)

-- a number that goes up by the same step is at most what would come behind the last
pub number_small : (step count j : ℕ) → j < count → step * j ≤ step * count
number_small step count j l = mul-le-mul_left {m = j} {n = count} step (omega arith)

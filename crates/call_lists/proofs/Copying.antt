-- A loop that copies a list to the front of another. Assumes nothing.
use Prim.Native.Nat.{ℕ, ◌+◌, ◌≤◌, ◌<◌}
use mathlib.Core.Path.{◌≡◌, ap, ◌∙◌}
use mathlib.Core.List.{List}
use native.Mathlib.Omega.{arith}
use lib.ListN.{length, get_or, set}
use Rattle.folds.specs.Lists.{put}
use Rattle.folds.proofs.FromTheFront.{upto_get_d}
use Rattle.folds.proofs.Writing.{Writing, write_start, write_turn, write_stop}

-- after k turns: the first k of xs stand over d
abbrev pub Copying : List ℕ → List ℕ → List ℕ → ℕ → Type 0
Copying xs d s k = Writing (λ i. get_or xs i 0) d 0 (length xs) s k

module _ (xs d : List ℕ) (room : length xs ≤ length d) where
  pub copy_start : Copying xs d d 0
  copy_start = write_start (λ i. get_or xs i 0) d 0 (length xs) (omega arith)

  pub copy_turn : (s : List ℕ) (k : ℕ) → Copying xs d s k → k < length xs → Copying xs d (set s k (get_or xs k 0)) (k + 1)
  copy_turn s k w l =
      let e : 0 + k ≡ k = omega arith in
      rw e at (write_turn (λ i. get_or xs i 0) d 0 (length xs) (omega arith) s k w l)

  pub copy_stop : (s : List ℕ) (k : ℕ) → Copying xs d s k → length xs ≤ k → s ≡ put d 0 xs
  copy_stop s k w l = write_stop (λ i. get_or xs i 0) d 0 (length xs) (omega arith) s k w l ∙ ap (put d 0) (upto_get_d xs 0)

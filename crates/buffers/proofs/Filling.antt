-- A loop that writes a whole slice, of any width, one number a turn: what f gives at each turn. Assumes nothing.
use Prim.Native.Nat.{ℕ, ◌+◌, ◌≤◌, ◌<◌}
use mathlib.Core.Path.{◌≡◌, ◌∙◌}
use mathlib.Core.List.{List}
use native.Mathlib.Omega.{arith}
use lib.ListN.{length, set}
use Rattle.folds.specs.Folds.{upto}
use Rattle.folds.proofs.Folds.{length-upto}
use Rattle.folds.proofs.Writing.{Writing, write_start, write_turn, write_stop, put_whole}

-- after k turns
abbrev pub Filling : (ℕ → ℕ) → List ℕ → List ℕ → ℕ → Type 0
Filling f d s k = Writing f d 0 (length d) s k

module _ (f : ℕ → ℕ) (d : List ℕ) where
  pub fill_start : Filling f d d 0
  fill_start = write_start f d 0 (length d) (omega arith)

  module _ (s : List ℕ) (k : ℕ) (w : Filling f d s k) where
    pub fill_turn : {v : ℕ} → k < length s → v ≡ f k → Filling f d (set s k v) (k + 1)
    fill_turn l e =
        let z : 0 + k ≡ k = omega arith in
        rw e (rw z at (write_turn f d 0 (length d) (omega arith) s k w (omega (arith, w.long))))

    pub fill_stop : length s ≤ k → s ≡ upto f (length d)
    fill_stop l = write_stop f d 0 (length d) (omega arith) s k w (omega (arith, w.long)) ∙ put_whole d (upto f (length d)) (length-upto f (length d))

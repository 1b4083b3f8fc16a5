-- The loop that writes each root's new number in its place. Assumes nothing.
use Prim.Native.Nat.{ℕ, ◌+◌, ◌≤◌, ◌<◌}
use mathlib.Core.Path.{◌≡◌, sym, ap, ◌∙◌}
use mathlib.Core.List.{List, map}
use native.Mathlib.Omega.{arith}
use lib.ListN.{length, get_or, set}
use Rattle.folds.specs.Folds.{upto}
use Rattle.folds.proofs.FromTheFront.{upto_get_d}
use Rattle.folds.proofs.Moved.{map-upto}
use Rattle.folds.proofs.Writing.{write_behind}
use Rattle.buffers.proofs.Filling.{Filling, fill_start, fill_turn, fill_stop}

mapped_by_index : (f : ℕ → ℕ) (xs : List ℕ) → upto (λ k. f (get_or xs k 0)) (length xs) ≡ map f xs
mapped_by_index f xs = sym (map-upto f (λ k. get_or xs k 0) (length xs)) ∙ ap (map f) (upto_get_d xs 0)

-- after k turns
pub record Rewriting (f : ℕ → ℕ) (d s : List ℕ) (k : ℕ) : Type 0 where
  pub writing : Filling (λ i. f (get_or d i 0)) d s k

pub rewriting_start : (f : ℕ → ℕ) (d : List ℕ) → Rewriting f d d 0
rewriting_start f d = record { writing = fill_start (λ i. f (get_or d i 0)) d }

module _ (f : ℕ → ℕ) (d s : List ℕ) (k : ℕ) (inv : Rewriting f d s k) where
  -- the next is still as it came
  still : get_or s k 0 ≡ get_or d k 0
  still = write_behind (λ i. f (get_or d i 0)) d 0 (length d) (omega arith) s k k inv.writing (omega arith)

  pub root_still : (n : ℕ) → k < length s → ((i : ℕ) → i < length d → get_or d i 0 < n) → get_or s k 0 < n
  root_still n l h = omega (arith, still, h k (omega (arith, inv.writing.long)))

  pub rewriting_turn : k < length s → Rewriting f d (set s k (f (get_or s k 0))) (k + 1)
  rewriting_turn l = record { writing = fill_turn (λ i. f (get_or d i 0)) d s k inv.writing l (ap f still) }

  pub rewriting_stop : length s ≤ k → s ≡ map f d
  rewriting_stop l = fill_stop (λ i. f (get_or d i 0)) d s k inv.writing l ∙ mapped_by_index f d

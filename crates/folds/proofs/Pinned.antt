-- The combinators held against small lists, as one check; each line pins what its comment says. Assumes nothing.
use Rattle.std.specs.Prelude.{Option, Some, None}
use Prim.Native.Nat.{ℕ, zero, suc, ◌+◌, ◌*◌}
use mathlib.Core.Path.{◌≡◌, refl}
use mathlib.Core.Bool.{Bool, true, false, not}
use mathlib.Core.List.{List, [], ◌∷◌}
use native.Mathlib.Omega.{arith}
use lib.ListN.{replicate}
use lib.Dec.{leb, ltb, eqb}
use denote.MutBor.{MutBor}
use Rattle.folds.specs.Folds as Folds
use Rattle.folds.specs.Folds.{all, sum, before, or_else, first_at, flat, upto, run}
use Rattle.folds.specs.Lists as Lists
use Rattle.folds.specs.Lists.{find, among, put, join, part, sift, is_empty, given, is_some, and_then, Bytes}
use Rattle.folds.specs.Ascending as Ascending
use Rattle.folds.specs.Ascending.{ascending}
use Rattle.folds.specs.Moments.{Buffer, came, left}
use Rattle.folds.proofs.Compared as compared
use Rattle.folds.proofs.Compared.{same, every}

-- a number that was found; 99 where there is none
unfoldable pub answered : Option ℕ → ℕ
answered (Some n) = n
answered None = 99

-- a reference to these numbers
abbrev to : List ℕ → MutBor (List ℕ)
to xs = record { ref_ptr = (0, 0); ghost_name = 0; now = xs }

abbrev buffer : Buffer
buffer = record { entry = to (1 ∷ []); exit = to (2 ∷ []) }

unfoldable pub pins : List Bool
pins =
    -- `all`: from the first index to the one before the count
    all (λ k. ltb k 3) 3 ∷ not (all (λ k. ltb k 3) 4) ∷ not (all (λ k. leb 1 k) 2) ∷ all (λ k. false) 0
    -- `sum`
    ∷ eqb (sum (λ k. 10 + k) 3) 33 ∷ eqb (sum (λ k. 10) 0) 0
    -- `before`
    ∷ eqb (before (λ k. 7 + k) 3) 9 ∷ eqb (before (λ k. 7) 0) 0
    -- `or_else`, `first_at`: the first of several, below the count
    ∷ eqb (answered (or_else (Some 1) (Some 2))) 1 ∷ eqb (answered (or_else None (Some 2))) 2
    ∷ eqb (answered (first_at (λ k. leb 2 k) 5)) 2 ∷ eqb (answered (first_at (λ k. leb 2 k) 2)) 99
    -- `flat`, `upto`, `run`: in order
    ∷ same (flat (λ k. replicate (1 + k) k) 3) (0 ∷ 1 ∷ 1 ∷ 2 ∷ 2 ∷ 2 ∷ []) ∷ same (upto (λ k. 2 * k) 3) (0 ∷ 2 ∷ 4 ∷ []) ∷ same (run 5 3) (5 ∷ 6 ∷ 7 ∷ [])
    -- `find`, `among`
    ∷ eqb (answered (find (7 ∷ 8 ∷ 9 ∷ 9 ∷ []) 9)) 2 ∷ eqb (answered (find (7 ∷ 8 ∷ []) 7)) 0 ∷ eqb (answered (find (7 ∷ []) 9)) 99
    ∷ among 8 (7 ∷ 8 ∷ 9 ∷ []) ∷ not (among 6 (7 ∷ 8 ∷ [])) ∷ not (among 9 (7 ∷ 8 ∷ [])) ∷ not (among 8 [])
    -- `put`, `join`, `part`: nothing else moves
    ∷ same (put (1 ∷ 2 ∷ 3 ∷ 4 ∷ 5 ∷ []) 1 (9 ∷ 8 ∷ [])) (1 ∷ 9 ∷ 8 ∷ 4 ∷ 5 ∷ []) ∷ same (join ((1 ∷ 2 ∷ []) ∷ [] ∷ (3 ∷ []) ∷ [])) (1 ∷ 2 ∷ 3 ∷ [])
    ∷ same (part (1 ∷ 2 ∷ 3 ∷ 4 ∷ 5 ∷ []) 1 3) (2 ∷ 3 ∷ [])
    -- `sift`, `is_empty`, `given`, `is_some`, `and_then`
    ∷ same (sift (λ x. ltb 2 x) (3 ∷ 1 ∷ 4 ∷ 2 ∷ [])) (3 ∷ 4 ∷ []) ∷ is_empty {A = ℕ} [] ∷ not (is_empty {A = ℕ} (1 ∷ []))
    ∷ eqb (answered (given true 5)) 5 ∷ eqb (answered (given false 5)) 99 ∷ is_some (Some 0) ∷ not (is_some None)
    ∷ eqb (answered (and_then (Some 3) (λ (n : ℕ). Some (n + 1)))) 4 ∷ eqb (answered (and_then {A = ℕ} None (λ n. Some n))) 99
    -- `ascending`: equal numbers stay as many
    ∷ same (ascending (3 ∷ 1 ∷ 4 ∷ 1 ∷ [])) (1 ∷ 1 ∷ 3 ∷ 4 ∷ []) ∷ same (ascending []) []
    -- `came`, `left`
    ∷ same (came buffer) (1 ∷ []) ∷ same (left buffer) (2 ∷ [])
    ∷ []

pub pinned : every pins ≡ true
unfolding Folds.computes Lists.computes Ascending.computes compared.computes answered pins
pinned = refl

-- `Bytes`: 255 is one, and 256 is none
pub highest_byte : Bytes (255 ∷ [])
highest_byte zero = omega arith
highest_byte (suc i) = omega arith

pub no_byte : Bytes (256 ∷ []) → ⊥
no_byte h = omega (arith, h 0)

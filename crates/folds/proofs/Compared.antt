-- What checks that compute share: two lists are the same, and all of a list hold. Assumes nothing.
use Prim.Native.Nat.{ℕ}
use mathlib.Core.Bool.{Bool, true, false, not, ◌&&◌}
use mathlib.Core.List.{List, [], ◌∷◌}
use lib.Dec.{eqb}

-- two lists of numbers are the same
unfoldable pub same : List ℕ → List ℕ → Bool
same [] [] = true
same [] (y ∷ ys) = false
same (x ∷ xs) [] = false
same (x ∷ xs) (y ∷ ys) = eqb x y && same xs ys

-- all of the list hold
unfoldable pub every : List Bool → Bool
every [] = true
every (b ∷ bs) = b && every bs

-- both hold, or neither
abbrev pub agree : Bool → Bool → Bool
agree true b = b
agree false b = not b

-- the names above, for checks that compute
unfoldable pub computes : Unit {0}
unfolding same every
computes = tt

-- Places at which a table may be cut. Assumes nothing.
use Rattle.std.specs.Prelude.{ℕ, ◌+◌, ◌<◌, Bool, true, ◌&&◌, List, [], ◌∷◌, length, get_or, leb, ltb}

-- "Cuts p0 < p1 < ...", each below n
pub record Places (n : ℕ) (cs : List ℕ) : Type 0 where
  pub below : (j : ℕ) → j < length cs → get_or cs j 0 < n
  pub rising : (j : ℕ) → j + 1 < length cs → get_or cs j 0 < get_or cs (j + 1) 0

-- the same as a test, none below a: "strictly ascending, each place from" a "to below" n
unfoldable pub places_ascend : ℕ → ℕ → List ℕ → Bool
places_ascend a n [] = true
places_ascend a n (c ∷ cs) = leb a c && ltb c n && places_ascend (c + 1) n cs

-- all of this file's definitions, for checks that compute
unfoldable pub computes : Unit {0}
unfolding places_ascend
computes = tt

-- The offsets of one object: how many there are, and those at slots that stand in a row. Assumes nothing.
use Rattle.std.specs.Prelude.{ℕ, ◌+◌, ◌*◌, List, [], ◌∷◌, length, Option, Some, None}
use Rattle.folds.specs.Folds.{flat}
use Rattle.folds.specs.Lists.{sift}
use Rattle.store_rules.specs.Store.{Store, Link, links_of, offset_of}
use Rattle.store_rules.specs.Appended.{link}

-- how many offsets object p has
unfoldable pub links_from : Store → ℕ → ℕ
links_from s p = length (sift (offset_of p) (links_of s))

-- an offset of object p at q, where there is a child
unfoldable pub slot_link : ℕ → ℕ → Option ℕ → List Link
slot_link p q (Some c) = link p q c ∷ []
slot_link p q None = []

-- the offsets of object p at n slots, the first at a and each d bytes behind the one before: slot k has this child, or none
unfoldable pub slot_links : ℕ → ℕ → ℕ → (ℕ → Option ℕ) → ℕ → List Link
slot_links p a d child n = flat (λ k. slot_link p (a + d * k) (child k)) n

-- all of this file's definitions, for checks that compute
unfoldable pub computes : Unit {0}
unfolding links_from slot_link slot_links
computes = tt

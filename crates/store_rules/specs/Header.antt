-- The links of a table's header when the table is split: parts of a table's own are new for each table, the others are shared. Assumes nothing.
use Rattle.std.specs.Prelude.{ℕ, ◌+◌, cond, List, [], ◌∷◌, map, eqb}
use Rattle.store_rules.specs.Store.{Link, leading_to, offset_of}
use Rattle.store_rules.specs.Appended.{link}

-- where a table's link at q leads: the parts at the positions `own` are the objects from v on, in this order; any other leads to c, as in the old table
unfoldable pub own_child : List ℕ → ℕ → ℕ → ℕ → ℕ
own_child [] v q c = c
own_child (p ∷ ps) v q c = cond (eqb q p) v (own_child ps (v + 1) q c)

-- of the header of the new table u, at the positions `heads`: its own parts are the objects right behind it; `old` is where the old table's links lead
unfoldable pub header_links : List ℕ → List ℕ → ℕ → (ℕ → ℕ) → List Link
header_links own heads u old = map (λ q. link u q (own_child own (u + 1) q (old q))) heads

-- a link that stays where table t is split: the kept table's own parts are "always as new objects", of which v is the first; order-only links "stay with the
-- kept table" as they are
unfoldable pub kept : List ℕ → ℕ → ℕ → Link → Link
kept own t v l = leading_to (cond (offset_of t l) (own_child own v l.position l.child) l.child) l

-- all of this file's definitions, for checks that compute
unfoldable pub computes : Unit {0}
unfolding own_child header_links kept
computes = tt

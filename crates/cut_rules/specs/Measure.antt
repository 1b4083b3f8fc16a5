-- What a table of a range of items takes by edition 2, measured from its own start, and the lists of cuts that are within the limit by it. Assumes nothing.
use Rattle.std.specs.Prelude.{ℕ, ◌+◌, ◌-◌, Bool, ◌&&◌, List, [], ◌∷◌, leb}
use Rattle.folds.specs.Folds.{all, sum}
use Rattle.cut_rules.specs.Cuts.{Rule}

-- the costs of items a up to b, b left out, where what those from a on reach counts as seen
unfoldable pub costs : Rule → ℕ → ℕ → ℕ
costs r a b = sum (λ k. r.cost a (a + k)) (b - a)

-- what a table of the items from a to i takes
unfoldable pub measure : Rule → ℕ → ℕ → ℕ
measure r a i = r.start + costs r a (i + 1) + r.beside a i

-- it is "at most 65,535 bytes"
unfoldable pub fits : Rule → ℕ → ℕ → Bool
fits r a i = leb (measure r a i) 65535

-- the table of items a up to b is "within the limit .. at every item after its first, measured from its own start": so it is with fewer than two
unfoldable pub table_fits : Rule → ℕ → ℕ → Bool
table_fits r a b = all (λ k. fits r a (a + 1 + k)) (b - (a + 1))

-- each table that these cuts make of items a up to b is
unfoldable pub tables_fit : Rule → ℕ → List ℕ → ℕ → Bool
tables_fit r a [] b = table_fits r a b
tables_fit r a (c ∷ cs) b = table_fits r a c && tables_fit r c cs b

-- a list of cuts is within the limit
unfoldable pub within_limit : Rule → List ℕ → Bool
within_limit r cs = tables_fit r 0 cs r.count

-- all of this file's definitions, for checks that compute
unfoldable pub computes : Unit {0}
unfolding costs measure fits table_fits tables_fit within_limit
computes = tt

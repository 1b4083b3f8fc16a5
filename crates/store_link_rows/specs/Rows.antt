-- Link rows as numbers: "parent, position, width, child", and "kind". Assumes nothing.
use Rattle.std.specs.Prelude.{ℕ, ◌+◌, ◌-◌, ◌≤◌, ◌<◌, List, []}
use Rattle.folds.specs.Folds.{flat}
use Rattle.store_rules.specs.Store.{Link, lent, link_at, placed_at}
use Rattle.store_rules.specs.Appended.{numbers_of}
use Rattle.store_rules.specs.Header.{kept}
use Rattle.store_link_rows.specs.declared.Row.{Row}

-- what f gives at the n indices from a on, in a row
unfoldable pub seg : (ℕ → List ℕ) → ℕ → ℕ → List ℕ
seg f a n = flat (λ i. f (a + i)) n

-- what f gives from index lo up to hi, hi left out
abbrev pub segment : (ℕ → List ℕ) → ℕ → ℕ → List ℕ
segment f lo hi = seg f lo (hi - lo)

-- a row that the code holds, as a link
abbrev pub link_of : Row → Link
link_of r = record { parent = r.parent; position = r.position; width = r.width; child = r.child; kind = r.kind }

-- row k as a link
abbrev pub link_in : List ℕ → ℕ → Link
link_in ls k = link_at (lent [] [] ls []) k

-- its position in the parent
abbrev pub position_in : List ℕ → ℕ → ℕ
position_in ls k = (link_in ls k).position

-- the numbers of row k
unfoldable pub row : List ℕ → ℕ → List ℕ
row ls k = numbers_of (link_in ls k)

-- the numbers of the rows from lo up to hi, hi left out
abbrev pub rows : List ℕ → ℕ → ℕ → List ℕ
rows ls lo hi = segment (row ls) lo hi

-- the positions of the rows from lo up to hi do not descend
abbrev pub PositionsRise : List ℕ → ℕ → ℕ → Type 0
PositionsRise ls lo hi = (i j : ℕ) → lo ≤ i → i ≤ j → j < hi → position_in ls i ≤ position_in ls j

-- row k as a row of parent p at position q
unfoldable pub placed_row : List ℕ → ℕ → ℕ → ℕ → List ℕ
placed_row ls p q k = numbers_of (placed_at p q (link_in ls k))

-- row k with its link changed by f
unfoldable pub changed_row : (Link → Link) → List ℕ → ℕ → List ℕ
changed_row f ls k = numbers_of (f (link_in ls k))

-- row k where it stays: the kept table t's own parts are new objects, of which v is the first
abbrev pub kept_row : List ℕ → List ℕ → ℕ → ℕ → ℕ → List ℕ
kept_row ls own t v k = changed_row (kept own t v) ls k

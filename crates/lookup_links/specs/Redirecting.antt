-- Links to old lookups led to their new ones, row by row: marks of the objects say which. Assumes nothing.
use Rattle.std.specs.Prelude.{ℕ, ◌+◌, ◌-◌, ◌*◌, ◌≤◌, ◌<◌, ◌≡◌, true, cond, List, [], ◌∷◌, length, get_or, leb}
use Rattle.store_rules.specs.Store.{Link, per_link, shaped}
use Rattle.store_reader.specs.Rows.{InOrder}
use Rattle.store_link_rows.specs.Rows.{link_in}
use Rattle.store_link_rows.specs.Copies.{in_use}
use Rattle.lookup_rules.specs.Marks.{Marked}

-- the links of the first rows
abbrev pub links_in : List ℕ → ℕ → List Link
links_in ls count = in_use ls (0 ∷ 0 ∷ count ∷ [])

-- where a link to c leads then, where the first new lookup is object n
unfoldable pub moved_by : List ℕ → ℕ → ℕ → ℕ
moved_by marks n c = cond (leb 2 (get_or marks c 0)) (n + (get_or marks c 0 - 2)) c

-- the rows are there, the marks are those of some lookups, and the new ones have numbers of 32 bits
pub record Leading (ls : List ℕ) (count : ℕ) (marks : List ℕ) (n : ℕ) : Type 0 where
  pub room : per_link * count ≤ length ls
  pub lookups : List ℕ
  pub marked : Marked lookups marks
  pub numbers : n + length lookups ≤ 4294967296

-- and the rows are in order, each of its kind's shape and to an object below the new lookups
pub record Redirecting (ls : List ℕ) (count : ℕ) (marks : List ℕ) (n : ℕ) : Type 0 where
  pub leading : Leading ls count marks n
  pub order : InOrder ls count
  pub formed : (k : ℕ) → k < count → shaped 16777216 (link_in ls k) ≡ true
  pub parents : (k : ℕ) → k < count → (link_in ls k).parent < 65536
  pub children : (k : ℕ) → k < count → (link_in ls k).child < n

-- Links written one behind another, behind the rows in use. Assumes nothing.
use Rattle.std.specs.Prelude.{ℕ, ◌+◌, ◌*◌, ◌≤◌, ◌≡◌, List, [], length, get_or}
use Rattle.folds.specs.Lists.{put}
use Rattle.store_rules.specs.Store.{Link, lent, per_link, links_of}
use Rattle.store_rules.specs.Appended.{row_numbers}
use Rattle.store_reader.specs.declared.LinkRows.{LinkRows}
use Rattle.store_reader.specs.Rows.{InOrder, ParentRows}

-- the links in use
abbrev pub in_use : List ℕ → List ℕ → List Link
in_use ls counts = links_of (lent [] [] ls counts)

-- the rows are in order, and these are the ones of object p
pub record Source (ls counts : List ℕ) (p : ℕ) (rows : LinkRows) : Type 0 where
  pub order : InOrder ls (get_or counts 2 0)
  pub rows_are : ParentRows ls (get_or counts 2 0) p rows

-- there is room for new links from row `at` on, behind the rows in use
pub record RowsRoom (ls counts : List ℕ) (at : ℕ) (new : List Link) : Type 0 where
  pub behind : get_or counts 2 0 ≤ at
  pub fits : per_link * (at + length new) ≤ length ls

-- they are written, and the next row is row r
pub record Copied (ls : List ℕ) (at : ℕ) (new : List Link) (out : List ℕ) (r : ℕ) : Type 0 where
  pub rows_are : out ≡ put ls (per_link * at) (row_numbers new)
  pub next : r ≡ at + length new

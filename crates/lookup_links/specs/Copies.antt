-- The links of an old lookup copied to its new one, from the link rows alone. Assumes nothing.
use Rattle.std.specs.Prelude.{ℕ, ◌+◌, ◌*◌, ◌≤◌, ◌<◌, cond, List, [], ◌∷◌, ◌++◌, length, get_or, eqb}
use Rattle.folds.specs.Folds.{upto}
use Rattle.folds.specs.Lists.{sift}
use Rattle.store_rules.specs.Store.{Link, per_link, row_child, offset_of}
use Rattle.store_rules.specs.Appended.{link}
use Rattle.store_reader.specs.Rows.{InOrder}
use Rattle.store_link_rows.specs.Rows.{link_in, position_in}
use Rattle.store_link_rows.specs.Copies.{in_use, RowsRoom}

-- ---- what is written: t is the old table, us are the new ones, and u is the new lookup

-- the new tables' links, the first at position q
abbrev pub new_table_links : List ℕ → ℕ → ℕ → List Link
new_table_links us u q = upto (λ j. link u (q + 2 * j) (get_or us j 0)) (length us)

-- an old link, up by so many slots; and behind it the new tables, where it leads to the old one
unfoldable pub link_entered : ℕ → List ℕ → ℕ → ℕ → Link → List Link
link_entered t us u up l = link u (l.position + 2 * up) l.child ∷ cond (eqb l.child t) (new_table_links us u (l.position + 2 * up + 2)) []

-- old links in order: "later subtables moving up"
unfoldable pub links_entered : ℕ → List ℕ → ℕ → ℕ → List Link → List Link
links_entered t us u up [] = []
links_entered t us u up (l ∷ ls) = link_entered t us u up l ++ links_entered t us u (cond (eqb l.child t) (up + length us) up) ls

-- those of the old lookup p
unfoldable pub lookup_copies : ℕ → List ℕ → List Link → ℕ → ℕ → List Link
lookup_copies t us old p u = links_entered t us u 0 (sift (offset_of p) old)

-- ---- how it is written

-- row k can be copied to the new lookup u as row `at`: there is room, and no position passes 32 bits
pub record RowReady (ls : List ℕ) (t : ℕ) (us : List ℕ) (k up at u : ℕ) : Type 0 where
  pub there : per_link * k + row_child < length ls
  pub small : position_in ls k + 2 * up + 2 + 2 * length us < 4294967296
  pub room : per_link * (at + length (link_entered t us u up (link_in ls k))) ≤ length ls

-- the links of the new lookup u for p can be written from row `at` on: there is room, and positions and new tables are few enough
pub record LookupReady (ls counts : List ℕ) (t : ℕ) (us : List ℕ) (p u at : ℕ) : Type 0 where
  pub order : InOrder ls (get_or counts 2 0)
  pub used : p < 65536
  pub small : (k : ℕ) → k < get_or counts 2 0 → position_in ls k < 16777216
  pub few : length us ≤ 65536
  pub room : RowsRoom ls counts at (lookup_copies t us (in_use ls counts) p u)
  pub most : at + length (lookup_copies t us (in_use ls counts) p u) ≤ 262144

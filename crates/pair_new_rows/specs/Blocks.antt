-- The link rows after a split as blocks, in the order in which code that works in place makes them. Assumes nothing.
use Rattle.std.specs.Prelude.{ℕ, ◌+◌, ◌-◌, ◌*◌, ◌≤◌, ◌<◌, ◌≡◌, Bool, cond, ◌&&◌, List, [], ◌++◌, length, get_or, leb, ltb}
use Rattle.folds.specs.Lists.{put}
use Rattle.store_rules.specs.Store.{per_link}
use Rattle.ot_layouts.specs.PairPos.{own_in, shared_in}
use Rattle.ot_pairpos.specs.declared.Layout.{Layout}
use Rattle.ot_pairpos.specs.Layout.{Numbered}
use Rattle.store_rules.specs.Appended.{row_numbers}
use Rattle.store_rules.specs.Header.{header_links}
use Rattle.store_link_rows.specs.Rows.{segment, position_in, rows, placed_row}

-- The items of a table of this layout are parted: new table j gets those from cuts[j] on. `first` is the number of the first new table, class2 the object
-- that new tables share.
pub record Plan : Type 0 where
  pub cuts : List ℕ
  pub layout : Layout
  pub first : ℕ
  pub class2 : ℕ

-- a plan from what a call is handed
abbrev pub plan : List ℕ → Layout → ℕ → ℕ → Plan
plan cuts layout first class2 = record { cuts = cuts; layout = layout; first = first; class2 = class2 }

-- how many new tables there are
abbrev pub tables : Plan → ℕ
tables p = length p.cuts

-- how far the items of new table j move down, in bytes
abbrev pub shift : Plan → ℕ → ℕ
shift p j = p.layout.item * get_or p.cuts j 0

-- where, in the old table, the items of new table j start; past the last table, a bound on every position
unfoldable pub edge : Plan → ℕ → ℕ
edge p j = cond (ltb j (tables p)) (p.layout.header + shift p j) 4294967296

-- a row at this position moves to new table j
unfoldable pub inside : Plan → ℕ → ℕ → Bool
inside p j position = leb (edge p j) position && ltb position (edge p (j + 1))

-- the objects of a new table: its own parts and itself
abbrev pub per : Plan → ℕ
per p = p.layout.own + 1

-- the number of new table j
abbrev pub table_id : Plan → ℕ → ℕ
table_id p j = p.first + per p * j

-- row k as a row of another parent, with its position moved down
unfoldable pub moved_row : List ℕ → ℕ → ℕ → ℕ → List ℕ
moved_row ls parent down k = placed_row ls parent (position_in ls k - down) k

-- row k where it moves to new table j
unfoldable pub share : List ℕ → Plan → ℕ → ℕ → List ℕ
share ls p j k = cond (inside p j (position_in ls k)) (moved_row ls (table_id p j) (shift p j) k) []

-- the rows of the new table u before those that move: its header's, in this format
unfoldable pub head_rows : ℕ → ℕ → ℕ → List ℕ
head_rows format class2 u = row_numbers (header_links (own_in format) (own_in format ++ shared_in format) u (λ q. class2))

-- how many those are
abbrev pub head_count : Plan → ℕ
head_count p = p.layout.heads

-- the rows of new table j, where rows a up to b move
unfoldable pub table_rows : List ℕ → ℕ → ℕ → Plan → ℕ → List ℕ
table_rows ls a b p j = head_rows p.layout.format p.class2 (table_id p j) ++ segment (share ls p j) a b

-- the rows of all new tables
abbrev pub new_rows : List ℕ → ℕ → ℕ → Plan → List ℕ
new_rows ls a b p = segment (table_rows ls a b p) 0 (tables p)

-- of m rows, those from row a on: rows b up to m, which stay, and then the new tables'
abbrev pub parted : List ℕ → ℕ → ℕ → ℕ → Plan → List ℕ
parted ls a b m p = rows ls b m ++ new_rows ls a b p

-- the number of rows after it
abbrev pub grown : ℕ → Plan → ℕ
grown m p = m + head_count p * tables p

-- what a plan has to be: the cuts do not descend, each starts at a position, and the numbers of the new tables fit
pub record Fit (p : Plan) : Type 0 where
  pub numbered : Numbered p.layout
  pub climb : (i j : ℕ) → i ≤ j → j < tables p → get_or p.cuts i 0 ≤ get_or p.cuts j 0
  pub placed : (j : ℕ) → j < tables p → p.layout.header + shift p j < 4294967296
  pub numbers : p.first + per p * tables p ≤ 4294967296

-- `move_up` leaves r of the rows; the others are at the bound or above, and stand before row `to`
pub record MovedUp (ls out : List ℕ) (q count to bound down parent r : ℕ) : Type 0 where
  pub few : r ≤ count
  pub above : (k : ℕ) → q + r ≤ k → k < q + count → bound ≤ position_in ls k
  pub below : 0 < r → position_in ls (q + r - 1) < bound
  pub is : out ≡ put ls (per_link * (to - (count - r))) (segment (moved_row ls parent down) (q + r) (q + count))

-- `spread` makes the new tables' rows of the rows q up to m
pub record Spread (ls out : List ℕ) (q m : ℕ) (p : Plan) : Type 0 where
  pub long : per_link * q + length (new_rows ls q m p) ≡ per_link * grown m p
  pub is : out ≡ put ls (per_link * q) (new_rows ls q m p)

-- `part_rows`: the rows before row a and past those written are the same
pub record PartedRows (ls out : List ℕ) (a b m : ℕ) (p : Plan) : Type 0 where
  pub long : per_link * a + length (parted ls a b m p) ≡ per_link * grown m p
  pub is : out ≡ put ls (per_link * a) (parted ls a b m p)

-- The link rows of a store after a split, as `pair_rules` says them, and what a caller knows before. Assumes nothing.
use Rattle.std.specs.Prelude.{ℕ, ◌+◌, ◌*◌, ◌≤◌, ◌<◌, ◌≡◌, true, ◌&&◌, List, length, leb, ltb}
use Rattle.folds.specs.Lists.{among, put}
use Rattle.ot_layouts.specs.PairPos.{Shape, shared_in, item_at}
use Rattle.store_rules.specs.Store.{Store, per_link, link_at, linked_at}
use Rattle.pair_rules.specs.Table.{of_items}
use Rattle.cut_rules.specs.Ranges.{from}
use Rattle.pair_rules.specs.Written.{need_links, new_links}
use Rattle.store_rules.specs.Appended.{row_numbers}
use Rattle.store_reader.specs.Rows.{orders, InOrder}
use Rattle.ot_pairpos.specs.declared.Layout.{Layout}
use Rattle.ot_pairpos.specs.Layout.{shape_with, Numbered}

-- what is known when table t of s, of layout l, is to be split at cs: the cuts ascend to the count, the table ends before the places of order-only links, the rows
-- are in order, class2 is the object that new tables share, and there is room
pub record Parting (s : Store) (t : ℕ) (l : Layout) (cs : List ℕ) (class2 : ℕ) : Type 0 where
  pub numbered : Numbered l
  pub some : 0 < length cs
  pub rising : (i j : ℕ) → i ≤ j → j < length cs → from cs i ≤ from cs j
  pub within : (j : ℕ) → j < length cs → from cs j ≤ l.count
  pub size : item_at (shape_with l) l.count ≤ orders
  pub order : InOrder s.links s.link_count
  pub shared : (q : ℕ) → among q (shared_in l.format) ≡ true → class2 ≡ linked_at s t q
  pub link_room : per_link * (s.link_count + l.heads * length cs) ≤ length s.links
  pub object_room : s.object_count + (l.own + 1) * length cs + 1 < 4294967296

-- and that `first` up to `after` are the rows of the items that are cut off
pub record Between (s : Store) (t : ℕ) (l : Layout) (cs : List ℕ) (first after class2 : ℕ) : Type 0 where
  pub known : Parting s t l cs class2
  pub ordered : first ≤ after
  pub used : after ≤ s.link_count
  pub these : (k : ℕ) → k < s.link_count → of_items t (shape_with l) (from cs 0) l.count (link_at s k) ≡ leb first k && ltb k after

-- the link rows and their count after the split, which adds the links of the new tables' headers
pub record LinksSplit (s : Store) (t : ℕ) (sh : Shape) (cs out : List ℕ) (count : ℕ) : Type 0 where
  pub count_is_lem : count ≡ length (new_links s t sh cs)
  pub added : count ≡ s.link_count + need_links sh (length cs)
  pub rows_are : out ≡ put s.links 0 (row_numbers (new_links s t sh cs))

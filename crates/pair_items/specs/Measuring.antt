-- The items of a table measured one after another: where their link rows start, and what counts as seen. Assumes nothing.
use Rattle.std.specs.Prelude.{ℕ, ◌+◌, ◌≤◌, ◌<◌, ◌≡◌, true, cond, List}
use Rattle.ot_layouts.specs.PairPos.{Shape, item_at}
use Rattle.store_rules.specs.Store.{Store, lent, link_at, sound}
use Rattle.cut_rules.specs.Cuts.{second, seen_from}
use Rattle.pair_rules.specs.Table.{of_items}
use Rattle.store_rules.specs.Reach.{item_size}
use Rattle.store_reader.specs.Rows.{orders, key_of, FirstRow}
use Rattle.store_walk.specs.Marks.{Back, Marks}
use Rattle.pair_items.specs.declared.measuring.Measured.{Measured}

-- before item i of table t: its link rows start at `row`, what the items from a on reach has the epoch's mark, and the table itself has one exactly if
-- its rows so far lead back to it
pub record At (s : Store) (t : ℕ) (sh : Shape) (a i row epoch : ℕ) (w : List ℕ) : Type 0 where
  pub is_sound : sound s ≡ true
  pub order : a ≤ i
  pub first : FirstRow s.links s.link_count (key_of t (item_at sh i)) row
  pub marks : Marks s (λ k. of_items t sh a i (link_at s k)) epoch w
  pub used : t < s.object_count
  pub begun : 0 < epoch
  pub back : Back s t row w

-- item i was measured: its size is S(i) where objects count as seen from item a on, and the next item is at hand
pub record Measures (s : Store) (t : ℕ) (sh : Shape) (a i row epoch : ℕ) (w : List ℕ) (m : Measured) (w' : List ℕ) : Type 0 where
  pub size : m.size ≡ item_size s (of_items t sh) a i
  pub most : m.size ≤ 16777216
  pub later : row ≤ m.next
  pub after : At s t sh a (i + 1) m.next epoch w'

-- the item that ends before `end` was measured, whatever the bytes of the store, the item's number, and what counts as seen
abbrev pub MeasuresItem : List ℕ → List ℕ → List ℕ → ℕ → ℕ → ℕ → ℕ → List ℕ → Measured → List ℕ → Type 0
MeasuresItem o l c t row end epoch w m w' =
    (b : List ℕ) (sh : Shape) (a i : ℕ) → end ≡ item_at sh (i + 1) → At (lent b o l c) t sh a i row epoch w → Measures (lent b o l c) t sh a i row epoch w m w'

-- item i, whose link rows are those from `row` up to `next`, stands at a cut: nothing has the epoch's mark yet
pub record AtCut (s : Store) (t : ℕ) (sh : Shape) (i row next epoch : ℕ) (w : List ℕ) : Type 0 where
  pub first : FirstRow s.links s.link_count (key_of t (item_at sh i)) row
  pub short : item_at sh (i + 1) ≤ orders
  pub after : At s t sh (i + 1) (i + 1) next epoch w

-- its size was measured in an edition, where it had one before; the next item is at hand, and what counts as seen is as the edition says
pub record Restarts (s : Store) (t : ℕ) (sh : Shape) (i next edition epoch before r : ℕ) (w : List ℕ) : Type 0 where
  pub size : r ≡ cond (second edition) (item_size s (of_items t sh) i i) before
  pub most : before ≤ 16777216 → r ≤ 16777216
  pub after : At s t sh (seen_from edition i) (i + 1) next epoch w

-- the same, whatever the bytes of the store, the table and the item's number
abbrev pub MeasuresAtCut : List ℕ → List ℕ → List ℕ → ℕ → Measured → ℕ → ℕ → List ℕ → ℕ → List ℕ → Type 0
MeasuresAtCut o l c row m edition epoch w r w' =
    (b : List ℕ) (t : ℕ) (sh : Shape) (i : ℕ) → AtCut (lent b o l c) t sh i row m.next epoch w
    → Restarts (lent b o l c) t sh i m.next edition epoch m.size r w'

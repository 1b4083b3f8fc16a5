-- A table whose items are weighed one after another: before the first, at one of them, and after the last. Assumes nothing.
use Rattle.std.specs.Prelude.{ℕ, ◌+◌, ◌≤◌, ◌<◌, ◌≡◌, true, List, ltb, length, get_or}
use Rattle.ot_layouts.specs.PairPos.{item_at}
use Rattle.store_rules.specs.Store.{Store, sound, bytes_of}
use Rattle.cut_rules.specs.Cuts.{Cutting, after}
use Rattle.call_rules.specs.declared.Settings.{Settings}
use Rattle.pair_rules.specs.Table.{shape, rule_of}
use Rattle.store_rules.specs.Reach.{on_cycle}
use Rattle.store_reader.specs.Rows.{key_of, FirstRow}
use Rattle.store_walk.specs.Marks.{no_row, Back, Marks}
use Rattle.cut_filling.specs.declared.Filling.{Filling}
use Rattle.pair_items.specs.declared.table_info.TableInfo.{TableInfo}
use Rattle.pair_items.specs.Measuring.{At}

-- the numbers are those of the table, which has passed the checks up to 3
pub record Described (s : Store) (x : TableInfo) : Type 0 where
  pub is_sound : sound s ≡ true
  pub used : x.table < s.object_count
  pub exactly : length (bytes_of s x.table) ≡ item_at (shape s x.table) (shape s x.table).count
  pub header : x.header ≡ (shape s x.table).header
  pub item : x.item ≡ (shape s x.table).item
  pub count : x.count ≡ (shape s x.table).count
  -- an epoch for each table that may come
  pub epochs : x.epoch + x.count < 2147483648

-- before the first item: nothing counts as seen, the table has a mark exactly if the links of its header lead back to it, and there is an entry for
-- each cut
pub record Unseen (s : Store) (x : TableInfo) (w l : List ℕ) : Type 0 where
  pub marks : Marks s no_row x.epoch w
  pub begun : 0 < x.epoch
  pub back : (row : ℕ) → FirstRow s.links s.link_count (key_of x.table x.header) row → Back s x.table row w
  pub room : x.count ≤ length l

-- where the cut rule stands once the items below i have been weighed
abbrev pub cutting_at : Settings → Store → TableInfo → ℕ → Cutting
cutting_at how s x i = after (rule_of how s x.table) i

-- then item i is at hand, and what counts as seen has the mark of this table's epoch
abbrev pub AtItem : Settings → Store → TableInfo → ℕ → Filling → ℕ → List ℕ → Type 0
AtItem how s x i f row w = At s x.table (shape s x.table) (cutting_at how s x i).seen i row (x.epoch + f.cuts) w

-- after the last item: the table has a mark exactly if it can be reached from itself
pub record TellsCycle (s : Store) (t : ℕ) (w : List ℕ) : Type 0 where
  pub tells : ltb 0 (get_or w t 0) ≡ on_cycle s t

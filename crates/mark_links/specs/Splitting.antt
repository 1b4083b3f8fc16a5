-- The link rows of a store after a split, as `mark_rules` says them, and what a caller knows before. Assumes nothing.
use Rattle.std.specs.Prelude.{ℕ, ◌+◌, ◌*◌, ◌≤◌, ◌<◌, ◌≡◌, true, List, ◌++◌, map, length, get_or}
use Rattle.folds.specs.Folds.{flat}
use Rattle.folds.specs.Lists.{put}
use Rattle.ot_layouts.specs.MarkBasePos.{base_cover_at}
use Rattle.glyph_rules.specs.Entries.{within}
use Rattle.store_rules.specs.Store.{Store, Link, lent, per_link, linked_at}
use Rattle.store_rules.specs.Appended.{row_numbers, new_number}
use Rattle.store_reader.specs.Rows.{orders, InOrder}
use Rattle.cut_rules.specs.Places.{Places}
use Rattle.cut_rules.specs.Ranges.{from, to}
use Rattle.cut_parts.specs.Tables.{paired, Parted}
use Rattle.cut_parts.specs.Order.{Arranged}
use Rattle.mark_rules.specs.Table.{classes_of, mark_array, base_array, bases_in, all_at_slots}
use Rattle.mark_order.specs.Marks.{mark_places}
use Rattle.mark_rules.specs.Written.{per_table, need_links, new_links}
use Rattle.mark_rules.specs.Reads.{Reads}
use Rattle.mark_arrays.specs.declared.Arrays.{Arrays}
use Rattle.store_link_rows.specs.Copies.{in_use, RowsRoom}
use Rattle.mark_links.specs.Copies.{array_copies, table_copies}

-- ---- from the link rows, and from the marks' places with their classes

-- the places of the marks of the classes lo up to hi
abbrev pub places_in : List ℕ → List ℕ → ℕ → ℕ → List ℕ
places_in ps ks lo hi = map (λ e. e.glyph) (within lo hi (paired ps ks))

-- of new table j, where `first` is the number of the first
abbrev pub table_turn : Arrays → List ℕ → List ℕ → List ℕ → ℕ → List Link → ℕ → List Link
table_turn a ps ks cs first old j =
    table_copies old a (places_in ps ks (from cs j) (to a.classes cs j)) (from cs j) (to a.classes cs j) (first + per_table * j)

-- of all new tables
unfoldable pub tables_copies : List Link → Arrays → List ℕ → List ℕ → List ℕ → ℕ → List Link
tables_copies old a ps ks cs first = flat (table_turn a ps ks cs first old) (length cs)

-- and then of the kept table's new arrays
unfoldable pub new_copies : List Link → Arrays → List ℕ → List ℕ → List ℕ → ℕ → List Link
new_copies old a ps ks cs first =
    tables_copies old a ps ks cs first ++ array_copies old a (places_in ps ks 0 (from cs 0)) 0 (from cs 0) (first + per_table * length cs + 1)

-- all of it can be written
pub record CopyReady (ls counts : List ℕ) (a : Arrays) (ps ks cs : List ℕ) : Type 0 where
  pub order : InOrder ls (get_or counts 2 0)
  pub used : (a.mark_array < 65536) × (a.base_array < 65536)
  pub short : 2 + 2 * (a.bases * a.classes) ≤ orders
  pub parts : Parted ps ks cs a.classes
  pub few : length ps ≤ 16777216
  pub numbers : get_or counts 1 0 + per_table * length cs + 2 < 4294967296
  pub room : RowsRoom ls counts (get_or counts 2 0) (new_copies (in_use ls counts) a ps ks cs (get_or counts 1 0))

-- ---- for a caller

-- what is known when table t of s is to be split at cs: the checks are passed, the arrays are the table's, the marks' places are arranged by new table, and
-- there is room
pub record Splitting (s : Store) (t : ℕ) (a : Arrays) (ps ks cs : List ℕ) : Type 0 where
  pub reads : Reads s t
  pub at_slots : all_at_slots s t ≡ true
  pub mark_array_is : a.mark_array ≡ mark_array s t
  pub base_array_is : a.base_array ≡ base_array s t
  pub base_cover_is : a.base_coverage ≡ linked_at s t base_cover_at
  pub classes_is : a.classes ≡ classes_of s t
  pub bases_is : a.bases ≡ bases_in s t
  pub cuts : Places (classes_of s t) cs
  pub some : 0 < length cs
  pub arranged : Arranged ps ks cs (classes_of s t) (mark_places s t)
  pub link_room : per_link * (s.link_count + need_links s t (length cs)) ≤ length s.links
  pub numbers : new_number s per_table (length cs) + 2 < 4294967296

-- it is known of a store with these link rows and counts
pub record SplittingLent (ls counts : List ℕ) (t : ℕ) (a : Arrays) (ps ks cs : List ℕ) : Type 0 where
  pub bytes : List ℕ
  pub objects : List ℕ
  pub known : Splitting (lent bytes objects ls counts) t a ps ks cs

-- the link rows and their count after the split
pub record LinksSplit (s : Store) (t : ℕ) (cs out : List ℕ) (count : ℕ) : Type 0 where
  pub count_is_lem : count ≡ length (new_links s t cs)
  pub added : count ≡ s.link_count + need_links s t (length cs)
  pub rows_are : out ≡ put s.links 0 (row_numbers (new_links s t cs))

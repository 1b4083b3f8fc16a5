-- Links of a table's arrays copied to new arrays, from the link rows alone. Assumes nothing.
use Rattle.std.specs.Prelude.{ℕ, ◌+◌, ◌-◌, ◌*◌, ◌/◌, ◌%◌, ◌≤◌, List, ◌++◌, length, get_or}
use Rattle.folds.specs.Folds.{flat}
use Rattle.ot_layouts.specs.MarkBasePos.{own, heads, mark_slot, base_slot}
use Rattle.store_rules.specs.Store.{Link, lookup}
use Rattle.store_rules.specs.Header.{header_links}
use Rattle.store_rules.specs.SlotLinks.{slot_link, slot_links}
use Rattle.store_reader.specs.Rows.{orders}
use Rattle.store_link_rows.specs.Copies.{Source}
use Rattle.mark_arrays.specs.declared.Arrays.{Arrays}
use Rattle.mark_arrays.specs.declared.ArrayRows.{ArrayRows}

-- a link at `slot` of the new array p, to the child that the old array has at position q
abbrev pub slot_copy : List Link → ℕ → ℕ → ℕ → ℕ → List Link
slot_copy old array q p slot = slot_link p slot (lookup old array q)

-- of the new mark array p, of the marks at these places: each mark's anchor
unfoldable pub mark_copies : List Link → ℕ → List ℕ → ℕ → List Link
mark_copies old array places p = slot_links p (mark_slot 0) 4 (λ k. lookup old array (mark_slot (get_or places k 0))) (length places)

-- of one base, to the new base array p from slot `slot` on: the n anchors from the old array's slot `first` on
unfoldable pub base_copy : List Link → ℕ → ℕ → ℕ → ℕ → ℕ → List Link
base_copy old array first n p slot = flat (λ c. slot_copy old array (base_slot (first + c)) p (base_slot (slot + c))) n

-- the old slot of slot k of an array of n classes from lo on
abbrev pub old_slot : ℕ → ℕ → ℕ → ℕ → ℕ
old_slot classes lo n k = k / n * classes + (lo + k % n)

-- of the new base array p of the classes lo up to hi: each base's anchors
unfoldable pub base_copies : List Link → ℕ → ℕ → ℕ → ℕ → ℕ → ℕ → List Link
base_copies old array bases classes lo hi p =
    slot_links p (base_slot 0) 2 (λ k. lookup old array (base_slot (old_slot classes lo (hi - lo) k))) (bases * (hi - lo))

-- of the new mark array p, and of the base array behind it
unfoldable pub array_copies : List Link → Arrays → List ℕ → ℕ → ℕ → ℕ → List Link
array_copies old a places lo hi p =
    mark_copies old a.mark_array places p ++ base_copies old a.base_array a.bases a.classes lo hi (p + 1)

-- of the new table u: its header's, and its arrays'
unfoldable pub table_copies : List Link → Arrays → List ℕ → ℕ → ℕ → ℕ → List Link
table_copies old a places lo hi u = header_links own heads u (λ q. a.base_coverage) ++ array_copies old a places lo hi (u + 2)

-- these are those of the two arrays, and the positions in the base array fit
pub record Sources (ls counts : List ℕ) (a : Arrays) (rows : ArrayRows) : Type 0 where
  pub marks : Source ls counts a.mark_array rows.marks
  pub bases : Source ls counts a.base_array rows.bases
  pub short : 2 + 2 * (a.bases * a.classes) ≤ orders

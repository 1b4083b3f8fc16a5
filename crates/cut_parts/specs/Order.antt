-- Covered glyphs with their items, in order by item, of which each table's part is put in order by glyph. Assumes nothing.
use Rattle.std.specs.Prelude.{ℕ, ◌≤◌, ◌<◌, ◌≡◌, List, length, get_or}
use Rattle.folds.specs.Lists.{part}
use Rattle.folds.specs.Ascending.{ascending}
use Rattle.ot_layouts.specs.Coverage.{Entry}
use Rattle.cut_rules.specs.Ranges.{from}
use Rattle.glyph_sort.specs.Pairs.{pairs, keys_of, beside_of}
use Rattle.cut_parts.specs.Tables.{paired, low_at, high_at, entries_at, Halved}

-- the pairs from index a up to b by glyph: their glyphs
abbrev pub glyph_order : List ℕ → List ℕ → ℕ → ℕ → List ℕ
glyph_order gs ks a b = keys_of (ascending (pairs (part gs a b) (part ks a b)))

-- and their items
abbrev pub item_order : List ℕ → List ℕ → ℕ → ℕ → List ℕ
item_order gs ks a b = beside_of (ascending (pairs (part gs a b) (part ks a b)))

-- the items ascend, and so do the cuts of n items
pub record Sorted (gs ks cs : List ℕ) (n : ℕ) : Type 0 where
  pub same : length ks ≡ length gs
  pub ascends : (i j : ℕ) → i ≤ j → j < length ks → get_or ks i 0 ≤ get_or ks j 0
  pub below : (j : ℕ) → j < length cs → from cs j ≤ n
  pub rising : (i j : ℕ) → i ≤ j → j < length cs → from cs i ≤ from cs j

-- each table's part is put in order by glyph, and what belongs to no table stays
pub record PartsOrdered (gs ks cs : List ℕ) (n : ℕ) (gs' ks' : List ℕ) : Type 0 where
  pub same_glyphs : length gs' ≡ length gs
  pub same_items : length ks' ≡ length ks
  pub tables : (k a b : ℕ) → k ≤ length cs → Halved ks (low_at cs k) a → Halved ks (high_at n cs k) b → (part gs' a b ≡ glyph_order gs ks a b) × (part ks' a b ≡ item_order gs ks a b)
  pub others : (a i : ℕ) → Halved ks n a → a ≤ i → (get_or gs' i 0 ≡ get_or gs i 0) × (get_or ks' i 0 ≡ get_or ks i 0)

-- the items of one table stand behind those of the table before, and each table has the entries that it has among es
pub record Arranged (gs ks cs : List ℕ) (n : ℕ) (es : List Entry) : Type 0 where
  pub same : length ks ≡ length gs
  pub long : length gs ≡ length es
  pub parted : (k i j : ℕ) → k ≤ length cs → i ≤ j → j < length ks → get_or ks j 0 < high_at n cs k → get_or ks i 0 < high_at n cs k
  pub entries : (k : ℕ) → k ≤ length cs → entries_at n cs (paired gs ks) k ≡ entries_at n cs es k

-- The tables of a split, the kept one first, and the covered glyphs with their items, those of one table together. Assumes nothing.
use Rattle.std.specs.Prelude.{ℕ, ◌≤◌, ◌<◌, ◌≡◌, List, [], ◌∷◌, length, get_or}
use Rattle.folds.specs.Folds.{before}
use Rattle.ot_layouts.specs.Coverage.{Entry}
use Rattle.glyph_rules.specs.Entries.{within}
use Rattle.cut_rules.specs.Ranges.{from}
use Rattle.cut_rules.specs.Places.{Places}

-- each glyph with its item
unfoldable pub paired : List ℕ → List ℕ → List Entry
paired [] ks = []
paired (g ∷ gs) [] = []
paired (g ∷ gs) (k ∷ ks) = record { glyph = g; class = k } ∷ paired gs ks

-- the first item of table k
abbrev pub low_at : List ℕ → ℕ → ℕ
low_at cs k = before (from cs) k

-- the item that it runs up to, of n
abbrev pub high_at : ℕ → List ℕ → ℕ → ℕ
high_at n cs k = get_or cs k n

-- its covered glyphs
abbrev pub entries_at : ℕ → List ℕ → List Entry → ℕ → List Entry
entries_at n cs es k = within (low_at cs k) (high_at n cs k) es

-- the part of the items from `from` on that lie below hi ends at r
pub record PartEnd (ks : List ℕ) (from hi r : ℕ) : Type 0 where
  pub after : from ≤ r
  pub inside : r ≤ length ks
  pub below : (i : ℕ) → from ≤ i → i < r → get_or ks i 0 < hi
  pub above : r < length ks → hi ≤ get_or ks r 0

-- those before a lie below h, and the others do not
pub record Halved (ks : List ℕ) (h a : ℕ) : Type 0 where
  pub inside : a ≤ length ks
  pub low : (i : ℕ) → i < a → get_or ks i 0 < h
  pub high : (i : ℕ) → a ≤ i → i < length ks → h ≤ get_or ks i 0

-- n items can be cut at cs, at least once, and the items of one table stand behind those of the table before
pub record Parted (gs ks cs : List ℕ) (n : ℕ) : Type 0 where
  pub same : length ks ≡ length gs
  pub some : 0 < length cs
  pub places : Places n cs
  pub parted : (k i j : ℕ) → k ≤ length cs → i ≤ j → j < length ks → get_or ks j 0 < high_at n cs k → get_or ks i 0 < high_at n cs k

-- The marks of a mark array under some numbers, their glyphs or their places, each with its class. Assumes nothing.
use Rattle.std.specs.Prelude.{ℕ, List, length, get_or}
use Rattle.folds.specs.Folds.{upto}
use Rattle.ot_layouts.specs.Coverage.{Entry}
use Rattle.ot_layouts.specs.MarkBasePos.{mark_class}
use Rattle.store_rules.specs.Store.{Store}
use Rattle.mark_rules.specs.Table.{mark_bytes, marks_in}

-- mark i of the array b is number i of xs
unfoldable pub entries_by : List ℕ → List ℕ → List Entry
entries_by b xs = upto (λ i. record { glyph = get_or xs i 0; class = mark_class b i }) (length xs)

-- the places of n marks of the array b
abbrev pub places_by : List ℕ → ℕ → List Entry
places_by b n = upto (λ i. record { glyph = i; class = mark_class b i }) n

-- those of the marks of table t
abbrev pub mark_places : Store → ℕ → List Entry
mark_places s t = places_by (mark_bytes s t) (marks_in s t)

-- What is kept, as marks in the first half of the walk. Assumes nothing.
use Rattle.std.specs.Prelude.{ℕ, ◌<◌, ◌≡◌, Bool, List, get_or, ltb}
use Rattle.store_rules.specs.Store.{Store}
use Rattle.compact_rules.specs.Kept.{kept}

-- the object has a mark, whatever number it is
abbrev pub has_mark : List ℕ → ℕ → Bool
has_mark w i = ltb 0 (get_or w i 0)

-- exactly what is kept has one
abbrev pub MarksKept : Store → List ℕ → List ℕ → Type 0
MarksKept s roots w = (i : ℕ) → i < s.object_count → has_mark w i ≡ kept s roots i

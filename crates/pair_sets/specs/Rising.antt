-- Records of a pair set whose second glyphs rise. Assumes nothing.
use Rattle.std.specs.Prelude.{ℕ, ◌+◌, ◌*◌, ◌≡◌, Bool, List, ltb}
use Rattle.folds.specs.Folds.{all}
use Rattle.ot_layouts.specs.Numbers.{u16_at}

-- the second glyph of record r
abbrev pub second_at : List ℕ → ℕ → ℕ → ℕ
second_at b size r = u16_at b (2 + (2 + size) * r)

-- behind record k stand n whose glyphs are each above the one before
unfoldable pub rises : List ℕ → ℕ → ℕ → ℕ → Bool
rises b size k n = all (λ j. ltb (second_at b size (k + j)) (second_at b size (k + j + 1))) n

-- r tells whether n do so behind the record at `at`, where records stand `step` bytes apart
abbrev pub RisesFrom : List ℕ → ℕ → ℕ → ℕ → Bool → Type 0
RisesFrom b step at n r = (size k : ℕ) → step ≡ 2 + size → at ≡ 2 + (2 + size) * k → r ≡ rises b size k n

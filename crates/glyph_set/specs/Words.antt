-- The runs that start in a word, and the word of eight bytes of the set. Assumes nothing.
use Rattle.std.specs.Prelude.{ℕ, zero, suc, ◌+◌, ◌-◌, ◌/◌, ◌%◌, ◌^◌, ◌<◌, ◌≤◌, min, true, List, ◌≡◌, eqb}
use Rattle.glyph_set.specs.GlyphSet.{member}

-- 1 where a run starts at a bit: it is set, and the one before it is not
unfoldable pub starts_at : ℕ → ℕ → ℕ
starts_at bit carried = min bit (1 - carried)

-- how many runs start in the n low bits of w, behind a bit that is carried over
unfoldable pub starts_in : ℕ → ℕ → ℕ → ℕ
starts_in zero w carried = 0
starts_in (suc n) w carried = starts_at (w % 2) carried + starts_in n (w / 2) (w % 2)

-- bit j of w is glyph g + j
abbrev pub WordOf : List ℕ → ℕ → ℕ → Type 0
WordOf s g w = (j : ℕ) → j < 64 → member s (g + j) ≡ eqb (w / 2 ^ j % 2) 1

-- the glyphs of the set lie from first to last
abbrev pub Spans : List ℕ → ℕ → ℕ → Type 0
Spans s first last = (g : ℕ) → g < 65536 → member s g ≡ true → (first ≤ g) × (g ≤ last)

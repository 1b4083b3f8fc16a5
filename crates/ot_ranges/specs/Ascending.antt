-- Glyphs in ascending order, as a writer of ranges takes them. Assumes nothing.
use Rattle.std.specs.Prelude.{ℕ, ◌+◌, ◌<◌, List, length, get_or}

-- each glyph is above the one before it
abbrev pub Ascending : List ℕ → Type 0
Ascending gs = (k : ℕ) → k + 1 < length gs → get_or gs k 0 < get_or gs (k + 1) 0

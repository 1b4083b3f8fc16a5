-- Where one glyph of a list joins the next in a run. Assumes nothing.
use Rattle.std.specs.Prelude.{ℕ, ◌+◌, Bool, ◌&&◌, List, length, get_or, ltb, eqb}

-- there is a glyph after the one at k, and it is one more
unfoldable pub joins_next : List ℕ → ℕ → Bool
joins_next gs k = ltb (k + 1) (length gs) && eqb (get_or gs k 0 + 1) (get_or gs (k + 1) 0)

-- What writing a new table leaves in the data: the old data d with the table of "What is written" from byte `at` on. Assumes nothing.
use Rattle.std.specs.Prelude.{ℕ, ◌+◌, ◌*◌, ◌≤◌, ◌≡◌, List, length}
use Rattle.folds.specs.Lists.{put, part}
use Rattle.ot_layouts.specs.PairPos.{Shape, shape1, shape2}
use Rattle.pair_rules.specs.Written.{new_table}

-- the table of shape sh and bytes b is written for items lo up to hi, and ends at `end`
pub record Cloned (d : List ℕ) (sh : Shape) (b : List ℕ) (lo hi at : ℕ) (d' : List ℕ) (end : ℕ) : Type 0 where
  pub written : d' ≡ put d at (new_table sh b lo hi)
  pub ends : end ≡ at + length (new_table sh b lo hi)

-- format 1, wherever the old table ends
abbrev pub Cloned1 : List ℕ → ℕ → ℕ → ℕ → ℕ → List ℕ → ℕ → Type 0
Cloned1 d head lo hi at d' end =
    (tail : ℕ) → head + 10 ≤ tail → tail ≤ length d → Cloned d (shape1 (part d head tail)) (part d head tail) lo hi at d' end

-- format 2, wherever the old table, with all rows below hi, ends
abbrev pub Cloned2 : List ℕ → ℕ → ℕ → ℕ → ℕ → ℕ → List ℕ → ℕ → Type 0
Cloned2 d head row lo hi at d' end =
    (tail : ℕ) → head + (16 + row * hi) ≤ tail → tail ≤ length d → row ≡ (shape2 (part d head tail)).item
    → Cloned d (shape2 (part d head tail)) (part d head tail) lo hi at d' end

-- The walk's scratch once some roots have been walked from. Assumes nothing.
use Rattle.std.specs.Prelude.{ℕ, ◌+◌, ◌<◌, ◌≡◌, true, List, get_or}
use Rattle.store_rules.specs.Store.{Store, lent, sound}
use Rattle.store_reader.specs.Rows.{key_of, FirstRow}
use Rattle.store_walk.specs.Marks.{Marks}
use Rattle.compact_rules.specs.Kept.{from_roots}
use Rattle.compact_rules.specs.Marks.{MarksKept}

-- in its second half, where each object's rows end
abbrev pub RowEnds : List ℕ → List ℕ → List ℕ → Type 0
RowEnds l c w = (i : ℕ) → i < get_or c 1 0 → FirstRow l (get_or c 2 0) (key_of (i + 1) 0) (get_or w (get_or c 1 0 + i) 0)

-- their offsets have been walked, and they and what these reach have a mark
pub record Rooted (s : Store) (roots w : List ℕ) : Type 0 where
  pub marks : Marks s (from_roots s roots) 2 w
  pub kept : MarksKept s roots w

-- the same, whatever the bytes of the store
abbrev pub Rooting : List ℕ → List ℕ → List ℕ → List ℕ → List ℕ → Type 0
Rooting o l c roots w = (b : List ℕ) → sound (lent b o l c) ≡ true → Rooted (lent b o l c) roots w

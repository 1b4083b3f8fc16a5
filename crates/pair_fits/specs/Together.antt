-- What a pair table of a store takes together with its parts and all that its items reach. Assumes nothing.
use Rattle.std.specs.Prelude.{ℕ, ◌+◌}
use Rattle.ot_layouts.specs.PairPos.{cover_at, class1_at, class2_at}
use Rattle.store_rules.specs.Store.{Store, size_of, linked_at}
use Rattle.store_rules.specs.Reach.{reach_of}
use Rattle.glyph_rules.specs.Estimates.{but_largest}
use Rattle.pair_rules.specs.Table.{shape, of_items}

-- "all that its pair sets reach", in format 2 its rows: the summed length of all objects reachable from the items' links, each counted once
unfoldable pub reached_by_items : Store → ℕ → ℕ
reached_by_items s u = reach_of s (of_items u (shape s u) 0 (shape s u).count)

-- format 1: the table "together with its coverage and all that its pair sets reach"
unfoldable pub sets_together : Store → ℕ → ℕ
sets_together s u = size_of s u + size_of s (linked_at s u cover_at) + reached_by_items s u

-- format 2: the table together with all that its rows reach, and with coverage and both class definitions but for the largest of these three
unfoldable pub rows_together : Store → ℕ → ℕ
rows_together s u =
    size_of s u + but_largest (size_of s (linked_at s u cover_at)) (size_of s (linked_at s u class1_at)) (size_of s (linked_at s u class2_at)) + reached_by_items s u

-- all of this file's definitions, for checks that compute
unfoldable pub computes : Unit {0}
unfolding reached_by_items sets_together rows_together
computes = tt

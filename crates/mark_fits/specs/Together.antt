-- What a mark-to-base table of a store takes together with its parts and all that its anchors' links reach. Assumes nothing.
use Rattle.std.specs.Prelude.{ℕ, ◌+◌}
use Rattle.ot_layouts.specs.MarkBasePos.{cover_at, base_cover_at}
use Rattle.store_rules.specs.Store.{Store, size_of, linked_at}
use Rattle.store_rules.specs.Reach.{reach_of}
use Rattle.mark_rules.specs.Table.{classes_of, mark_array, base_array, of_classes}

-- the summed length of all objects reachable from the links of all its classes, each counted once
unfoldable pub reached_by_classes : Store → ℕ → ℕ
reached_by_classes s u = reach_of s (of_classes s u 0 (classes_of s u))

-- the table together with both coverages, both arrays and all that the arrays' links reach
unfoldable pub marks_together : Store → ℕ → ℕ
marks_together s u =
    size_of s u + size_of s (linked_at s u cover_at) + size_of s (linked_at s u base_cover_at) + size_of s (mark_array s u) + size_of s (base_array s u) + reached_by_classes s u

-- all of this file's definitions, for checks that compute
unfoldable pub computes : Unit {0}
unfolding reached_by_classes marks_together
computes = tt

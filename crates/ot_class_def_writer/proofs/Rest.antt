-- The entries that a value holds, from an index on: none, one before the others, and the run that one of them starts. Assumes nothing.
use Prim.Native.Nat.{ℕ, ◌+◌, ◌-◌, ◌≤◌, ◌<◌}
use mathlib.Core.Path.{◌≡◌}
use mathlib.Core.List.{[], ◌∷◌}
use lib.ListN.{length, get_or, drop}
use Rattle.ot_layouts.specs.Coverage.{Entry, runs, Ascends}
use Rattle.ot_layouts.specs.ClassDef.{named}
use Rattle.ot_ranges.proofs.Ascending.{ascends}
use Rattle.ot_class_def_writer.specs.declared.covered.Entries.{Entries}
use Rattle.ot_class_def_writer.specs.Entries.{entries_of, RunTo}
use Rattle.ot_class_def_writer.proofs.Entries.{entry_at, ascends_entries, rest_cons, rest_none, rest_skip, rest_run}

module _ (en : Entries) where
  -- entry k
  abbrev pub nth : ℕ → Entry
  nth k = entry_at en.glyphs.now en.classes.now en.first k

  pub all_ascend : Ascends 0 (entries_of en)
  all_ascend = ascends_entries en.glyphs.now en.classes.now en.first 0 (ascends en.glyphs.now en.ascending)

  pub from_cons : (k : ℕ) → k < length en.glyphs.now → drop k (entries_of en) ≡ nth k ∷ drop (k + 1) (entries_of en)
  from_cons = rest_cons en.glyphs.now en.classes.now en.first en.same_length

  pub from_none : (k : ℕ) → k ≡ length en.glyphs.now → drop k (entries_of en) ≡ []
  from_none = rest_none en.glyphs.now en.classes.now en.first en.same_length

  pub from_skip : (k : ℕ) → k < length en.glyphs.now → get_or en.classes.now k 0 ≤ en.first
      → named (drop k (entries_of en)) ≡ named (drop (k + 1) (entries_of en))
  from_skip = rest_skip en.glyphs.now en.classes.now en.first en.same_length

  pub from_run : (k r : ℕ) → RunTo en.glyphs.now en.classes.now k r → en.first < get_or en.classes.now k 0
      → runs (named (drop k (entries_of en)))
      ≡ record { start = get_or en.glyphs.now k 0; end = get_or en.glyphs.now r 0; class = get_or en.classes.now k 0 - en.first }
      ∷ runs (named (drop (r + 1) (entries_of en)))
  from_run k r t n = rest_run en.glyphs.now en.classes.now en.first en.same_length k r t (ascends en.glyphs.now en.ascending) n

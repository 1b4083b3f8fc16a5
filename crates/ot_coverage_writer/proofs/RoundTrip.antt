-- What `write_coverage` writes is readable, and is read back as the glyphs: by its bytes, and as a part of the buffer. Assumes nothing.
use Prim.Native.Nat.{ℕ, ◌+◌, ◌≤◌}
use mathlib.Core.Path.{◌≡◌}
use mathlib.Core.Bool.{true}
use mathlib.Core.List.{List}
use lib.ListN.{length}
use Rattle.folds.specs.Lists.{put, part}
use Rattle.folds.proofs.WrittenPart.{part-written}
use Rattle.ot_layouts.specs.Coverage.{cover_readable, cover_glyphs, coverage_bytes}
use Rattle.ot_layouts.proofs.CoverageRoundTrip.{cover_back, cover_readable_lem}
use Rattle.ot_ranges.specs.Ascending.{Ascending}
use Rattle.ot_ranges.proofs.Ascending.{ascends}

module _ (gs : List ℕ) (a : Ascending gs) where
  pub readable : cover_readable (coverage_bytes gs) ≡ true
  readable = cover_readable_lem gs (ascends gs a)

  pub back : cover_glyphs (coverage_bytes gs) ≡ gs
  back = cover_back gs (ascends gs a)

  -- the part from where it was written to where it ends
  module _ (d : List ℕ) (at : ℕ) (l : at ≤ length d) where
    pub part_readable : cover_readable (part (put d at (coverage_bytes gs)) at (at + length (coverage_bytes gs))) ≡ true
    part_readable = rw (part-written d at (coverage_bytes gs) l) readable

    pub part-back : cover_glyphs (part (put d at (coverage_bytes gs)) at (at + length (coverage_bytes gs))) ≡ gs
    part-back = rw (part-written d at (coverage_bytes gs) l) back

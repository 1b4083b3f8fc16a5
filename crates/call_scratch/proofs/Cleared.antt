-- Cleared scratch goes by its lengths alone. Assumes nothing.
use mathlib.Core.Path.{◌≡◌}
use lib.ListN.{length, replicate}
use Rattle.call_rules.specs.Scratch.{Scratch, cleared}

-- scratch of the same lengths
pub record SameLengths (w w' : Scratch) : Type 0 where
  pub walk : length w'.walk ≡ length w.walk
  pub set : length w'.set ≡ length w.set
  pub glyphs : length w'.glyphs ≡ length w.glyphs
  pub classes : length w'.classes ≡ length w.classes
  pub cuts : length w'.cuts ≡ length w.cuts

-- has the same zeros
pub same_cleared : {w w' : Scratch} → SameLengths w w' → cleared w' ≡ cleared w
unfolding cleared
same_cleared e =
    λ i. record {
      walk = replicate (e.walk i) 0;
      set = replicate (e.set i) 0;
      glyphs = replicate (e.glyphs i) 0;
      classes = replicate (e.classes i) 0;
      cuts = replicate (e.cuts i) 0;
    }

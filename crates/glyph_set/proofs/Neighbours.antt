-- The neighbours of a glyph in the set, as numbers of at most 1. Assumes nothing.
use Prim.Native.Nat.{ℕ, zero, suc, ◌+◌, ◌-◌, ◌<◌, ◌≤◌}
use mathlib.Core.Path.{◌≡◌, refl, ap, ◌∙◌}
use mathlib.Core.Bool.{Bool, true, false, cond}
use mathlib.Core.List.{List}
use native.Mathlib.Omega.{arith}
use lib.Dec.{eqb, ltb}
use borrow.Author.Tests.{lt-ltb, le-ltb}
use Rattle.folds.specs.Folds.{before}
use Rattle.folds.proofs.Folds.{before_none, before_more}
use Rattle.glyph_set.specs.GlyphSet.{member, present, behind}

-- a bit is its own test
pub digit : (d : ℕ) → d < 2 → d ≡ cond (eqb d 1) 1 0
digit zero l = refl
digit (suc zero) l = refl
digit (suc (suc d)) l = let no : ⊥ = omega arith in absurd no

at_most_one : (b : Bool) → cond b 1 0 ≤ 1
at_most_one true = omega arith
at_most_one false = omega arith

module _ (s : List ℕ) where
  pub before_le : (g : ℕ) → before (present s) g ≤ 1
  unfolding before
  before_le zero = omega arith
  before_le (suc g) = at_most_one (member s g)

  pub behind_le : (g : ℕ) → behind s g ≤ 1
  unfolding behind
  behind_le g = go (ltb (g + 1) 65536)
    where
      go : (b : Bool) → cond b (present s (g + 1)) 0 ≤ 1
      go true = at_most_one (member s (g + 1))
      go false = omega arith

  pub before-first : (g : ℕ) → g ≡ 0 → before (present s) g ≡ 0
  before-first g e = ap (before (present s)) e ∙ before_none (present s)

  pub before_at : (g : ℕ) → 0 < g → before (present s) g ≡ present s (g - 1)
  before_at g l = let e : g ≡ g - 1 + 1 = omega arith in ap (before (present s)) e ∙ before_more (present s) (g - 1)

  pub behind_at : (g : ℕ) → g + 1 < 65536 → behind s g ≡ present s (g + 1)
  unfolding behind
  behind_at g l = rw (lt-ltb (g + 1) 65536 l)

  pub behind_last : (g : ℕ) → 65536 ≤ g + 1 → behind s g ≡ 0
  unfolding behind
  behind_last g l = rw (le-ltb (g + 1) 65536 l)

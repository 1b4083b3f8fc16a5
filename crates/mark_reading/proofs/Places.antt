-- A glyph's place among the first n, by the place that was found. Assumes nothing.
use Rattle.std.specs.Prelude.{Some, None, Option}
use Rattle.std.specs.Bool.{then_some}
use Prim.Native.Nat.{ℕ}
use mathlib.Core.Path.{◌≡◌, refl}
use mathlib.Core.Bool.{Bool}
use mathlib.Core.List.{List}
use lib.Dec.{ltb}
use Rattle.folds.specs.Lists.{and_then}
use Rattle.ot_layouts.specs.Coverage.{cover_place}
use Rattle.mark_reading.specs.Reading.{place_below}

-- there is a place, or there is none
pub by_place : {P : Type 0} (o : Option ℕ) → (o ≡ None → P) → ((i : ℕ) → o ≡ Some i → P) → P
by_place None f g = f refl
by_place (Some i) f g = g i refl

module _ (b : List ℕ) (g n : ℕ) {r : Option ℕ} (e : r ≡ cover_place b g) where
  pub none_covered : r ≡ None → None ≡ place_below b g n
  unfolding place_below and_then
  none_covered y = rw (← e, y)

  pub kept_place : {i : ℕ} {x : Bool} → r ≡ Some i → x ≡ ltb i n → then_some x i ≡ place_below b g n
  unfolding place_below and_then
  kept_place y z = rw (← e, y, z)

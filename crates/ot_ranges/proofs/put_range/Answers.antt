-- `ot_ranges::put_range` meets its contract: three numbers are written, one behind the other. Assumes nothing.
use Prim.Native.Nat.{ℕ, ◌+◌, ◌≤◌}
use mathlib.Core.Path.{◌≡◌, refl}
use mathlib.Core.List.{List}
use native.Mathlib.Omega.{arith}
use lib.ListN.{length}
use Rattle.folds.specs.Lists.{put}
use Rattle.folds.proofs.Put.{put_then}
use Rattle.ot_layouts.specs.Numbers.{be16}
use Rattle.ot_ranges.specs.Ranges.{range_bytes}
use Rattle.ot_ranges.proofs.put_range.Goals as goal

three : (d : List ℕ) (a x y z : ℕ) {o o' o'' : List ℕ} → a + 6 ≤ length d → o ≡ put d a (be16 x) → o' ≡ put o (a + 2) (be16 y) → o'' ≡ put o' (a + 4) (be16 z)
    → o'' ≡ put d a (range_bytes x y z)
unfolding be16
three d a x y z l p q r = put_then d a _ (a + 4) _ (put_then d a _ (a + 2) _ p q refl (omega arith)) r refl (omega arith)

pub returns : goal.returns
returns c = three _ _ _ _ _ c.requires c.put_u16.ensures c.put_u16-2.ensures c.put_u16-3.ensures

-- Marks of objects: none is past the last lookup's. Assumes nothing.
use Prim.Native.Nat.{ℕ, ◌+◌, ◌-◌, ◌<◌, ◌≤◌}
use mathlib.Core.List.{List}
use mathlib.Core.Logic.{⊎_elim}
use native.Mathlib.Omega.{arith}
use lib.ListN.{length, get_or}
use Rattle.lookup_rules.specs.Marks.{Marked}
use Rattle.lookup_rules.proofs.Redirection.{redirect_either}

module _ {ps marks : List ℕ} (w : Marked ps marks) where
  -- mark m + 2 is that of lookup m of ps
  pub mark_below : (c : ℕ) → 2 ≤ get_or marks c 0 → get_or marks c 0 - 2 < length ps
  mark_below c h =
      ⊎_elim (λ (m, l, a, b). omega (arith, w.moves (c + 1) c h)) (λ (a, b). omega (arith, w.moves (c + 1) c h)) (redirect_either (c + 1) ps c)

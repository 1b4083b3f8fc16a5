-- Glyphs in ascending order and below a bound, by index and from one to the next. Assumes nothing.
use Prim.Native.Nat.{ℕ, zero, suc, ◌+◌, ◌≤◌, ◌<◌}
use mathlib.Core.List.{List, [], ◌∷◌}
use mathlib.Core.Logic.{⊎_elim}
use mathlib.Core.Path.{subst}
use native.Mathlib.Nat.{not-suc-le-zero, le_of_suc-le-suc, eq-or-lt_of_le}
use native.Mathlib.Numerals.{add-one}
use native.Mathlib.Omega.{arith}
use lib.ListN.{length, get_or}
use Rattle.ot_layouts.specs.Coverage.{plain, Ascends, Under}
use Rattle.ot_layouts.proofs.CoverageRoundTrip.{ascends_at}
use Rattle.ot_ranges.specs.Ascending.{Ascending}

from_index : (gs : List ℕ) (lo : ℕ) → (0 < length gs → lo ≤ get_or gs 0 0) → ((k : ℕ) → suc k < length gs → get_or gs k 0 < get_or gs (suc k) 0) → Ascends lo (plain gs)
from_index [] lo h a = tt
from_index (g ∷ gs) lo h a =
    (h (omega arith), from_index gs (g + 1) (λ l. let z : g < get_or gs 0 0 = a 0 (omega arith) in omega arith) (λ k l. a (suc k) (omega arith)))

pub ascends : (gs : List ℕ) → Ascending gs → Ascends 0 (plain gs)
ascends gs a = from_index gs 0 (λ l. omega arith) (λ k l. rw add-one at (a k (omega arith)))

pub ascending : (gs : List ℕ) → Ascends 0 (plain gs) → Ascending gs
ascending gs a k l = rw add-one (let z = ascends_at gs 0 k a (omega arith) in omega arith)

-- glyphs are below what their numbers are
pub under : (gs : List ℕ) (n : ℕ) → ((k : ℕ) → get_or gs k 0 < n) → Under n (plain gs)
under [] n h = tt
under (g ∷ gs) n h = (h 0, under gs n (λ k. h (suc k)))

-- glyphs that ascend from one to the next ascend
pub apart : (gs : List ℕ) → Ascending gs → (i j : ℕ) → i < j → j < length gs → get_or gs i 0 < get_or gs j 0
apart gs a i zero h l = absurd (not-suc-le-zero h)
apart gs a i (suc j) h l =
    let next : get_or gs j 0 < get_or gs (suc j) 0 = subst (λ (x : ℕ). get_or gs j 0 < get_or gs x 0) (add-one j) (a j (omega arith)) in
    ⊎_elim (λ e. rw e next) (λ g. omega (arith, apart gs a i j g (omega arith))) (eq-or-lt_of_le (le_of_suc-le-suc h))

-- The runs of the glyphs from an index on, as a loop that counts up meets them. Assumes nothing.
use Prim.Native.Nat.{ℕ, ◌+◌, ◌≤◌, ◌<◌}
use mathlib.Core.Path.{◌≡◌, sym, ap, ◌∙◌}
use mathlib.Core.Bool.{true, false}
use mathlib.Core.List.{List, [], ◌∷◌}
use mathlib.Core.Logic.{⊎_elim}
use native.Mathlib.Numerals.{add-one}
use native.Mathlib.Omega.{arith}
use lib.ListN.{length, get_or, drop, drop_of_length-le}
use lib.Seq.{drop-cons}
use lib.Dec.{ltb, eqb}
use borrow.Author.Tests.{ltb-true, eqb-true, lt-ltb, eq-eqb}
use Rattle.folds.proofs.Tests.{and_both, either}
use Rattle.ot_layouts.specs.Coverage.{Run, single, runs, plain}
use Rattle.ot_layouts.proofs.Runs.{starting_at, starting_own, runs_join, runs_part, runs_one, runs_none}
use Rattle.ot_layouts.proofs.RunCount.{alone}
use Rattle.ot_coverage_writer.specs.Joins.{joins_next}

-- the runs from glyph k on
abbrev pub tail : List ℕ → ℕ → List Run
tail gs k = runs (plain (drop k gs))

pub tail_none : (gs : List ℕ) (k : ℕ) → length gs ≤ k → tail gs k ≡ []
tail_none gs k l = ap (λ (xs : List ℕ). runs (plain xs)) (drop_of_length-le gs l) ∙ runs_none

-- the glyph at k and those behind it
one_more : (gs : List ℕ) (k : ℕ) → k < length gs → drop k gs ≡ get_or gs k 0 ∷ drop (k + 1) gs
one_more gs k l = rw add-one (drop-cons gs k 0 l)

-- the first run from k on starts at glyph k
pub tail_own : (gs : List ℕ) (k : ℕ) → starting_at (get_or gs k 0) (tail gs k) ≡ tail gs k
tail_own gs k =
    ⊎_elim (λ l. rw (one_more gs k l) (starting_own (alone (get_or gs k 0)) (plain (drop (k + 1) gs)))) (λ l. rw (tail_none gs k l)) (either k (length gs))

two_more : (gs : List ℕ) (k : ℕ) → k + 1 < length gs → drop k gs ≡ get_or gs k 0 ∷ get_or gs (k + 1) 0 ∷ drop (k + 1 + 1) gs
two_more gs k l = one_more gs k (omega arith) ∙ ap (λ (xs : List ℕ). get_or gs k 0 ∷ xs) (one_more gs (k + 1) l)

module _ (gs : List ℕ) (k : ℕ) where
  pub joins_next_lem : joins_next gs k ≡ true → (k + 1 < length gs) × (get_or gs k 0 + 1 ≡ get_or gs (k + 1) 0)
  unfolding joins_next
  joins_next_lem h =
      let (l, e) = and_both (ltb (k + 1) (length gs)) (eqb (get_or gs k 0 + 1) (get_or gs (k + 1) 0)) h in
      (ltb-true (k + 1) (length gs) l, eqb-true (get_or gs k 0 + 1) (get_or gs (k + 1) 0) e)

  -- the next glyph lengthens the run
  pub tail_join : joins_next gs k ≡ true → tail gs k ≡ starting_at (get_or gs k 0) (tail gs (k + 1))
  tail_join h =
      let (l, e) = joins_next_lem h in
      rw (two_more gs k l, one_more gs (k + 1) l)
      (runs_join (alone (get_or gs k 0)) (alone (get_or gs (k + 1) 0)) (plain (drop (k + 1 + 1) gs)) (rw (eq-eqb (get_or gs k 0 + 1) (get_or gs (k + 1) 0) e)))

  -- the run ends
  pub tail_part : k < length gs → joins_next gs k ≡ false → tail gs k ≡ single (alone (get_or gs k 0)) ∷ tail gs (k + 1)
  unfolding joins_next
  tail_part l h =
      ⊎_elim
      (λ m.
      let e : eqb (get_or gs k 0 + 1) (get_or gs (k + 1) 0) ≡ false = rw (lt-ltb (k + 1) (length gs) m) at h in
      rw (two_more gs k m, one_more gs (k + 1) m)
      (runs_part (alone (get_or gs k 0)) (alone (get_or gs (k + 1) 0)) (plain (drop (k + 1 + 1) gs)) (rw e)))
      (λ m. rw (one_more gs k l, drop_of_length-le gs m) (runs_one (alone (get_or gs k 0)) ∙ ap (λ (rs : List Run). single (alone (get_or gs k 0)) ∷ rs) (sym runs_none)))
      (either (k + 1) (length gs))

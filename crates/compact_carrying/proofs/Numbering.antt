-- The loop that gives out the new numbers: those before i are written, and the next is i's. Assumes nothing.
use Prim.Native.Nat.{ℕ, ◌+◌, ◌*◌, ◌≤◌, ◌<◌}
use mathlib.Core.Path.{◌≡◌, sym, ap, ◌∙◌}
use mathlib.Core.Bool.{Bool, true, false}
use mathlib.Core.List.{List}
use native.Mathlib.Omega.{arith}
use native.Mathlib.Numerals.{add-one}
use lib.ListN.{length, get_or, set}
use lib.Dec.{ltb}
use Rattle.folds.specs.Folds.{upto}
use Rattle.folds.specs.Lists.{put}
use Rattle.folds.proofs.Folds.{length-upto}
use Rattle.folds.proofs.FromTheFront.{upto-at}
use Rattle.folds.proofs.Tally.{tally_same}
use Rattle.folds.proofs.Put.{put-below}
use Rattle.folds.proofs.Offsets.{put-at}
use Rattle.folds.proofs.Writing.{Writing, write_start, write_turn, write_below, write_stop}
use Rattle.compact_rules.specs.Marks.{has_mark}
use Rattle.compact_rules.specs.Kept.{renumber}
use Rattle.compact_rules.proofs.Numbers.{number_least, number_kept_lem, number_dropped}
use Rattle.compact_carrying.specs.Packing.{Numbers}

-- a number of an object depends on the marks below it alone
pub number_by : (p q : ℕ → Bool) (i : ℕ) → ((j : ℕ) → j < i → p j ≡ q j) → renumber p i ≡ renumber q i
unfolding renumber
number_by p q i h = tally_same (λ j. 1) p q i h

pub record Numbering (w₀ : List ℕ) (n : ℕ) (w : List ℕ) (next i : ℕ) : Type 0 where
  pub writing : Writing (renumber (has_mark w₀)) w₀ n n w i
  pub here : next ≡ renumber (has_mark w₀) i
  pub low : next ≤ i

module _ (w₀ : List ℕ) (n : ℕ) (room : 2 * n ≤ length w₀) where
  pub numbering_start : Numbering w₀ n w₀ 0 0
  numbering_start = record { writing = write_start (renumber (has_mark w₀)) w₀ n n (omega arith); here = sym (number_least (has_mark w₀)); low = omega arith }

  module _ (w : List ℕ) (next i : ℕ) (inv : Numbering w₀ n w next i) (l : i < n) where
    written : Writing (renumber (has_mark w₀)) w₀ n n (set w (n + i) next) (i + 1)
    written = rw inv.here (write_turn (renumber (has_mark w₀)) w₀ n n (omega arith) w i inv.writing l)

    -- the mark is still as it came
    mark : get_or (set w (n + i) next) i 0 ≡ get_or w₀ i 0
    mark = write_below (renumber (has_mark w₀)) w₀ n n (omega arith) (set w (n + i) next) (i + 1) i written l

    pub numbering_kept : ltb 0 (get_or (set w (n + i) next) i 0) ≡ true → Numbering w₀ n (set w (n + i) next) (next + 1) (i + 1)
    numbering_kept e =
        let m : has_mark w₀ i ≡ true = ap (λ (v : ℕ). ltb 0 v) (sym mark) ∙ e in
        let x = number_kept_lem (has_mark w₀) i m in
        record {
          writing = written;
          here = rw (add-one i) (omega (arith, inv.here));
          low = omega (arith, inv.low);
        }

    pub numbering_dropped : ltb 0 (get_or (set w (n + i) next) i 0) ≡ false → Numbering w₀ n (set w (n + i) next) next (i + 1)
    numbering_dropped e =
        let m : has_mark w₀ i ≡ false = ap (λ (v : ℕ). ltb 0 v) (sym mark) ∙ e in
        let x = number_dropped (has_mark w₀) i m in
        record {
          writing = written;
          here = rw (add-one i) (omega (arith, inv.here));
          low = omega (arith, inv.low);
        }

  pub numbering_stop : (w : List ℕ) (next i : ℕ) → Numbering w₀ n w next i → n ≤ i → Numbers w₀ w n
  numbering_stop w next i inv l =
      let e : w ≡ put w₀ n (upto (renumber (has_mark w₀)) n) = write_stop (renumber (has_mark w₀)) w₀ n n (omega arith) w i inv.writing l in
      let long : length w ≡ length w₀ = inv.writing.long in
      record {
        numbered = record { long = omega arith; number = λ j k. number e j k };
        marks = λ j k. same e j k;
        long = long;
      }
    where
      same : w ≡ put w₀ n (upto (renumber (has_mark w₀)) n) → (j : ℕ) → j < n → get_or w j 0 ≡ get_or w₀ j 0
      same e j k = ap (λ (x : List ℕ). get_or x j 0) e ∙ put-below w₀ n (upto (renumber (has_mark w₀)) n) (omega arith) j k

      number : w ≡ put w₀ n (upto (renumber (has_mark w₀)) n) → (j : ℕ) → j < n → get_or w (n + j) 0 ≡ renumber (has_mark w) j
      number e j k =
          ap (λ (x : List ℕ). get_or x (n + j) 0) e
          ∙ put-at w₀ n (upto (renumber (has_mark w₀)) n) (omega arith) j (omega (arith, length-upto (renumber (has_mark w₀)) n))
          ∙ upto-at (renumber (has_mark w₀)) n j 0 k
          ∙ number_by (has_mark w₀) (has_mark w) j (λ m h. ap (λ (v : ℕ). ltb 0 v) (sym (same e m (omega arith))))

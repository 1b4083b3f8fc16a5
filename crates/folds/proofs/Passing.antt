-- The entries from an index on that pass a test, up to the first that fails it: `xs[from..].iter().take_while(p).count()`. Assumes nothing.
use Prim.Native.Nat.{ℕ, ◌+◌, ◌-◌, ◌≤◌, ◌<◌}
use mathlib.Core.Path.{◌≡◌, sym, ap, ◌∙◌}
use mathlib.Core.Bool.{Bool, true, false}
use mathlib.Core.List.{List}
use native.Mathlib.Omega.{arith}
use lib.ListN.{length, get_or}
use Rattle.std.specs.List.{take_while}
use Rattle.std.proofs.lemmas.List.Sums.{prefix_len-le-length, prefix_len_passes, prefix_len_stops}
use Rattle.std.proofs.lemmas.List.Folds.{length-prefix_len}
use Rattle.folds.specs.Lists.{part}
use Rattle.folds.proofs.Parts.{length_part, part_at}

-- n of them pass
pub record Passed (p : ℕ → Bool) (xs : List ℕ) (from n : ℕ) : Type 0 where
  pub counted : n ≡ length (take_while p (part xs from (length xs)))

module _ {p : ℕ → Bool} {xs : List ℕ} {from n : ℕ} (e : Passed p xs from n) (l : from ≤ length xs) where
  abbrev rest : List ℕ
  rest = part xs from (length xs)

  long : length rest ≡ length xs - from
  long = length_part xs from (length xs) l (omega arith)

  pub passed_inside : from + n ≤ length xs
  passed_inside = omega (arith, e.counted, length-prefix_len p rest, prefix_len-le-length p rest, long)

  pub passed : (i : ℕ) → from ≤ i → i < from + n → p (get_or xs i 0) ≡ true
  passed i a b =
      let q : from + (i - from) ≡ i = omega arith in
      ap (λ (j : ℕ). p (get_or xs j 0)) (sym q) ∙ ap p (sym (part_at xs from (length xs) (i - from) (omega (arith, passed_inside))))
      ∙ prefix_len_passes p rest (i - from) 0 (omega (arith, e.counted, length-prefix_len p rest))

  pub stopped : from + n < length xs → p (get_or xs (from + n) 0) ≡ false
  stopped a =
      let k = e.counted ∙ length-prefix_len p rest in
      ap p (sym (part_at xs from (length xs) n (omega arith))) ∙ ap (λ (j : ℕ). p (get_or rest j 0)) k
      ∙ prefix_len_stops p rest 0 (omega (arith, k, long))

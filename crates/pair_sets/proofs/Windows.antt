-- Seventeen records after another, the last of them at the end of the set: what is known before each. Assumes nothing.
use Prim.Native.Nat.{ℕ, ◌+◌, ◌-◌, ◌*◌, ◌≤◌, ◌<◌, min}
use mathlib.Core.Path.{◌≡◌, refl, sym, ap, ◌∙◌}
use mathlib.Core.Bool.{Bool, true, false, not}
use mathlib.Core.List.{List}
use mathlib.Core.Logic.{⊎_elim}
use native.Mathlib.Nat.{mul-le-mul_left}
use native.Mathlib.Omega.{arith}
use lib.ListN.{length}
use borrow.Author.Tests.{not-true, not-false}
use Rattle.folds.proofs.Tests.{either}
use Rattle.pair_sets.specs.Rising.{rises}
use Rattle.pair_sets.proofs.Ascending.{rises_none, front_rises, part_fails, rest_decides}

-- of n records: from record k on, whose place is p, stand seventeen, and behind the first of all k rise
pub record Passed (b : List ℕ) (size n p : ℕ) : Type 0 where
  pub k : ℕ
  pub place : p ≡ 2 + (2 + size) * k
  pub there : k + 17 ≤ n
  pub up : rises b size 0 k ≡ true

pub none_passed : (b : List ℕ) (size n : ℕ) → 17 ≤ n → Passed b size n 2
none_passed b size n l = record { k = 0; place = omega arith; there = omega arith; up = rises_none b size 0 0 refl }

-- where the last seventeen of n records stand, each w wide
last_place : (w n : ℕ) → 17 ≤ n → 2 + w * n - 17 * w ≡ 2 + w * (n - 17)
last_place w n l =
    let e : n - 17 + 17 ≡ n = omega arith in
    ap (λ (m : ℕ). 2 + w * m - 17 * w) (sym e) ∙ the_rest (n - 17)
  where
    the_rest : (d : ℕ) → 2 + w * (d + 17) - 17 * w ≡ 2 + w * d
    the_rest d = omega arith

module _ {b : List ℕ} {size n p : ℕ} (v : Passed b size n p) (long : length b ≡ 2 + (2 + size) * n) where
  pub within : p + 16 * (2 + size) + 2 ≤ length b
  within = omega (arith, mul-le-mul_left (2 + size) v.there, v.place)

  pub fails : {t : Bool} → t ≡ rises b size v.k 16 → not t ≡ true → false ≡ rises b size 0 (n - 1)
  fails {t} e h = part_fails b size 0 (n - 1) v.k 16 (sym e ∙ not-true t h) (omega arith) (omega (arith, v.there))

  last_there : length b - 17 * (2 + size) ≡ 2 + (2 + size) * (n - 17)
  last_there = ap (λ (m : ℕ). m - 17 * (2 + size)) long ∙ last_place (2 + size) n (omega (arith, v.there))

  module _ {t : Bool} (e : t ≡ rises b size v.k 16) (h : not t ≡ false) where
    all_up : rises b size 0 (v.k + 16) ≡ true
    all_up = sym (rest_decides b size 0 v.k v.k 16 (v.k + 16) v.up (omega arith) (omega arith) (omega arith)) ∙ sym e ∙ not-false t h

    -- they were the last
    pub ends : length b - 17 * (2 + size) ≤ p → true ≡ rises b size 0 (n - 1)
    ends l =
        ⊎_elim (λ (q : v.k < n - 17). let z : ⊥ = omega (arith, mul-le-mul_left (2 + size) q, last_there, v.place) in absurd z)
        (λ (q : n - 17 ≤ v.k). let d : v.k + 16 ≡ n - 1 = omega (arith, v.there) in sym (ap (λ (m : ℕ). rises b size 0 m) (sym d) ∙ all_up))
        (either v.k (n - 17))

    -- the next are those behind them, or the last
    pub goes_on : {q : ℕ} → q ≡ min (p + 16 * (2 + size)) (length b - 17 * (2 + size)) → Passed b size n q
    goes_on {q} f =
        ⊎_elim
        (λ (l : v.k + 16 < n - 17).
        record {
          k = v.k + 16;
          place = let m : v.k + 16 ≤ n - 17 = omega arith in omega (arith, mul-le-mul_left (2 + size) m, last_there, v.place);
          there = omega arith;
          up = all_up;
        })
        (λ (l : n - 17 ≤ v.k + 16).
        record {
          k = n - 17;
          place = omega (arith, mul-le-mul_left (2 + size) l, last_there, v.place);
          there = omega (arith, v.there);
          up = front_rises b size 0 (v.k + 16) (n - 17) all_up l;
        })
        (either (v.k + 16) (n - 17))

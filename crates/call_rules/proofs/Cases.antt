-- The first case that applies. Assumes nothing.
use Rattle.std.specs.Prelude.{Option, Some, None}
use Prim.Native.Nat.{ℕ}
use mathlib.Core.Path.{◌≡◌, refl, ap, ◌∙◌}
use mathlib.Core.Bool.{Bool, true, false, cond}
use mathlib.Core.List.{List, [], ◌∷◌, ◌++◌}
use native.Mathlib.Omega.{arith}
use Rattle.folds.specs.Folds.{or_else}
use Rattle.call_rules.specs.Answers.{Case, first_case}

pub first_head : (c : Case) (cs : List Case) → first_case (c ∷ cs) ≡ None → (c.applies ≡ false) × (first_case cs ≡ None)
unfolding first_case
first_head c cs h = go c.applies h
  where
    go : (b : Bool) → cond b (Some c.answer) (first_case cs) ≡ None → (b ≡ false) × (first_case cs ≡ None)
    go true e = let z : ◌≡◌ {A = ℕ} 0 1 = cc in absurd (omega arith)
    go false e = (refl, e)

pub first_append : (xs ys : List Case) → first_case (xs ++ ys) ≡ None → (first_case xs ≡ None) × (first_case ys ≡ None)
unfolding first_case
first_append [] ys h = (refl, h)
first_append (x ∷ xs) ys h =
    let (a, b) = first_head x (xs ++ ys) h in
    let (c, d) = first_append xs ys b in
    (rw (a, c), d)

-- the first of those in front, or else the first of those behind
pub first_either : (xs ys : List Case) → first_case (xs ++ ys) ≡ or_else (first_case xs) (first_case ys)
unfolding first_case
first_either [] ys = refl
first_either (x ∷ xs) ys = go x.applies (first_either xs ys)
  where
    go : (b : Bool) → first_case (xs ++ ys) ≡ or_else (first_case xs) (first_case ys)
        → cond b (Some x.answer) (first_case (xs ++ ys)) ≡ or_else (cond b (Some x.answer) (first_case xs)) (first_case ys)
    go true i = refl
    go false i = i

pub first_skip : (xs ys : List Case) → first_case xs ≡ None → first_case (xs ++ ys) ≡ first_case ys
first_skip xs ys h = first_either xs ys ∙ ap (λ (o : Option ℕ). or_else o (first_case ys)) h

-- a case that applies stands before others
pub first_stands : (xs ys : List Case) (n : ℕ) → first_case xs ≡ Some n → first_case (xs ++ ys) ≡ Some n
first_stands xs ys n h = first_either xs ys ∙ ap (λ (o : Option ℕ). or_else o (first_case ys)) h

-- and one behind them stands too, or another before it does
pub some_case : (xs ys : List Case) → (n : ℕ) × (first_case ys ≡ Some n) → (n : ℕ) × (first_case (xs ++ ys) ≡ Some n)
unfolding first_case
some_case [] ys h = h
some_case (x ∷ xs) ys h = go x.applies (some_case xs ys h)
  where
    go : (b : Bool) → (n : ℕ) × (first_case (xs ++ ys) ≡ Some n) → (n : ℕ) × (cond b (Some x.answer) (first_case (xs ++ ys)) ≡ Some n)
    go true i = (x.answer, refl)
    go false i = i

-- The objects whose rows a walk has still to look at: a stack in the places of their marks. Assumes nothing.
use Prim.Native.Nat.{ℕ, ◌+◌, ◌-◌, ◌<◌}
use mathlib.Core.List.{List, [], ◌∷◌}
use mathlib.Core.Logic.{◌⊎◌, inl, inr, ⊎_elim}
use mathlib.Core.Path.{◌≡◌, refl, sym, subst}
use native.Mathlib.Omega.{arith}
use lib.ListN.{length, get_or, set}
use lib.Seq.{get_or-set_same, get_or-set_other}

-- i is one of the list
unfoldable pub In : ℕ → List ℕ → Type 0
In i [] = ⊥
In i (x ∷ xs) = (i ≡ x) ⊎ In i xs

-- the stack below `top`: each object of the list, once, and in its place one more than the epoch and the `top` that it found
unfoldable pub Stacked : ℕ → List ℕ → ℕ → List ℕ → Type 0
Stacked e w top [] = top ≡ 0
Stacked e w top (x ∷ xs) = (top ≡ x + 1) × (e < get_or w x 0) × (In x xs → ⊥) × Stacked e w (get_or w x 0 - e - 1) xs

-- no object of a stack has a number at or below the epoch
stack_high : (e : ℕ) (w : List ℕ) (top : ℕ) (xs : List ℕ) → Stacked e w top xs → (i : ℕ) → In i xs → e < get_or w i 0
unfolding In Stacked
stack_high e w top [] s i h = absurd h
stack_high e w top (x ∷ xs) (a, b, d, s) i h = ⊎_elim (λ q. rw q b) (stack_high e w (get_or w x 0 - e - 1) xs s i) h

-- a change elsewhere is none to the stack
stack_other : (e : ℕ) (w : List ℕ) (c v top : ℕ) (xs : List ℕ) → (In c xs → ⊥) → Stacked e w top xs → Stacked e (set w c v) top xs
unfolding In Stacked
stack_other e w c v top [] out s = s
stack_other e w c v top (x ∷ xs) out (a, b, d, s) =
    let same : get_or (set w c v) x 0 ≡ get_or w x 0 = get_or-set_other w c x v 0 (λ q. out (inl (sym q))) in
    (a, rw same b, d, rw same (stack_other e w c v (get_or w x 0 - e - 1) xs (λ h. out (inr h)) s))

-- nor is a change to an object that was not found
pub stack_apart : (e : ℕ) (w : List ℕ) (c v top : ℕ) (xs : List ℕ) → get_or w c 0 < e → Stacked e w top xs → Stacked e (set w c v) top xs
stack_apart e w c v top xs low s = stack_other e w c v top xs (λ i. omega (arith, stack_high e w top xs s c i)) s

pub stack_push : (e : ℕ) (w : List ℕ) (c top : ℕ) (xs : List ℕ) → c < length w → get_or w c 0 < e → Stacked e w top xs → Stacked e (set w c (e + 1 + top)) (c + 1) (c ∷ xs)
unfolding In Stacked
stack_push e w c top xs h low s =
    let out : In c xs → ⊥ = λ i. omega (arith, stack_high e w top xs s c i) in
    let here : get_or (set w c (e + 1 + top)) c 0 ≡ e + 1 + top = get_or-set_same w c (e + 1 + top) 0 h in
    let next : top ≡ get_or (set w c (e + 1 + top)) c 0 - e - 1 = omega arith in
    (refl, omega arith, out, subst (λ (t : ℕ). Stacked e (set w c (e + 1 + top)) t xs) next (stack_apart e w c (e + 1 + top) top xs low s))

pub stack_empty : (e : ℕ) (w : List ℕ) (top : ℕ) (xs : List ℕ) → top ≡ 0 → Stacked e w top xs → (i : ℕ) → In i xs → ⊥
unfolding In Stacked
stack_empty e w top [] z s i h = h
stack_empty e w top (x ∷ xs) z (a, b, d, s) i h = omega arith

-- the stack's last object, and the stack without it
pub record Popped (e : ℕ) (w : List ℕ) (top : ℕ) (xs : List ℕ) : Type 0 where
  pub rest : List ℕ
  pub high : e < get_or w (top - 1) 0
  pub is_in : In (top - 1) xs
  pub below : Stacked e (set w (top - 1) e) (get_or w (top - 1) 0 - e - 1) rest
  pub others : (i : ℕ) → In i xs → (i ≡ top - 1) ⊎ In i rest
  pub fewer : (i : ℕ) → In i rest → In i xs

pub stack_pop : (e : ℕ) (w : List ℕ) (top : ℕ) (xs : List ℕ) → 0 < top → Stacked e w top xs → Popped e w top xs
unfolding In Stacked
stack_pop e w top [] h s = absurd (omega arith)
stack_pop e w top (x ∷ xs) h (a, b, d, s) =
    let q : x ≡ top - 1 = omega arith in
    subst (λ (y : ℕ). Popped e w top (y ∷ xs)) (sym q) record { rest = xs; high = rw (← q) b; is_in = inl refl; below = rw (← q) (stack_other e w x e (get_or w x 0 - e - 1) xs d s); others = λ i z. z; fewer = λ i z. inr z }

-- The entries that a ClassDef names, from the front: the first, the last, and the run that the first one starts. Assumes nothing.
use Prim.Native.Nat.{ℕ, zero, suc, ◌+◌, ◌<◌, ◌≤◌}
use mathlib.Core.Path.{◌≡◌, refl, sym, ap, ◌∙◌}
use mathlib.Core.Bool.{true, false, not}
use mathlib.Core.List.{List, [], ◌∷◌}
use native.Mathlib.Nat.{not-suc-le-zero}
use native.Mathlib.Decide.{ℕ_discrete}
use native.Mathlib.Omega.{arith}
use lib.ListN.{length, get_or, drop}
use lib.Dec.{eqb}
use borrow.Author.Tests.{eqb-true, eq-eqb, ne_eqb}
use Rattle.folds.specs.Lists.{sift}
use Rattle.folds.proofs.Tests.{and_both, and_first}
use Rattle.ot_layouts.specs.Coverage.{Entry, single, runs, Ascends}
use Rattle.ot_layouts.specs.ClassDef.{last_glyph, named}
use Rattle.ot_layouts.proofs.Runs.{ascends_sift, ascends_lower, follows, starting_at, runs_join, runs_part, runs_one}

pub named_none : named [] ≡ []
unfolding named sift
named_none = refl

module _ (e : Entry) (es : List Entry) where
  pub named_skip : e.class ≡ 0 → named (e ∷ es) ≡ named es
  unfolding named sift
  named_skip h = rw (eq-eqb e.class 0 h)

  pub named_keep : (e.class ≡ 0 → ⊥) → named (e ∷ es) ≡ e ∷ named es
  unfolding named sift
  named_keep h = rw (ne_eqb e.class 0 h)

pub ascends_named : (es : List Entry) (lo : ℕ) → Ascends lo es → Ascends lo (named es)
unfolding named
ascends_named es lo a = ascends_sift (λ e. not (eqb e.class 0)) es lo a

-- those at the front that are not named may go
pub named_drop : (es : List Entry) (k : ℕ) (d : Entry) → k ≤ length es → ((i : ℕ) → i < k → (get_or es i d).class ≡ 0) → named es ≡ named (drop k es)
named_drop es zero d l h = refl
named_drop [] (suc k) d l h = refl
named_drop (e ∷ es) (suc k) d l h = named_skip e es (h 0 (omega arith)) ∙ named_drop es k d (omega arith) (λ i m. h (suc i) (omega arith))

-- none is named
pub named_empty : (es : List Entry) (d : Entry) → ((i : ℕ) → i < length es → (get_or es i d).class ≡ 0) → named es ≡ []
named_empty [] d h = named_none
named_empty (e ∷ es) d h = named_skip e es (h 0 (omega arith)) ∙ named_empty es d (λ i m. h (suc i) (omega arith))

-- the last one named is at m
pub named_last : (es : List Entry) (m : ℕ) (d : Entry) → m < length es → ((get_or es m d).class ≡ 0 → ⊥) → ((i : ℕ) → m < i → i < length es → (get_or es i d).class ≡ 0)
    → (x : Entry) × (xs : List Entry) × (named es ≡ x ∷ xs) × (last_glyph (x ∷ xs) ≡ (get_or es m d).glyph)
unfolding last_glyph
named_last [] m d l n h = absurd (not-suc-le-zero l)
named_last (e ∷ es) zero d l n h = (e, [], named_keep e es n ∙ ap (λ (x : List Entry). e ∷ x) (named_empty es d (λ i k. h (suc i) (omega arith) (omega arith))), refl)
named_last (e ∷ es) (suc m) d l n h = go (ℕ_discrete e.class 0) (named_last es m d (omega arith) n (λ i k q. h (suc i) (omega arith) (omega arith)))
  where
    go : Dec (e.class ≡ 0) → (x : Entry) × (xs : List Entry) × (named es ≡ x ∷ xs) × (last_glyph (x ∷ xs) ≡ (get_or es m d).glyph)
        → (x : Entry) × (xs : List Entry) × (named (e ∷ es) ≡ x ∷ xs) × (last_glyph (x ∷ xs) ≡ (get_or es m d).glyph)
    go (yes z) (x, xs, p, q) = (x, xs, named_skip e es z ∙ p, q)
    go (no z) (x, xs, p, q) = (e, x ∷ xs, named_keep e es z ∙ ap (λ (y : List Entry). e ∷ y) p, q)

-- ---- the run that the first one starts

-- all others lie further on than the next glyph
runs_apart : (e : Entry) (es : List Entry) → Ascends (e.glyph + 2) es → runs (e ∷ es) ≡ single e ∷ runs es
unfolding runs
runs_apart e [] a = runs_one e
runs_apart e (f ∷ es) a =
    let h : e.glyph + 2 ≤ f.glyph = a.0 in
    runs_part e f es (and_first _ (eqb e.class f.class) (ne_eqb (e.glyph + 1) f.glyph (λ z. omega arith)))

-- the next entry, if there is one, does not follow e
abbrev Parts : Entry → List Entry → Type 0
Parts e [] = Unit {0}
Parts e (f ∷ es) = follows e f ≡ false

named_part : (e : Entry) (es : List Entry) (lo : ℕ) → Ascends lo (e ∷ es) → (e.class ≡ 0 → ⊥) → Parts e es → runs (named (e ∷ es)) ≡ single e ∷ runs (named es)
named_part e [] lo a n p = rw (named_keep e [] n, named_none) (runs_apart e [] tt)
named_part e (f ∷ es) lo a n p = ap runs (named_keep e (f ∷ es) n) ∙ go (ℕ_discrete f.class 0)
  where
    h : e.glyph + 1 ≤ f.glyph
    h = a.1.0

    go : Dec (f.class ≡ 0) → runs (e ∷ named (f ∷ es)) ≡ single e ∷ runs (named (f ∷ es))
    go (yes z) = rw (named_skip f es z) (runs_apart e (named es) (ascends_lower (named es) (f.glyph + 1) (e.glyph + 2) (omega arith) (ascends_named es (f.glyph + 1) a.1.1)))
    go (no z) = rw (named_keep f es z) (runs_part e f (named es) p)

named_join : (e f : Entry) (es : List Entry) → (e.class ≡ 0 → ⊥) → follows e f ≡ true → runs (named (e ∷ f ∷ es)) ≡ starting_at e.glyph (runs (named (f ∷ es)))
named_join e f es n j =
    let (g, c) = and_both (eqb (e.glyph + 1) f.glyph) (eqb e.class f.class) j in
    let k : e.class ≡ f.class = eqb-true e.class f.class c in
    let m : named (f ∷ es) ≡ f ∷ named es = named_keep f es (λ z. n (k ∙ z)) in
    rw (named_keep e (f ∷ es) n, m) (runs_join e f (named es) j)

-- entries 0 to r follow one another, and the next does not
pub named_run : (es : List Entry) (r lo : ℕ) (d : Entry) → Ascends lo es → r < length es → ((get_or es 0 d).class ≡ 0 → ⊥)
    → ((j : ℕ) → j < r → follows (get_or es j d) (get_or es (suc j) d) ≡ true) → (suc r < length es → follows (get_or es r d) (get_or es (suc r) d) ≡ false)
    → runs (named es) ≡ record { start = (get_or es 0 d).glyph; end = (get_or es r d).glyph; class = (get_or es 0 d).class } ∷ runs (named (drop (suc r) es))
named_run [] r lo d a l n j p = absurd (not-suc-le-zero l)
named_run (e ∷ []) zero lo d a l n j p = named_part e [] lo a n tt
named_run (e ∷ f ∷ es) zero lo d a l n j p = named_part e (f ∷ es) lo a n (p (omega arith))
named_run (e ∷ []) (suc r) lo d a l n j p = absurd (omega arith)
named_run (e ∷ f ∷ es) (suc r) lo d a l n j p =
    let k : e.class ≡ f.class = eqb-true e.class f.class (and_both (eqb (e.glyph + 1) f.glyph) (eqb e.class f.class) (j 0 (omega arith))).1 in
    named_join e f es n (j 0 (omega arith))
    ∙ ap (starting_at e.glyph) (named_run (f ∷ es) r (e.glyph + 1) d a.1 (omega arith) (λ z. n (k ∙ z)) (λ i m. j (suc i) (omega arith)) (λ m. p (omega arith)))
    ∙ ap (λ (c : ℕ). record { start = e.glyph; end = (get_or (f ∷ es) r d).glyph; class = c } ∷ runs (named (drop (suc r) (f ∷ es)))) (sym k)

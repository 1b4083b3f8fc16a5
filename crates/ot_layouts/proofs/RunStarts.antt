-- The number of runs of entries in ascending order is the number of glyphs at which a run starts: a sum over all glyphs, which changes at two glyphs where
-- one is added, and adds up where classes differ. Assumes nothing.
use Prim.Native.Nat.{ℕ, zero, suc, ◌+◌, ◌<◌, ◌≤◌}
use mathlib.Core.Path.{◌≡◌, refl, sym, ap, ap₂, ◌∙◌}
use mathlib.Core.Bool.{Bool, true, false, cond, not, ◌&&◌, ◌||◌}
use mathlib.Core.List.{List, [], ◌∷◌, ◌++◌}
use mathlib.Core.Logic.{⊎_elim}
use native.Mathlib.Numerals.{add-one}
use native.Mathlib.Omega.{arith}
use lib.ListN.{length}
use lib.Dec.{eqb, ltb}
use borrow.Author.Tests.{eq-eqb, ne_eqb, lt-ltb, le-ltb, eqb-true}
use Rattle.folds.specs.Folds.{sum, before, flat}
use Rattle.folds.proofs.Tests.{by_test, and_second, either}
use Rattle.folds.proofs.FromTheFront.{sum_same}
use Rattle.folds.proofs.Sums.{sum_add, sum_but_one, sum_but_two}
use Rattle.folds.proofs.Picked.{picked, one, picked_in, picked_out, Adds}
use Rattle.ot_layouts.specs.Coverage.{Entry, Run, single, longer, joins, extend, runs}
use Rattle.ot_layouts.proofs.Runs.{by_extend}

-- ---- an entry behind the others

-- 1 where e starts a run behind es
abbrev starts_behind : List Entry → Entry → ℕ
starts_behind [] e = 1
starts_behind (x ∷ []) e = cond (joins x (single e)) 0 1
starts_behind (x ∷ y ∷ ys) e = starts_behind (y ∷ ys) e

module _ (x : Entry) where
  -- an entry before others starts a run unless it joins the first
  extend_length : (y : Entry) (ys : List Entry) → length (extend x (runs (y ∷ ys))) ≡ length (runs (y ∷ ys)) + cond (joins x (single y)) 0 1
  unfolding runs extend
  extend_length y ys = by_extend Grows y (runs ys) (grows (single y) (runs ys)) longer_grows
    where
      Grows : List Run → Type 0
      Grows rs = length (extend x rs) ≡ length rs + cond (joins x (single y)) 0 1

      by : (b : Bool) (r : Run) (rs : List Run) → length (cond b (longer x r ∷ rs) (single x ∷ r ∷ rs)) ≡ length (r ∷ rs) + cond b 0 1
      by true r rs = omega arith
      by false r rs = omega arith

      grows : (r : Run) (rs : List Run) → length (extend x (r ∷ rs)) ≡ length (r ∷ rs) + cond (joins x r) 0 1
      grows r rs = by (joins x r) r rs

      longer_grows : (r : Run) (ts : List Run) → runs ys ≡ r ∷ ts → y.glyph + 1 ≡ r.start → y.class ≡ r.class → Grows (longer y r ∷ ts)
      longer_grows r ts q a b =
          grows (longer y r) ts ∙ ap (λ (c : ℕ). length (longer y r ∷ ts) + cond (eqb (x.glyph + 1) y.glyph && eqb x.class c) 0 1) (sym b)

runs_behind : (es : List Entry) (e : Entry) → length (runs (es ++ (e ∷ []))) ≡ length (runs es) + starts_behind es e
unfolding runs extend
runs_behind [] e = refl
runs_behind (x ∷ []) e = extend_length x e []
runs_behind (x ∷ y ∷ ys) e =
    omega (arith, extend_length x y (ys ++ (e ∷ [])), extend_length x y ys, runs_behind (y ∷ ys) e)

-- ---- entries by glyph

abbrev pub entry : ℕ → ℕ → Entry
entry g c = record { glyph = g; class = c }

-- the glyphs below n that p picks, each with its class
abbrev pub taken : (ℕ → Bool) → (ℕ → ℕ) → ℕ → List Entry
taken p cl n = picked p (λ g. entry g (cl g)) n

-- a run starts at the glyph: it is picked, and the one before it is not, or is of another class
abbrev pub starts : (ℕ → Bool) → (ℕ → ℕ) → ℕ → Bool
starts p cl zero = p zero
starts p cl (suc g) = p (suc g) && not (p g && eqb (cl g) (cl (suc g)))

behind_last : (es : List Entry) (x e : Entry) → starts_behind (es ++ (x ∷ [])) e ≡ cond (joins x (single e)) 0 1
behind_last [] x e = refl
behind_last (y ∷ []) x e = refl
behind_last (y ∷ z ∷ es) x e = behind_last (z ∷ es) x e

flip : (a b : Bool) → a ≡ true → cond (a && b) 0 1 ≡ one (not b)
flip true true h = refl
flip true false h = refl
flip false b h = let z : ◌≡◌ {A = Bool} true false = sym h in cc

module _ (p : ℕ → Bool) (cl : ℕ → ℕ) where
  -- a gap before the entry
  far : (m : ℕ) (e : Entry) → m < e.glyph → starts_behind (taken p cl m) e ≡ 1
  unfolding flat
  far zero e l = refl
  far (suc m) e l =
      by_test (p m)
      (λ t. rw (picked_in p (λ g. entry g (cl g)) m t, behind_last (taken p cl m) (entry m (cl m)) e, ne_eqb (m + 1) e.glyph (omega arith)))
      (λ t. rw (picked_out p (λ g. entry g (cl g)) m t) (far m e (omega arith)))

  behind : (n : ℕ) → p n ≡ true → starts_behind (taken p cl n) (entry n (cl n)) ≡ one (starts p cl n)
  unfolding flat
  behind zero t = rw t
  behind (suc m) t =
      by_test (p m)
      (λ u.
      rw (picked_in p (λ g. entry g (cl g)) m u, behind_last (taken p cl m) (entry m (cl m)) (entry (suc m) (cl (suc m))), t, u)
      (flip (eqb (m + 1) (suc m)) (eqb (cl m) (cl (suc m))) (eq-eqb (m + 1) (suc m) (add-one m))))
      (λ u. rw (picked_out p (λ g. entry g (cl g)) m u, t, u) (far m (entry (suc m) (cl (suc m))) (omega arith)))

  no_start : (n : ℕ) → p n ≡ false → starts p cl n ≡ false
  no_start zero t = t
  no_start (suc m) t = rw t

  pub run-starts : (n : ℕ) → length (runs (taken p cl n)) ≡ sum (λ g. one (starts p cl g)) n
  unfolding flat sum runs
  run-starts zero = refl
  run-starts (suc n) =
      by_test (p n)
      (λ t.
      ap (λ (l : List Entry). length (runs l)) (picked_in p (λ g. entry g (cl g)) n t)
      ∙ runs_behind (taken p cl n) (entry n (cl n))
      ∙ ap₂ (λ (a b : ℕ). a + b) (run-starts n) (behind n t))
      (λ t. ap (λ (l : List Entry). length (runs l)) (picked_out p (λ g. entry g (cl g)) n t) ∙ rw (no_start n t) (run-starts n ∙ omega arith))

-- ---- glyphs alone, with one more

-- glyphs alone: all of one class
abbrev pub alone : (ℕ → Bool) → ℕ → List Entry
alone p n = taken p (λ g. 0) n

-- how many of a glyph's two neighbours below n are picked
abbrev pub neighbours : (ℕ → Bool) → ℕ → ℕ → ℕ
neighbours p n x = before (λ k. one (p k)) x + cond (ltb (x + 1) n) (one (p (x + 1))) 0

module _ (p q : ℕ → Bool) (x : ℕ) (a : Adds p x q) where
  start : (ℕ → Bool) → ℕ → ℕ
  start r g = one (starts r (λ k. 0) g)

  not-and : (b : Bool) → one (true && not (b && true)) + one b ≡ 1
  not-and true = refl
  not-and false = refl

  -- x starts a run unless the one before it is there
  start_here : (y : ℕ) → y ≡ x → start q y + before (λ k. one (p k)) y ≡ 1
  unfolding before start
  start_here zero e = rw (ap q e ∙ a.there)
  start_here (suc g) e = rw (ap q e ∙ a.there, a.same g (omega arith)) (not-and (p g))

  none_here : (y : ℕ) → y ≡ x → start p y ≡ 0
  unfolding start
  none_here y e = ap one (no_start p (λ k. 0) y (ap p e ∙ a.new))

  -- and the one behind it no longer does
  start_behind : start p (suc x) ≡ one (p (suc x))
  unfolding start
  start_behind = rw a.new (ap one (and_true (p (suc x))))
    where
      and_true : (b : Bool) → b && true ≡ b
      and_true true = refl
      and_true false = refl

  none_behind : start q (suc x) ≡ 0
  unfolding start
  none_behind = rw a.there (ap one (and_second (q (suc x)) false refl))

  others : (g : ℕ) → (g ≡ x → ⊥) → (g ≡ suc x → ⊥) → start q g ≡ start p g
  unfolding start
  others zero ne nf = ap one (a.same 0 ne)
  others (suc g) ne nf = rw (a.same (suc g) ne, a.same g (λ e. nf (ap suc e)))

  pub runs_adds : (n : ℕ) → x < n → length (runs (alone q n)) + neighbours p n x ≡ length (runs (alone p n)) + 1
  unfolding start
  runs_adds n l = ⊎_elim inner edge (either (x + 1) n)
    where
      counts : (r : ℕ → Bool) → length (runs (alone r n)) ≡ sum (start r) n
      counts r = run-starts r (λ k. 0) n

      inner : x + 1 < n → length (runs (alone q n)) + neighbours p n x ≡ length (runs (alone p n)) + 1
      inner m =
          let e : x + 1 ≡ suc x = add-one x in
          rw (lt-ltb (x + 1) n m, e)
          (omega (
            arith,
            counts p,
            counts q,
            start_here x refl,
            none_here x refl,
            start_behind,
            none_behind,
            sum_but_two (start q) (start p) x (suc x) n (omega arith) (omega arith) (λ k b c d. others k c d),
          ))

      edge : n ≤ x + 1 → length (runs (alone q n)) + neighbours p n x ≡ length (runs (alone p n)) + 1
      edge m =
          rw (le-ltb (x + 1) n m)
          (omega (
            arith,
            counts p,
            counts q,
            start_here x refl,
            none_here x refl,
            sum_but_one (start q) (start p) x n l (λ k b c. others k c (omega arith)),
          ))

-- ---- two sets of glyphs that share no class

module _ (p q : ℕ → Bool) (cl : ℕ → ℕ) (apart : (g h : ℕ) → p g ≡ true → q h ≡ true → cl g ≡ cl h → ⊥) where
  both : ℕ → Bool
  both g = p g || q g

  add_up : (b c : Bool) → (b ≡ true → c ≡ true → ⊥) → one (b || c) ≡ one b + one c
  add_up true true h = absurd (h refl refl)
  add_up true false h = refl
  add_up false true h = refl
  add_up false false h = refl

  -- of a glyph and the one before it: in p, in q; and whether their classes agree
  starts_add : (p1 q1 p0 q0 s : Bool) → (p1 ≡ true → q1 ≡ true → ⊥) → (p1 ≡ true → q0 ≡ true → s ≡ true → ⊥) → (p0 ≡ true → q1 ≡ true → s ≡ true → ⊥) → one ((p1 || q1) && not ((p0 || q0) && s)) ≡ one (p1 && not (p0 && s)) + one (q1 && not (q0 && s))
  starts_add true true p0 q0 s a b c = absurd (a refl refl)
  starts_add true false true q0 s a b c = omega arith
  starts_add true false false true true a b c = absurd (b refl refl refl)
  starts_add true false false true false a b c = refl
  starts_add true false false false s a b c = omega arith
  starts_add false true true q0 true a b c = absurd (c refl refl refl)
  starts_add false true true true false a b c = refl
  starts_add false true true false false a b c = refl
  starts_add false true false q0 s a b c = omega arith
  starts_add false false p0 q0 s a b c = refl

  both_starts : (g : ℕ) → one (starts both cl g) ≡ one (starts p cl g) + one (starts q cl g)
  unfolding both
  both_starts zero = add_up (p 0) (q 0) (λ a b. apart 0 0 a b refl)
  both_starts (suc g) =
      starts_add (p (suc g)) (q (suc g)) (p g) (q g) (eqb (cl g) (cl (suc g)))
      (λ a b. apart (suc g) (suc g) a b refl)
      (λ a b s. apart (suc g) g a b (sym (eqb-true (cl g) (cl (suc g)) s)))
      (λ a b s. apart g (suc g) a b (eqb-true (cl g) (cl (suc g)) s))

  -- their runs are counted one by one
  pub runs_apart : (n : ℕ) → length (runs (taken (λ g. p g || q g) cl n)) ≡ length (runs (taken p cl n)) + length (runs (taken q cl n))
  unfolding both
  runs_apart n =
      run-starts both cl n
      ∙ sum_same (λ g. one (starts both cl g)) (λ g. one (starts p cl g) + one (starts q cl g)) n (λ g l. both_starts g)
      ∙ sum_add (λ g. one (starts p cl g)) (λ g. one (starts q cl g)) n
      ∙ ap₂ (λ (a b : ℕ). a + b) (sym (run-starts p cl n)) (sym (run-starts q cl n))

-- How many runs there are: with one entry more, with entries behind, and against the number of glyphs. Assumes nothing.
use Prim.Native.Nat.{ℕ, zero, suc, ◌+◌, ◌<◌, ◌≤◌}
use mathlib.Core.Path.{◌≡◌, refl, sym, ap, ◌∙◌}
use mathlib.Core.Bool.{Bool, true, false, cond}
use mathlib.Core.List.{List, [], ◌∷◌, ◌++◌, map, map-append}
use mathlib.Core.Logic.{⊎_elim}
use native.Mathlib.Nat.{not-suc-le-zero}
use native.Mathlib.Omega.{arith}
use lib.ListN.{length, get_or}
use lib.Dec.{eqb}
use borrow.Author.Tests.{eq-eqb, eqb-true}
use Rattle.folds.specs.Folds.{flat, run}
use Rattle.folds.specs.Lists.{sift}
use Rattle.folds.proofs.Tests.{by_test, true_false, and_both, and_intro, either}
use Rattle.folds.proofs.FromTheFront.{run_none, run-cons}
use Rattle.ot_layouts.specs.Coverage.{Entry, Run, runs, plain, Ascends, Under}
use Rattle.ot_layouts.proofs.Runs.{follows, starting_at, runs_join, runs_part, runs_none, runs_one}

-- how many runs there are
abbrev pub many : List Entry → ℕ
many es = length (runs es)

-- 1 where a run ends between two entries
abbrev pub gap : Entry → Entry → ℕ
gap e f = cond (follows e f) 0 1

pub many_none : many [] ≡ 0
many_none = ap length runs_none

pub many_one : (e : Entry) → many (e ∷ []) ≡ 1
many_one e = ap length (runs_one e)

pub starting_length : (g : ℕ) (rs : List Run) → length (starting_at g rs) ≡ length rs
starting_length g [] = refl
starting_length g (r ∷ rs) = refl

pub many_step : (e f : Entry) (es : List Entry) → many (e ∷ f ∷ es) ≡ many (f ∷ es) + gap e f
many_step e f es =
    by_test (follows e f)
    (λ h. rw h (omega (arith, ap length (runs_join e f es h), starting_length e.glyph (runs (f ∷ es)))))
    (λ h. rw h (omega (arith, ap length (runs_part e f es h))))

pub gap_le : (e f : Entry) → gap e f ≤ 1
gap_le e f = by_test (follows e f) (λ z. rw z (omega arith)) (λ z. rw z (omega arith))

pub some_run : (e : Entry) (es : List Entry) → 1 ≤ many (e ∷ es)
some_run e [] = omega (arith, many_one e)
some_run e (f ∷ es) = omega (arith, many_step e f es, some_run f es)

pub many_le : (es : List Entry) → many es ≤ length es
many_le [] = omega (arith, many_none)
many_le (e ∷ []) = omega (arith, many_one e)
many_le (e ∷ f ∷ es) = omega (arith, many_step e f es, many_le (f ∷ es), gap_le e f)

-- fewer where two that follow one another join
pub many_less : (es : List Entry) (k : ℕ) (d : Entry) → suc k < length es → gap (get_or es k d) (get_or es (suc k) d) ≡ 0 → many es < length es
many_less [] k d h z = absurd (not-suc-le-zero h)
many_less (e ∷ []) k d h z = absurd (omega arith)
many_less (e ∷ f ∷ es) zero d h z = omega (arith, many_step e f es, many_le (f ∷ es))
many_less (e ∷ f ∷ es) (suc k) d h z = omega (arith, many_step e f es, many_less (f ∷ es) k d (omega arith) z, gap_le e f)

-- ---- entries behind others

many_cons : (e : Entry) (es : List Entry) → many (e ∷ es) ≤ many es + 1
many_cons e [] = omega (arith, many_one e, many_none)
many_cons e (f ∷ es) = omega (arith, many_step e f es, gap_le e f)

-- together no more runs than apart
pub many_append : (xs ys : List Entry) → many (xs ++ ys) ≤ many xs + many ys
many_append [] ys = omega arith
many_append (x ∷ []) ys = omega (arith, many_cons x ys, many_one x)
many_append (x ∷ y ∷ xs) ys = let i = many_append (y ∷ xs) ys in omega (arith, many_step x y (xs ++ ys), many_step x y xs)

-- the first ones have no more runs than all
pub many_first : (xs ys : List Entry) → many xs ≤ many (xs ++ ys)
many_first [] ys = omega (arith, many_none)
many_first (x ∷ []) ys = omega (arith, many_one x, some_run x ys)
many_first (x ∷ y ∷ xs) ys = let i = many_first (y ∷ xs) ys in omega (arith, many_step x y (xs ++ ys), many_step x y xs)

many_rest : (e : Entry) (es : List Entry) → many es ≤ many (e ∷ es)
many_rest e [] = omega (arith, many_none)
many_rest e (f ∷ es) = omega (arith, many_step e f es)

-- and neither have the last ones
pub many_last : (xs ys : List Entry) → many ys ≤ many (xs ++ ys)
many_last [] ys = omega arith
many_last (x ∷ xs) ys = omega (arith, many_last xs ys, many_rest x (xs ++ ys))

-- ---- fewer classes

-- those of some classes have no more runs than all
pub many_sift : (p : ℕ → Bool) (es : List Entry) → many (sift (λ e. p e.class) es) ≤ many es
unfolding sift
many_sift p [] = omega arith
many_sift p (e ∷ []) = by_test (p e.class) (λ y. rw y (omega arith)) (λ n. rw n (omega (arith, many_none)))
many_sift p (e ∷ f ∷ es) = go (p e.class) refl (p f.class) refl (many_sift p (f ∷ es))
  where
    rest : List Entry
    rest = sift (λ e. p e.class) es

    -- a run ends where the one is left out that would follow
    apart : p e.class ≡ true → p f.class ≡ false → follows e f ≡ false
    apart y n =
        by_test (follows e f)
        (λ h. true_false (sym y ∙ ap p (eqb-true e.class f.class (and_both (eqb (e.glyph + 1) f.glyph) (eqb e.class f.class) h).1) ∙ n))
        (λ h. h)

    go : (b : Bool) → p e.class ≡ b → (c : Bool) → p f.class ≡ c → many (cond c (f ∷ rest) rest) ≤ many (f ∷ es)
        → many (cond b (e ∷ cond c (f ∷ rest) rest) (cond c (f ∷ rest) rest)) ≤ many (e ∷ f ∷ es)
    go false x c y i = omega (arith, many_rest e (f ∷ es))
    go true x true y i = omega (arith, many_step e f rest, many_step e f es)
    go true x false y i = omega (arith, many_cons e rest, many_step e f es, ap (λ (z : Bool). cond {A = ℕ} z 0 1) (apart x y))

-- the entry with its class changed
abbrev classed : (ℕ → ℕ) → Entry → Entry
classed h e = record { glyph = e.glyph; class = h e.class }

-- where classes become one there are no more runs
pub many_merged : (h : ℕ → ℕ) (es : List Entry) → many (map (λ e. record { glyph = e.glyph; class = h e.class }) es) ≤ many es
many_merged h [] = omega arith
many_merged h (e ∷ []) = omega (arith, many_one e, many_one (classed h e))
many_merged h (e ∷ f ∷ es) =
    let rest = map (classed h) es in
    let i : many (classed h f ∷ rest) ≤ many (f ∷ es) = many_merged h (f ∷ es) in
    by_test (follows e f)
    (λ y.
    let (a, b) = and_both (eqb (e.glyph + 1) f.glyph) (eqb e.class f.class) y in
    let c : eqb (h e.class) (h f.class) ≡ true = eq-eqb (h e.class) (h f.class) (ap h (eqb-true e.class f.class b)) in
    let z : follows (classed h e) (classed h f) ≡ true = and_intro (eqb (e.glyph + 1) f.glyph) (eqb (h e.class) (h f.class)) a c in
    omega (arith, many_step (classed h e) (classed h f) rest, many_step e f es, ap (λ (x : Bool). cond {A = ℕ} x 0 1) z))
    (λ n. omega (arith, many_step (classed h e) (classed h f) rest, many_step e f es, gap_le (classed h e) (classed h f), ap (λ (x : Bool). cond {A = ℕ} x 0 1) n))

-- ---- glyphs alone

-- a glyph of one class with all
abbrev pub alone : ℕ → Entry
alone g = record { glyph = g; class = 0 }

pub plain_length : (gs : List ℕ) → length (plain gs) ≡ length gs
plain_length [] = refl
plain_length (g ∷ gs) = ap suc (plain_length gs)

near : (g f : ℕ) → g + 1 ≡ f → gap (alone g) (alone f) ≡ 0
near g f e = rw (eq-eqb (g + 1) f e)

-- numbers in a row are one run at most
pub many_run : (a n : ℕ) → many (plain (run a n)) ≤ 1
many_run a zero = rw (run_none a) (omega (arith, many_none))
many_run a (suc zero) = rw (run-cons a 0, run_none (a + 1)) (omega (arith, many_one (alone a)))
many_run a (suc (suc n)) =
    let i : many (plain ((a + 1) ∷ run (a + 1 + 1) n)) ≤ 1 = rw (run-cons (a + 1) n) at (many_run (a + 1) (suc n)) in
    rw (run-cons a (suc n), run-cons (a + 1) n)
    (omega (arith, many_step (alone a) (alone (a + 1)) (plain (run (a + 1 + 1) n)), near a (a + 1) refl))

pub many_flat : (f : ℕ → List ℕ) (n : ℕ) → ((k : ℕ) → k < n → many (plain (f k)) ≤ 1) → many (plain (flat f n)) ≤ n
unfolding flat
many_flat f zero h = omega (arith, many_none)
many_flat f (suc n) h =
    let e : plain (flat f n ++ f n) ≡ plain (flat f n) ++ plain (f n) = map-append alone (flat f n) (f n) in
    omega (arith, ap many e, many_append (plain (flat f n)) (plain (f n)), many_flat f n (λ k l. h k (omega arith)), h n (omega arith))

-- each run but the first leaves a glyph out before it
runs_and-glyphs : (g : ℕ) (gs : List ℕ) (lo n : ℕ) → Ascends lo (plain (g ∷ gs)) → Under n (plain (g ∷ gs)) → many (plain (g ∷ gs)) + length (g ∷ gs) + g ≤ n + 1
runs_and-glyphs g [] lo n a u = let z : g < n = u.0 in omega (arith, many_one (alone g))
runs_and-glyphs g (f ∷ gs) lo n a u =
    let z : g + 1 ≤ f = a.1.0 in
    let i = runs_and-glyphs f gs (g + 1) n a.1 u.1 in
    let s = many_step (alone g) (alone f) (plain gs) in
    ⊎_elim (λ far. let q = gap_le (alone g) (alone f) in omega arith)
    (λ next. let q = near g f (omega arith) in omega arith) (either (g + 1) f)

-- with n numbers to choose from there are at most n + 1 glyphs and runs together
pub few : (gs : List ℕ) (n : ℕ) → Ascends 0 (plain gs) → Under n (plain gs) → many (plain gs) + length gs ≤ n + 1
few [] n a u = omega (arith, many_none)
few (g ∷ gs) n a u = omega (arith, runs_and-glyphs g gs 0 n a u)

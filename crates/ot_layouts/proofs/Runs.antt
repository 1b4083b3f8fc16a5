-- Entries in ascending order and their runs: the runs rise, and spread out again to the entries' glyphs. Assumes nothing.
use Prim.Native.Nat.{ℕ, suc, ◌+◌, ◌-◌, ◌≤◌}
use mathlib.Core.Path.{◌≡◌, refl, sym, ap, ap₂, ◌∙◌}
use mathlib.Core.Bool.{Bool, true, false, cond, ◌&&◌}
use mathlib.Core.List.{List, [], ◌∷◌, ◌++◌, map}
use native.Mathlib.Omega.{arith}
use lib.Dec.{eqb}
use borrow.Author.Tests.{eqb-true}
use Rattle.folds.specs.Folds.{flat, run}
use Rattle.folds.specs.Lists.{sift}
use Rattle.folds.proofs.Tests.{and_both}
use Rattle.folds.proofs.FromTheFront.{run-cons}
use Rattle.ot_layouts.specs.Coverage.{Entry, Run, single, longer, joins, extend, runs, plain, Ascends, Under}

-- ---- entries in order

pub ascends_lower : (es : List Entry) (lo lo' : ℕ) → lo' ≤ lo → Ascends lo es → Ascends lo' es
ascends_lower [] lo lo' h a = tt
ascends_lower (e ∷ es) lo lo' h a = let b : lo ≤ e.glyph = a.0 in (omega arith, a.1)

pub ascends_sift : (p : Entry → Bool) (es : List Entry) (lo : ℕ) → Ascends lo es → Ascends lo (sift p es)
unfolding sift
ascends_sift p [] lo a = tt
ascends_sift p (e ∷ es) lo a = go (p e) (ascends_sift p es (e.glyph + 1) a.1)
  where
    go : (b : Bool) → Ascends (e.glyph + 1) (sift p es) → Ascends lo (cond b (e ∷ sift p es) (sift p es))
    go true i = (a.0, i)
    go false i = let b : lo ≤ e.glyph = a.0 in ascends_lower (sift p es) (e.glyph + 1) lo (omega arith) i

pub under_sift : (p : Entry → Bool) (es : List Entry) (n : ℕ) → Under n es → Under n (sift p es)
unfolding sift
under_sift p [] n a = tt
under_sift p (e ∷ es) n a = go (p e) (under_sift p es n a.1)
  where
    go : (b : Bool) → Under n (sift p es) → Under n (cond b (e ∷ sift p es) (sift p es))
    go true i = (a.0, i)
    go false i = i

pub plain_glyphs : (gs : List ℕ) → map (λ e. e.glyph) (plain gs) ≡ gs
plain_glyphs [] = refl
plain_glyphs (g ∷ gs) = ap {B = List ℕ} (λ x. g ∷ x) (plain_glyphs gs)

-- ---- runs in order

-- the runs rise, from lo on
abbrev pub Rise : ℕ → List Run → Type 0
Rise lo [] = Unit {0}
Rise lo (r ∷ rs) = (lo ≤ r.start) × (r.start ≤ r.end) × Rise (r.end + 1) rs

-- by the test of an entry before runs
module _ (P : List Run → Type 0) (e : Entry) where
  pub by_extend : (rs : List Run) → P (single e ∷ rs) → ((r : Run) (ts : List Run) → rs ≡ r ∷ ts → e.glyph + 1 ≡ r.start → e.class ≡ r.class → P (longer e r ∷ ts)) → P (extend e rs)
  unfolding extend
  by_extend [] a b = a
  by_extend (r ∷ rs) a b = go (joins e r) refl
    where
      go : (x : Bool) → joins e r ≡ x → P (cond x (longer e r ∷ rs) (single e ∷ r ∷ rs))
      go true h = let (c, d) = and_both (eqb (e.glyph + 1) r.start) (eqb e.class r.class) h in b r rs refl (eqb-true (e.glyph + 1) r.start c) (eqb-true e.class r.class d)
      go false h = a

pub runs_rise : (es : List Entry) (lo : ℕ) → Ascends lo es → Rise lo (runs es)
unfolding runs
runs_rise [] lo a = tt
runs_rise (e ∷ es) lo a =
    let i : Rise (e.glyph + 1) (runs es) = runs_rise es (e.glyph + 1) a.1 in
    by_extend (Rise lo) e (runs es) (a.0, omega arith, i)
    (λ r ts q c d. let j : Rise (e.glyph + 1) (r ∷ ts) = rw q at i in
    let k : r.start ≤ r.end = j.1 in
    (a.0, omega arith, j.2))

-- ---- an entry before others

-- f follows e in the same run
abbrev pub follows : Entry → Entry → Bool
follows e f = eqb (e.glyph + 1) f.glyph && eqb e.class f.class

-- the runs, the first of them from glyph g on
abbrev pub starting_at : ℕ → List Run → List Run
starting_at g [] = []
starting_at g (r ∷ rs) = record { start = g; end = r.end; class = r.class } ∷ rs

-- the first run starts with the first entry
pub head_run : (e : Entry) (es : List Entry) → (r : Run) × (ts : List Run) × (runs (e ∷ es) ≡ r ∷ ts) × (r.start ≡ e.glyph) × (r.class ≡ e.class)
unfolding runs
head_run e es =
    by_extend (λ rs. (r : Run) × (ts : List Run) × (rs ≡ r ∷ ts) × (r.start ≡ e.glyph) × (r.class ≡ e.class)) e (runs es)
    (single e, runs es, refl, refl, refl) (λ r ts q c d. (longer e r, ts, refl, refl, sym d))

pub starting_own : (e : Entry) (es : List Entry) → starting_at e.glyph (runs (e ∷ es)) ≡ runs (e ∷ es)
starting_own e es =
    let (r, ts, q, a, b) = head_run e es in
    ap (starting_at e.glyph) q ∙ ap (λ (g : ℕ). starting_at g (r ∷ ts)) (sym a) ∙ sym q

pub starting_again : (g f : ℕ) (rs : List Run) → starting_at g (starting_at f rs) ≡ starting_at g rs
starting_again g f [] = refl
starting_again g f (r ∷ rs) = refl

extend_first : (e f : Entry) (es : List Entry) → runs (e ∷ f ∷ es) ≡ cond (follows e f) (starting_at e.glyph (runs (f ∷ es))) (single e ∷ runs (f ∷ es))
unfolding runs extend
extend_first e f es =
    let (r, ts, q, a, b) = head_run f es in
    ap (extend e) q
    ∙ ap₂ (λ (x y : ℕ). cond (eqb (e.glyph + 1) x && eqb e.class y) (longer e r ∷ ts) (single e ∷ r ∷ ts)) a b
    ∙ ap (λ (rs : List Run). cond (follows e f) (starting_at e.glyph rs) (single e ∷ rs)) (sym q)

module _ (e f : Entry) (es : List Entry) where
  pub runs_join : follows e f ≡ true → runs (e ∷ f ∷ es) ≡ starting_at e.glyph (runs (f ∷ es))
  runs_join h = extend_first e f es ∙ rw h

  pub runs_part : follows e f ≡ false → runs (e ∷ f ∷ es) ≡ single e ∷ runs (f ∷ es)
  runs_part h = extend_first e f es ∙ rw h

pub runs_none : runs [] ≡ []
unfolding runs
runs_none = refl

pub runs_one : (e : Entry) → runs (e ∷ []) ≡ single e ∷ []
unfolding runs extend
runs_one e = refl

-- ---- the glyphs of runs

-- how many glyphs a run has
abbrev pub run_size : Run → ℕ
run_size r = r.end + 1 - r.start

-- the glyphs of a run
abbrev pub spread : Run → List ℕ
spread r = run r.start (run_size r)

-- the glyphs of runs in a row
abbrev pub expand : List Run → List ℕ
expand [] = []
expand (r ∷ rs) = spread r ++ expand rs

spread_single : (e : Entry) → spread (single e) ≡ e.glyph ∷ []
unfolding flat
spread_single e =
    let z : e.glyph + 1 - e.glyph ≡ 1 = omega arith in
    let y : e.glyph + 0 ≡ e.glyph = omega arith in
    ap (run e.glyph) z ∙ ap {B = List ℕ} (λ (n : ℕ). n ∷ []) y

spread_longer : (e : Entry) (r : Run) → e.glyph + 1 ≡ r.start → r.start ≤ r.end → spread (longer e r) ≡ e.glyph ∷ spread r
spread_longer e r h l =
    let z : r.end + 1 - e.glyph ≡ suc (run_size r) = omega arith in
    ap (run e.glyph) z ∙ run-cons e.glyph (run_size r) ∙ ap (λ (g : ℕ). e.glyph ∷ run g (run_size r)) h

pub expand_runs : (es : List Entry) (lo : ℕ) → Ascends lo es → expand (runs es) ≡ map (λ e. e.glyph) es
unfolding runs
expand_runs [] lo a = refl
expand_runs (e ∷ es) lo a =
    let i = expand_runs es (e.glyph + 1) a.1 in
    let r : Rise (e.glyph + 1) (runs es) = runs_rise es (e.glyph + 1) a.1 in
    by_extend (λ rs. expand rs ≡ e.glyph ∷ map (λ e. e.glyph) es) e (runs es)
    (ap₂ (λ (x y : List ℕ). x ++ y) (spread_single e) i)
    (λ q ts w c d. let j : Rise (e.glyph + 1) (q ∷ ts) = rw w at r in
    ap (λ (x : List ℕ). x ++ expand ts) (spread_longer e q c j.1) ∙ ap (λ (x : List ℕ). e.glyph ∷ x) (sym (ap expand w) ∙ i))

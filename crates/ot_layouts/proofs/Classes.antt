-- The class of a glyph: its entry's, its run's, or 0. Assumes nothing.
use Prim.Native.Nat.{ℕ, ◌+◌, ◌<◌, ◌≤◌}
use mathlib.Core.Path.{◌≡◌, refl, sym, ap, ◌∙◌}
use mathlib.Core.Bool.{Bool, true, false, cond, not, ◌&&◌}
use mathlib.Core.List.{List, [], ◌∷◌}
use mathlib.Core.Logic.{◌⊎◌, inl, inr}
use native.Mathlib.Omega.{arith}
use native.Mathlib.Decide.{ℕ_discrete}
use lib.Dec.{eqb, leb}
use borrow.Author.Tests.{ne_eqb, eq-eqb, eqb-true, le-leb, lt-leb}
use Rattle.folds.specs.Lists.{sift}
use Rattle.folds.proofs.Tests.{either}
use Rattle.ot_layouts.specs.Coverage.{Entry, Run, single, longer, runs, Ascends, Under}
use Rattle.ot_layouts.specs.ClassDef.{first_glyph, last_glyph, span, named, class_in}
use Rattle.ot_layouts.proofs.Runs.{Rise, by_extend, runs_rise}

-- the run has glyph g
abbrev pub in_run : Run → ℕ → Bool
in_run r g = leb r.start g && leb g r.end

-- the class that runs give a glyph
abbrev pub class_run : List Run → ℕ → ℕ
class_run [] g = 0
class_run (r ∷ rs) g = cond (in_run r g) r.class (class_run rs g)

pub class_below : (es : List Entry) (lo g : ℕ) → Ascends lo es → g < lo → class_in es g ≡ 0
unfolding class_in
class_below [] lo g a h = refl
class_below (e ∷ es) lo g a h = let b : lo ≤ e.glyph = a.0 in rw (ne_eqb e.glyph g (λ z. omega arith)) (class_below es (e.glyph + 1) g a.1 (omega arith))

pub class_runs : (es : List Entry) (lo g : ℕ) → Ascends lo es → class_run (runs es) g ≡ class_in es g
unfolding runs class_in
class_runs [] lo g a = refl
class_runs (e ∷ es) lo g a =
    let i = class_runs es (e.glyph + 1) g a.1 in
    let r : Rise (e.glyph + 1) (runs es) = runs_rise es (e.glyph + 1) a.1 in
    by_extend (λ rs. class_run rs g ≡ cond (eqb e.glyph g) e.class (class_in es g)) e (runs es)
    (one (ℕ_discrete e.glyph g) i)
    (λ q ts w c d. let j : Rise (e.glyph + 1) (q ∷ ts) = rw w at r in more q ts (ℕ_discrete e.glyph g) c d j (sym (ap (λ (x : List Run). class_run x g) w) ∙ i))
  where
    one : Dec (e.glyph ≡ g) → class_run (runs es) g ≡ class_in es g → class_run (single e ∷ runs es) g ≡ cond (eqb e.glyph g) e.class (class_in es g)
    one (yes z) i = rw (eq-eqb e.glyph g z, le-leb e.glyph g (omega arith), le-leb g e.glyph (omega arith))
    one (no z) i = rw (ne_eqb e.glyph g z, out (either g e.glyph)) i
      where
        out : (g < e.glyph) ⊎ (e.glyph ≤ g) → (leb e.glyph g && leb g e.glyph) ≡ false
        out (inl h) = rw (lt-leb e.glyph g h)
        out (inr h) = rw (lt-leb g e.glyph (omega arith), le-leb e.glyph g h)

    more : (q : Run) (ts : List Run) → Dec (e.glyph ≡ g) → e.glyph + 1 ≡ q.start → e.class ≡ q.class → Rise (e.glyph + 1) (q ∷ ts) → class_run (q ∷ ts) g ≡ class_in es g
        → class_run (longer e q ∷ ts) g ≡ cond (eqb e.glyph g) e.class (class_in es g)
    more q ts (yes z) c d j i = let k : q.start ≤ q.end = j.1 in rw (eq-eqb e.glyph g z, le-leb e.glyph g (omega arith), le-leb g q.end (omega arith)) (sym d)
    more q ts (no z) c d j i = rw (ne_eqb e.glyph g z) (test (either g e.glyph) ∙ i)
      where
        test : (g < e.glyph) ⊎ (e.glyph ≤ g) → class_run (longer e q ∷ ts) g ≡ class_run (q ∷ ts) g
        test (inl h) = rw (lt-leb e.glyph g h, lt-leb q.start g (omega arith))
        test (inr h) = rw (le-leb e.glyph g h, le-leb q.start g (omega arith))

-- leaving out class 0 changes no class
pub class_named : (es : List Entry) (lo g : ℕ) → Ascends lo es → class_in (named es) g ≡ class_in es g
unfolding named sift class_in
class_named [] lo g a = refl
class_named (e ∷ es) lo g a = go (eqb e.class 0) refl (class_named es (e.glyph + 1) g a.1)
  where
    drop_it : Dec (e.glyph ≡ g) → e.class ≡ 0 → class_in es g ≡ cond (eqb e.glyph g) e.class (class_in es g)
    drop_it (yes z) h = rw (eq-eqb e.glyph g z) (class_below es (e.glyph + 1) g a.1 (omega arith) ∙ sym h)
    drop_it (no z) h = rw (ne_eqb e.glyph g z)

    go : (b : Bool) → eqb e.class 0 ≡ b → class_in (sift (λ e. not (eqb e.class 0)) es) g ≡ class_in es g
        → class_in (cond (not b) (e ∷ sift (λ e. not (eqb e.class 0)) es) (sift (λ e. not (eqb e.class 0)) es)) g ≡ cond (eqb e.glyph g) e.class (class_in es g)
    go true h i = i ∙ drop_it (ℕ_discrete e.glyph g) (eqb-true e.class 0 h)
    go false h i = rw i

-- ---- from the first glyph to the last

last_after : (e : Entry) (es : List Entry) (lo : ℕ) → Ascends lo (e ∷ es) → e.glyph ≤ last_glyph (e ∷ es)
unfolding last_glyph
last_after e [] lo a = omega arith
last_after e (f ∷ es) lo a = let h : f.glyph ≤ last_glyph (f ∷ es) = last_after f es (e.glyph + 1) a.1 in let k : e.glyph + 1 ≤ f.glyph = a.1.0 in omega arith

class_above : (es : List Entry) (lo g : ℕ) → Ascends lo es → last_glyph es < g → class_in es g ≡ 0
unfolding class_in last_glyph
class_above [] lo g a h = refl
class_above (e ∷ []) lo g a h = rw (ne_eqb e.glyph g (λ z. omega arith))
class_above (e ∷ f ∷ es) lo g a h =
    let k : e.glyph ≤ last_glyph (e ∷ f ∷ es) = last_after e (f ∷ es) lo a in
    rw (ne_eqb e.glyph g (λ z. omega arith)) (class_above (f ∷ es) (e.glyph + 1) g a.1 h)

pub class_before_lem : (es : List Entry) (lo g : ℕ) → Ascends lo es → g < first_glyph es → class_in es g ≡ 0
unfolding first_glyph class_in
class_before_lem [] lo g a h = refl
class_before_lem (e ∷ es) lo g a h = class_below (e ∷ es) e.glyph g (omega arith, a.1) h

pub class_beyond : (es : List Entry) (lo g : ℕ) → Ascends lo es → first_glyph es + span es ≤ g → class_in es g ≡ 0
unfolding first_glyph span class_in
class_beyond [] lo g a h = refl
class_beyond (e ∷ es) lo g a h = class_above (e ∷ es) lo g a (omega (arith, last_after e es lo a))

last_under : (e : Entry) (es : List Entry) (n : ℕ) → Under n (e ∷ es) → last_glyph (e ∷ es) < n
unfolding last_glyph
last_under e [] n a = a.0
last_under e (f ∷ es) n a = last_under f es n a.1

pub span_under : (es : List Entry) (n lo : ℕ) → Ascends lo es → Under n es → first_glyph es + span es ≤ n
unfolding first_glyph span
span_under [] n lo a u = omega arith
span_under (e ∷ es) n lo a u = let h : last_glyph (e ∷ es) < n = last_under e es n u in omega (arith, last_after e es lo a)

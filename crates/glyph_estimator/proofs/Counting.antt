-- The state with one glyph more has the figures of the set with that glyph. Assumes nothing.
use Prim.Native.Nat.{ℕ, ◌+◌, ◌-◌, ◌*◌, ◌<◌, ◌≤◌, min, max}
use mathlib.Core.Path.{◌≡◌, refl, sym, ap₂, ◌∙◌}
use mathlib.Core.Bool.{Bool, cond}
use mathlib.Core.List.{List, [], ◌∷◌}
use native.Mathlib.Nat.{not-suc-le-zero}
use native.Mathlib.Omega.{arith}
use lib.Dec.{eqb}
use lib.ListN.{length}
use Rattle.folds.specs.Folds.{upto}
use Rattle.folds.specs.Lists.{sift}
use Rattle.folds.proofs.Tests.{cond_has}
use Rattle.folds.proofs.Folds.{length-upto}
use Rattle.ot_layouts.specs.Coverage.{Entry, plain}
use Rattle.ot_layouts.specs.ClassDef.{first_glyph, last_glyph, span}
use Rattle.ot_layouts.proofs.RunCount.{many_le, plain_length}
use Rattle.glyph_set.specs.GlyphSet.{member, mark, members, run_count, joined}
use Rattle.glyph_set.proofs.Members.{length-members, runs_members, first_members, last_members}
use Rattle.glyph_estimator.specs.declared.Estimator.{Estimator}
use Rattle.glyph_estimator.specs.States.{counted, Takes, Covered}

-- ---- out of 65,536

pub length-sift : {A : Type 0} (p : A → Bool) (xs : List A) → length (sift p xs) ≤ length xs
unfolding sift
length-sift p [] = omega arith
length-sift p (x ∷ xs) =
    let i = length-sift p xs in
    cond_has (λ l. length l ≤ length (x ∷ xs)) (p x) (x ∷ sift p xs) (sift p xs) (omega arith) (omega arith)

pub members_le : (s : List ℕ) → length (members s) ≤ 65536
unfolding members
members_le s = omega (arith, length-sift (member s) (upto (λ g. g) 65536), length-upto (λ (g : ℕ). g) 65536)

pub runs_le : (s : List ℕ) → run_count s ≤ length (members s)
unfolding run_count
runs_le s = omega (arith, many_le (plain (members s)), plain_length (members s))

-- ---- the first and the last

pub first_le : (n f g : ℕ) → cond (eqb n 0) g (min f g) ≤ g
first_le n f g = cond_has (λ (x : ℕ). x ≤ g) (eqb n 0) g (min f g) (omega arith) (omega arith)

pub last_ge : (n l g : ℕ) → g ≤ cond (eqb n 0) g (max l g)
last_ge n l g = cond_has (λ (x : ℕ). g ≤ x) (eqb n 0) g (max l g) (omega arith) (omega arith)

pub span_some : (es : List Entry) → 0 < length es → span es ≡ last_glyph es + 1 - first_glyph es
unfolding span first_glyph
span_some [] h = absurd (not-suc-le-zero h)
span_some (e ∷ es) h = refl

-- ---- one more

-- the runs with it
module _ (e : Estimator) (s : List ℕ) (g : ℕ) (l : g < 65536) (t : Takes e s g) where
  pub joined_le : joined s g ≤ e.runs + 1
  joined_le = omega (arith, runs_members s g t.long l t.new, t.counts.runs)

  pub joined_runs : e.runs + 1 - joined s g ≡ run_count (mark s g)
  joined_runs = omega (arith, runs_members s g t.long l t.new, t.counts.runs)

-- the other figures
module _ (e : Estimator) (s : List ℕ) (g : ℕ) (l : g < 65536) (t : Takes (counted e s) s g) where
  grown : length (members (mark s g)) ≡ length (members s) + 1
  grown = length-members s g t.long l t.new

  pub covered : (first last : ℕ) (u : List ℕ) → u ≡ mark s g → first ≡ cond (eqb e.glyphs 0) g (min e.first g) → last ≡ cond (eqb e.glyphs 0) g (max e.last g)
      → Covered (counted e s) s g (counted (record { first = first; last = last; glyphs = e.glyphs + 1; runs = e.runs; listed = 6 + 2 * (last - first + 1); ranged = e.ranged }) u) u
  covered first last u m ef el =
      let n = t.counts.glyphs in
      let f : first ≡ first_glyph (plain (members (mark s g)))
      = ef ∙ ap₂ (λ (x y : ℕ). cond (eqb x 0) g (min y g)) n t.counts.first ∙ sym (first_members s g t.long l t.new) in
      let k : last ≡ last_glyph (plain (members (mark s g)))
      = el ∙ ap₂ (λ (x y : ℕ). cond (eqb x 0) g (max y g)) n t.counts.last ∙ sym (last_members s g t.long l t.new) in
      record {
        marked = m;
        counts =
            rw m record {
              first = f;
              last = k;
              glyphs = omega (arith, grown);
              runs = refl;
              listed = omega (
                arith,
                span_some (plain (members (mark s g))) (omega (arith, grown, plain_length (members (mark s g)))),
                first_le e.glyphs e.first g,
                last_ge e.glyphs e.last g,
              );
              ranged = omega (arith, t.counts.ranged);
            };
        glyphs = refl;
        ranged = refl;
      }

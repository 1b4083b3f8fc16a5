-- A class, glyph by glyph: what its runs take, and the state and the set after each. Assumes nothing.
use Prim.Native.Nat.{ℕ, zero, suc, ◌+◌, ◌-◌, ◌*◌, ◌<◌, ◌≤◌}
use mathlib.Core.Path.{◌≡◌, refl, sym, ap, ◌∙◌}
use mathlib.Core.Bool.{cond}
use mathlib.Core.List.{List, [], ◌∷◌}
use native.Mathlib.Nat.{not-suc-le-zero}
use native.Mathlib.Numerals.{add-one}
use native.Mathlib.Omega.{arith}
use lib.Dec.{eqb}
use lib.ListN.{length, take, get_or}
use lib.Seq.{take-suc, take_all}
use borrow.Author.Tests.{eq-eqb, ne_eqb}
use Rattle.folds.proofs.Tests.{by_test, cond_has}
use Rattle.ot_layouts.specs.Coverage.{plain}
use Rattle.ot_layouts.proofs.RunCount.{alone, many, gap, many_none, many_one, many_step}
use Rattle.glyph_set.specs.GlyphSet.{member, mark, mark_all}
use Rattle.glyph_set.proofs.Emptied.{mark_all-more, length-mark_all}
use Rattle.glyph_estimator.specs.declared.Estimator.{Estimator}
use Rattle.glyph_estimator.specs.States.{ranges_size, EstimatorReady, ClassAdded, Takes, Taken, Covered, starts_run}

-- ---- runs

pub starts_le : (gs : List ℕ) (k : ℕ) → starts_run gs k ≤ 1
unfolding starts_run
starts_le gs zero = omega arith
starts_le gs (suc k) = cond_has (λ (n : ℕ). n ≤ 1) (eqb (get_or gs k 0 + 1) (get_or gs (suc k) 0)) 0 1 (omega arith) (omega arith)

pub starts_first : (gs : List ℕ) (k : ℕ) → k ≡ 0 → 1 ≡ starts_run gs k
unfolding starts_run
starts_first gs zero e = refl
starts_first gs (suc k) e = absurd (omega arith)

pub starts_behind_lem : (gs : List ℕ) (k : ℕ) → (k ≡ 0 → ⊥) → starts_run gs k ≡ cond (eqb (get_or gs (k - 1) 0 + 1) (get_or gs k 0)) 0 1
unfolding starts_run
starts_behind_lem gs zero e = absurd (e refl)
starts_behind_lem gs (suc k) e = let z : suc k - 1 ≡ k = omega arith in rw z

-- glyphs alone join where they adjoin
gap_alone : (g f : ℕ) → gap (alone g) (alone f) ≡ cond (eqb (g + 1) f) 0 1
gap_alone g f = by_test (eqb (g + 1) f) (λ t. rw t) (λ t. rw t)

-- the runs of one glyph more
starts_more : (gs : List ℕ) (k : ℕ) → k < length gs → many (plain (take (suc k) gs)) ≡ many (plain (take k gs)) + starts_run gs k
unfolding starts_run
starts_more [] k l = absurd (not-suc-le-zero l)
starts_more (g ∷ gs) zero l = omega (arith, many_one (alone g), many_none)
starts_more (g ∷ []) (suc k) l = absurd (omega arith)
starts_more (g ∷ f ∷ gs) (suc zero) l = omega (arith, many_step (alone g) (alone f) [], many_one (alone g), many_one (alone f), gap_alone g f)
starts_more (g ∷ f ∷ gs) (suc (suc k)) l =
    omega (arith, many_step (alone g) (alone f) (plain (take (suc k) gs)), many_step (alone g) (alone f) (plain (take k gs)), starts_more (f ∷ gs) (suc k) (omega arith))

-- what glyph k of a class takes in a class definition of ranges
abbrev glyph_range : ℕ → List ℕ → ℕ → ℕ
glyph_range class gs k = cond (eqb class 0) 0 (6 * starts_run gs k)

ranges_none : (class : ℕ) → ranges_size class [] ≡ 0
unfolding ranges_size
ranges_none class = by_test (eqb class 0) (λ t. rw t) (λ t. rw t (omega (arith, many_none)))

ranges_more : (class : ℕ) (gs : List ℕ) (k : ℕ) → k < length gs → ranges_size class (take (k + 1) gs) ≡ ranges_size class (take k gs) + glyph_range class gs k
unfolding ranges_size
ranges_more class gs k l =
    rw (add-one k)
    (by_test (eqb class 0) (λ t. rw t) (λ t. rw t (omega (arith, starts_more gs k l))))

-- ---- one glyph

-- a glyph of class 0
pub taken_none : (e : Estimator) (s : List ℕ) (class : ℕ) (gs : List ℕ) (k : ℕ) (r : Estimator) (t : List ℕ) → Covered e s (get_or gs k 0) r t → class ≡ 0 → Taken e s class gs k r t
taken_none e s class gs k r t c z = record { marked = c.marked; counts = c.counts; ranged = c.ranged ∙ rw (eq-eqb class 0 z) (omega arith) }

-- a glyph of another class
pub taken_some : (e : Estimator) (s : List ℕ) (class : ℕ) (gs : List ℕ) (k : ℕ) (r : Estimator) (t : List ℕ) → Takes e s (get_or gs k 0) → Covered e s (get_or gs k 0) r t → (class ≡ 0 → ⊥) → (n : ℕ) → n ≡ starts_run gs k
    → Taken e s class gs k (record { first = r.first; last = r.last; glyphs = r.glyphs; runs = r.runs; listed = r.listed; ranged = r.ranged + 6 * n }) t
taken_some e s class gs k r t a c z n q =
    record {
      marked = c.marked;
      counts =
          record {
            first = c.counts.first;
            last = c.counts.last;
            glyphs = c.counts.glyphs;
            runs = c.counts.runs;
            listed = c.counts.listed;
            ranged = omega (arith, a.counts.ranged, c.glyphs, c.ranged, starts_le gs k);
          };
      ranged = rw (ne_eqb class 0 z) (omega (arith, c.ranged));
    }

-- ---- one glyph after the other

-- of a class whose glyphs can be added, the first k are
pub record Adding (e : Estimator) (s : List ℕ) (class : ℕ) (gs : List ℕ) (r : Estimator) (t : List ℕ) (k : ℕ) : Type 0 where
  pub ready : EstimatorReady e s gs
  pub some : k ≤ length gs
  pub added : ClassAdded e s class (take k gs) r t

module _ (e : Estimator) (s : List ℕ) (class : ℕ) (gs : List ℕ) where
  pub start : EstimatorReady e s gs → Adding e s class gs e s 0
  unfolding mark_all
  start y = record { ready = y; some = omega arith; added = record { marked = refl; counts = y.counts; ranged = omega (arith, ranges_none class) } }

  module _ (r : Estimator) (t : List ℕ) (k : ℕ) (a : Adding e s class gs r t k) where
    pub set-length : length t ≡ length s
    set-length = ap length a.added.marked ∙ length-mark_all s (take k gs)

    pub takes : k < length gs → Takes r t (get_or gs k 0)
    takes l =
        record {
          long = omega (arith, set-length, a.ready.long);
          counts = a.added.counts;
          new = ap (λ (x : List ℕ). member x (get_or gs k 0)) a.added.marked ∙ a.ready.new k l;
        }

    pub turn : k < length gs → (r' : Estimator) (t' : List ℕ) → Taken r t class gs k r' t' → Adding e s class gs r' t' (k + 1)
    turn l r' t' n =
        record {
          ready = a.ready;
          some = omega arith;
          added =
              record {
                marked =
                    n.marked
                    ∙ ap (λ (x : List ℕ). mark x (get_or gs k 0)) a.added.marked
                    ∙ sym (mark_all-more s (take k gs) (get_or gs k 0))
                    ∙ rw (add-one k, take-suc gs k 0 l);
                counts = n.counts;
                ranged = omega (arith, n.ranged, a.added.ranged, ranges_more class gs k l);
              };
        }

    pub stop : length gs ≤ k → ClassAdded e s class gs r t
    stop l = rw (take_all k gs l) at a.added

-- A state whose runs are counted anew: for one glyph, from its neighbours, and for a class, by the word. Assumes nothing.
use Prim.Native.Nat.{ℕ, ◌+◌, ◌-◌, ◌<◌, ◌≤◌}
use mathlib.Core.Path.{◌≡◌, sym, ap, ap₂, subst, ◌∙◌}
use mathlib.Core.List.{List}
use native.Mathlib.Omega.{arith}
use lib.ListN.{length, get_or}
use Rattle.glyph_set.specs.GlyphSet.{run_count, joined}
use Rattle.glyph_set.specs.Words.{Spans}
use Rattle.glyph_set.proofs.Members.{members_span}
use Rattle.glyph_estimator.specs.declared.Estimator.{Estimator}
use Rattle.glyph_estimator.specs.States.{with_runs, counted, EstimatorReady, ClassAdded, Takes, Taken}
use Rattle.glyph_estimator.proofs.Counting.{joined_runs}
use Rattle.glyph_estimator.proofs.Taking.{Adding, set-length, stop}

-- ---- a glyph

-- taken but for the runs, with those that its neighbours leave
pub taken_joined : (e : Estimator) (s : List ℕ) (class : ℕ) (gs : List ℕ) (k : ℕ) (r : Estimator) (u : List ℕ) → get_or gs k 0 < 65536 → Takes e s (get_or gs k 0)
    → Taken (counted e s) s class gs k (counted r u) u → r.runs ≡ e.runs → (j : ℕ) → j ≡ joined s (get_or gs k 0) → Taken e s class gs k (with_runs r (r.runs + 1 - j)) u
taken_joined e s class gs k r u l t d same j q =
    let n : r.runs + 1 - j ≡ run_count u
    = ap₂ (λ (x y : ℕ). x + 1 - y) same q ∙ joined_runs e s (get_or gs k 0) l t ∙ ap run_count (sym d.marked) in
    subst (λ (m : ℕ). Taken e s class gs k (with_runs r m) u) (sym n)
    (subst (λ (m : ℕ). Taken (with_runs e m) s class gs k (counted r u) u) (sym t.counts.runs) d)

-- ---- a class

module _ (e : Estimator) (s : List ℕ) (class : ℕ) (gs : List ℕ) (y : EstimatorReady e s gs) where
  module _ (r : Estimator) (t : List ℕ) (k : ℕ) (a : Adding (counted e s) s class gs (counted r t) t k) where
    pub long : 8192 ≤ length t
    long = omega (arith, y.long, set-length (counted e s) s class gs (counted r t) t k a)

    pub spans : Spans t r.first r.last
    spans = rw (a.added.counts.first, a.added.counts.last) (members_span t)

    pub added_counted : length gs ≤ k → (n : ℕ) → n ≡ run_count t → ClassAdded e s class gs (with_runs r n) t
    added_counted l n q =
        subst (λ (m : ℕ). ClassAdded e s class gs (with_runs r m) t) (sym q)
        (subst (λ (m : ℕ). ClassAdded (with_runs e m) s class gs (counted r t) t) (sym y.counts.runs) (stop (counted e s) s class gs (counted r t) t k a l))

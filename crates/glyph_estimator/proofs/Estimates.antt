-- The state and the set of the classes since the last cut: at the start, with one class more, and what a caller has to show. Assumes nothing.
use Prim.Native.Nat.{ℕ, zero, suc, ◌+◌, ◌-◌, ◌*◌, ◌<◌, ◌≤◌}
use mathlib.Core.Path.{◌≡◌, refl, sym, ap, ◌∙◌}
use mathlib.Core.Bool.{Bool, true, false, cond, not, ◌&&◌, ◌||◌}
use mathlib.Core.List.{List, [], ◌∷◌, map}
use mathlib.Core.Logic.{⊎_elim}
use native.Mathlib.Decide.{ℕ_discrete}
use native.Mathlib.Nat.{not-suc-le-zero}
use native.Mathlib.Omega.{arith}
use lib.Dec.{eqb, leb, ltb}
use lib.ListN.{length, take, get_or, length-map}
use borrow.Author.Tests.{eq-eqb, ne_eqb, eqb-true, lt-leb, le-ltb}
use Rattle.folds.specs.Lists.{sift}
use Rattle.folds.proofs.Tests.{by_test, and_first, and_second, true_false, either}
use Rattle.ot_layouts.specs.Coverage.{Entry, runs, plain, Ascends, Under}
use Rattle.ot_layouts.specs.ClassDef.{first_glyph, last_glyph, span, named}
use Rattle.ot_layouts.proofs.Runs.{ascends_sift, under_sift}
use Rattle.ot_layouts.proofs.RunCount.{many_le}
use Rattle.ot_layouts.proofs.Classes.{span_under}
use Rattle.ot_layouts.proofs.ByGlyph.{has}
use Rattle.glyph_rules.specs.Entries.{within}
use Rattle.glyph_rules.specs.Estimates.{Estimate, estimate}
use Rattle.glyph_set.specs.GlyphSet.{member, mark, mark_all, members, run_count, Empty}
use Rattle.glyph_set.proofs.Marks.{mark_here, mark_other, length-mark}
use Rattle.glyph_set.proofs.Members.{members_of}
use Rattle.glyph_set.proofs.Emptied.{member_empty}
use Rattle.glyph_estimator.specs.declared.Estimator.{Estimator}
use Rattle.glyph_estimator.specs.States.{values_of, Counts, ranges_size, EstimatorReady, ClassAdded, Small, Estimates}
use Rattle.glyph_estimator.proofs.Counting.{length-sift, members_le, runs_le}
use Rattle.glyph_estimator.proofs.ByClass.{has_more, has_apart, runs_more, class_size_lem}

-- ---- by glyphs alone

abbrev glyphs_of : List Entry → List ℕ
glyphs_of es = map (λ e. e.glyph) es

first_plain : (es : List Entry) → first_glyph (plain (glyphs_of es)) ≡ first_glyph es
unfolding first_glyph
first_plain [] = refl
first_plain (e ∷ es) = refl

last_plain : (es : List Entry) → last_glyph (plain (glyphs_of es)) ≡ last_glyph es
unfolding last_glyph
last_plain [] = refl
last_plain (e ∷ []) = refl
last_plain (e ∷ f ∷ es) = last_plain (f ∷ es)

span_plain : (es : List Entry) → span (plain (glyphs_of es)) ≡ span es
unfolding span
span_plain [] = refl
span_plain (e ∷ es) = ap (λ (n : ℕ). n + 1 - e.glyph) (last_plain (e ∷ es))

-- a set of the glyphs of es has their figures
module _ (s : List ℕ) (es : List Entry) (m : members s ≡ glyphs_of es) where
  first_set : first_glyph (plain (members s)) ≡ first_glyph es
  first_set = ap (λ (gs : List ℕ). first_glyph (plain gs)) m ∙ first_plain es

  last_set : last_glyph (plain (members s)) ≡ last_glyph es
  last_set = ap (λ (gs : List ℕ). last_glyph (plain gs)) m ∙ last_plain es

  length-set : length (members s) ≡ length es
  length-set = ap length m ∙ length-map es (λ e. e.glyph)

  runs_set : run_count s ≡ length (runs (plain (glyphs_of es)))
  unfolding run_count
  runs_set = ap (λ (gs : List ℕ). length (runs (plain gs))) m

  span_set : span (plain (members s)) ≡ span es
  span_set = ap (λ (gs : List ℕ). span (plain gs)) m ∙ span_plain es

  counted : (e : Estimator) → values_of e ≡ estimate es → Counts e s
  unfolding estimate named
  counted e v =
      let n : e.glyphs ≡ length es = ap (λ (x : Estimate). x.glyphs) v in
      let r : e.ranged ≡ 4 + 6 * length (runs (named es)) = ap (λ (x : Estimate). x.ranged) v in
      record {
        first = ap (λ (x : Estimate). x.first) v ∙ sym first_set;
        last = ap (λ (x : Estimate). x.last) v ∙ sym last_set;
        glyphs = n ∙ sym length-set;
        runs = ap (λ (x : Estimate). x.runs) v ∙ sym runs_set;
        listed = ap (λ (x : Estimate). x.listed) v ∙ ap (λ (k : ℕ). 6 + 2 * k) (sym span_set);
        ranged = omega (arith, many_le (named es), length-sift (λ (e : Entry). not (eqb e.class 0)) es);
      }

  estimated : (e : Estimator) → Counts e s → e.ranged ≡ 4 + 6 * length (runs (named es)) → values_of e ≡ estimate es
  unfolding estimate
  estimated e c r =
      let f = c.first ∙ first_set in
      let l = c.last ∙ last_set in
      let n = c.glyphs ∙ length-set in
      let k = c.runs ∙ runs_set in
      let p = c.listed ∙ ap (λ (k : ℕ). 6 + 2 * k) span_set in
      cc

-- ---- put into the set

-- the glyphs of entries in ascending order start at lo
has_from : (es : List Entry) (lo g : ℕ) → Ascends lo es → has es g ≡ true → lo ≤ g
unfolding has
has_from [] lo g a h = true_false (sym h)
has_from (e ∷ es) lo g a h =
    let b : lo ≤ e.glyph = a.0 in
    by_test (eqb e.glyph g)
    (λ t. omega (arith, eqb-true e.glyph g t))
    (λ t. omega (arith, has_from es (e.glyph + 1) g a.1 (rw t at h)))

-- each glyph is new where those before it are in
each_new : (s : List ℕ) (es : List Entry) (lo : ℕ) → 8192 ≤ length s → Ascends lo es → Under 65536 es → ((g : ℕ) → g < 65536 → has es g ≡ true → member s g ≡ false)
    → (k : ℕ) → k < length es → member (mark_all s (take k (glyphs_of es))) (get_or (glyphs_of es) k 0) ≡ false
unfolding mark_all has
each_new s [] lo long a u h k l = absurd (not-suc-le-zero l)
each_new s (e ∷ es) lo long a u h zero l = h e.glyph u.0 (rw (eq-eqb e.glyph e.glyph refl))
each_new s (e ∷ es) lo long a u h (suc k) l =
    let b : e.glyph < 65536 = u.0 in
    each_new (mark s e.glyph) es (e.glyph + 1) (omega (arith, length-mark s e.glyph)) a.1 u.1
    (λ g m t.
    let c : e.glyph + 1 ≤ g = has_from es (e.glyph + 1) g a.1 t in
    mark_other s e.glyph (omega arith) g (omega arith) ∙ h g m (rw (ne_eqb e.glyph g (omega arith)) t))
    k (omega arith)

member_all : (s : List ℕ) (es : List Entry) (g : ℕ) → 8192 ≤ length s → Under 65536 es → member (mark_all s (glyphs_of es)) g ≡ member s g || has es g
unfolding mark_all has
member_all s [] g long u = or_false (member s g)
  where
    or_false : (b : Bool) → b ≡ b || false
    or_false true = refl
    or_false false = refl
member_all s (e ∷ es) g long u =
    let b : e.glyph < 65536 = u.0 in
    member_all (mark s e.glyph) es g (omega (arith, length-mark s e.glyph)) u.1 ∙ go (ℕ_discrete e.glyph g)
  where
    or_true : (b : Bool) → true ≡ b || true
    or_true true = refl
    or_true false = refl

    go : Dec (e.glyph ≡ g) → member (mark s e.glyph) g || has es g ≡ member s g || cond (eqb e.glyph g) true (has es g)
    go (yes z) = let b : e.glyph < 65536 = u.0 in rw (← z, mark_here s e.glyph (omega arith), eq-eqb e.glyph e.glyph refl) (or_true (member s e.glyph))
    go (no z) = let b : e.glyph < 65536 = u.0 in rw (mark_other s e.glyph (omega arith) g (λ q. z (sym q)), ne_eqb e.glyph g z)

-- ---- class by class

within_none : (a : ℕ) (all : List Entry) → within a a all ≡ []
unfolding within sift
within_none a [] = refl
within_none a (e ∷ es) = rw (out e.class) (within_none a es)
  where
    out : (c : ℕ) → leb a c && ltb c a ≡ false
    out c = ⊎_elim (λ l. and_first (leb a c) (ltb c a) (lt-leb a c l)) (λ l. and_second (leb a c) (ltb c a) (le-ltb c a l)) (either c a)

-- no class yet
pub estimates_none : (a : ℕ) (all : List Entry) (e : Estimator) (s : List ℕ) → values_of e ≡ estimate [] → Empty s → Estimates e s (within a a all)
unfolding has
estimates_none a all e s v z = rw (within_none a all) record { values = v; holds = λ g l. member_empty s z g }

module _ (all : List Entry) (up : Ascends 0 all) (under : Under 65536 all) where
  within_up : (lo hi : ℕ) → Ascends 0 (within lo hi all)
  unfolding within
  within_up lo hi = ascends_sift (λ e. leb lo e.class && ltb e.class hi) all 0 up

  within_under : (lo hi : ℕ) → Under 65536 (within lo hi all)
  unfolding within
  within_under lo hi = under_sift (λ e. leb lo e.class && ltb e.class hi) all 65536 under

  module _ (a i : ℕ) (e : Estimator) (s : List ℕ) (x : Estimates e s (within a i all)) where
    set-members : members s ≡ glyphs_of (within a i all)
    set-members = members_of s (within a i all) (within_up a i) (within_under a i) x.holds

    counts : Counts e s
    counts = counted s (within a i all) set-members e x.values

    pub small : Small e
    unfolding estimate
    small =
        let n = members_le s in
        record {
          glyphs = omega (arith, counts.glyphs);
          runs = omega (arith, counts.runs, runs_le s);
          listed = omega (arith, ap (λ (y : Estimate). y.listed) x.values, span_under (within a i all) 65536 0 (within_up a i) (within_under a i));
        }

    -- class i, whose glyphs are gs
    module _ (order : a ≤ i) (long : 8192 ≤ length s) (gs : List ℕ) (q : gs ≡ map (λ e. e.glyph) (within i (i + 1) all)) where
      pub ready : EstimatorReady e s gs
      ready =
          record {
            long = long;
            counts = counts;
            new = λ k l.
                let m : k < length (within i (i + 1) all) = omega (arith, ap length q, length-map (within i (i + 1) all) (λ e. e.glyph)) in
                rw q
                (each_new s (within i (i + 1) all) 0 long (within_up i (i + 1)) (within_under i (i + 1))
                (λ g h t. x.holds g h ∙ has_apart all up under a i order g h t)
                k m);
          }

      -- with the class: the state and the set of the classes from a to i
      pub estimates_more : (r : Estimator) (t : List ℕ) → ClassAdded e s i gs r t → Estimates r t (within a (i + 1) all)
      unfolding estimate
      estimates_more r t d = record { values = estimated t (within a (i + 1) all) more_members r d.counts more_ranged; holds = more_holds }
        where
          more_holds : (g : ℕ) → g < 65536 → member t g ≡ has (within a (i + 1) all) g
          more_holds g l =
              ap (λ (y : List ℕ). member y g) (d.marked ∙ ap (mark_all s) q)
              ∙ member_all s (within i (i + 1) all) g long (within_under i (i + 1))
              ∙ ap (λ (b : Bool). b || has (within i (i + 1) all) g) (x.holds g l)
              ∙ sym (has_more all up under a i order g l)

          more_members : members t ≡ glyphs_of (within a (i + 1) all)
          more_members = members_of t (within a (i + 1) all) (within_up a (i + 1)) (within_under a (i + 1)) more_holds

          more_ranged : r.ranged ≡ 4 + 6 * length (runs (named (within a (i + 1) all)))
          more_ranged =
              omega (
                arith,
                d.ranged,
                ap (λ (y : Estimate). y.ranged) x.values,
                ap (ranges_size i) q,
                class_size_lem all up under a i order,
                runs_more all up under a i order,
              )

-- A class added to those that are held, and all but the last one forgotten. Assumes nothing.
use Prim.Native.Nat.{ℕ, ◌+◌, ◌-◌, ◌≤◌}
use mathlib.Core.Path.{◌≡◌, sym, ap, subst, ◌∙◌}
use mathlib.Core.List.{List, [], map}
use native.Mathlib.Omega.{arith}
use lib.ListN.{length, take, drop}
use Rattle.folds.specs.Lists.{part}
use Rattle.ot_layouts.specs.Coverage.{Entry}
use Rattle.glyph_rules.specs.Entries.{within}
use Rattle.glyph_rules.specs.Estimates.{estimate}
use Rattle.glyph_set.specs.GlyphSet.{mark_all, blank_all, Empty}
use Rattle.glyph_set.proofs.Emptied.{length-mark_all}
use Rattle.glyph_estimator.specs.declared.Estimator.{Estimator}
use Rattle.glyph_estimator.specs.States.{values_of, EstimatorReady, ClassAdded, Small}
use Rattle.glyph_estimator.proofs.Estimates.{estimates_none, ready, estimates_more, small}
use Rattle.glyph_estimator.proofs.Forgetting.{marked_behind, forgotten}
use Rattle.pair_row_classes.specs.declared.Classes.{Classes}
use Rattle.pair_row_classes.specs.Classes.{Holds, Begins}
use Rattle.glyph_class_parts.specs.ClassParts.{OrderedByClass, start_of, ClassEnd}
use Rattle.glyph_class_parts.proofs.ClassParts.{starts_rise, starts_most, starts_none, length-glyphs, length-classes, class_part, class_ends}

-- ---- no class

-- no glyphs
part_none : (gs : List ℕ) (n : ℕ) → part gs n n ≡ []
part_none gs n = let m : n - n ≡ 0 = omega arith in ap (λ (x : ℕ). take x (drop n gs)) m

module _ {es : List Entry} {gs : List ℕ} (i : ℕ) {set : List ℕ} (z : Empty set) (long : 8192 ≤ length set) {r : Estimator} (e : values_of r ≡ estimate []) {from : ℕ} (f : from ≡ start_of es i) where
  -- the classes from i on, of which there are none yet
  none_held : Holds es gs i i (record { estimator = r; first = from; from = from; to = from }) set
  unfolding mark_all
  none_held =
      record {
        estimates = estimates_none i es r set e z;
        first = f;
        to = f;
        long = long;
        empty = set;
        emptied = z;
        marked = ap (mark_all set) (sym (part_none gs (start_of es i)));
      }

pub held_begins : {r : Estimator} → values_of r ≡ estimate [] → Begins (record { estimator = r; first = 0; from = 0; to = 0 })
held_begins e es gs cs set o z long = none_held 0 z long e (sym (starts_none es o.up o.under))

-- ---- one class more

module _ {es : List Entry} {gs cs : List ℕ} (o : OrderedByClass es gs cs) where
  starts_inside : (i : ℕ) → start_of es i ≤ length gs
  starts_inside i = omega (arith, starts_most es o.up o.under i, length-glyphs es o.up o.under o.by_class)

  -- a part of the glyphs by classes
  pub part-inside : (i j lo hi : ℕ) → i ≤ j → lo ≡ start_of es i → hi ≡ start_of es j → (lo ≤ hi) × (hi ≤ length gs)
  part-inside i j lo hi h p q = (omega (arith, starts_rise es o.up o.under i j h), omega (arith, starts_inside j))

  module _ {a i : ℕ} {k : Classes} {set : List ℕ} (v : Holds es gs a i k set) where
    pub held_from : k.to ≤ length cs
    held_from = omega (arith, v.to, starts_most es o.up o.under i, length-classes es o.up o.under o.by_class)

    pub held_small : Small k.estimator
    held_small = small es o.up o.under a i k.estimator set v.estimates

    pub held_end : {to : ℕ} → ClassEnd cs k.to i to → to ≡ start_of es (i + 1)
    held_end {to} d = class_ends es o.up o.under o.by_class i (subst (λ (n : ℕ). ClassEnd cs n i to) v.to d)

    module _ (order : a ≤ i) {from to : ℕ} (f : from ≡ start_of es i) (t : to ≡ start_of es (i + 1)) where
      glyphs_are : part gs from to ≡ map (λ e. e.glyph) (within i (i + 1) es)
      glyphs_are = rw (f, t) (class_part es o.up o.under o.by_class i)

      pub held_ready : EstimatorReady k.estimator set (part gs from to)
      held_ready = ready es o.up o.under a i k.estimator set v.estimates order v.long (part gs from to) glyphs_are

      pub held_more : {r : Estimator} {set' : List ℕ} → ClassAdded k.estimator set i (part gs from to) r set' → Holds es gs a (i + 1) (record { estimator = r; first = k.first; from = from; to = to }) set'
      held_more {r} {set'} d =
          record {
            estimates = estimates_more es o.up o.under a i k.estimator set v.estimates order v.long (part gs from to) glyphs_are r set' d;
            first = v.first;
            to = t;
            long = omega (arith, v.long, ap length d.marked, length-mark_all set (part gs from to));
            empty = v.empty;
            emptied = v.emptied;
            marked =
                marked_behind v.empty gs (start_of es a) (start_of es i) (start_of es (i + 1)) (starts_rise es o.up o.under a i order) (starts_rise es o.up o.under i (i + 1) (omega arith)) set set' v.marked
                (rw (← f, ← t) d.marked);
          }

-- ---- all but the last class forgotten

module _ {es : List Entry} {gs : List ℕ} {a i : ℕ} {k : Classes} {set : List ℕ} (v : Holds es gs a (i + 1) k set) where
  pub held_none : {first to : ℕ} → first ≡ k.first → to ≡ k.to → {set' : List ℕ} → set' ≡ blank_all set (part gs first to) → {r : Estimator} → values_of r ≡ estimate [] → {from : ℕ} → from ≡ start_of es i
      → Holds es gs i i (record { estimator = r; first = from; from = from; to = from }) set'
  held_none p q {set'} b z f =
      let e : set' ≡ v.empty = forgotten v.empty (part gs (start_of es a) (start_of es (i + 1))) set set' v.emptied v.marked (b ∙ rw (p, q, v.first, v.to)) in
      none_held i (rw e v.emptied) (rw e (omega (arith, v.long, ap length v.marked, length-mark_all v.empty (part gs (start_of es a) (start_of es (i + 1)))))) z f

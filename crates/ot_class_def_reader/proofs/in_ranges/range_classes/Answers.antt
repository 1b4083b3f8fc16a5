-- `ot_class_def_reader::in_ranges::range_classes` meets its contract: the ranges passed end below the glyph, and the next decides its class. Assumes nothing.
use Prim.Native.Nat.{ℕ, ◌+◌, ◌≤◌, ◌<◌}
use mathlib.Core.Path.{◌≡◌, sym, ◌∙◌}
use mathlib.Core.Bool.{Bool, true, false, cond, ◌&&◌}
use mathlib.Core.List.{List}
use mathlib.Core.Logic.{◌⊎◌, inl, inr, ⊎_elim}
use native.Mathlib.Nat.{le_of_suc-le-suc, eq-or-lt_of_le}
use native.Mathlib.Numerals.{add-one}
use native.Mathlib.Omega.{arith}
use lib.ListN.{length, get_or, set}
use lib.Dec.{leb, ltb}
use borrow.Author.Tests.{ltb-true, ltb-false, lt-ltb, le-ltb, le-leb, lt-leb}
use Rattle.folds.proofs.Tests.{and_both, either}
use Rattle.folds.proofs.Halving.{rises}
use Rattle.ot_layouts.specs.Coverage.{start_at, end_at, beside_at}
use Rattle.ot_layouts.proofs.RangesRead.{RangesRead, ranges_read}
use Rattle.ot_ranges.specs.Ascending.{Ascending}
use Rattle.ot_ranges.proofs.Place.{range_at_lem, range_none}
use Rattle.ot_class_def_reader.specs.Lookup.{range_class}
use Rattle.ot_class_def_reader.proofs.Filled.{filled_none, filled_more, filled_all}
use Rattle.ot_class_def_reader.proofs.in_ranges.range_classes.Invariants.{Inv}
use Rattle.ot_class_def_reader.proofs.in_ranges.range_classes.Goals as goal

start : (part : List ℕ) (count : ℕ) (gs out : List ℕ) → RangesRead part count → Ascending gs → length gs ≤ length out → Inv part count gs out out 0 0
start part count gs out r a l = record { read = r; ascends = a; filled = filled_none (range_class part count) gs out l; within = omega arith; below = λ j m n. absurd (omega arith) }

-- there is a range k, and it ends below the glyph
abbrev passes : List ℕ → ℕ → ℕ → ℕ → Bool
passes part count k g = ltb k count && ltb (end_at part k) g

module _ (part : List ℕ) (count k g : ℕ) (r : RangesRead part count) (below : (j : ℕ) → j < k → end_at part j < g) (h : passes part count k g ≡ false) where
  -- range k, if there is one, is the first that does not end below the glyph
  next-decides : cond (ltb k count && leb (start_at part k) g) (beside_at part k) 0 ≡ range_class part count g
  next-decides = ⊎_elim there not_there (either k count)
    where
      not_there : count ≤ k → cond (ltb k count && leb (start_at part k) g) (beside_at part k) 0 ≡ range_class part count g
      not_there l = rw (le-ltb k count l, range_none part count g (λ j m. inl (below j (omega arith))))

      there : k < count → cond (ltb k count && leb (start_at part k) g) (beside_at part k) 0 ≡ range_class part count g
      there l = ⊎_elim before-it has-it (either g (start_at part k))
        where
          reaches : g ≤ end_at part k
          reaches = ltb-false (end_at part k) g (rw (lt-ltb k count l) at h)

          has-it : start_at part k ≤ g → cond (ltb k count && leb (start_at part k) g) (beside_at part k) 0 ≡ range_class part count g
          has-it s = rw (lt-ltb k count l, le-leb (start_at part k) g s, range_at_lem part count g k l below s reaches)

          side : g < start_at part k → (j : ℕ) → j < count → (j < k) ⊎ (k ≤ j) → (end_at part j < g) ⊎ (g < start_at part j)
          side s j m (inl q) = inl (below j q)
          side s j m (inr q) = inr (⊎_elim (λ e. rw (← e) s) (λ lt. omega (arith, rises r.rising k j lt m, reaches)) (eq-or-lt_of_le q))

          before-it : g < start_at part k → cond (ltb k count && leb (start_at part k) g) (beside_at part k) 0 ≡ range_class part count g
          before-it s = rw (lt-ltb k count l, lt-leb (start_at part k) g s, range_none part count g (λ j m. side s j m (either j k)))

module _ {part : List ℕ} {count : ℕ} {gs out₀ out : List ℕ} {k i : ℕ} (p : Inv part count gs out₀ out k i) {t : Bool} (e : t ≡ passes part count k (get_or gs i 0)) where
  module _ (h : t ≡ true) where
    ahead : (k < count) × (end_at part k < get_or gs i 0)
    ahead = let (a, b) = and_both (ltb k count) (ltb (end_at part k) (get_or gs i 0)) (sym e ∙ h) in (ltb-true k count a, ltb-true (end_at part k) (get_or gs i 0) b)

    one_more : k < count
    one_more = ahead.0

    next-range : Inv part count gs out₀ out (k + 1) i
    next-range =
        record {
          read = p.read;
          ascends = p.ascends;
          filled = p.filled;
          within = omega (arith, one_more);
          below = λ j m l. ⊎_elim (λ q. rw q ahead.1) (λ lt. p.below j lt l) (eq-or-lt_of_le (le_of_suc-le-suc (rw add-one at m)));
        }

  next-glyph : {v : ℕ} → t ≡ false → i < length gs → v ≡ cond (ltb k count && leb (start_at part k) (get_or gs i 0)) (beside_at part k) 0 → Inv part count gs out₀ (set out i v) k (i + 1)
  next-glyph {v} h l q =
      record {
        read = p.read;
        ascends = p.ascends;
        filled = filled_more p.filled l (q ∙ next-decides part count k (get_or gs i 0) p.read (λ j m. p.below j m l) (sym e ∙ h));
        within = p.within;
        below = λ j m n. omega (arith, p.below j m l, p.ascends i n);
      }

pub loop-i-init : goal.loop-i-init
loop-i-init c = start _ _ _ _ (ranges_read _ _ c.requires.count_value) c.requires.ascending c.requires.glyphs_in_bounds

pub ends_below-requires : goal.ends_below-requires
ends_below-requires c = c.loop-i.invariant.read.long

pub overflow_add-k : goal.overflow_add-k
overflow_add-k c = let h = one_more c.loop-i.invariant c.ends_below.ensures c.if-ends_below.true in omega arith

pub loop-i-smaller-then-ends_below : goal.loop-i-smaller-then-ends_below
loop-i-smaller-then-ends_below c = let h = one_more c.loop-i.invariant c.ends_below.ensures c.if-ends_below.true in omega arith

pub loop-i-preserved-then-ends_below : goal.loop-i-preserved-then-ends_below
loop-i-preserved-then-ends_below c = next-range c.loop-i.invariant c.ends_below.ensures c.if-ends_below.true

pub class_beside-requires : goal.class_beside-requires
class_beside-requires c = c.loop-i.invariant.read.long

pub loop-i-preserved : goal.loop-i-preserved
loop-i-preserved c = next-glyph c.loop-i.invariant c.ends_below.ensures c.if-ends_below.false c.loop-i-test.true c.class_beside.ensures

pub returns : goal.returns
returns c = filled_all c.loop-i.invariant.filled c.loop-i-test.false

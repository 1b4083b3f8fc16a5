-- The marks of a table and of a range of its classes: in ascending order of glyph, and with their classes counted from the range's first. Assumes nothing.
use Prim.Native.Nat.{ℕ, zero, suc, ◌+◌, ◌-◌, ◌<◌, ◌≤◌}
use mathlib.Core.Path.{◌≡◌, refl, sym, ap₂, subst}
use mathlib.Core.Bool.{Bool, true, false, cond}
use mathlib.Core.List.{List, [], ◌∷◌, map}
use native.Mathlib.Omega.{arith}
use native.Mathlib.Nat.{not-suc-le-zero}
use lib.ListN.{length, get_or}
use Rattle.folds.specs.Folds.{upto, flat}
use Rattle.folds.specs.Lists.{sift}
use Rattle.folds.proofs.Folds.{upto-cons, length-upto}
use Rattle.folds.proofs.FromTheFront.{upto-at}
use Rattle.folds.proofs.Each.{Each, each_upto}
use Rattle.folds.proofs.InRange.{ranged_each, ranged_all, ranged_inside, ranged_moved}
use Rattle.ot_layouts.specs.Coverage.{Ascends, plain}
use Rattle.ot_layouts.specs.MarkBasePos.{cover_at}
use Rattle.ot_layouts.proofs.Runs.{ascends_lower, plain_glyphs}
use Rattle.ot_layouts.proofs.CoverageGlyphs.{Sorted, cover_sorted, sorted_ascends}
use Rattle.store_rules.specs.Store.{Store, linked_bytes}
use Rattle.mark_rules.specs.Table.{Mark, in_classes, marks_within, marks_of, mark_at, marks_in, glyphs_of, classes_of}
use Rattle.mark_rules.specs.Written.{no_mark}
use Rattle.mark_rules.specs.Reads.{Reads}
use Rattle.mark_rules.proofs.Checks.{parts_read}

-- ---- by index

pub marks_many : (s : Store) (t : ℕ) → length (marks_of s t) ≡ marks_in s t
unfolding marks_of
marks_many s t = length-upto (mark_at s t) (marks_in s t)

pub mark_is : (s : Store) (t i : ℕ) → i < marks_in s t → get_or (marks_of s t) i no_mark ≡ mark_at s t i
unfolding marks_of
mark_is s t i l = upto-at (mark_at s t) (marks_in s t) i no_mark l

-- ---- in ascending order of glyph, from lo on

abbrev pub Rises : ℕ → List Mark → Type 0
Rises lo ms = Ascends lo (plain (map (λ m. m.glyph) ms))

rises_from : (gs : List ℕ) (h : ℕ → Mark) (n lo : ℕ) → n ≤ length gs → ((k : ℕ) → k < n → (h k).glyph ≡ get_or gs k 0) → Ascends lo (plain gs)
    → Rises lo (upto h n)
unfolding flat
rises_from gs h zero lo l e a = tt
rises_from [] h (suc n) lo l e a = absurd (not-suc-le-zero l)
rises_from (g ∷ gs) h (suc n) lo l e a =
    let first : (h 0).glyph ≡ g = e 0 (omega arith) in
    let low : lo ≤ g = a.0 in
    let rest = subst (λ (i : ℕ). Ascends (i + 1) (plain gs)) (sym first) a.1 in
    subst (Rises lo) (sym (upto-cons h n))
    (omega arith, rises_from gs (λ k. h (suc k)) n ((h 0).glyph + 1) (omega arith) (λ k m. e (suc k) (omega arith)) rest)

pub marks_rise : (s : Store) (t : ℕ) → Reads s t → Rises 0 (marks_of s t)
unfolding marks_of mark_at
marks_rise s t r =
    let gs = glyphs_of s t in
    let (hi, u, x) = cover_sorted (linked_bytes s t cover_at) (parts_read s t r.parts).cover_reads in
    rises_from gs (mark_at s t) (marks_in s t) 0 r.enough (λ k l. refl) (sorted_ascends (plain gs) 0 hi (subst (Sorted 0 hi) (sym (plain_glyphs gs)) x))

rises_sift : (p : Mark → Bool) (ms : List Mark) (lo : ℕ) → Rises lo ms → Rises lo (sift p ms)
unfolding sift
rises_sift p [] lo a = tt
rises_sift p (m ∷ ms) lo a = go (p m) (rises_sift p ms (m.glyph + 1) a.1)
  where
    go : (b : Bool) → Rises (m.glyph + 1) (sift p ms) → Rises lo (cond b (m ∷ sift p ms) (sift p ms))
    go true i = (a.0, i)
    go false i = let l : lo ≤ m.glyph = a.0 in ascends_lower (plain (map (λ m. m.glyph) (sift p ms))) (m.glyph + 1) lo (omega arith) i

pub within_rises : (lo hi : ℕ) (ms : List Mark) → Rises 0 ms → Rises 0 (marks_within lo hi ms)
unfolding marks_within
within_rises lo hi ms a = rises_sift (λ m. in_classes lo hi m.class) ms 0 a

-- ---- a range of classes

abbrev classed : Mark → ℕ
classed m = m.class

pub within_each : (lo hi : ℕ) (ms : List Mark) → Each (λ m. (lo ≤ m.class) × (m.class < hi)) (marks_within lo hi ms)
unfolding marks_within
within_each lo hi ms = ranged_each classed lo hi ms

-- each mark of a readable table has one of its classes
pub classes_low_lem : (s : Store) (t : ℕ) → Reads s t → Each (λ m. m.class < classes_of s t) (marks_of s t)
unfolding marks_of mark_at
classes_low_lem s t r = each_upto (λ m. m.class < classes_of s t) (mark_at s t) (marks_in s t) (parts_read s t r.parts).classes_low

pub within_all : (n : ℕ) (ms : List Mark) → Each (λ m. m.class < n) ms → marks_within 0 n ms ≡ ms
unfolding marks_within
within_all n ms a = ranged_all classed n ms a

-- a range inside one that starts at 0
pub within_within : (a b n : ℕ) (ms : List Mark) → b ≤ n → marks_within a b (marks_within 0 n ms) ≡ marks_within a b ms
unfolding marks_within
within_within a b n ms h = ranged_inside classed a b n ms h

-- ---- classes reduced by the range's first

abbrev pub reduce : ℕ → Mark → Mark
reduce lo m = record { glyph = m.glyph; class = m.class - lo; anchor = m.anchor }

abbrev pub reduced : ℕ → List Mark → List Mark
reduced lo ms = map (reduce lo) ms

pub reduced_none : (ms : List Mark) → reduced 0 ms ≡ ms
reduced_none [] = refl
reduced_none (m ∷ ms) =
    let z : m.class - 0 ≡ m.class = omega arith in
    ap₂ (λ (x : Mark) (y : List Mark). x ∷ y) (λ i. record { glyph = m.glyph; class = z i; anchor = m.anchor }) (reduced_none ms)

-- some classes of a range, in either order
pub within_reduced : (lo hi a b : ℕ) (ms : List Mark) → lo + b ≤ hi → marks_within a b (reduced lo (marks_within lo hi ms)) ≡ reduced lo (marks_within (lo + a) (lo + b) ms)
unfolding marks_within
within_reduced lo hi a b ms h = ranged_moved classed (reduce lo) lo hi a b (λ m. refl) h ms

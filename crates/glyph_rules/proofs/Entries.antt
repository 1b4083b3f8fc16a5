-- Covered glyphs of a range of items, and with their items counted from its first. Assumes nothing.
use Prim.Native.Nat.{ℕ, zero, suc, ◌+◌, ◌-◌, ◌<◌, ◌≤◌, min}
use mathlib.Core.Path.{◌≡◌, refl, sym, ap, ap₂, ◌∙◌}
use mathlib.Core.Bool.{Bool, cond, ◌&&◌}
use mathlib.Core.List.{List, [], ◌∷◌, ◌++◌, map, append-nil}
use mathlib.Core.Logic.{◌⊎◌, inl, inr}
use native.Mathlib.Omega.{arith}
use lib.Dec.{leb, ltb}
use borrow.Author.Tests.{lt-leb, le-leb, lt-ltb, le-ltb}
use Rattle.folds.specs.Folds.{upto, flat}
use Rattle.folds.specs.Lists.{sift}
use Rattle.folds.proofs.Tests.{either}
use Rattle.folds.proofs.Picked.{sift-append}
use Rattle.folds.proofs.Each.{each_sift, each_then, Each}
use Rattle.folds.proofs.InRange.{ranged_each, ranged_inside, ranged_moved}
use Rattle.ot_layouts.specs.Coverage.{Entry, Ascends, Under}
use Rattle.ot_layouts.proofs.Runs.{ascends_sift, under_sift}
use Rattle.ot_layouts.proofs.RunStarts.{entry}
use Rattle.ot_layouts.proofs.Entries.{Agrees}
use Rattle.glyph_rules.specs.Entries.{within, reduced}

-- ---- within a range

-- the entry's item lies in the range
abbrev pub in_range : ℕ → ℕ → Entry → Bool
in_range lo hi e = leb lo e.class && ltb e.class hi

within_places : (h : ℕ → ℕ) (lo hi n : ℕ) → sift (in_range lo hi) (upto (λ k. entry (h k) k) n) ≡ upto (λ k. entry (h (lo + k)) (lo + k)) (min n hi - lo)
unfolding flat sift
within_places h lo hi zero = let z : min 0 hi - lo ≡ 0 = omega arith in ap (λ (m : ℕ). upto (λ k. entry (h (lo + k)) (lo + k)) m) (sym z)
within_places h lo hi (suc n) =
    sift-append (in_range lo hi) (upto (λ k. entry (h k) k) n) (entry (h n) n ∷ [])
    ∙ ap (λ (x : List Entry). x ++ sift (in_range lo hi) (entry (h n) n ∷ [])) (within_places h lo hi n)
    ∙ last (either n lo) (either n hi)
  where
    last : (n < lo) ⊎ (lo ≤ n) → (n < hi) ⊎ (hi ≤ n)
        → upto (λ k. entry (h (lo + k)) (lo + k)) (min n hi - lo) ++ cond (leb lo n && ltb n hi) (entry (h n) n ∷ []) []
        ≡ upto (λ k. entry (h (lo + k)) (lo + k)) (min (suc n) hi - lo)
    last (inl a) d =
        let z : min n hi - lo ≡ min (suc n) hi - lo = omega arith in
        rw (lt-leb lo n a) (append-nil (upto (λ k. entry (h (lo + k)) (lo + k)) (min n hi - lo)) ∙ ap (λ (m : ℕ). upto (λ k. entry (h (lo + k)) (lo + k)) m) z)
    last (inr a) (inl b) =
        let z : min (suc n) hi - lo ≡ suc (min n hi - lo) = omega arith in
        let y : n ≡ lo + (min n hi - lo) = omega arith in
        rw (le-leb lo n a, lt-ltb n hi b)
        (ap (λ (m : ℕ). upto (λ k. entry (h (lo + k)) (lo + k)) (min n hi - lo) ++ (entry (h m) m ∷ [])) y
        ∙ ap (λ (m : ℕ). upto (λ k. entry (h (lo + k)) (lo + k)) m) (sym z))
    last (inr a) (inr b) =
        let z : min n hi - lo ≡ min (suc n) hi - lo = omega arith in
        rw (le-leb lo n a, le-ltb n hi b) (append-nil (upto (λ k. entry (h (lo + k)) (lo + k)) (min n hi - lo)) ∙ ap (λ (m : ℕ). upto (λ k. entry (h (lo + k)) (lo + k)) m) z)

pub within_upto : (h : ℕ → ℕ) (lo hi n : ℕ) → within lo hi (upto (λ k. entry (h k) k) n) ≡ upto (λ k. entry (h (lo + k)) (lo + k)) (min n hi - lo)
unfolding within
within_upto h lo hi n = within_places h lo hi n

pub within_within : (hi n : ℕ) (es : List Entry) → hi ≤ n → within 0 hi (within 0 n es) ≡ within 0 hi es
unfolding within
within_within hi n es h = ranged_inside (λ (e : Entry). e.class) 0 hi n es h

pub within_ascends : (lo hi : ℕ) (es : List Entry) (n : ℕ) → Ascends n es → Ascends n (within lo hi es)
unfolding within
within_ascends lo hi es n a = ascends_sift (in_range lo hi) es n a

pub within_under : (lo hi : ℕ) (es : List Entry) (n : ℕ) → Under n es → Under n (within lo hi es)
unfolding within
within_under lo hi es n u = under_sift (in_range lo hi) es n u

pub within_agrees : (f : ℕ → ℕ) (lo hi : ℕ) (es : List Entry) → Agrees f es → Agrees f (within lo hi es)
unfolding within
within_agrees f lo hi es a = each_sift (λ (e : Entry). f e.glyph ≡ e.class) (λ (e : Entry). f e.glyph ≡ e.class) (in_range lo hi) (λ e h q. h) es a

-- no item of a range lies before it
pub within_low : (lo hi : ℕ) (es : List Entry) → Each (λ e. lo ≤ e.class) (within lo hi es)
unfolding within
within_low lo hi es =
    each_then (λ (e : Entry). (lo ≤ e.class) × (e.class < hi)) (λ e. lo ≤ e.class) (λ e (a, b). a) (within lo hi es) (ranged_each (λ (e : Entry). e.class) lo hi es)

-- ---- reduced by its first

pub reduced_none : (es : List Entry) → reduced 0 es ≡ es
reduced_none [] = refl
reduced_none (e ∷ es) = let z : e.class - 0 ≡ e.class = omega arith in ap₂ (λ (x : Entry) (y : List Entry). x ∷ y) (ap (entry e.glyph) z) (reduced_none es)

-- the first n items of a range, in either order
pub within_reduced : (lo hi n : ℕ) (es : List Entry) → lo + n ≤ hi → within 0 n (reduced lo (within lo hi es)) ≡ reduced lo (within lo (lo + n) es)
unfolding within
within_reduced lo hi n es h =
    let z : lo + 0 ≡ lo = omega arith in
    ranged_moved (λ (e : Entry). e.class) (λ e. entry e.glyph (e.class - lo)) lo hi 0 n (λ e. refl) h es
    ∙ ap (λ (a : ℕ). reduced lo (sift (in_range a (lo + n)) es)) z

pub reduced_glyphs : (k : ℕ) (es : List Entry) → map (λ e. e.glyph) (reduced k es) ≡ map (λ e. e.glyph) es
reduced_glyphs k [] = refl
reduced_glyphs k (e ∷ es) = ap {B = List ℕ} (λ x. e.glyph ∷ x) (reduced_glyphs k es)

pub ascends_reduced : (k : ℕ) (es : List Entry) (lo : ℕ) → Ascends lo es → Ascends lo (reduced k es)
ascends_reduced k [] lo a = tt
ascends_reduced k (e ∷ es) lo a = (a.0, ascends_reduced k es (e.glyph + 1) a.1)

pub under_reduced : (k : ℕ) (es : List Entry) (n : ℕ) → Under n es → Under n (reduced k es)
under_reduced k [] n a = tt
under_reduced k (e ∷ es) n a = (a.0, under_reduced k es n a.1)

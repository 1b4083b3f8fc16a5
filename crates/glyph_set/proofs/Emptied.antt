-- A set that was empty is empty again once the byte of each glyph that was put in is emptied. Assumes nothing.
use Prim.Native.Nat.{ℕ, ◌/◌, ◌%◌, ◌^◌}
use mathlib.Core.Path.{◌≡◌, refl, sym, ◌∙◌}
use mathlib.Core.Bool.{Bool, true, false, cond}
use mathlib.Core.List.{List, [], ◌∷◌, ◌++◌}
use mathlib.Core.Logic.{⊎_elim}
use native.Mathlib.Decide.{ℕ_discrete}
use native.Mathlib.Nat.{zero-div}
use native.Mathlib.Omega.{arith}
use lib.Bits.{bit_or}
use lib.Dec.{eqb}
use lib.ListN.{length, get_or, get_or-eq_default}
use lib.Seq.{get_or-set_same, get_or-set_other, set_out, ext_get_or}
use borrow.Author.Tests.{ne_eqb, eqb-true, eqb-false}
use Rattle.folds.proofs.Tests.{by_test, either, true_false}
use Rattle.glyph_set.specs.GlyphSet.{member, mark, blank, mark_all, blank_all, Empty}
use Rattle.glyph_set.proofs.Marks.{length-mark, length-blank}

pub member_empty : (s : List ℕ) → Empty s → (g : ℕ) → member s g ≡ false
unfolding member
member_empty s z g = rw (z (g / 8)) (ne_eqb (0 / 2 ^ (g % 8) % 2) 1 (omega (arith, zero-div (2 ^ (g % 8)))))

-- ---- one glyph after the other

pub mark_all-more : (s gs : List ℕ) (g : ℕ) → mark_all s (gs ++ (g ∷ [])) ≡ mark (mark_all s gs) g
unfolding mark_all
mark_all-more s [] g = refl
mark_all-more s (x ∷ gs) g = mark_all-more (mark s x) gs g

pub blank_all-more : (s gs : List ℕ) (g : ℕ) → blank_all s (gs ++ (g ∷ [])) ≡ blank (blank_all s gs) g
unfolding blank_all
blank_all-more s [] g = refl
blank_all-more s (x ∷ gs) g = blank_all-more (blank s x) gs g

pub length-mark_all : (s gs : List ℕ) → length (mark_all s gs) ≡ length s
unfolding mark_all
length-mark_all s [] = refl
length-mark_all s (g ∷ gs) = length-mark_all (mark s g) gs ∙ length-mark s g

pub length-blank_all : (s gs : List ℕ) → length (blank_all s gs) ≡ length s
unfolding blank_all
length-blank_all s [] = refl
length-blank_all s (g ∷ gs) = length-blank_all (blank s g) gs ∙ length-blank s g

-- ---- byte by byte

-- a glyph of the list has its bit in byte i
touches : List ℕ → ℕ → Bool
touches [] i = false
touches (g ∷ gs) i = cond (eqb (g / 8) i) true (touches gs i)

untouched : (s gs : List ℕ) (i : ℕ) → touches gs i ≡ false → get_or (mark_all s gs) i 0 ≡ get_or s i 0
unfolding mark_all touches mark
untouched s [] i h = refl
untouched s (g ∷ gs) i h =
    by_test (eqb (g / 8) i)
    (λ t. true_false (rw t at h))
    (λ t.
    untouched (mark s g) gs i (rw t at h)
    ∙ get_or-set_other s (g / 8) i (bit_or (get_or s (g / 8) 0) (2 ^ (g % 8))) 0 (λ e. eqb-false (g / 8) i t (sym e)))

blank_here : (t : List ℕ) (g : ℕ) → get_or (blank t g) (g / 8) 0 ≡ 0
unfolding blank
blank_here t g =
    ⊎_elim (λ l. get_or-set_same t (g / 8) 0 0 l) (λ l. rw (set_out t (g / 8) 0 l) (get_or-eq_default t 0 l)) (either (g / 8) (length t))

blank_keeps : (t : List ℕ) (g i : ℕ) → get_or t i 0 ≡ 0 → get_or (blank t g) i 0 ≡ 0
unfolding blank
blank_keeps t g i z = go (ℕ_discrete i (g / 8))
  where
    go : Dec (i ≡ g / 8) → get_or (blank t g) i 0 ≡ 0
    go (yes e) = rw e (blank_here t g)
    go (no e) = get_or-set_other t (g / 8) i 0 0 e ∙ z

all_keep : (t gs : List ℕ) (i : ℕ) → get_or t i 0 ≡ 0 → get_or (blank_all t gs) i 0 ≡ 0
unfolding blank_all
all_keep t [] i z = z
all_keep t (g ∷ gs) i z = all_keep (blank t g) gs i (blank_keeps t g i z)

touched : (t gs : List ℕ) (i : ℕ) → touches gs i ≡ true → get_or (blank_all t gs) i 0 ≡ 0
unfolding blank_all touches
touched t [] i h = true_false (sym h)
touched t (g ∷ gs) i h =
    by_test (eqb (g / 8) i)
    (λ e. all_keep (blank t g) gs i (let q : g / 8 ≡ i = eqb-true (g / 8) i e in rw (← q) (blank_here t g)))
    (λ e. touched (blank t g) gs i (rw e at h))

pub emptied : (s gs : List ℕ) → Empty s → blank_all (mark_all s gs) gs ≡ s
emptied s gs z =
    ext_get_or 0 (blank_all (mark_all s gs) gs) s (length-blank_all (mark_all s gs) gs ∙ length-mark_all s gs)
    (λ i l.
    by_test (touches gs i)
    (λ t. touched (mark_all s gs) gs i t)
    (λ t. all_keep (mark_all s gs) gs i (untouched s gs i t ∙ z i))
    ∙ sym (z i))

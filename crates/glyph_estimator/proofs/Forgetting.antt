-- Glyphs taken out of the set one after the other; put in class by class, and all taken out again. Assumes nothing.
use Prim.Native.Nat.{ℕ, ◌+◌, ◌-◌, ◌<◌, ◌≤◌}
use mathlib.Core.Path.{◌≡◌, refl, sym, ap, ◌∙◌}
use mathlib.Core.List.{List, [], ◌∷◌, ◌++◌}
use native.Mathlib.Numerals.{add-one}
use native.Mathlib.Omega.{arith}
use lib.ListN.{length, take, drop, get_or}
use lib.Seq.{take-suc, take_all, take-add, drop-drop}
use Rattle.folds.specs.Lists.{part}
use Rattle.glyph_set.specs.GlyphSet.{mark, blank, mark_all, blank_all, Empty}
use Rattle.glyph_set.proofs.Emptied.{blank_all-more, length-blank_all, emptied}

-- the set t is s without the first k glyphs of gs
pub record Forgets (s gs t : List ℕ) (k : ℕ) : Type 0 where
  pub some : k ≤ length gs
  pub blanked : t ≡ blank_all s (take k gs)
  pub long : length t ≡ length s

module _ (s gs : List ℕ) where
  pub forget_start : Forgets s gs s 0
  unfolding blank_all
  forget_start = record { some = omega arith; blanked = refl; long = refl }

  pub forget_turn : (t : List ℕ) (k : ℕ) → Forgets s gs t k → k < length gs → (u : List ℕ) → u ≡ blank t (get_or gs k 0) → Forgets s gs u (k + 1)
  forget_turn t k f l u b =
      let e : u ≡ blank_all s (take (k + 1) gs)
      = b ∙ ap (λ (x : List ℕ). blank x (get_or gs k 0)) f.blanked ∙ sym (blank_all-more s (take k gs) (get_or gs k 0)) ∙ rw (add-one k, take-suc gs k 0 l) in
      record { some = omega arith; blanked = e; long = ap length e ∙ length-blank_all s (take (k + 1) gs) }

  pub forget_stop : (t : List ℕ) (k : ℕ) → Forgets s gs t k → length gs ≤ k → t ≡ blank_all s gs
  forget_stop t k f l = f.blanked ∙ ap (blank_all s) (take_all k gs l)

-- ---- put in before

pub mark_all-append : (s gs hs : List ℕ) → mark_all s (gs ++ hs) ≡ mark_all (mark_all s gs) hs
unfolding mark_all
mark_all-append s [] hs = refl
mark_all-append s (g ∷ gs) hs = mark_all-append (mark s g) gs hs

-- the glyphs of one class behind those of others, in a list that is ordered by class
pub marked_behind : (s gs : List ℕ) (lo mid hi : ℕ) → lo ≤ mid → mid ≤ hi → (t u : List ℕ) → t ≡ mark_all s (part gs lo mid) → u ≡ mark_all t (part gs mid hi) → u ≡ mark_all s (part gs lo hi)
marked_behind s gs lo mid hi a b t u p q =
    q
    ∙ ap (λ (x : List ℕ). mark_all x (part gs mid hi)) p
    ∙ sym (mark_all-append s (part gs lo mid) (part gs mid hi))
    ∙ ap (mark_all s) joined
  where
    joined : part gs lo mid ++ part gs mid hi ≡ part gs lo hi
    joined =
        let m : mid ≡ lo + (mid - lo) = omega arith in
        let n : mid - lo + (hi - mid) ≡ hi - lo = omega arith in
        ap (λ (d : List ℕ). part gs lo mid ++ take (hi - mid) d) (ap (λ (k : ℕ). drop k gs) m ∙ sym (drop-drop (mid - lo) lo gs))
        ∙ sym (take-add (mid - lo) (hi - mid) (drop lo gs))
        ∙ ap (λ (k : ℕ). take k (drop lo gs)) n

-- all that was put into an empty set taken out again
pub forgotten : (s gs t u : List ℕ) → Empty s → t ≡ mark_all s gs → u ≡ blank_all t gs → u ≡ s
forgotten s gs t u z p q = q ∙ ap (λ (x : List ℕ). blank_all x gs) p ∙ emptied s gs z

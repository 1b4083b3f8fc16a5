-- The items of one table stand together: where they are parted, and the entries of a table as a part of all. Assumes nothing.
use Prim.Native.Nat.{ℕ, zero, suc, ◌-◌, ◌<◌, ◌≤◌}
use mathlib.Core.Path.{◌≡◌, refl, ap, ◌∙◌}
use mathlib.Core.Bool.{Bool, true, false, ◌&&◌}
use mathlib.Core.List.{List, [], ◌∷◌, map}
use mathlib.Core.Logic.{⊎_elim}
use native.Mathlib.Omega.{arith}
use lib.ListN.{length, get_or, take, drop, length-drop}
use lib.Dec.{leb, ltb}
use borrow.Author.Tests.{lt-leb, le-leb, lt-ltb, le-ltb}
use Rattle.folds.specs.Lists.{part}
use Rattle.folds.proofs.Tests.{either, and_first, and_second, and_intro}
use Rattle.ot_layouts.specs.Coverage.{Entry}
use Rattle.ot_layouts.proofs.RunStarts.{entry}
use Rattle.glyph_rules.specs.Entries.{within}
use Rattle.glyph_rules.proofs.Entries.{in_range}
use Rattle.cut_parts.specs.Tables.{paired, PartEnd, Halved}
use Rattle.cut_parts.proofs.Sifting.{sift-part}

-- ---- where items are parted

pub halved_none : (ks : List ℕ) → Halved ks 0 0
halved_none ks = record { inside = omega arith; low = λ i l. absurd (omega arith); high = λ i l m. omega arith }

-- the next part ends where the items reach the next bound
pub halved_next : (ks : List ℕ) (lo hi a r : ℕ) → ((i j : ℕ) → i ≤ j → j < length ks → get_or ks j 0 < hi → get_or ks i 0 < hi) → lo ≤ hi → Halved ks lo a → PartEnd ks a hi r → Halved ks hi r
halved_next ks lo hi a r parted l v e =
    record {
      inside = e.inside;
      low = λ i m. ⊎_elim (λ lt. let z : get_or ks i 0 < lo = v.low i lt in omega arith) (λ ge. e.below i ge m) (either i a);
      high = λ i m k. ⊎_elim (λ lt. let no : ⊥ = omega (arith, parted r i m k lt, e.above (omega arith)) in absurd no) (λ ge. ge) (either (get_or ks i 0) hi);
    }

-- ---- entries

pub paired_glyphs : (gs ks : List ℕ) → length ks ≡ length gs → map (λ (e : Entry). e.glyph) (paired gs ks) ≡ gs
unfolding paired
paired_glyphs [] ks e = refl
paired_glyphs (g ∷ gs) [] e = absurd (omega arith)
paired_glyphs (g ∷ gs) (k ∷ ks) e = ap {B = List ℕ} (λ x. g ∷ x) (paired_glyphs gs ks (omega arith))

pub paired_items : (gs ks : List ℕ) → length ks ≡ length gs → map (λ (e : Entry). e.class) (paired gs ks) ≡ ks
unfolding paired
paired_items [] [] e = refl
paired_items [] (k ∷ ks) e = absurd (omega arith)
paired_items (g ∷ gs) [] e = absurd (omega arith)
paired_items (g ∷ gs) (k ∷ ks) e = ap {B = List ℕ} (λ x. k ∷ x) (paired_items gs ks (omega arith))

pub length-paired : (gs ks : List ℕ) → length ks ≡ length gs → length (paired gs ks) ≡ length gs
unfolding paired
length-paired [] ks e = refl
length-paired (g ∷ gs) [] e = absurd (omega arith)
length-paired (g ∷ gs) (k ∷ ks) e = ap suc (length-paired gs ks (omega arith))

paired_take : (n : ℕ) (gs ks : List ℕ) → length ks ≡ length gs → take n (paired gs ks) ≡ paired (take n gs) (take n ks)
unfolding paired
paired_take zero gs ks e = refl
paired_take (suc n) [] ks e = refl
paired_take (suc n) (g ∷ gs) [] e = absurd (omega arith)
paired_take (suc n) (g ∷ gs) (k ∷ ks) e = ap (λ (x : List Entry). entry g k ∷ x) (paired_take n gs ks (omega arith))

paired_drop : (n : ℕ) (gs ks : List ℕ) → length ks ≡ length gs → drop n (paired gs ks) ≡ paired (drop n gs) (drop n ks)
unfolding paired
paired_drop zero gs ks e = refl
paired_drop (suc n) [] ks e = refl
paired_drop (suc n) (g ∷ gs) [] e = absurd (omega arith)
paired_drop (suc n) (g ∷ gs) (k ∷ ks) e = paired_drop n gs ks (omega arith)

paired_part : (gs ks : List ℕ) (a b : ℕ) → length ks ≡ length gs → part (paired gs ks) a b ≡ paired (part gs a b) (part ks a b)
paired_part gs ks a b e =
    ap (take (b - a)) (paired_drop a gs ks e) ∙ paired_take (b - a) (drop a gs) (drop a ks) (omega (arith, length-drop a ks, length-drop a gs))

class_at : (gs ks : List ℕ) (i : ℕ) → length ks ≡ length gs → (get_or (paired gs ks) i (entry 0 0)).class ≡ get_or ks i 0
unfolding paired
class_at [] [] i e = refl
class_at [] (k ∷ ks) i e = absurd (omega arith)
class_at (g ∷ gs) [] i e = absurd (omega arith)
class_at (g ∷ gs) (k ∷ ks) zero e = refl
class_at (g ∷ gs) (k ∷ ks) (suc i) e = class_at gs ks i (omega arith)

pub paired_maps : (es : List Entry) → paired (map (λ e. e.glyph) es) (map (λ e. e.class) es) ≡ es
unfolding paired
paired_maps [] = refl
paired_maps (e ∷ es) = ap (λ (x : List Entry). e ∷ x) (paired_maps es)

-- the entries of a range are a part of all where the items are parted at its ends
module _ (gs ks : List ℕ) (lo hi a b : ℕ) (same : length ks ≡ length gs) (v : Halved ks lo a) (w : Halved ks hi b) (l : a ≤ b) where
  -- by the item of the entry at i
  at_item : (i : ℕ) (t : Bool) → leb lo (get_or ks i 0) && ltb (get_or ks i 0) hi ≡ t → in_range lo hi (get_or (paired gs ks) i (entry 0 0)) ≡ t
  at_item i t h = ap (λ (k : ℕ). leb lo k && ltb k hi) (class_at gs ks i same) ∙ h

  pub within_part : within lo hi (paired gs ks) ≡ paired (part gs a b) (part ks a b)
  unfolding within
  within_part =
      let n = length-paired gs ks same in
      let q = w.inside in
      sift-part (in_range lo hi) (paired gs ks) (entry 0 0) a b l (omega arith)
      (λ i m. at_item i false (and_first _ _ (lt-leb lo (get_or ks i 0) (v.low i m))))
      (λ i m k. at_item i true (and_intro _ _ (le-leb lo (get_or ks i 0) (v.high i m (omega arith))) (lt-ltb (get_or ks i 0) hi (w.low i k))))
      (λ i m k. at_item i false (and_second (leb lo (get_or ks i 0)) _ (le-ltb (get_or ks i 0) hi (w.high i m (omega arith)))))
      ∙ paired_part gs ks a b same

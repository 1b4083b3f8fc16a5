-- New arrays: how long they are, and the marks read back from what is written. Assumes nothing.
use Prim.Native.Nat.{ℕ, suc, ◌+◌, ◌-◌, ◌*◌, ◌<◌}
use mathlib.Core.Path.{◌≡◌, refl, sym, ap, ◌∙◌}
use mathlib.Core.List.{List, [], ◌∷◌, map, append-nil}
use native.Mathlib.Omega.{arith}
use lib.ListN.{length, get_or, get_or-map, length-replicate}
use Rattle.folds.specs.Folds.{upto, flat}
use Rattle.folds.proofs.Folds.{upto-same}
use Rattle.folds.proofs.FromTheFront.{upto_get_d, length_even, even_at}
use Rattle.folds.proofs.Moved.{map-upto}
use Rattle.ot_layouts.specs.Numbers.{u16_at, be16, words}
use Rattle.ot_layouts.specs.MarkBasePos.{mark_count, mark_class, base_count}
use Rattle.ot_layouts.proofs.Head.{two_bytes}
use Rattle.ot_layouts.proofs.Numbers.{length-words}
use Rattle.ot_layouts.proofs.Words.{words_at}
use Rattle.store_rules.specs.Store.{Store}
use Rattle.mark_rules.specs.Table.{Mark, marks_of, mark_at, glyphs_of, mark_bytes, mark_anchor}
use Rattle.mark_rules.specs.Written.{no_mark, mark_child, new_mark_array, new_base_array}
use Rattle.mark_rules.proofs.Marks.{reduce, reduced}

-- ---- a mark array

module _ (lo : ℕ) (ms : List Mark) where
  -- what stands for mark k: its class, and no offset
  abbrev pub record_of : ℕ → List ℕ
  record_of k = ((get_or ms k no_mark).class - lo) ∷ 0 ∷ []

  abbrev numbers : List ℕ
  numbers = length ms ∷ flat record_of (length ms)

  numbers_many : length numbers ≡ suc (2 * length ms)
  numbers_many = ap suc (length_even record_of 2 (λ j. refl) (length ms))

  pub array_class : (k : ℕ) → k < length ms → mark_class (new_mark_array lo ms) k ≡ (get_or ms k no_mark).class - lo
  unfolding new_mark_array
  array_class k h =
      let place : 2 + 4 * k ≡ 2 * suc (2 * k) = omega arith in
      let even : 2 * k ≡ 2 * k + 0 = omega arith in
      ap (u16_at (words numbers)) place
      ∙ words_at numbers (suc (2 * k)) (omega (arith, numbers_many))
      ∙ ap (λ (i : ℕ). get_or (flat record_of (length ms)) i 0) even
      ∙ ap (λ (xs : List ℕ). get_or xs (2 * k + 0) 0) (sym (append-nil (flat record_of (length ms))))
      ∙ even_at record_of 2 (λ j. refl) [] 0 (length ms) k 0 h (omega arith)

  pub array_count : mark_count (new_mark_array lo ms) ≡ length ms
  unfolding new_mark_array
  array_count = words_at numbers 0 (omega arith)

  pub array_long : length (new_mark_array lo ms) ≡ 2 + 4 * length ms
  unfolding new_mark_array
  array_long = length-words numbers ∙ omega (arith, numbers_many)

-- a table with these glyphs, this mark array, and these anchors at its slots, has these marks
pub marks_back : (s : Store) (u lo : ℕ) (ms : List Mark) → glyphs_of s u ≡ map (λ m. m.glyph) ms → mark_bytes s u ≡ new_mark_array lo ms
    → ((k : ℕ) → k < length ms → mark_anchor s u k ≡ mark_child ms k) → marks_of s u ≡ reduced lo ms
unfolding marks_of mark_at
marks_back s u lo ms g b c =
    ap (λ (n : ℕ). upto (mark_at s u) n) (ap mark_count b ∙ array_count lo ms)
    ∙ upto-same (mark_at s u) (λ k. reduce lo (get_or ms k no_mark)) (length ms) same
    ∙ sym (map-upto (reduce lo) (λ k. get_or ms k no_mark) (length ms))
    ∙ ap (reduced lo) (upto_get_d ms no_mark)
  where
    same : (k : ℕ) → k < length ms → mark_at s u k ≡ reduce lo (get_or ms k no_mark)
    same k l =
        let glyph : get_or (glyphs_of s u) k 0 ≡ (get_or ms k no_mark).glyph
        = ap (λ (y : List ℕ). get_or y k 0) g ∙ get_or-map (λ (m : Mark). m.glyph) ms k no_mark in
        let class : mark_class (mark_bytes s u) k ≡ (get_or ms k no_mark).class - lo = ap (λ (y : List ℕ). mark_class y k) b ∙ array_class lo ms k l in
        λ i. record { glyph = glyph i; class = class i; anchor = c k l i }

-- ---- a base array

pub base_long : (bases classes : ℕ) → length (new_base_array bases classes) ≡ 2 + 2 * (bases * classes)
unfolding new_base_array be16
base_long bases classes = omega (arith, length-replicate {A = ℕ} (2 * (bases * classes)) 0)

pub base_count_lem : (bases classes : ℕ) → base_count (new_base_array bases classes) ≡ bases
unfolding new_base_array be16 u16_at
base_count_lem bases classes = two_bytes bases

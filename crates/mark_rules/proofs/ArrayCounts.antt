-- How many links the arrays of a range of classes have: ranges that meet have theirs together, and all classes have those of the old arrays. Assumes nothing.
use Prim.Native.Nat.{ℕ, zero, suc, ◌+◌, ◌-◌, ◌*◌, ◌/◌, ◌%◌, ◌≤◌}
use mathlib.Core.Path.{◌≡◌, sym, ap, ap₂, ◌∙◌}
use mathlib.Core.List.{List}
use native.Mathlib.Omega.{arith}
use native.Mathlib.Nat.{div-add-mod, mul_comm}
use lib.ListN.{length, length-append}
use Rattle.folds.specs.Folds.{sum}
use Rattle.folds.proofs.Folds.{sum_none}
use Rattle.folds.proofs.FromTheFront.{sum_same}
use Rattle.folds.proofs.Sums.{sum_add, sum-zero}
use Rattle.folds.proofs.TwoParts.{sum_split, sum_blocks}
use Rattle.folds.proofs.InRange.{total, total_sum, ranged_meet}
use Rattle.ot_layouts.specs.MarkBasePos.{mark_slot, base_slot}
use Rattle.store_rules.specs.Store.{Store, child_at}
use Rattle.store_rules.specs.SlotLinks.{links_from}
use Rattle.store_rules.proofs.Sound.{Fits}
use Rattle.store_rules.proofs.SlotLinks.{there, slots_many, slots_all}
use Rattle.mark_rules.specs.Table.{Mark, marks_within, marks_of, mark_at, marks_in, mark_array, mark_anchor, base_array, bases_in, classes_of, base_anchor}
use Rattle.mark_rules.specs.Written.{mark_child, no_mark, base_child, mark_links, base_links, array_links}
use Rattle.mark_rules.specs.Reads.{Reads}
use Rattle.mark_rules.proofs.Checks.{AtSlots, parts_read}
use Rattle.mark_rules.proofs.Marks.{marks_many, mark_is, within_all, classes_low_lem}
use Rattle.mark_rules.proofs.Anchors.{mark_place_lem, base_place_lem}

-- ---- marks

-- how many of the marks have an anchor
abbrev anchored : List Mark → ℕ
anchored ms = total (λ m. there m.anchor) ms

anchored_meet : (a b c : ℕ) → a ≤ b → b ≤ c → (ms : List Mark) → anchored (marks_within a b ms) + anchored (marks_within b c ms) ≡ anchored (marks_within a c ms)
unfolding marks_within
anchored_meet a b c h k ms = ranged_meet (λ (m : Mark). m.class) (λ m. there m.anchor) a b c h k ms

-- those that have one are as many as the slots of the mark array that have a link
anchored_all : (s : Store) (t : ℕ) → anchored (marks_of s t) ≡ sum (λ k. there (mark_anchor s t k)) (marks_in s t)
unfolding mark_at
anchored_all s t =
    let ms = marks_of s t in
    total_sum (λ m. there m.anchor) no_mark ms
    ∙ ap (sum (λ k. there (mark_child ms k))) (marks_many s t)
    ∙ sum_same (λ k. there (mark_child ms k)) (λ k. there (mark_anchor s t k)) (marks_in s t) (λ k l. ap (λ (m : Mark). there m.anchor) (mark_is s t k l))

-- ---- bases

module _ (s : Store) (t : ℕ) where
  -- how many anchors the bases have for the classes lo up to hi
  abbrev based : ℕ → ℕ → ℕ
  based lo hi = sum (λ k. there (base_child s t lo (hi - lo) k)) (bases_in s t * (hi - lo))

  -- base j, for w classes from lo on
  abbrev row : ℕ → ℕ → ℕ → ℕ
  row lo w j = sum (λ c. there (base_anchor s t j (lo + c))) w

  by_base : (lo w : ℕ) → sum (λ k. there (base_child s t lo w k)) (bases_in s t * w) ≡ sum (row lo w) (bases_in s t)
  by_base lo zero =
      let z : bases_in s t * 0 ≡ 0 = omega arith in
      ap (sum (λ k. there (base_child s t lo 0 k))) z
      ∙ sum_none (λ k. there (base_child s t lo 0 k))
      ∙ sym (sum-zero (row lo 0) (bases_in s t) (λ j l. sum_none (λ c. there (base_anchor s t j (lo + c)))))
  by_base lo (suc w) = sum_blocks (λ j c. there (base_anchor s t j (lo + c))) (suc w) (bases_in s t) (omega arith)

  row_meet : (a b c : ℕ) → a ≤ b → b ≤ c → (j : ℕ) → row a (b - a) j + row b (c - b) j ≡ row a (c - a) j
  row_meet a b c h k j =
      let f : ℕ → ℕ = λ i. there (base_anchor s t j (a + i)) in
      let z : c - a ≡ b - a + (c - b) = omega arith in
      let rest : sum (λ i. f (b - a + i)) (c - b) ≡ row b (c - b) j
      = sum_same (λ i. f (b - a + i)) (λ i. there (base_anchor s t j (b + i))) (c - b) (λ i l. ap (λ (n : ℕ). there (base_anchor s t j n)) (omega arith)) in
      sym (ap (sum f) z ∙ sum_split f (b - a) (c - b) ∙ ap (λ (n : ℕ). sum f (b - a) + n) rest)

  based_meet : (a b c : ℕ) → a ≤ b → b ≤ c → based a b + based b c ≡ based a c
  based_meet a b c h k =
      let n = bases_in s t in
      ap₂ (λ (x y : ℕ). x + y) (by_base a (b - a)) (by_base b (c - b))
      ∙ sym (sum_add (row a (b - a)) (row b (c - b)) n)
      ∙ sum_same (λ j. row a (b - a) j + row b (c - b) j) (row a (c - a)) n (λ j l. row_meet a b c h k j)
      ∙ sym (by_base a (c - a))

  -- they are as many as the slots of the base array that have a link
  based_all : based 0 (classes_of s t) ≡ sum (λ k. there (child_at s (base_array s t) (base_slot k))) (bases_in s t * classes_of s t)
  unfolding base_anchor
  based_all = go (classes_of s t - 0) (omega arith)
    where
      linked : ℕ → ℕ
      linked k = there (child_at s (base_array s t) (base_slot k))

      go : (w : ℕ) → w ≡ classes_of s t → sum (λ k. there (base_child s t 0 w k)) (bases_in s t * w) ≡ sum linked (bases_in s t * classes_of s t)
      go w e =
          sum_same (λ k. there (base_child s t 0 w k)) linked (bases_in s t * w)
          (λ k l.
          let slot : k / w * classes_of s t + (0 + k % w) ≡ k
          = ap (λ (n : ℕ). k / w * n + (0 + k % w)) (sym e) ∙ omega (arith, div-add-mod k w, mul_comm w (k / w)) in
          ap linked slot)
          ∙ ap (λ (n : ℕ). sum linked (bases_in s t * n)) e

  -- ---- both

  -- how many links the classes lo up to hi have, in both arrays
  abbrev pub links_in : ℕ → ℕ → ℕ
  links_in lo hi = anchored (marks_within lo hi (marks_of s t)) + based lo hi

  pub links_meet : (a b c : ℕ) → a ≤ b → b ≤ c → links_in a b + links_in b c ≡ links_in a c
  links_meet a b c h k = omega (arith, anchored_meet a b c h k (marks_of s t), based_meet a b c h k)

  pub array_links_lem : (p lo hi : ℕ) → length (array_links s t p lo hi) ≡ links_in lo hi
  unfolding array_links mark_links base_links
  array_links_lem p lo hi =
      let ms = marks_within lo hi (marks_of s t) in
      length-append (mark_links s t p lo hi) (base_links s t (p + 1) lo hi)
      ∙ ap₂ (λ (x y : ℕ). x + y)
      (slots_many p (mark_slot 0) 4 (mark_child ms) (length ms) ∙ sym (total_sum (λ m. there m.anchor) no_mark ms))
      (slots_many (p + 1) (base_slot 0) 2 (base_child s t lo (hi - lo)) (bases_in s t * (hi - lo)))

  -- all classes have the links of the two arrays, each of which stands at a slot
  pub all-links : Reads s t → Fits s → AtSlots s t → links_in 0 (classes_of s t) ≡ links_from s (mark_array s t) + links_from s (base_array s t)
  unfolding mark_anchor
  all-links r f slots =
      let n = classes_of s t in
      let parts = parts_read s t r.parts in
      let marks : anchored (marks_of s t) ≡ links_from s (mark_array s t)
      = anchored_all s t ∙ slots_all s f (mark_array s t) (mark_slot 0) 4 (marks_in s t) (omega arith) (mark_place_lem s t f parts slots) in
      let bases : based 0 n ≡ links_from s (base_array s t)
      = based_all ∙ slots_all s f (base_array s t) (base_slot 0) 2 (bases_in s t * n) (omega arith) (base_place_lem s t f parts slots) in
      ap (λ (ms : List Mark). anchored ms + based 0 n) (within_all n (marks_of s t) (classes_low_lem s t r)) ∙ ap₂ (λ (x y : ℕ). x + y) marks bases

-- The bytes of a new table and of its arrays: how long they are, and written one number behind another. Assumes nothing.
use Prim.Native.Nat.{ℕ, ◌+◌, ◌-◌, ◌*◌, ◌≤◌, ◌<◌}
use mathlib.Core.Path.{◌≡◌, refl, sym, ap, ◌∙◌}
use mathlib.Core.List.{List, [], ◌∷◌, ◌++◌}
use native.Mathlib.Omega.{arith}
use lib.ListN.{length, replicate, length-append, length-replicate}
use Rattle.folds.specs.Folds.{flat}
use Rattle.folds.specs.Lists.{put}
use Rattle.folds.proofs.Folds.{flat_none, flat-more}
use Rattle.folds.proofs.FromTheFront.{length_even}
use Rattle.folds.proofs.Put.{put-nil, put_then}
use Rattle.ot_layouts.specs.Numbers.{be16, words}
use Rattle.ot_layouts.proofs.Numbers.{length-be16, length-words}
use Rattle.ot_layouts.proofs.Words.{words_append}
use Rattle.store_object_rows.specs.Objects.{Laid}
use Rattle.mark_rules.specs.Written.{new_table, new_base_array}
use Rattle.mark_new_table.specs.Arrays.{Classes, mark_of, mark_array_of}

-- ---- how long

pub table_long : (lo hi : ℕ) → length (new_table lo hi) ≡ 12
unfolding new_table
table_long lo hi = length-words (1 ∷ 0 ∷ 0 ∷ (hi - lo) ∷ 0 ∷ 0 ∷ [])

marks_long_lem : (lo : ℕ) (ks : List ℕ) (k : ℕ) → length (words (flat (mark_of lo ks) k)) ≡ 4 * k
marks_long_lem lo ks k = omega (arith, length-words (flat (mark_of lo ks) k), length_even (mark_of lo ks) 2 (λ j. refl) k)

pub array_long : (lo : ℕ) (ks : List ℕ) → length (mark_array_of lo ks) ≡ 2 + 4 * length ks
unfolding mark_array_of words
array_long lo ks =
    let n = length ks in
    omega (arith, length-append (be16 n) (words (flat (mark_of lo ks) n)), length-be16 n, marks_long_lem lo ks n)

pub bases_long_lem : (bases n : ℕ) → length (new_base_array bases n) ≡ 2 + 2 * (bases * n)
unfolding new_base_array
bases_long_lem bases n =
    let many = 2 * (bases * n) in
    omega (arith, length-append (be16 bases) (replicate many 0), length-be16 bases, length-replicate {A = ℕ} many 0)

-- ---- written

pub table_written : (d : List ℕ) {d₁ d₂ d₃ d₄ : List ℕ} (at lo hi : ℕ) → at ≤ length d → d₁ ≡ put d at (be16 1) → d₂ ≡ put d₁ (at + 2) (replicate 4 0)
    → d₃ ≡ put d₂ (at + 6) (be16 (hi - lo)) → d₄ ≡ put d₃ (at + 8) (replicate 4 0) → Laid d at (new_table lo hi) d₄ (at + 12)
unfolding new_table words be16
table_written d at lo hi h e f g k =
    record {
      bytes =
          put_then d at (be16 1 ++ replicate 4 0 ++ be16 (hi - lo)) (at + 8) (replicate 4 0)
          (put_then d at (be16 1 ++ replicate 4 0) (at + 6) (be16 (hi - lo)) (put_then d at (be16 1) (at + 2) (replicate 4 0) e f refl h) g refl h)
          k refl h;
      ends = omega (arith, table_long lo hi);
    }

pub mark_written_lem : (d : List ℕ) {d₁ d₂ : List ℕ} (at c : ℕ) → at ≤ length d → d₁ ≡ put d at (be16 c) → d₂ ≡ put d₁ (at + 2) (be16 0)
    → d₂ ≡ put d at (words (c ∷ 0 ∷ []))
unfolding words be16
mark_written_lem d at c h e f = put_then d at (be16 c) (at + 2) (be16 0) e f refl h

pub bases_written : (d : List ℕ) {d₁ d₂ : List ℕ} (at bases n : ℕ) → at ≤ length d → d₁ ≡ put d at (be16 bases)
    → d₂ ≡ put d₁ (at + 2) (replicate (2 * (bases * n)) 0)
    → Laid d at (new_base_array bases n) d₂ (at + (2 + 2 * (bases * n)))
unfolding new_base_array be16
bases_written d at bases n h e f =
    record {
      bytes = put_then d at (be16 bases) (at + 2) (replicate (2 * (bases * n)) 0) e f refl h;
      ends = omega (arith, bases_long_lem bases n);
    }

-- ---- a mark array, mark by mark

-- the first k marks stand from `first` on
pub record Marking (ks : List ℕ) (lo hi : ℕ) (d₀ d : List ℕ) (first k : ℕ) : Type 0 where
  pub known : Classes ks lo hi
  pub room : first + 4 * length ks ≤ length d₀
  pub some : k ≤ length ks
  pub same : length d ≡ length d₀
  pub is : d ≡ put d₀ first (words (flat (mark_of lo ks) k))

pub marking_start : (ks : List ℕ) (lo hi : ℕ) (d : List ℕ) (first : ℕ) → Classes ks lo hi → first + 4 * length ks ≤ length d → Marking ks lo hi d d first 0
unfolding words
marking_start ks lo hi d first c r =
    record {
      known = c;
      room = r;
      some = omega arith;
      same = refl;
      is = put-nil d first ∙ ap (λ (x : List ℕ). put d first (words x)) (sym (flat_none (mark_of lo ks)));
    }

module _ {ks : List ℕ} {lo hi : ℕ} {d₀ d : List ℕ} {first k : ℕ} (t : Marking ks lo hi d₀ d first k) where
  pub marking_turn : {d' : List ℕ} → k < length ks → length d' ≡ length d → d' ≡ put d (first + 4 * k) (words (mark_of lo ks k))
      → Marking ks lo hi d₀ d' first (k + 1)
  marking_turn l n e =
      let f = mark_of lo ks in
      record {
        known = t.known;
        room = t.room;
        some = omega arith;
        same = n ∙ t.same;
        is =
            put_then d₀ first (words (flat f k)) (first + 4 * k) (words (f k)) t.is e (omega (arith, marks_long_lem lo ks k)) (omega (arith, t.room))
            ∙ ap (put d₀ first) (sym (words_append (flat f k) (f k)) ∙ ap words (sym (flat-more f k)));
      }

  pub marking_stop : {s : List ℕ} (at : ℕ) → length ks ≤ k → first ≡ at + 2 → at ≤ length s → d₀ ≡ put s at (be16 (length ks))
      → Laid s at (mark_array_of lo ks) d (first + 4 * length ks)
  unfolding mark_array_of words be16
  marking_stop {s} at l q h e =
      let f = mark_of lo ks in
      let z : k ≡ length ks = omega (arith, t.some) in
      record {
        bytes = put_then s at (be16 (length ks)) first (words (flat f (length ks))) e (t.is ∙ ap (λ (n : ℕ). put d₀ first (words (flat f n))) z) q h;
        ends = omega (arith, array_long lo ks);
      }

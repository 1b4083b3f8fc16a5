-- What is in the set after a glyph is put in, and after its byte is emptied. Assumes nothing.
use Prim.Native.Nat.{ℕ, ◌*◌, ◌/◌, ◌%◌, ◌^◌, ◌<◌}
use mathlib.Core.Path.{◌≡◌, ap}
use mathlib.Core.Bool.{true}
use mathlib.Core.List.{List}
use native.Mathlib.Decide.{ℕ_discrete}
use native.Mathlib.Omega.{arith}
use lib.Bits.{bit_or}
use lib.Dec.{eqb}
use lib.ListN.{length, get_or, set, length-set}
use lib.Seq.{get_or-set_same, get_or-set_other}
use borrow.Author.Tests.{eq-eqb}
use Rattle.folds.proofs.Bits.{one_shifted, bit_or_lem, bit_same, bit_other}
use Rattle.glyph_set.specs.GlyphSet.{member, mark, blank}

pub length-mark : (s : List ℕ) (g : ℕ) → length (mark s g) ≡ length s
unfolding mark
length-mark s g = length-set s (g / 8) (bit_or (get_or s (g / 8) 0) (2 ^ (g % 8)))

pub length-blank : (s : List ℕ) (g : ℕ) → length (blank s g) ≡ length s
unfolding blank
length-blank s g = length-set s (g / 8) 0

-- ---- put in

-- a one, shifted up to the glyph's bit
pub mark_shifted : (s : List ℕ) (g : ℕ) → set s (g / 8) (bit_or (get_or s (g / 8) 0) (1 * 2 ^ (g % 8) % 2 ^ 8)) ≡ mark s g
unfolding mark
mark_shifted s g = ap (λ (n : ℕ). set s (g / 8) (bit_or (get_or s (g / 8) 0) n)) (one_shifted (g % 8) 8 (omega arith))

module _ (s : List ℕ) (g : ℕ) (l : g / 8 < length s) where
  byte : ℕ
  byte = get_or s (g / 8) 0

  -- the byte of g, marked
  marked : ℕ
  marked = bit_or byte (2 ^ (g % 8))

  pub mark_here : member (mark s g) g ≡ true
  unfolding member mark byte marked
  mark_here =
      let one : marked / 2 ^ (g % 8) % 2 ≡ 1 = omega (arith, bit_or_lem byte (2 ^ (g % 8)) (g % 8), bit_same (g % 8)) in
      rw (get_or-set_same s (g / 8) marked 0 l) (eq-eqb (marked / 2 ^ (g % 8) % 2) 1 one)

  pub mark_other : (k : ℕ) → (k ≡ g → ⊥) → member (mark s g) k ≡ member s k
  unfolding member mark byte marked
  mark_other k ne = ap (λ (n : ℕ). eqb n 1) (go (ℕ_discrete (k / 8) (g / 8)))
    where
      go : Dec (k / 8 ≡ g / 8) → get_or (set s (g / 8) marked) (k / 8) 0 / 2 ^ (k % 8) % 2 ≡ get_or s (k / 8) 0 / 2 ^ (k % 8) % 2
      go (no q) = ap (λ (n : ℕ). n / 2 ^ (k % 8) % 2) (get_or-set_other s (g / 8) (k / 8) marked 0 q)
      go (yes q) =
          rw (q, get_or-set_same s (g / 8) marked 0 l)
          (omega (arith, bit_or_lem byte (2 ^ (g % 8)) (k % 8), bit_other (g % 8) (k % 8) (omega arith)))

-- What stands behind a head of known length; format and count are the first four bytes of a Coverage, and of a ClassDef in ranges. Assumes nothing.
use Prim.Native.Nat.{ℕ, ◌+◌, ◌*◌, ◌/◌, ◌%◌}
use mathlib.Core.Path.{◌≡◌, refl, ap₂, ◌∙◌}
use mathlib.Core.List.{List, ◌++◌}
use native.Mathlib.Omega.{arith}
use lib.ListN.{length, get_or}
use lib.Seq.{get_or-append-add}
use Rattle.ot_layouts.specs.Numbers.{u16_at, be16}

pub two_bytes : (v : ℕ) → 256 * (v / 256) + v % 256 ≡ v
two_bytes v = omega arith

pub u16_at_past : (pre xs : List ℕ) (n i : ℕ) → length pre ≡ n → u16_at (pre ++ xs) (n + i) ≡ u16_at xs i
unfolding u16_at
u16_at_past pre xs n i h =
    let e : n + i ≡ length pre + i = omega arith in
    let f : n + i + 1 ≡ length pre + (i + 1) = omega arith in
    ap₂ (λ (a b : ℕ). 256 * get_or (pre ++ xs) a 0 + get_or (pre ++ xs) b 0) e f
    ∙ ap₂ (λ (a b : ℕ). 256 * a + b) (get_or-append-add pre xs i 0) (get_or-append-add pre xs (i + 1) 0)

module _ (f n : ℕ) (xs : List ℕ) where
  pub head_format : u16_at (be16 f ++ be16 n ++ xs) 0 ≡ f
  unfolding be16 u16_at
  head_format = two_bytes f

  pub head_count_lem : u16_at (be16 f ++ be16 n ++ xs) 2 ≡ n
  unfolding be16 u16_at
  head_count_lem = two_bytes n

  pub head_past : (i : ℕ) → u16_at (be16 f ++ be16 n ++ xs) (4 + i) ≡ u16_at xs i
  unfolding be16
  head_past i = u16_at_past (be16 f ++ be16 n) xs 4 i refl

  pub head_length : length (be16 f ++ be16 n ++ xs) ≡ 4 + length xs
  unfolding be16
  head_length = omega arith

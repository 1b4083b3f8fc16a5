-- Lists of bytes. Assumes nothing.
use Prim.Native.Nat.{ℕ, zero, suc, ◌+◌, ◌-◌, ◌<◌, ◌≤◌}
use mathlib.Core.Path.{◌≡◌, refl, ap}
use mathlib.Core.List.{List, [], ◌∷◌, ◌++◌}
use mathlib.Core.Logic.{⊎_elim}
use native.Mathlib.Omega.{arith}
use lib.ListN.{get_or, get_or-append, length, replicate, get_or-replicate, get_or-eq_default, length-replicate, length-take, drop}
use Rattle.folds.specs.Folds.{flat}
use Rattle.folds.specs.Lists.{put, part, join, Bytes}
use Rattle.folds.proofs.Tests.{either}
use Rattle.folds.proofs.Put.{put-below, put-above}
use Rattle.folds.proofs.Parts.{part_at}
use Rattle.folds.proofs.Each.{Each}
use Rattle.folds.proofs.Offsets.{past_at, put-at}

pub bytes_none : Bytes []
bytes_none i = omega arith

pub bytes_append : (xs ys : List ℕ) → Bytes xs → Bytes ys → Bytes (xs ++ ys)
bytes_append xs ys a b i =
    ⊎_elim (λ lt. omega (arith, get_or-append xs ys 0 i lt, a i)) (λ ge. omega (arith, past_at xs ys (length xs) i refl ge, b (i - length xs))) (either i (length xs))

pub bytes_zeros : (n : ℕ) → Bytes (replicate n 0)
bytes_zeros n i = ⊎_elim (λ lt. omega (arith, get_or-replicate {A = ℕ} n i 0 0 lt)) (λ ge. omega (arith, get_or-eq_default {A = ℕ} (replicate n 0) 0 {n = i} (omega (arith, length-replicate {A = ℕ} n 0)))) (either i n)

pub bytes_flat : (f : ℕ → List ℕ) (n : ℕ) → ((j : ℕ) → Bytes (f j)) → Bytes (flat f n)
unfolding flat
bytes_flat f zero h = bytes_none
bytes_flat f (suc n) h = bytes_append (flat f n) (f n) (bytes_flat f n h) (h n)

pub bytes_put : (d : List ℕ) (a : ℕ) (xs : List ℕ) → a ≤ length d → Bytes d → Bytes xs → Bytes (put d a xs)
bytes_put d a xs l p q i =
    ⊎_elim (λ lt. omega (arith, put-below d a xs l i lt, p i))
    (λ ge. ⊎_elim (λ lt. let z : a + (i - a) ≡ i = omega arith in omega (arith, ap (λ (n : ℕ). get_or (put d a xs) n 0) z, put-at d a xs l (i - a) (omega arith), q (i - a))) (λ far. omega (arith, put-above d a xs l i far, p i)) (either i (a + length xs))) (either i a)

pub bytes_part : (b : List ℕ) (lo hi : ℕ) → Bytes b → Bytes (part b lo hi)
bytes_part b lo hi h i = ⊎_elim (λ lt. let z = part_at b lo hi i lt in omega (arith, h (lo + i))) (λ ge. past ge) (either i (hi - lo))
  where
    past : hi - lo ≤ i → get_or (part b lo hi) i 0 < 256
    past ge = omega (arith, get_or-eq_default (part b lo hi) 0 {n = i} (omega (arith, length-take (hi - lo) (drop lo b))))

pub bytes_join : (xs : List (List ℕ)) → Each Bytes xs → Bytes (join xs)
unfolding join
bytes_join [] a = bytes_none
bytes_join (x ∷ xs) a = bytes_append x (join xs) a.0 (bytes_join xs a.1)

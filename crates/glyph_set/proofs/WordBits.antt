-- A word: the runs that start in it are the ones of a mask, and its bits are glyphs of the set. Assumes nothing.
use Prim.Native.Nat.{ℕ, zero, suc, ◌+◌, ◌-◌, ◌*◌, ◌/◌, ◌%◌, ◌^◌, ◌<◌, ◌≤◌, min}
use mathlib.Core.Path.{◌≡◌, sym, ap, ap₂, ◌∙◌}
use mathlib.Core.List.{List}
use mathlib.Core.Logic.{⊎_elim}
use native.Mathlib.Nat.{mod-lt, pow-suc, not-suc-le-zero}
use native.Mathlib.Omega.{arith}
use lib.Bits.{bit_and, bit_or, and_step, and_le_l, or_shifted}
use lib.Count.{ones, ones_step, ones-le}
use lib.Dec.{eqb, lit<}
use lib.ListN.{get_or}
use lib.Pow.{pow_pos, mod-pow-add, mod-mod-pow, field, high, low, shr-shr}
use Rattle.folds.proofs.Tests.{either}
use Rattle.glyph_set.specs.GlyphSet.{member}
use Rattle.glyph_set.specs.Words.{starts_at, starts_in, WordOf}

-- ---- the runs that start in it

ones_and : (w m : ℕ) → ones (bit_and w m) ≡ min (w % 2) (m % 2) + ones (bit_and (w / 2) (m / 2))
ones_and w m = ones_step (bit_and w m) ∙ ap₂ (λ (a b : ℕ). a + ones b) odd half
  where
    odd : bit_and w m % 2 ≡ min (w % 2) (m % 2)
    odd = omega (arith, and_step w m)

    half : bit_and w m / 2 ≡ bit_and (w / 2) (m / 2)
    half = omega (arith, and_step w m)

-- the bits that have none before them: those of k bits r, moved up by one and behind c, turned over
abbrev mask : ℕ → ℕ → ℕ → ℕ
mask k r c = (2 ^ suc k - 1) - (r * 2 + c)

mask_odd : (k r c : ℕ) → r < 2 ^ k → c < 2 → mask k r c % 2 ≡ 1 - c
mask_odd k r c h hc = omega (arith, pow-suc 2 k)

mask_half : (k r c : ℕ) → r < 2 ^ k → c < 2 → mask k r c / 2 ≡ (2 ^ k - 1) - r
mask_half k r c h hc = omega (arith, pow-suc 2 k)

starts_ones : (k w c : ℕ) → w < 2 ^ suc k → c < 2 → ones (bit_and w (mask k (w % 2 ^ k) c)) ≡ starts_in (suc k) w c
unfolding starts_in starts_at ones
starts_ones zero w c h hc =
    ones_and w (mask 0 (w % 1) c)
    ∙ ap₂ (λ (a b : ℕ). min (w % 2) a + ones (bit_and b (mask 0 (w % 1) c / 2))) (mask_odd 0 (w % 1) c (mod-lt w (lit< tt)) hc) none
  where
    none : w / 2 ≡ 0
    none = omega arith
starts_ones (suc k) w c h hc =
    ones_and w (mask (suc k) r c)
    ∙ ap₂ (λ (a b : ℕ). min (w % 2) a + ones (bit_and (w / 2) b)) (mask_odd (suc k) r c rl hc) (mask_half (suc k) r c rl hc ∙ next)
    ∙ ap (λ (n : ℕ). min (w % 2) (1 - c) + n) (starts_ones k (w / 2) (w % 2) (omega (arith, pow-suc 2 (suc k))) (mod-lt w (lit< tt)))
  where
    r : ℕ
    r = w % 2 ^ suc k

    rl : r < 2 ^ suc k
    rl = mod-lt w (pow_pos (suc k))

    next : (2 ^ suc k - 1) - r ≡ mask k (w / 2 % 2 ^ k) (w % 2)
    next = ap (λ (n : ℕ). (2 ^ suc k - 1) - n) (ap (λ (n : ℕ). w % 2 ^ n) (omega arith) ∙ mod-pow-add w k 1)

-- of 64 bits
pub word_starts : (w c : ℕ) → w < 2 ^ 64 → c < 2 → ones (bit_and w ((2 ^ 64 - 1) - bit_or ((w * 2) % 2 ^ 64) c)) ≡ starts_in 64 w c
word_starts w c h hc = ap (λ (n : ℕ). ones (bit_and w ((2 ^ 64 - 1) - n))) carried ∙ starts_ones 63 w c h hc
  where
    doubled : (w * 2) % 2 ^ 64 ≡ (w % 2 ^ 63) * 2
    doubled = omega arith

    carried : bit_or ((w * 2) % 2 ^ 64) c ≡ (w % 2 ^ 63) * 2 + c
    carried = ap (λ (n : ℕ). bit_or n c) doubled ∙ or_shifted (w % 2 ^ 63) 1 c hc

-- no more than it has bits
pub ones_fit : (w m : ℕ) → w < 2 ^ 64 → ones (bit_and w m) < 2 ^ 64
ones_fit w m h = let few : ones (bit_and w m) ≤ 64 = ones-le 64 (bit_and w m) (omega (arith, and_le_l w m)) in omega arith

-- ---- its bits

-- a byte below others: its own bits, and theirs
module _ (m b : ℕ) (l : b < 256) (j : ℕ) where
  bit_low : j < 8 → (m * 256 + b) / 2 ^ j % 2 ≡ b / 2 ^ j % 2
  bit_low h =
      let above : 7 - j + 1 ≡ 8 - j = omega arith in
      let all : 8 - j + j ≡ 8 = omega arith in
      sym (mod-mod-pow ((m * 256 + b) / 2 ^ j) (7 - j) 1)
      ∙ ap (λ (n : ℕ). (m * 256 + b) / 2 ^ j % 2 ^ n % 2) above
      ∙ ap (λ (n : ℕ). n % 2) (sym (field (m * 256 + b) (8 - j) j))
      ∙ ap (λ (n : ℕ). (m * 256 + b) % 2 ^ n / 2 ^ j % 2) all
      ∙ ap (λ (n : ℕ). n / 2 ^ j % 2) (low m 8 l)

  bit_high : 8 ≤ j → (m * 256 + b) / 2 ^ j % 2 ≡ m / 2 ^ (j - 8) % 2
  bit_high h =
      ap (λ (n : ℕ). (m * 256 + b) / 2 ^ n % 2) (omega arith)
      ∙ ap (λ (n : ℕ). n % 2) (sym (shr-shr (m * 256 + b) 8 (j - 8)) ∙ ap (λ (n : ℕ). n / 2 ^ (j - 8)) (high m 8 l))

module _ (s : List ℕ) (at : ℕ) where
  -- n bytes as a number, of which the one k behind `at` is the lowest
  unfoldable pub number : ℕ → ℕ → ℕ
  number k zero = 0
  number k (suc n) = number (k + 1) n * 256 + get_or s (at + k) 0

  module _ (bytes : (i : ℕ) → get_or s i 0 < 256) where
    number_bit : (n k j : ℕ) → j < 8 * n → number k n / 2 ^ j % 2 ≡ get_or s (at + (k + j / 8)) 0 / 2 ^ (j % 8) % 2
    unfolding number
    number_bit zero k j l = absurd (not-suc-le-zero l)
    number_bit (suc n) k j l = ⊎_elim here (λ h. later h (number_bit n (k + 1) (j - 8) (omega arith))) (either j 8)
      where
        here : j < 8 → number k (suc n) / 2 ^ j % 2 ≡ get_or s (at + (k + j / 8)) 0 / 2 ^ (j % 8) % 2
        here h =
            bit_low (number (k + 1) n) (get_or s (at + k) 0) (bytes (at + k)) j h
            ∙ ap₂ (λ (i e : ℕ). get_or s i 0 / 2 ^ e % 2) (omega arith) (omega arith)

        later : 8 ≤ j → number (k + 1) n / 2 ^ (j - 8) % 2 ≡ get_or s (at + (k + 1 + (j - 8) / 8)) 0 / 2 ^ ((j - 8) % 8) % 2
            → number k (suc n) / 2 ^ j % 2 ≡ get_or s (at + (k + j / 8)) 0 / 2 ^ (j % 8) % 2
        later h low =
            bit_high (number (k + 1) n) (get_or s (at + k) 0) (bytes (at + k)) j h
            ∙ low
            ∙ ap₂ (λ (i e : ℕ). get_or s i 0 / 2 ^ e % 2) (omega arith) (omega arith)

    pub number_word : WordOf s (8 * at) (number 0 8)
    unfolding member
    number_word j l = ap₂ (λ (i e : ℕ). eqb (get_or s i 0 / 2 ^ e % 2) 1) (omega arith) (omega arith) ∙ ap (λ (n : ℕ). eqb n 1) (sym (number_bit 8 0 j l))

  -- eight bytes, each times its power
  pub number_sum : (xs : List ℕ) → ((i : ℕ) → i < 8 → get_or xs i 0 ≡ get_or s (at + i) 0)
      → get_or xs 0 0 + get_or xs 1 0 * 256 + get_or xs 2 0 * 65536 + get_or xs 3 0 * 16777216 + get_or xs 4 0 * 4294967296
      + get_or xs 5 0 * 1099511627776 + get_or xs 6 0 * 281474976710656 + get_or xs 7 0 * 72057594037927936 ≡ number 0 8
  unfolding number
  number_sum xs e = omega (arith, e 0 (lit< tt), e 1 (lit< tt), e 2 (lit< tt), e 3 (lit< tt), e 4 (lit< tt), e 5 (lit< tt), e 6 (lit< tt), e 7 (lit< tt))

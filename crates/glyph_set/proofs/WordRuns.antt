-- The runs of the set, counted word by word: the runs that start below a glyph, and with a word more. Assumes nothing.
use Prim.Native.Nat.{ℕ, zero, suc, ◌+◌, ◌-◌, ◌*◌, ◌/◌, ◌%◌, ◌^◌, ◌<◌, ◌≤◌, min}
use mathlib.Core.Path.{◌≡◌, refl, sym, ap, ap₂, ◌∙◌}
use mathlib.Core.Bool.{Bool, true, false, not, ◌&&◌}
use mathlib.Core.List.{List}
use native.Mathlib.Nat.{mod-lt, div-one}
use native.Mathlib.Omega.{arith}
use lib.Dec.{eqb, lit<}
use lib.ListN.{length}
use lib.Pow.{shr-shr}
use Rattle.folds.specs.Folds.{sum, before}
use Rattle.folds.proofs.Folds.{sum_more, before_none, before_more}
use Rattle.folds.proofs.Picked.{one}
use Rattle.folds.proofs.Sums.{sum_bound, sum-zero}
use Rattle.folds.proofs.Tests.{by_test}
use Rattle.folds.proofs.TwoParts.{sum_zeros}
use Rattle.ot_layouts.proofs.RunStarts.{starts, run-starts}
use Rattle.glyph_set.specs.GlyphSet.{member, run_count, present}
use Rattle.glyph_set.specs.Words.{starts_at, starts_in, WordOf, Spans}
use Rattle.glyph_set.proofs.Members.{members_alone}
use Rattle.glyph_set.proofs.Neighbours.{digit}

-- ---- glyphs that a test takes

module _ (p : ℕ → Bool) where
  -- 1 where a run starts
  abbrev start : ℕ → ℕ
  start g = one (starts p (λ k. 0) g)

  -- by the glyph and the one before it
  start_is : (g : ℕ) → start g ≡ starts_at (one (p g)) (before (λ k. one (p k)) g)
  unfolding starts_at before
  start_is zero = first (p 0)
    where
      first : (a : Bool) → one a ≡ min (one a) (1 - 0)
      first true = refl
      first false = refl
  start_is (suc g) = behind (p (suc g)) (p g)
    where
      behind : (a b : Bool) → one (a && not (b && true)) ≡ min (one a) (1 - one b)
      behind true true = refl
      behind true false = refl
      behind false b = omega arith

  -- of n glyphs that are the bits of a number
  starts_more : (n at w : ℕ) → ((j : ℕ) → j < n → p (at + j) ≡ eqb (w / 2 ^ j % 2) 1) → sum start (at + n) ≡ sum start at + starts_in n w (before (λ k. one (p k)) at)
  unfolding starts_in
  starts_more zero at w h = let e : at + 0 ≡ at = omega arith in rw e (omega arith)
  starts_more (suc n) at w h =
      ap (sum start) (omega arith)
      ∙ starts_more n (at + 1) (w / 2) (λ j l. ap p (omega arith) ∙ h (suc j) (omega arith) ∙ ap (λ (x : ℕ). eqb (x % 2) 1) (ap (λ (e : ℕ). w / 2 ^ e) (omega arith) ∙ sym (shr-shr w 1 j)))
      ∙ ap₂ (λ (x c : ℕ). x + starts_in n (w / 2) c) (sum_more start at ∙ ap (λ (x : ℕ). sum start at + x) (start_is at ∙ ap (λ (d : ℕ). starts_at d (before (λ k. one (p k)) at)) here)) (before_more (λ k. one (p k)) at ∙ here)
      ∙ omega arith
    where
      here : one (p at) ≡ w % 2
      here =
          ap one (ap p (omega arith) ∙ h 0 (omega arith) ∙ ap (λ (x : ℕ). eqb (x % 2) 1) (div-one w))
          ∙ sym (digit (w % 2) (mod-lt w (lit< tt)))

-- ---- of the set

-- how many runs start below glyph n
abbrev pub starts_below : List ℕ → ℕ → ℕ
starts_below s n = sum (start (member s)) n

-- the words before word k are counted, and the last of them is `prior`
pub record Counting (s : List ℕ) (first last k prior count : ℕ) : Type 0 where
  pub long : 8192 ≤ length s
  pub spans : Spans s first last
  pub most : k ≤ 1024
  pub counted : count ≡ starts_below s (64 * k)
  pub carried : prior / 2 ^ 63 ≡ before (present s) (64 * k)

start_le : (s : List ℕ) (g : ℕ) → start (member s) g ≤ 1
start_le s g = go (starts (member s) (λ k. 0) g)
  where
    go : (b : Bool) → one b ≤ 1
    go true = omega arith
    go false = omega arith

module _ (s : List ℕ) (first last : ℕ) (spans : Spans s first last) where
  -- no glyph lies before the first or behind the last
  absent_before : (g : ℕ) → g < 65536 → g < first → member s g ≡ false
  absent_before g l b = by_test (member s g) (λ t. let (x, y) = spans g l t in absurd (omega arith)) (λ t. t)

  absent_behind : (g : ℕ) → g < 65536 → last < g → member s g ≡ false
  absent_behind g l b = by_test (member s g) (λ t. let (x, y) = spans g l t in absurd (omega arith)) (λ t. t)

absent_start : (s : List ℕ) (g : ℕ) → member s g ≡ false → start (member s) g ≡ 0
absent_start s zero h = rw h
absent_start s (suc g) h = rw h

module _ {s : List ℕ} {first last : ℕ} where
  pub start_counting : 8192 ≤ length s → Spans s first last → first < 65536 → Counting s first last (first / 64) 0 0
  start_counting long spans l =
      record {
        long = long;
        spans = spans;
        most = omega arith;
        counted = sym (sum-zero (start (member s)) (64 * (first / 64)) (λ g b. absent_start s g (absent_before s first last spans g (omega arith) (omega arith))));
        carried = carry (64 * (first / 64)) (omega arith);
      }
    where
      carry : (n : ℕ) → n ≤ first → 0 ≡ before (present s) n
      carry zero b = sym (before_none (present s))
      carry (suc g) b = let e : suc g ≡ g + 1 = omega arith in rw (e, before_more (present s) g, absent_before s first last spans g (omega arith) (omega arith))

  module _ {k prior count : ℕ} (i : Counting s first last k prior count) where
    pub fits : last < 65536 → k < last / 64 + 1 → 8 * k + 8 ≤ length s
    fits l t = omega (arith, i.long)

    pub added : (w n : ℕ) → WordOf s (64 * k) w → n ≡ starts_in 64 w (prior / 2 ^ 63) → count + n ≡ starts_below s (64 * (k + 1))
    added w n h q =
        ap₂ (λ (x y : ℕ). x + y) i.counted (q ∙ ap (starts_in 64 w) i.carried)
        ∙ sym (starts_more (member s) 64 (64 * k) w h)
        ∙ ap (starts_below s) (omega arith)

    pub small : (w n : ℕ) → last < 65536 → k < last / 64 + 1 → WordOf s (64 * k) w → n ≡ starts_in 64 w (prior / 2 ^ 63) → count + n ≤ 65536
    small w n l t h q = omega (arith, added w n h q, sum_bound (start (member s)) 1 (64 * (k + 1)) (λ g b. start_le s g))

    pub turn_counting : (w n : ℕ) → w < 2 ^ 64 → last < 65536 → k < last / 64 + 1 → WordOf s (64 * k) w → n ≡ starts_in 64 w (prior / 2 ^ 63) → Counting s first last (k + 1) w (count + n)
    turn_counting w n b l t h q =
        record {
          long = i.long;
          spans = i.spans;
          most = omega arith;
          counted = added w n h q;
          carried = top;
        }
      where
        top : w / 2 ^ 63 ≡ before (present s) (64 * (k + 1))
        top =
            let e : 64 * (k + 1) ≡ 64 * k + 63 + 1 = omega arith in
            let d : w / 2 ^ 63 < 2 = omega arith in
            let m : w / 2 ^ 63 % 2 ≡ w / 2 ^ 63 = omega arith in
            rw (e, before_more (present s) (64 * k + 63), h 63 (lit< tt), m) (digit (w / 2 ^ 63) d)

    pub stop_counting : last / 64 + 1 ≤ k → count ≡ run_count s
    unfolding run_count
    stop_counting t =
        let all : 64 * k + (65536 - 64 * k) ≡ 65536 = omega (arith, i.most) in
        i.counted
        ∙ sym (sum_zeros (start (member s)) (64 * k) (65536 - 64 * k) (λ g b. absent_start s (64 * k + g) (absent_behind s first last i.spans (64 * k + g) (omega (arith, i.most)) (omega arith))))
        ∙ ap (starts_below s) all
        ∙ sym (rw (members_alone s) (run-starts (member s) (λ k. 0) 65536))

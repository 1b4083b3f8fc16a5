-- The tests that the code makes of counts and rows, one by one, are those of the definitions. Assumes nothing.
use Prim.Native.Nat.{ℕ, ◌+◌, ◌-◌, ◌<◌, ◌≤◌}
use mathlib.Core.Bool.{Bool, true, false, not, ◌&&◌}
use mathlib.Core.Logic.{⊎_elim}
use mathlib.Core.Path.{◌≡◌, sym, ap, ◌∙◌}
use native.Mathlib.Omega.{arith}
use lib.ListN.{length}
use lib.Dec.{leb}
use borrow.Author.Tests.{le-leb, lt-leb, leb-true, not-true, not-false}
use Rattle.folds.specs.Folds.{all, before}
use Rattle.folds.proofs.Tests.{either, and_both, and_second, and_first}
use Rattle.folds.proofs.Folds.{all_none, all_more, all_fails, all_at_lem, before_none, before_more}
use Rattle.store_rules.specs.Store.{Store, byte_room, object_room, link_room, sound, head_of, tail_of, size_of, object_fits, link_fits}

-- two tests agree where each holds if the other does
leb-same : (a b c d : ℕ) → (a ≤ b → c ≤ d) → (c ≤ d → a ≤ b) → leb a b ≡ leb c d
leb-same a b c d f g = ⊎_elim (λ h. lt-leb a b h ∙ sym (lt-leb c d (⊎_elim (λ k. k) (λ k. absurd (omega (arith, g k))) (either d c)))) (λ h. le-leb a b h ∙ sym (le-leb c d (f h))) (either b a)

pub count_in : {t : Bool} (n room : ℕ) → t ≡ leb n room → not t ≡ false → n ≤ room
count_in {t} n room e h = leb-true n room (sym e ∙ not-false t h)

-- a position is within an object also where the sum is made from the head on
pub position_within : (head tail q : ℕ) → leb (head + q + 2) tail ≡ leb (q + 2) (tail - head)
position_within head tail q = leb-same (head + q + 2) tail (q + 2) (tail - head) (λ a. omega arith) (λ a. omega arith)

pub before-first : (f : ℕ → ℕ) (i : ℕ) → i ≡ 0 → 0 ≡ before f i
before-first f i e = rw e (sym (before_none f))

pub before_next : (f : ℕ → ℕ) (i : ℕ) → (i ≡ 0 → ⊥) → f (i - 1) ≡ before f i
before_next f i ne = let e : i - 1 + 1 ≡ i = omega arith in sym (before_more f (i - 1)) ∙ ap (before f) e

-- ---- a loop over the indices below n that stops at the first at which p fails: p holds at those below i

pub record Passed (p : ℕ → Bool) (n i : ℕ) : Type 0 where
  pub upto : i ≤ n
  pub passed : all p i ≡ true

module _ {p : ℕ → Bool} {n : ℕ} where
  pub start : Passed p n 0
  start = record { upto = omega arith; passed = all_none p }

  pub turn : {i : ℕ} {t : Bool} → Passed p n i → i < n → t ≡ p i → not t ≡ false → Passed p n (i + 1)
  turn {i} {t} v l e h = record { upto = omega arith; passed = all_more p i v.passed (sym e ∙ not-false t h) }

  pub stop : {i : ℕ} → Passed p n i → n ≤ i → true ≡ all p n
  stop {i} v h = let e : i ≡ n = omega (arith, v.upto) in sym v.passed ∙ ap (all p) e

  pub fail : {i : ℕ} {t : Bool} → Passed p n i → i < n → t ≡ p i → not t ≡ true → false ≡ all p n
  fail {i} {t} v l e h = sym (all_fails p i n l (sym e ∙ not-true t h))

-- ---- an object row

-- where all fit, none has more bytes than are in use
pub objects_short : (s : Store) → all (object_fits s) s.object_count ≡ true → (i : ℕ) → i < s.object_count → size_of s i ≤ s.byte_count
unfolding object_fits
objects_short s h i l =
    let (a, b) = and_both (leb (before (tail_of s) i) (head_of s i) && leb (head_of s i) (tail_of s i)) (leb (tail_of s i) s.byte_count) (all_at_lem (object_fits s) s.object_count h i l) in
    omega (arith, leb-true (tail_of s i) s.byte_count b)

-- ---- the store: each test fails alone, and the last decides where the others hold

module _ (s : Store) where
  abbrev bytes_test : Bool
  bytes_test = leb s.byte_count (byte_room (length s.bytes))

  abbrev objects_test : Bool
  objects_test = leb s.object_count (object_room (length s.objects))

  abbrev links_test : Bool
  links_test = leb s.link_count (link_room (length s.links))

  abbrev rows_test : Bool
  rows_test = all (object_fits s) s.object_count

  pub bytes_over : {t : Bool} → t ≡ bytes_test → not t ≡ true → false ≡ sound s
  unfolding sound
  bytes_over {t} e h = rw (← e, not-true t h)

  pub objects_over : {t : Bool} → t ≡ objects_test → not t ≡ true → false ≡ sound s
  unfolding sound
  objects_over {t} e h = sym (and_first _ _ (and_first _ _ (and_first _ _ (and_second bytes_test _ (sym e ∙ not-true t h)))))

  pub links_over : {t : Bool} → t ≡ links_test → not t ≡ true → false ≡ sound s
  unfolding sound
  links_over {t} e h = sym (and_first _ _ (and_first _ _ (and_second (bytes_test && objects_test) _ (sym e ∙ not-true t h))))

  pub objects_unfit : {t : Bool} → t ≡ rows_test → not t ≡ true → false ≡ sound s
  unfolding sound
  objects_unfit {t} e h = sym (and_first _ _ (and_second (bytes_test && objects_test && links_test) _ (sym e ∙ not-true t h)))

  pub links_decide : {t u v w : Bool} → t ≡ bytes_test → not t ≡ false → u ≡ objects_test → not u ≡ false → v ≡ links_test → not v ≡ false → w ≡ rows_test → not w ≡ false
      → all (link_fits s) s.link_count ≡ sound s
  unfolding sound
  links_decide {t} {u} {v} {w} a h b i c j d k = rw (← a, not-false t h, ← b, not-false u i, ← c, not-false v j, ← d, not-false w k)

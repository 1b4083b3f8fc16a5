-- Laws of what a function gives from one index up to another. A loop that counts down meets them from the front. Assumes nothing.
use Prim.Native.Nat.{ℕ, zero, suc, ◌+◌, ◌-◌, ◌*◌, ◌≤◌, ◌<◌}
use mathlib.Core.Path.{◌≡◌, refl, sym, ap, ap₂, ◌∙◌}
use mathlib.Core.List.{List, [], ◌++◌, append_assoc, append-nil}
use native.Mathlib.Omega.{arith}
use lib.ListN.{length, get_or}
use Rattle.folds.specs.Folds.{flat}
use Rattle.folds.proofs.FromTheFront.{flat-same, length_even, even_at}
use Rattle.store_rules.specs.Store.{per_link}
use Rattle.store_link_rows.specs.Rows.{seg, segment}

-- two segments agree where what they are made of does, also from another index on
pub seg_ext : (f g : ℕ → List ℕ) (a b n : ℕ) → ((i : ℕ) → i < n → f (a + i) ≡ g (b + i)) → seg f a n ≡ seg g b n
unfolding seg
seg_ext f g a b n h = flat-same (λ i. f (a + i)) (λ i. g (b + i)) n h

pub seg_none : (f : ℕ → List ℕ) (a n : ℕ) → ((i : ℕ) → i < n → f (a + i) ≡ []) → seg f a n ≡ []
unfolding seg flat
seg_none f a zero h = refl
seg_none f a (suc n) h = ap₂ (λ (x y : List ℕ). x ++ y) (seg_none f a n (λ i l. h i (omega arith))) (h n (omega arith))

pub seg_add : (f : ℕ → List ℕ) (a n k : ℕ) → seg f a (n + k) ≡ seg f a n ++ seg f (a + n) k
unfolding seg flat
seg_add f a n zero = let e : n + 0 ≡ n = omega arith in ap (seg f a) e ∙ sym (append-nil (seg f a n))
seg_add f a n (suc k) =
    let g : n + suc k ≡ suc (n + k) = omega arith in
    let e : a + (n + k) ≡ a + n + k = omega arith in
    ap (seg f a) g
    ∙ ap₂ (λ (x : List ℕ) (i : ℕ). x ++ f i) (seg_add f a n k) e
    ∙ append_assoc (seg f a n) (seg f (a + n) k) (f (a + n + k))

-- of rows
module _ (f : ℕ → List ℕ) (long : (k : ℕ) → length (f k) ≡ per_link) where
  pub length-seg : (a n : ℕ) → length (seg f a n) ≡ per_link * n
  unfolding seg
  length-seg a n = length_even (λ i. f (a + i)) per_link (λ i. long (a + i)) n

  pub seg_at : (a n i c : ℕ) → i < n → c < per_link → get_or (seg f a n) (per_link * i + c) 0 ≡ get_or (f (a + i)) c 0
  unfolding seg
  seg_at a n i c l h =
      ap (λ (x : List ℕ). get_or x (per_link * i + c) 0) (sym (append-nil (seg f a n)))
      ∙ even_at (λ i. f (a + i)) per_link (λ i. long (a + i)) [] 0 n i c l h

-- from the first on
pub flat-span : (f : ℕ → List ℕ) (n : ℕ) → flat f n ≡ segment f 0 n
unfolding seg
flat-span f n =
    let e : n ≡ n - 0 = omega arith in
    flat-same f (λ i. f (0 + i)) n (λ i l. let z : i ≡ 0 + i = omega arith in ap f z) ∙ ap (seg f 0) e

module _ (f : ℕ → List ℕ) where
  pub span_empty : (a : ℕ) → segment f a a ≡ []
  span_empty a = seg_none f a (a - a) (λ i l. absurd (omega arith))

  pub span_join : (lo mid hi : ℕ) → lo ≤ mid → mid ≤ hi → segment f lo hi ≡ segment f lo mid ++ segment f mid hi
  span_join lo mid hi p q =
      let e : hi - lo ≡ (mid - lo) + (hi - mid) = omega arith in
      let g : lo + (mid - lo) ≡ mid = omega arith in
      ap (seg f lo) e ∙ seg_add f lo (mid - lo) (hi - mid) ∙ ap (λ (b : ℕ). segment f lo mid ++ seg f b (hi - mid)) g

  pub span_one : (a : ℕ) → segment f a (a + 1) ≡ f a
  unfolding seg flat
  span_one a =
      let e : a + 1 - a ≡ 1 = omega arith in
      let z : a + 0 ≡ a = omega arith in
      ap (seg f a) e ∙ ap f z

  pub span_front : (lo hi : ℕ) → lo < hi → segment f lo hi ≡ f lo ++ segment f (lo + 1) hi
  span_front lo hi l = span_join lo (lo + 1) hi (omega arith) (omega arith) ∙ ap (λ (x : List ℕ). x ++ segment f (lo + 1) hi) (span_one lo)

  pub span_back : (lo hi : ℕ) → lo ≤ hi → segment f lo (hi + 1) ≡ segment f lo hi ++ f hi
  span_back lo hi l = span_join lo hi (hi + 1) l (omega arith) ∙ ap (λ (x : List ℕ). segment f lo hi ++ x) (span_one hi)

  pub span_none : (lo hi : ℕ) → ((k : ℕ) → lo ≤ k → k < hi → f k ≡ []) → segment f lo hi ≡ []
  span_none lo hi h = seg_none f lo (hi - lo) (λ i l. h (lo + i) (omega arith) (omega arith))

  pub span_ext : (g : ℕ → List ℕ) (lo hi : ℕ) → ((k : ℕ) → lo ≤ k → k < hi → f k ≡ g k) → segment f lo hi ≡ segment g lo hi
  span_ext g lo hi h = seg_ext f g lo lo (hi - lo) (λ i l. h (lo + i) (omega arith) (omega arith))

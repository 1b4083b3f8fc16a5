-- Links in ascending order of parent and place, and that they stay so when some are left out, moved or put behind. Assumes nothing.
use Prim.Native.Nat.{ℕ, zero, suc, ◌+◌, ◌<◌, ◌≤◌}
use mathlib.Core.Path.{◌≡◌, refl, sym, ap, subst, ◌∙◌}
use mathlib.Core.Bool.{Bool, true, false, cond}
use mathlib.Core.List.{List, [], ◌∷◌, ◌++◌, map}
use mathlib.Core.Logic.{◌⊎◌, inl, inr, ⊎_elim}
use native.Mathlib.Omega.{arith}
use native.Mathlib.Nat.{not-suc-le-zero}
use lib.ListN.{length, get_or}
use Rattle.folds.specs.Folds.{flat, upto}
use Rattle.folds.specs.Lists.{sift}
use Rattle.folds.proofs.Tests.{either, by_test}
use Rattle.folds.proofs.Folds.{upto-cons}
use Rattle.folds.proofs.Each.{Each, each_at, each_then}
use Rattle.store_rules.specs.Store.{Link, is_offset}

-- where a link stands among those of its parent: an offset at its position, an order-only link behind all bytes, by its child
unfoldable pub place : Link → ℕ
place l = cond (is_offset l) l.position (16777216 + l.child)

pub place_offset : (l : Link) → is_offset l ≡ true → place l ≡ l.position
unfolding place
place_offset l o = rw o

pub place_order : (l : Link) → is_offset l ≡ false → place l ≡ 16777216 + l.child
unfolding place
place_order l o = rw o

-- a link with the numbers that its place goes by
pub place_same : (l m : Link) → m.kind ≡ l.kind → (is_offset l ≡ true → m.position ≡ l.position) → (is_offset l ≡ false → m.child ≡ l.child) → place m ≡ place l
unfolding place
place_same l m k q c = by_test (is_offset l) (λ o. rw (k, o) (q o)) (λ o. rw (k, o) (ap (λ (n : ℕ). 16777216 + n) (c o)))

-- (x, y) is (p, q) or comes after it
abbrev pub From : ℕ → ℕ → ℕ → ℕ → Type 0
From p q x y = (p < x) ⊎ ((p ≡ x) × (q ≤ y))

-- m comes behind l
abbrev pub Behind : Link → Link → Type 0
Behind l m = From l.parent (place l + 1) m.parent (place m)

-- the rows ascend from (p, q) on, and end before parent e
abbrev pub Climb : ℕ → ℕ → ℕ → List Link → Type 0
Climb p q e [] = From p q e 0
Climb p q e (l ∷ ls) = From p q l.parent (place l) × Climb l.parent (place l + 1) e ls

pub from_trans : (p q x y v w : ℕ) → From p q x y → From x y v w → From p q v w
from_trans p q x y v w (inl a) (inl b) = inl (omega arith)
from_trans p q x y v w (inl a) (inr (b, c)) = inl (omega arith)
from_trans p q x y v w (inr (a, b)) (inl c) = inl (omega arith)
from_trans p q x y v w (inr (a, b)) (inr (c, d)) = inr (a ∙ c, omega arith)

pub from_next : (p q x y : ℕ) → From p q x y → From p q x (y + 1)
from_next p q x y a = from_trans p q x y x (y + 1) a (inr (refl, omega arith))

pub climb_lower : (ls : List Link) (p q x y e : ℕ) → From p q x y → Climb x y e ls → Climb p q e ls
climb_lower [] p q x y e a c = from_trans p q x y e 0 a c
climb_lower (l ∷ ls) p q x y e a c = (from_trans p q x y l.parent (place l) a c.0, c.1)

pub climb_upper : (ls : List Link) (p q e e' : ℕ) → e ≤ e' → Climb p q e ls → Climb p q e' ls
climb_upper [] p q e e' h c = ⊎_elim (λ a. inl (omega arith)) (λ (a, b). ⊎_elim (λ lt. inl (omega arith)) (λ ge. inr (omega arith, b)) (either e e')) c
climb_upper (l ∷ ls) p q e e' h c = (c.0, climb_upper ls l.parent (place l + 1) e e' h c.1)

-- with children changed
pub climb_map : (f : Link → Link) → ((l : Link) → (f l).parent ≡ l.parent) → ((l : Link) → place (f l) ≡ place l) → (ls : List Link) (x y e : ℕ)
    → Climb x y e ls → Climb x y e (map f ls)
unfolding place
climb_map f a b [] x y e c = c
climb_map f a b (l ∷ ls) x y e c = (rw (a l, b l) c.0, rw (a l, b l) (climb_map f a b ls l.parent (place l + 1) e c.1))

pub climb_append : (xs ys : List Link) (p q m e : ℕ) → Climb p q m xs → Climb m 0 e ys → Climb p q e (xs ++ ys)
climb_append [] ys p q m e a b = climb_lower ys p q m 0 e a b
climb_append (x ∷ xs) ys p q m e a b = (a.0, climb_append xs ys x.parent (place x + 1) m e a.1 b)

pub climb_flat : (f : ℕ → List Link) (at : ℕ → ℕ) (n : ℕ) → ((j : ℕ) → j < n → Climb (at j) 0 (at (suc j)) (f j)) → Climb (at 0) 0 (at n) (flat f n)
unfolding flat
climb_flat f at zero h = inr (refl, omega arith)
climb_flat f at (suc n) h = climb_append (flat f n) (f n) (at 0) 0 (at n) (at (suc n)) (climb_flat f at n (λ j l. h j (omega arith))) (h n (omega arith))

-- those that pass a test, each at its place
pub climb_stay : (f : Link → Link) (p : Link → Bool) → ((l : Link) → (f l).parent ≡ l.parent) → ((l : Link) → place (f l) ≡ place l)
    → (ls : List Link) (x y e : ℕ) → Climb x y e ls → Climb x y e (map f (sift p ls))
unfolding sift place
climb_stay f p a b [] x y e c = c
climb_stay f p a b (l ∷ ls) x y e c = go (p l) (climb_stay f p a b ls l.parent (place l + 1) e c.1)
  where
    go : (z : Bool) → Climb l.parent (place l + 1) e (map f (sift p ls)) → Climb x y e (map f (cond z (l ∷ sift p ls) (sift p ls)))
    go true i = (rw (a l, b l) c.0, rw (a l, b l) i)
    go false i = climb_lower (map f (sift p ls)) x y l.parent (place l + 1) e (from_next x y l.parent (place l) c.0) i

-- ---- by index

pub climb_upto : (f : ℕ → Link) (n p q e : ℕ) → ((k : ℕ) → suc k < n → Behind (f k) (f (suc k)))
    → ((k : ℕ) → k < n → (f k).parent < e) → p < e → (0 < n → From p q (f 0).parent (place (f 0))) → Climb p q e (upto f n)
unfolding flat
climb_upto f zero p q e h u l s = inl l
climb_upto f (suc n) p q e h u l s =
    subst (Climb p q e) (sym (upto-cons f n))
    (s (omega arith), climb_upto (λ k. f (suc k)) n (f 0).parent (place (f 0) + 1) e (λ k m. h (suc k) (omega arith)) (λ k m. u (suc k) (omega arith)) (u 0 (omega arith)) (λ m. h 0 (omega arith)))

-- each comes from where they start on
pub climb_each : (ls : List Link) (p q e : ℕ) → Climb p q e ls → Each (λ m. From p q m.parent (place m)) ls
climb_each [] p q e c = tt
climb_each (l ∷ ls) p q e c = (
  c.0,
  each_then (Behind l) (λ m. From p q m.parent (place m))
      (λ m b. from_trans p q l.parent (place l + 1) m.parent (place m) (from_next p q l.parent (place l) c.0) b) ls
      (climb_each ls l.parent (place l + 1) e c.1),
)

-- and its parent is before the end
climb_end : (ls : List Link) (p q e : ℕ) → Climb p (q + 1) e ls → p < e
climb_end [] p q e c = ⊎_elim (λ a. a) (λ (a, b). absurd (omega arith)) c
climb_end (l ∷ ls) p q e c = let b = climb_end ls l.parent (place l) e c.1 in ⊎_elim (λ a. omega arith) (λ (a, d). omega arith) c.0

pub climb_below : (ls : List Link) (p q e : ℕ) → Climb p q e ls → Each (λ m. m.parent < e) ls
climb_below [] p q e c = tt
climb_below (l ∷ ls) p q e c = (climb_end ls l.parent (place l) e c.1, climb_below ls l.parent (place l + 1) e c.1)

-- each comes behind those that stand before it
pub climb_two : (ls : List Link) (p q e : ℕ) → Climb p q e ls → (j k : ℕ) → j < k → k < length ls → (d : Link) → Behind (get_or ls j d) (get_or ls k d)
climb_two [] p q e c j k h l d = absurd (not-suc-le-zero l)
climb_two (x ∷ xs) p q e c j zero h l d = absurd (not-suc-le-zero h)
climb_two (x ∷ xs) p q e c zero (suc k) h l d = each_at (Behind x) xs (climb_each xs x.parent (place x + 1) e c.1) k (omega arith) d
climb_two (x ∷ xs) p q e c (suc j) (suc k) h l d = climb_two xs x.parent (place x + 1) e c.1 j k (omega arith) (omega arith) d

-- Walks of one item after another of a table: S of each, and what is marked then. Item i has the links from position `at i` up to `at (i + 1)`.
-- Assumes nothing.
use Prim.Native.Nat.{ℕ, ◌+◌, ◌≤◌, ◌<◌}
use mathlib.Core.Bool.{Bool, true, false, ◌&&◌, ◌||◌}
use mathlib.Core.List.{List}
use mathlib.Core.Logic.{⊎_elim}
use mathlib.Core.Path.{◌≡◌, refl, sym, ap, ◌∙◌}
use native.Mathlib.Omega.{arith}
use lib.Dec.{leb, ltb}
use borrow.Author.Tests.{le-leb, lt-leb, le-ltb, lt-ltb, eqb-true}
use Rattle.folds.proofs.Tests.{either, and_both, and_intro, and_second}
use Rattle.store_rules.specs.Store.{Store, Link, of_span, offset_of, link_at, position_of, kind_of}
use Rattle.store_rules.proofs.Shaped.{of_offset}
use Rattle.store_rules.proofs.Sound.{Fits}
use Rattle.store_reader.specs.Rows.{orders, key_of, FirstRow}
use Rattle.store_reader.proofs.Rows.{span_rows}
use Rattle.store_walk.specs.Marks.{between, Offsets, also_between, Marks, Walked, Grown}
use Rattle.store_walk.proofs.Grown.{grown_same, grown_walk}

-- the links of the items lo up to hi of table t
abbrev pub rows_at : ℕ → (ℕ → ℕ) → ℕ → ℕ → Link → Bool
rows_at t at lo hi = of_span t (at lo) (at hi)

-- they are offsets of t
pub span_own : (t a b : ℕ) (l : Link) → of_span t a b l ≡ true → offset_of t l ≡ true
span_own t a b l h =
    (and_both (offset_of t l) (leb a l.position) (and_both (offset_of t l && leb a l.position) (ltb l.position b) h).0).0

-- row k is one of them
abbrev pub items : Store → ℕ → (ℕ → ℕ) → ℕ → ℕ → ℕ → Bool
items s t at lo hi k = rows_at t at lo hi (link_at s k)

-- two parts that stand side by side
beside : (p : Bool) (q a b c : ℕ) → a ≤ b → b ≤ c → ((p && leb a q && ltb q b) || (p && leb b q && ltb q c)) ≡ (p && leb a q && ltb q c)
beside false q a b c h g = refl
beside true q a b c h g =
    ⊎_elim
    (λ (d : q < b). rw (lt-ltb q b d, lt-ltb q c (omega arith), lt-leb b q d) (either_false (leb a q)))
    (λ (d : b ≤ q). rw (le-leb a q (omega arith), le-ltb q b d, le-leb b q d))
    (either q b)
  where
    either_false : (x : Bool) → (x && true || false) ≡ (x && true)
    either_false true = refl
    either_false false = refl

module _ (s : Store) (t : ℕ) (at : ℕ → ℕ) where
  pub items_none : (a k : ℕ) → items s t at a a k ≡ false
  items_none a k =
      ⊎_elim
      (λ (d : position_of s k < at a). rw (lt-leb (at a) (position_of s k) d) (none (offset_of t (link_at s k)) (ltb (position_of s k) (at a))))
      (λ (d : at a ≤ position_of s k). and_second (offset_of t (link_at s k) && leb (at a) (position_of s k)) (ltb (position_of s k) (at a)) (le-ltb (position_of s k) (at a) d))
      (either (position_of s k) (at a))
    where
      none : (x y : Bool) → x && false && y ≡ false
      none true y = refl
      none false y = refl

  -- one item more
  items_more : (rise : (i j : ℕ) → i ≤ j → at i ≤ at j) (a i k : ℕ) → a ≤ i → (items s t at a i k || items s t at i (i + 1) k) ≡ items s t at a (i + 1) k
  items_more rise a i k h = beside (offset_of t (link_at s k)) (position_of s k) (at a) (at i) (at (i + 1)) (rise a i h) (rise i (i + 1) (omega arith))

-- the rows from lo up to hi are those of item i
pub record ItemRows (s : Store) (t : ℕ) (at : ℕ → ℕ) (i lo hi : ℕ) : Type 0 where
  pub first : FirstRow s.links s.link_count (key_of t (at i)) lo
  pub next : FirstRow s.links s.link_count (key_of t (at (i + 1))) hi
  pub short : at (i + 1) ≤ orders

module _ {s : Store} {t : ℕ} {at : ℕ → ℕ} {i lo hi : ℕ} (f : Fits s) (r : ItemRows s t at i lo hi) where
  pub item_rows : (k : ℕ) → k < s.link_count → between lo hi k ≡ items s t at i (i + 1) k
  item_rows k h = span_rows s f t (at i) (at (i + 1)) r.first r.next r.short k h

  -- which are offsets
  pub item_offsets : Offsets s.links lo hi
  item_offsets k a b =
      let h : k < s.link_count = omega (arith, r.next.within) in
      eqb-true (kind_of s k) 0 (of_offset t (link_at s k) (span_own t (at i) (at (i + 1)) (link_at s k) (sym (item_rows k h) ∙ and_intro (leb lo k) (ltb k hi) (le-leb lo k a) (lt-ltb k hi b))))

  module _ (rise : (i j : ℕ) → i ≤ j → at i ≤ at j) {a e : ℕ} {w : List ℕ} (from : a ≤ i) (v : Marks s (items s t at a i) e w) where
    rows_more : (k : ℕ) → k < s.link_count → also_between (items s t at a i) lo hi k ≡ items s t at a (i + 1) k
    rows_more k h = ap (λ (b : Bool). items s t at a i k || b) (item_rows k h) ∙ items_more s t at rise a i k from

    module _ {w' : List ℕ} {total : ℕ} (d : Walked s (items s t at a i) lo hi e w w' total) where
      -- the walk has added the item's rows
      pub item_grown : Grown s (items s t at a i) (items s t at a (i + 1)) e w' total
      item_grown = grown_same f rows_more (grown_walk f v d)

-- The offsets of some items of a table, and how many there are. Assumes nothing.
use Prim.Native.Nat.{ℕ, ◌+◌, ◌<◌, ◌≤◌, suc, ◌-◌, ◌*◌}
use mathlib.Core.Path.{◌≡◌, refl, sym, ◌∙◌}
use mathlib.Core.Bool.{Bool, true, false, cond, ◌&&◌, and-false}
use mathlib.Core.List.{List, [], ◌∷◌, map}
use mathlib.Core.Logic.{◌⊎◌, inl, inr, ⊎_elim}
use native.Mathlib.Omega.{arith}
use lib.ListN.{length}
use lib.Dec.{ltb, leb}
use borrow.Author.Tests.{le-leb, lt-ltb, lt-leb, le-ltb, leb-true, ltb-true}
use Rattle.folds.specs.Lists.{sift}
use Rattle.folds.proofs.Tests.{and_both, either, by_test}
use Rattle.ot_layouts.specs.PairPos.{Shape, item_at}
use Rattle.ot_layouts.proofs.Shapes.{items_rise}
use Rattle.store_rules.specs.Store.{Link, offset_of}
use Rattle.store_rules.proofs.Shaped.{of_offset, of_parent}
use Rattle.store_rules.proofs.LinksAscend.{From, Climb, place, place_offset}
use Rattle.pair_rules.specs.Table.{of_items}
use Rattle.pair_rules.specs.Written.{moved}

pub items_in : (t : ℕ) (sh : Shape) (lo hi : ℕ) (l : Link) → offset_of t l ≡ true → item_at sh lo ≤ l.position → l.position < item_at sh hi → of_items t sh lo hi l ≡ true
items_in t sh lo hi l a b c = rw (a, le-leb (item_at sh lo) l.position b, lt-ltb l.position (item_at sh hi) c)

pub items_out : (t : ℕ) (sh : Shape) (lo hi : ℕ) (l : Link) → (l.position < item_at sh lo) ⊎ (item_at sh hi ≤ l.position) → of_items t sh lo hi l ≡ false
items_out t sh lo hi l d =
    ⊎_elim
    (λ a. rw (lt-leb (item_at sh lo) l.position a) (third (offset_of t l) (ltb l.position (item_at sh hi))))
    (λ b. rw (le-ltb l.position (item_at sh hi) b) (and-false (offset_of t l && leb (item_at sh lo) l.position))) d
  where
    third : (x y : Bool) → x && false && y ≡ false
    third true y = refl
    third false y = refl

pub items_from : (t : ℕ) (sh : Shape) (lo hi : ℕ) (l : Link) → of_items t sh lo hi l ≡ true → (offset_of t l ≡ true) × (item_at sh lo ≤ l.position) × (l.position < item_at sh hi)
items_from t sh lo hi l h =
    let (a, c) = and_both (offset_of t l && leb (item_at sh lo) l.position) (ltb l.position (item_at sh hi)) h in
    let (p, b) = and_both (offset_of t l) (leb (item_at sh lo) l.position) a in
    (p, leb-true (item_at sh lo) l.position b, ltb-true l.position (item_at sh hi) c)

-- ---- how many

-- two ranges of items that meet
pub items_meet : (t : ℕ) (sh : Shape) (lo mid hi : ℕ) → lo ≤ mid → mid ≤ hi → (ls : List Link)
    → length (sift (of_items t sh lo hi) ls) ≡ length (sift (of_items t sh lo mid) ls) + length (sift (of_items t sh mid hi) ls)
unfolding sift
items_meet t sh lo mid hi a b [] = refl
items_meet t sh lo mid hi a b (l ∷ ls) = go (offset_of t l) (either l.position (item_at sh lo)) (either l.position (item_at sh mid)) (either l.position (item_at sh hi)) (items_meet t sh lo mid hi a b ls)
  where
    r1 : item_at sh lo ≤ item_at sh mid
    r1 = items_rise sh lo mid a

    r2 : item_at sh mid ≤ item_at sh hi
    r2 = items_rise sh mid hi b

    go : (x : Bool) → (l.position < item_at sh lo) ⊎ (item_at sh lo ≤ l.position) → (l.position < item_at sh mid) ⊎ (item_at sh mid ≤ l.position) → (l.position < item_at sh hi) ⊎ (item_at sh hi ≤ l.position)
        → length (sift (of_items t sh lo hi) ls) ≡ length (sift (of_items t sh lo mid) ls) + length (sift (of_items t sh mid hi) ls)
        → length (cond (x && leb (item_at sh lo) l.position && ltb l.position (item_at sh hi)) (l ∷ sift (of_items t sh lo hi) ls) (sift (of_items t sh lo hi) ls))
        ≡ length (cond (x && leb (item_at sh lo) l.position && ltb l.position (item_at sh mid)) (l ∷ sift (of_items t sh lo mid) ls) (sift (of_items t sh lo mid) ls))
        + length (cond (x && leb (item_at sh mid) l.position && ltb l.position (item_at sh hi)) (l ∷ sift (of_items t sh mid hi) ls) (sift (of_items t sh mid hi) ls))
    go false p q r i = i
    go true (inl p) q r i = rw (lt-leb (item_at sh lo) l.position p, lt-leb (item_at sh mid) l.position (omega (arith, r1))) i
    go true (inr p) (inl q) r i = rw (le-leb (item_at sh lo) l.position p, lt-ltb l.position (item_at sh mid) q, lt-leb (item_at sh mid) l.position q, lt-ltb l.position (item_at sh hi) (omega (arith, r2))) (omega arith)
    go true (inr p) (inr q) (inl r) i = rw (le-leb (item_at sh lo) l.position p, le-ltb l.position (item_at sh mid) q, le-leb (item_at sh mid) l.position q, lt-ltb l.position (item_at sh hi) r) (omega arith)
    go true (inr p) (inr q) (inr r) i = rw (le-leb (item_at sh lo) l.position p, le-ltb l.position (item_at sh mid) q, le-leb (item_at sh mid) l.position q, le-ltb l.position (item_at sh hi) r) i

-- of no items
pub items_none : (t : ℕ) (sh : Shape) (lo : ℕ) (ls : List Link) → length (sift (of_items t sh lo lo) ls) ≡ 0
items_none t sh lo ls = omega (arith, items_meet t sh lo lo lo (omega arith) (omega arith) ls)

-- ---- moved to another table

-- moved links from (p, q) on stand at r or after: r lies in the header, or the table's links are all before p, or those that come stand there
abbrev Ahead : ℕ → Shape → ℕ → ℕ → ℕ → ℕ → Type 0
Ahead t sh lo p q r = (r ≤ sh.header) ⊎ ((t < p) ⊎ ((p ≡ t) × (r + sh.item * lo ≤ q)))

-- the moved links of items lo up to hi, from position r of table u on
pub climb_moved : (t : ℕ) (sh : Shape) (u lo hi : ℕ) (ls : List Link) (p q r e : ℕ) → Climb p q e ls → Ahead t sh lo p q r → Climb u r (suc u) (map (moved sh u lo) (sift (of_items t sh lo hi) ls))
unfolding sift moved
climb_moved t sh u lo hi [] p q r e c i = inl (omega arith)
climb_moved t sh u lo hi (l ∷ ls) p q r e c i =
    by_test (of_items t sh lo hi l)
    (λ y.
    let (o, b, d) = items_from t sh lo hi l y in
    let a = of_parent t l o in
    let at = place_offset l (of_offset t l o) in
    let then = place_offset (moved sh u lo l) (of_offset t l o) in
    let z : r + sh.item * lo ≤ place l = reach a (omega arith) i c.0 in
    rw (y, then) (inr (refl, omega arith), climb_moved t sh u lo hi ls l.parent (place l + 1) (l.position - sh.item * lo + 1) e c.1 (inr (inr (a, omega arith)))))
    (λ n. rw n (climb_moved t sh u lo hi ls l.parent (place l + 1) r e c.1 (⊎_elim inl (λ d. inr (pass d c.0)) i)))
  where
    reach : l.parent ≡ t → item_at sh lo ≤ place l → Ahead t sh lo p q r → From p q l.parent (place l) → r + sh.item * lo ≤ place l
    reach a b (inl h) f = omega arith
    reach a b (inr (inl h)) (inl f) = absurd (omega arith)
    reach a b (inr (inl h)) (inr (f, k)) = absurd (omega arith)
    reach a b (inr (inr (h, k))) (inl f) = absurd (omega arith)
    reach a b (inr (inr (h, k))) (inr (f, m)) = omega arith

    pass : (t < p) ⊎ ((p ≡ t) × (r + sh.item * lo ≤ q)) → From p q l.parent (place l) → (t < l.parent) ⊎ ((l.parent ≡ t) × (r + sh.item * lo ≤ place l + 1))
    pass (inl h) (inl f) = inl (omega arith)
    pass (inl h) (inr (f, k)) = inl (omega arith)
    pass (inr (h, k)) (inl f) = inl (omega arith)
    pass (inr (h, k)) (inr (f, m)) = inr (sym f ∙ h, omega arith)

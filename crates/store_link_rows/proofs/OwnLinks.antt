-- The links of an object, by its own rows. Assumes nothing.
use Prim.Native.Nat.{ℕ, suc, ◌+◌, ◌-◌, ◌≤◌, ◌<◌}
use mathlib.Core.Path.{◌≡◌, sym, ap, ap₂, ◌∙◌}
use mathlib.Core.Bool.{Bool, true, false}
use mathlib.Core.List.{List, [], ◌∷◌, ◌++◌, append-nil}
use mathlib.Core.Logic.{◌⊎◌, inl, inr, ⊎_elim}
use native.Mathlib.Omega.{arith}
use lib.ListN.{length}
use Rattle.folds.specs.Folds.{upto}
use Rattle.folds.specs.Lists.{sift}
use Rattle.folds.proofs.Folds.{flat_none, length-upto, upto-cons, upto-same}
use Rattle.folds.proofs.Picked.{picked_none, picked_same, sift-append, sift-upto}
use Rattle.folds.proofs.InRange.{is_between, below_range, above_range}
use Rattle.folds.proofs.TwoParts.{upto_split}
use Rattle.store_rules.specs.Store.{Store, Link, link_at, links_of, offset_of}
use Rattle.store_rules.specs.SlotLinks.{links_from}
use Rattle.store_reader.specs.declared.LinkRows.{LinkRows}
use Rattle.store_reader.specs.Rows.{InOrder, ParentRows}
use Rattle.store_reader.proofs.Rows.{Low, parent_in_order}

-- the links of the rows from lo up to hi, hi left out
abbrev pub links_between : Store → ℕ → ℕ → List Link
links_between s lo hi = upto (λ i. link_at s (lo + i)) (hi - lo)

-- the first, then the others
pub between_next : (s : Store) (lo hi : ℕ) → lo < hi → links_between s lo hi ≡ link_at s lo ∷ links_between s (lo + 1) hi
between_next s lo hi l =
    let m = hi - (lo + 1) in
    let n : hi - lo ≡ suc m = omega arith in
    let z : lo + 0 ≡ lo = omega arith in
    ap (upto (λ i. link_at s (lo + i))) n
    ∙ upto-cons (λ i. link_at s (lo + i)) m
    ∙ ap₂ (λ (k : ℕ) (ls : List Link). link_at s k ∷ ls) z
    (upto-same (λ i. link_at s (lo + suc i)) (λ i. link_at s (lo + 1 + i)) m
    (λ i h. let e : lo + suc i ≡ lo + 1 + i = omega arith in ap (link_at s) e))

pub between_none : (s : Store) (lo hi : ℕ) → hi ≤ lo → links_between s lo hi ≡ []
between_none s lo hi l = let z : hi - lo ≡ 0 = omega arith in rw z (flat_none (λ i. link_at s (lo + i) ∷ []))

module _ (s : Store) (order : InOrder s.links s.link_count) (low : Low s) (p : ℕ) {r : LinkRows} (rows : ParentRows s.links s.link_count p r) where
  -- link i of those from a on
  abbrev from : ℕ → ℕ → Link
  from a i = link_at s (a + i)

  own : (k : ℕ) → k < s.link_count → r.first ≤ k → k < r.after → offset_of p (link_at s k) ≡ true
  own k m a h = sym (parent_in_order s order low p rows k m) ∙ is_between r.first r.after k a h

  other : (k : ℕ) → k < s.link_count → (k < r.first) ⊎ (r.after ≤ k) → offset_of p (link_at s k) ≡ false
  other k m out =
      sym (parent_in_order s order low p rows k m)
      ∙ ⊎_elim (below_range r.first r.after k) (above_range r.first r.after k) out

  pub own_links : sift (offset_of p) (links_of s) ≡ links_between s r.first r.after
  unfolding links_of
  own_links =
      let test : Link → Bool = offset_of p in
      let lo = r.first in
      let hi = r.after in
      let n = s.link_count in
      let whole : hi + (n - hi) ≡ n = omega (arith, rows.after.within) in
      let half : lo + (hi - lo) ≡ hi = omega (arith, rows.rise) in
      let early : List Link = upto (link_at s) lo in
      let mine : List Link = upto (from lo) (hi - lo) in
      let late : List Link = upto (from hi) (n - hi) in
      let parts : upto (link_at s) n ≡ early ++ mine ++ late
      = ap (upto (link_at s)) (sym whole)
      ∙ upto_split (link_at s) hi (n - hi)
      ∙ ap (λ (x : List Link). x ++ late) (ap (upto (link_at s)) (sym half) ∙ upto_split (link_at s) lo (hi - lo)) in
      ap (sift test) parts
      ∙ sift-append test (early ++ mine) late
      ∙ ap₂ (λ (x y : List Link). x ++ y)
      (sift-append test early mine
      ∙ ap₂ (λ (x y : List Link). x ++ y)
      (sift-upto test (link_at s) lo
      ∙ picked_none (λ k. test (link_at s k)) (link_at s) lo (λ k l. other k (omega (arith, rows.first.within)) (inl l)))
      (sift-upto test (from lo) (hi - lo)
      ∙ picked_same (λ k. test (from lo k)) (λ k. true) (from lo) (from lo) (hi - lo)
      (λ k l. own (lo + k) (omega (arith, rows.after.within)) (omega arith) (omega arith))
      (λ k l e i. from lo k)))
      (sift-upto test (from hi) (n - hi)
      ∙ picked_none (λ k. test (from hi k)) (from hi) (n - hi) (λ k l. other (hi + k) (omega arith) (inr (omega arith))))
      ∙ append-nil mine

  -- it has as many links as rows
  pub own_many : r.after - r.first ≡ links_from s p
  unfolding links_from
  own_many = sym (ap length own_links ∙ length-upto (λ i. link_at s (r.first + i)) (r.after - r.first))

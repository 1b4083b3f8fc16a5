-- The links of a sound store: each fits, and they ascend; and rows of which this holds are those of a sound store. Assumes nothing.
use Prim.Native.Nat.{ℕ, zero, suc, ◌+◌, ◌<◌, ◌≤◌}
use mathlib.Core.Path.{◌≡◌, refl, sym, ap, subst, ◌∙◌}
use mathlib.Core.Bool.{true}
use mathlib.Core.List.{List}
use mathlib.Core.Logic.{inl, inr, ⊎_elim}
use native.Mathlib.Omega.{arith}
use lib.ListN.{length, get_or}
use Rattle.folds.specs.Folds.{upto, flat}
use Rattle.folds.proofs.Tests.{either}
use Rattle.folds.proofs.Each.{Each, each_at, each_upto}
use Rattle.folds.proofs.Folds.{length-upto}
use Rattle.store_rules.specs.Store.{Store, Link, links_of, link_at, is_offset, offset_of, parent_of, position_of, shaped, ascends, size_of}
use Rattle.store_rules.specs.Appended.{link}
use Rattle.store_rules.proofs.Sound.{Fits, LinkFits, size_most}
use Rattle.store_rules.proofs.Shaped.{Formed, formed_in, of_offset, of_parent, offset_inside, offset_shaped, shaped_then, shaped_leading}
use Rattle.store_rules.proofs.LinkRows.{no_link, row_is}
use Rattle.store_rules.proofs.LinksAscend.{Behind, Climb, climb_upto, climb_two}
use Rattle.store_rules.proofs.RowOrder.{rows_from_lem, from_rows}

-- a link that a store may hold: "links name objects in use", of its kind's shape
pub record Fitting (s : Store) (l : Link) : Type 0 where
  pub parent_used : l.parent < s.object_count
  pub child_used : l.child < s.object_count
  pub shape : shaped (size_of s l.parent) l ≡ true

-- a new link
pub link_fitting : (s : Store) (p q c : ℕ) → p < s.object_count → c < s.object_count → q + 2 ≤ size_of s p → Fitting s (link p q c)
link_fitting s p q c a b i = record { parent_used = a; child_used = b; shape = offset_shaped (size_of s p) (link p q c) refl refl i }

-- a link that led to another child, or stood in another parent of the same size
pub fitting_then : (s : Store) (l m : Link) (size : ℕ) → m.kind ≡ l.kind → m.width ≡ l.width → m.position ≡ l.position
    → m.parent < s.object_count → m.child < s.object_count → (is_offset l ≡ true → l.position + 2 ≤ size → l.position + 2 ≤ size_of s m.parent)
    → shaped size l ≡ true → Fitting s m
fitting_then s l m size a b c p d i h =
    record { parent_used = p; child_used = d; shape = shaped_leading (size_of s m.parent) l m a b c (shaped_then size l (size_of s m.parent) i h) }

pub rows_many : (s : Store) → length (links_of s) ≡ s.link_count
unfolding links_of
rows_many s = length-upto (link_at s) s.link_count

-- ---- of a sound store

module _ (s : Store) (f : Fits s) where
  pub row_fitting : (k : ℕ) → k < s.link_count → Fitting s (link_at s k)
  row_fitting k l = let r = f.link k l in record { parent_used = r.parent_used; child_used = r.child_used; shape = r.shape }

  -- an offset lies in its parent
  pub row_inside : (k p : ℕ) → k < s.link_count → offset_of p (link_at s k) ≡ true → position_of s k + 2 ≤ size_of s p
  row_inside k p l o =
      subst (λ (i : ℕ). position_of s k + 2 ≤ size_of s i) (of_parent p (link_at s k) o)
      (offset_inside (size_of s (parent_of s k)) (link_at s k) (of_offset p (link_at s k) o) (f.link k l).shape)

  pub links_fit_lem : Each (Fitting s) (links_of s)
  unfolding links_of
  links_fit_lem = each_upto (Fitting s) (link_at s) s.link_count row_fitting

  pub row_formed : (k : ℕ) → k < s.link_count → Formed (link_at s k)
  row_formed k l =
      let r = f.link k l in
      formed_in (size_of s (parent_of s k)) (link_at s k) (size_most s f (parent_of s k) r.parent_used) r.shape

  pub row_behind : (k : ℕ) → suc k < s.link_count → Behind (link_at s k) (link_at s (suc k))
  unfolding ascends
  row_behind k h =
      rows_from_lem (link_at s k) (link_at s (suc k)) (row_formed k (omega arith)) (row_formed (suc k) h) (f.link (suc k) h).rising

  -- "Rows strictly ascend"
  pub rows_climb : Climb 0 0 s.object_count (links_of s)
  unfolding links_of flat
  rows_climb = ⊎_elim used none (either 0 s.object_count)
    where
      used : 0 < s.object_count → Climb 0 0 s.object_count (upto (link_at s) s.link_count)
      used u =
          climb_upto (link_at s) s.link_count 0 0 s.object_count row_behind (λ k l. (f.link k l).parent_used) u
          (λ l. ⊎_elim (λ a. inl a) (λ a. inr (omega arith, omega arith)) (either 0 (parent_of s 0)))

      -- with no objects there are no links
      none : s.object_count ≤ 0 → Climb 0 0 s.object_count (upto (link_at s) s.link_count)
      none z =
          let empty : s.link_count ≡ 0 = ⊎_elim (λ l. absurd (omega (arith, (f.link 0 l).parent_used))) (λ l. omega arith) (either 0 s.link_count) in
          subst (λ (n : ℕ). Climb 0 0 s.object_count (upto (link_at s) n)) (sym empty) (inr (omega arith, omega arith))

-- ---- and the other way round

module _ (s : Store) (ls : List Link) (is : links_of s ≡ ls) (small : (i : ℕ) → i < s.object_count → size_of s i ≤ 16777216) (fit : Each (Fitting s) ls) (e : ℕ) (climbs : Climb 0 0 e ls) where
  row : (k : ℕ) → k < s.link_count → link_at s k ≡ get_or ls k no_link
  row k h = row_is s ls is k h no_link

  many : length ls ≡ s.link_count
  many = sym (ap length is) ∙ rows_many s

  row_fits : (k : ℕ) → k < s.link_count → Fitting s (link_at s k)
  row_fits k h = subst (Fitting s) (sym (row k h)) (each_at (Fitting s) ls fit k (omega (arith, many)) no_link)

  row_forms : (k : ℕ) → k < s.link_count → Formed (link_at s k)
  row_forms k h = let r = row_fits k h in formed_in (size_of s (parent_of s k)) (link_at s k) (small (parent_of s k) r.parent_used) r.shape

  row_rises : (k : ℕ) → k < s.link_count → ascends s k ≡ true
  unfolding ascends
  row_rises zero h = refl
  row_rises (suc k) h =
      let l = link_at s k in
      let m = link_at s (suc k) in
      let listed = climb_two ls 0 0 e climbs k (suc k) (omega arith) (omega (arith, many)) no_link in
      let first : Behind l (get_or ls (suc k) no_link) = subst (λ (a : Link). Behind a (get_or ls (suc k) no_link)) (sym (row k (omega arith))) listed in
      let both : Behind l m = subst (Behind l) (sym (row (suc k) h)) first in
      from_rows l m (row_forms k (omega arith)) (row_forms (suc k) h) both

  pub rows_fit : (k : ℕ) → k < s.link_count → LinkFits s k
  rows_fit k h =
      let r = row_fits k h in
      record { parent_used = r.parent_used; child_used = r.child_used; shape = r.shape; rising = row_rises k h }

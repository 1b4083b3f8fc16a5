-- Slots that stand in a row, and the links that fill them, in order: where all links of an object stand at its slots, these are its own links. Assumes nothing.
use Rattle.std.specs.Prelude.{Option, Some, None}
use Prim.Native.Nat.{ℕ, zero, suc, ◌+◌, ◌-◌, ◌*◌, ◌<◌, ◌≤◌}
use mathlib.Core.Path.{◌≡◌, refl, sym, ap, subst, ◌∙◌}
use mathlib.Core.Bool.{Bool, true, cond}
use mathlib.Core.List.{List, [], ◌∷◌, map}
use mathlib.Core.Logic.{◌⊎◌, inl, inr}
use native.Mathlib.Omega.{arith}
use lib.ListN.{length}
use lib.Dec.{eqb}
use borrow.Author.Tests.{eq-eqb}
use Rattle.folds.specs.Folds.{upto}
use Rattle.folds.specs.Lists.{sift}
use Rattle.folds.proofs.Tests.{by_test, and_both}
use Rattle.folds.proofs.Folds.{flat_none, upto-cons, upto-same}
use Rattle.folds.proofs.Each.{Each, each_upto}
use Rattle.ot_layouts.specs.Lookup.{is_one_of, lookup_header, subtable_count, lookup_exact, is_subtable_slot}
use Rattle.ot_layouts.proofs.LookupSlots.{which_slot}
use Rattle.store_rules.specs.Store.{Store, Link, lookup, links_of, link_at, child_at, bytes_of, position_of, offset_of, all_at}
use Rattle.store_rules.proofs.Sound.{Fits}
use Rattle.store_rules.proofs.Slots.{one_stands}
use Rattle.store_rules.proofs.Shaped.{of_offset, of_parent}
use Rattle.store_rules.proofs.Lookups.{hit_apart}
use Rattle.store_rules.proofs.LinksAscend.{From, Climb, place, place_offset}
use Rattle.store_rules.proofs.LinksFit.{rows_climb}
use Rattle.lookup_rules.specs.Listed.{slots_at, linked_in, subtable_slots, good_lookup}
use Rattle.lookup_rules.specs.Written.{listings}

-- these links fill these slots, of which the first is at a: each is passed with no link, or has the next one
pub data Filled : ℕ → List Link → List (Option ℕ) → Type 0 where
  end : {a : ℕ} → Filled a [] []
  empty : {a : ℕ} {ls : List Link} {os : List (Option ℕ)} → Filled (a + 2) ls os → Filled a ls (None ∷ os)
  linked : {a : ℕ} {l : Link} {ls : List Link} {os : List (Option ℕ)} → l.position ≡ a → Filled (a + 2) ls os → Filled a (l ∷ ls) (Some l.child ∷ os)

-- ---- what follows

-- what the slots lead to, in order, are the children of the links
pub filled_linked : {a : ℕ} {ls : List Link} {os : List (Option ℕ)} → Filled a ls os → linked_in os ≡ map (λ l. l.child) ls
unfolding linked_in
filled_linked end = refl
filled_linked (empty f) = filled_linked f
filled_linked (linked {l = l} e f) = ap (λ (cs : List ℕ). l.child ∷ cs) (filled_linked f)

-- t is listed as often as a link leads to it
pub filled_listings : (t : ℕ) {a : ℕ} {ls : List Link} {os : List (Option ℕ)} → Filled a ls os → listings t os ≡ length (sift (λ l. eqb l.child t) ls)
unfolding listings sift
filled_listings t end = refl
filled_listings t (empty f) = filled_listings t f
filled_listings t (linked {l = l} e f) = by_test (eqb l.child t) (λ b. rw b (ap suc (filled_listings t f))) (λ b. rw b (filled_listings t f))

-- ---- links of object p that ascend, each at a slot

module _ (p : ℕ) where
  -- from slot a on, before e
  abbrev Stands : ℕ → ℕ → List Link → Type 0
  Stands a e [] = Unit {0}
  Stands a e (l ∷ ls) = (offset_of p l ≡ true) × (l.position < e) × ((i : ℕ) × (l.position ≡ a + 2 * i)) × Stands (l.position + 2) e ls

  none_below : (ls : List Link) (a e q : ℕ) → Stands a e ls → q < a → lookup ls p q ≡ None
  unfolding lookup
  none_below [] a e q s h = refl
  none_below (l ∷ ls) a e q (parent, below, (i, at), rest) h =
      ap (λ (b : Bool). cond b (Some l.child) (lookup ls p q)) (hit_apart l p q (λ z. omega arith)) ∙ none_below ls (l.position + 2) e q rest (omega arith)

  passed : (l : Link) (ls : List Link) (q : ℕ) → (l.position ≡ q → ⊥) → lookup (l ∷ ls) p q ≡ lookup ls p q
  unfolding lookup
  passed l ls q ne =
      ap (λ (b : Bool). cond b (Some l.child) (lookup ls p q)) (hit_apart l p q ne)

  here : (l : Link) (ls : List Link) (q : ℕ) → offset_of p l ≡ true → l.position ≡ q → lookup (l ∷ ls) p q ≡ Some l.child
  unfolding lookup
  here l ls q e f = rw (e, eq-eqb l.position q f)

  -- n slots from a on
  abbrev slots : List Link → ℕ → ℕ → List (Option ℕ)
  slots ls a n = upto (λ i. lookup ls p (a + 2 * i)) n

  slots_next : (ls : List Link) (a n : ℕ) (o : Option ℕ) (ls' : List Link) → lookup ls p a ≡ o
      → ((i : ℕ) → lookup ls p (a + 2 + 2 * i) ≡ lookup ls' p (a + 2 + 2 * i)) → slots ls a (suc n) ≡ o ∷ slots ls' (a + 2) n
  slots_next ls a n o ls' e same =
      upto-cons (λ i. lookup ls p (a + 2 * i)) n
      ∙ ap (λ (x : Option ℕ). x ∷ upto (λ i. lookup ls p (a + 2 * suc i)) n) (let z : a + 2 * 0 ≡ a = omega arith in ap (lookup ls p) z ∙ e)
      ∙ ap (λ (xs : List (Option ℕ)). o ∷ xs)
      (upto-same (λ i. lookup ls p (a + 2 * suc i)) (λ i. lookup ls' p (a + 2 + 2 * i)) n
      (λ i l. let z : a + 2 * suc i ≡ a + 2 + 2 * i = omega arith in ap (lookup ls p) z ∙ same i))

  stand_filled : (n a e : ℕ) (ls : List Link) → a + 2 * n ≡ e → Stands a e ls → Filled a ls (slots ls a n)
  unfolding lookup
  stand_filled zero a e [] z s = subst (Filled a []) (sym (flat_none (λ i. lookup [] p (a + 2 * i) ∷ []))) end
  stand_filled zero a e (l ∷ ls) z (parent, below, (i, at), rest) = absurd (omega arith)
  stand_filled (suc n) a e [] z s =
      subst (Filled a []) (sym (slots_next [] a n None [] refl (λ i. refl))) (empty (stand_filled n (a + 2) e [] (omega arith) tt))
  stand_filled (suc n) a e (l ∷ ls) z (parent, below, (zero, at), rest) =
      let q : l.position ≡ a = omega arith in
      let later : Stands (a + 2) e ls = subst (λ (x : ℕ). Stands (x + 2) e ls) q rest in
      subst (Filled a (l ∷ ls)) (sym (slots_next (l ∷ ls) a n (Some l.child) ls (here l ls a parent q) (λ i. passed l ls (a + 2 + 2 * i) (λ w. omega arith))))
      (linked q (stand_filled n (a + 2) e ls (omega arith) later))
  stand_filled (suc n) a e (l ∷ ls) z (parent, below, (suc i, at), rest) =
      let later : Stands (a + 2) e (l ∷ ls) = (parent, below, (i, omega arith), rest) in
      subst (Filled a (l ∷ ls)) (sym (slots_next (l ∷ ls) a n None (l ∷ ls) (none_below (l ∷ ls) (a + 2) e a later (omega arith)) (λ i. refl)))
      (empty (stand_filled n (a + 2) e (l ∷ ls) (omega arith) later))

  -- ---- those of a sound store

  lookup_own : (ls : List Link) (q : ℕ) → lookup (sift (offset_of p) ls) p q ≡ lookup ls p q
  unfolding lookup sift
  lookup_own [] q = refl
  lookup_own (l ∷ ls) q =
      by_test (offset_of p l)
      (λ e. rw (e, e, lookup_own ls q))
      (λ e. rw e (lookup_own ls q))

  module _ (a n : ℕ) where
    abbrev AtSlot : Link → Type 0
    AtSlot l = offset_of p l ≡ true → (i : ℕ) × (i < n) × (l.position ≡ a + 2 * i)

    -- slot j is not passed yet
    abbrev Before : ℕ → ℕ → ℕ → Type 0
    Before j x y = (j ≡ 0) ⊎ From p (a + 2 * j) x (y + 1)

    still_before : (j x y v w : ℕ) → Before j x y → From x y v w → Before j v (w + 1)
    still_before j x y v w (inl z) c = inl z
    still_before j x y v w (inr (inl l)) (inl m) = inr (inl (omega arith))
    still_before j x y v w (inr (inl l)) (inr (m, k)) = inr (inl (omega arith))
    still_before j x y v w (inr (inr (l, k))) (inl m) = inr (inl (omega arith))
    still_before j x y v w (inr (inr (l, k))) (inr (m, h)) = inr (inr (l ∙ m, omega arith))

    not-before : (j x y v w : ℕ) → Before j x y → From x y v w → v ≡ p → (i : ℕ) → w ≡ a + 2 * i → j ≤ i
    not-before j x y v w (inl z) c e i s = omega arith
    not-before j x y v w (inr (inl l)) (inl m) e i s = absurd (omega arith)
    not-before j x y v w (inr (inl l)) (inr (m, k)) e i s = absurd (omega arith)
    not-before j x y v w (inr (inr (l, k))) (inl m) e i s = absurd (omega arith)
    not-before j x y v w (inr (inr (l, k))) (inr (m, h)) e i s = omega arith

    own_stand : (ls : List Link) (x y z j : ℕ) → Climb x y z ls → Each AtSlot ls → Before j x y → Stands (a + 2 * j) (a + 2 * n) (sift (offset_of p) ls)
    unfolding sift
    own_stand [] x y z j c at b = tt
    own_stand (l ∷ ls) x y z j c at b =
        by_test (offset_of p l)
        (λ e.
        let parent = of_parent p l e in
        let (i, m, s) = at.0 e in
        let here = place_offset l (of_offset p l e) in
        let k = not-before j x y l.parent (place l) b c.0 parent i (here ∙ s) in
        let next : a + 2 * (i + 1) ≡ l.position + 2 = omega arith in
        let rest = own_stand ls l.parent (place l + 1) z (i + 1) c.1 at.1 (inr (inr (sym parent, omega arith))) in
        rw e (e, omega arith, (i - j, omega arith), subst (λ (q : ℕ). Stands q (a + 2 * n) (sift (offset_of p) ls)) next rest))
        (λ e. rw e (own_stand ls l.parent (place l + 1) z j c.1 at.1 (still_before j x y l.parent (place l) b c.0)))

  pub slots_filled : (s : Store) → Fits s → (a n : ℕ) → all_at s p (is_one_of a n) ≡ true → Filled a (sift (offset_of p) (links_of s)) (slots_at s p a n)
  unfolding slots_at child_at links_of
  slots_filled s f a n stand =
      let own = sift (offset_of p) (links_of s) in
      let at : Each (AtSlot a n) (links_of s)
      = each_upto (AtSlot a n) (link_at s) s.link_count (λ k l e. which_slot a n (position_of s k) (one_stands s p (is_one_of a n) stand k l e)) in
      let first : a + 2 * 0 ≡ a = omega arith in
      let stands : Stands a (a + 2 * n) own
      = subst (λ (x : ℕ). Stands x (a + 2 * n) own) first (own_stand a n (links_of s) 0 0 s.object_count 0 (rows_climb s f) at (inl refl)) in
      subst (Filled a own) (upto-same (λ i. lookup own p (a + 2 * i)) (λ i. lookup (links_of s) p (a + 2 * i)) n (λ i l. lookup_own (links_of s) (a + 2 * i)))
      (stand_filled n a (a + 2 * n) own refl stands)

-- the links of a lookup that 9 does not refuse fill its subtable slots
pub lookup_filled : (s : Store) → Fits s → (p : ℕ) → good_lookup s p ≡ true → Filled lookup_header (sift (offset_of p) (links_of s)) (subtable_slots s p)
unfolding good_lookup subtable_slots is_subtable_slot
lookup_filled s f p good =
    let b = bytes_of s p in
    let (exactly, stand) = and_both (lookup_exact b) (all_at s p (is_subtable_slot b)) good in
    slots_filled p s f lookup_header (subtable_count b) stand

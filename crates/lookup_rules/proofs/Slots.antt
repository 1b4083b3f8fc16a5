-- Slots and what they lead to; lists with each number once; what is entered behind a listing. Assumes nothing.
use Rattle.std.specs.Prelude.{Option, Some, None}
use Prim.Native.Nat.{ℕ, zero, suc, ◌+◌, ◌*◌, ◌<◌}
use mathlib.Core.Path.{◌≡◌, refl, sym, ap, subst, ◌∙◌}
use mathlib.Core.Bool.{Bool, true, false, cond, not, ◌||◌}
use mathlib.Core.List.{List, [], ◌∷◌, ◌++◌, map}
use native.Mathlib.Omega.{arith}
use native.Mathlib.Decide.{ℕ_discrete}
use native.Mathlib.Nat.{not-suc-le-zero}
use lib.ListN.{length, get_or}
use lib.Dec.{eqb}
use borrow.Author.Tests.{ne_eqb, eq-eqb}
use Rattle.folds.specs.Folds.{flat, upto}
use Rattle.folds.specs.Lists.{among, sift}
use Rattle.folds.proofs.Tests.{true_false}
use Rattle.folds.proofs.Among.{among_later}
use Rattle.folds.proofs.Folds.{length-upto}
use Rattle.folds.proofs.FromTheFront.{upto-at}
use Rattle.folds.proofs.Each.{Each, each_append, each_sift}
use Rattle.ot_layouts.specs.Lookup.{is_one_of}
use Rattle.ot_layouts.proofs.LookupSlots.{which_slot}
use Rattle.store_rules.specs.Store.{Store, child_at}
use Rattle.store_rules.proofs.Lookups.{mapped}
use Rattle.lookup_rules.specs.Listed.{slots_at, linked_in, leads_to, any_leads, each_once}
use Rattle.lookup_rules.specs.Written.{entered}

-- ---- lists

pub among-sift : (p : ℕ → Bool) (x : ℕ) (xs : List ℕ) → among x xs ≡ true → p x ≡ true → among x (sift p xs) ≡ true
unfolding among sift
among-sift p x [] h k = h
among-sift p x (y ∷ ys) h k = go (ℕ_discrete x y) (p y) refl (λ m. among-sift p x ys m k)
  where
    go : Dec (x ≡ y) → (b : Bool) → p y ≡ b → (among x ys ≡ true → among x (sift p ys) ≡ true) → among x (cond b (y ∷ sift p ys) (sift p ys)) ≡ true
    go (yes e) true f ih = rw (eq-eqb x y e)
    go (yes e) false f ih = true_false (sym k ∙ ap p e ∙ f)
    go (no n) true f ih = rw (ne_eqb x y n) (ih (rw (ne_eqb x y n) at h))
    go (no n) false f ih = ih (rw (ne_eqb x y n) at h)

-- "each once" leaves out none
pub among-once : (x : ℕ) (xs : List ℕ) → among x xs ≡ true → among x (each_once xs) ≡ true
unfolding among each_once
among-once x [] h = h
among-once x (y ∷ ys) h = go (ℕ_discrete x y) (among-once x ys)
  where
    go : Dec (x ≡ y) → (among x ys ≡ true → among x (each_once ys) ≡ true) → cond (eqb x y) true (among x (sift (λ z. not (eqb y z)) (each_once ys))) ≡ true
    go (yes e) ih = rw (eq-eqb x y e)
    go (no n) ih =
        rw (ne_eqb x y n)
        (among-sift (λ z. not (eqb y z)) x (each_once ys) (ih (rw (ne_eqb x y n) at h)) (rw (ne_eqb y x (λ e. n (sym e)))))

pub each_once_lem : (P : ℕ → Type 0) (xs : List ℕ) → Each P xs → Each P (each_once xs)
unfolding each_once
each_once_lem P [] a = tt
each_once_lem P (x ∷ xs) a = (a.0, each_sift P P (λ y. not (eqb x y)) (λ y p e. p) (each_once xs) (each_once_lem P xs a.1))

-- ---- what slots lead to

pub linked_append : (xs ys : List (Option ℕ)) → linked_in (xs ++ ys) ≡ linked_in xs ++ linked_in ys
unfolding linked_in
linked_append [] ys = refl
linked_append (Some c ∷ xs) ys = ap (λ (z : List ℕ). c ∷ z) (linked_append xs ys)
linked_append (None ∷ xs) ys = linked_append xs ys

pub linked_all : (us : List ℕ) → linked_in (map Some us) ≡ us
unfolding linked_in
linked_all [] = refl
linked_all (u ∷ us) = ap (λ (z : List ℕ). u ∷ z) (linked_all us)

pub linked_mapped : (h : ℕ → ℕ) (os : List (Option ℕ)) → linked_in (map (mapped h) os) ≡ map h (linked_in os)
unfolding linked_in
linked_mapped h [] = refl
linked_mapped h (Some c ∷ os) = ap (λ (z : List ℕ). h c ∷ z) (linked_mapped h os)
linked_mapped h (None ∷ os) = linked_mapped h os

-- what holds of each slot's object holds of each that is linked
pub each_linked : (P : ℕ → Type 0) (f : ℕ → Option ℕ) (n : ℕ) → ((i c : ℕ) → i < n → f i ≡ Some c → P c) → Each P (linked_in (upto f n))
unfolding flat linked_in
each_linked P f zero h = tt
each_linked P f (suc n) h =
    subst (Each P) (sym (linked_append (upto f n) (f n ∷ [])))
    (each_append P (linked_in (upto f n)) (linked_in (f n ∷ [])) (each_linked P f n (λ i c l e. h i c (omega arith) e)) (last (f n) refl))
  where
    last : (o : Option ℕ) → f n ≡ o → Each P (linked_in (o ∷ []))
    last (Some c) e = (h n c (omega arith) e, tt)
    last None e = tt

pub among-linked : (os : List (Option ℕ)) (i c : ℕ) → i < length os → get_or os i None ≡ Some c → among c (linked_in os) ≡ true
unfolding among linked_in
among-linked [] i c h e = absurd (not-suc-le-zero h)
among-linked (Some d ∷ os) zero c h e = rw (eq-eqb c d cc)
among-linked (None ∷ os) zero c h e = let z : ◌≡◌ {A = ℕ} 0 1 = cc in absurd (omega arith)
among-linked (Some d ∷ os) (suc i) c h e = among_later c d (linked_in os) (among-linked os i c (omega arith) e)
among-linked (None ∷ os) (suc i) c h e = among-linked os i c (omega arith) e

-- what a slot of an object leads to is among what its slots lead to
pub among-slots : (s : Store) (p a n q c : ℕ) → is_one_of a n q ≡ true → child_at s p q ≡ Some c → among c (linked_in (slots_at s p a n)) ≡ true
unfolding slots_at
among-slots s p a n q c h e =
    let (i, l, z) = which_slot a n q h in
    let f : ℕ → Option ℕ = λ i. child_at s p (a + 2 * i) in
    among-linked (upto f n) i c (omega (arith, length-upto f n)) (upto-at f n i None l ∙ ap (child_at s p) (sym z) ∙ e)

-- one leads to t where t is among them
pub leads_among : (t : ℕ) (os : List (Option ℕ)) → any_leads t os ≡ among t (linked_in os)
unfolding any_leads linked_in among
leads_among t [] = refl
leads_among t (None ∷ os) = leads_among t os
leads_among t (Some c ∷ os) = go (ℕ_discrete c t) (leads_among t os)
  where
    go : Dec (c ≡ t) → any_leads t os ≡ among t (linked_in os) → (eqb c t || any_leads t os) ≡ cond (eqb t c) true (among t (linked_in os))
    go (yes e) ih = rw (eq-eqb c t e, eq-eqb t c (sym e))
    go (no n) ih = rw (ne_eqb c t n, ne_eqb t c (λ e. n (sym e))) ih

-- ---- what is entered

-- where a slot leads to t, which one does
pub leads_slot : (t : ℕ) (os : List (Option ℕ)) → any_leads t os ≡ true → (i : ℕ) × (i < length os) × (get_or os i None ≡ Some t)
unfolding any_leads
leads_slot t [] h = true_false (sym h)
leads_slot t (None ∷ os) h = let (i, a, b) = leads_slot t os h in (suc i, omega arith, b)
leads_slot t (Some c ∷ os) h = go (ℕ_discrete c t) (leads_slot t os)
  where
    go : Dec (c ≡ t) → (any_leads t os ≡ true → (i : ℕ) × (i < length os) × (get_or os i None ≡ Some t))
        → (i : ℕ) × (i < length (Some c ∷ os)) × (get_or (Some c ∷ os) i None ≡ Some t)
    go (yes e) ih = (0, omega arith, ap Some e)
    go (no n) ih = let (i, a, b) = ih (rw (ne_eqb c t n) at h) in (suc i, omega arith, b)

-- where none does, nothing is entered
pub nothing_entered : (t : ℕ) (us : List ℕ) (os : List (Option ℕ)) → any_leads t os ≡ false → entered t us os ≡ os
unfolding any_leads entered
nothing_entered t us [] h = refl
nothing_entered t us (o ∷ os) h = go (leads_to t o) h (nothing_entered t us os)
  where
    go : (b : Bool) → (b || any_leads t os) ≡ false → (any_leads t os ≡ false → entered t us os ≡ os)
        → (o ∷ cond b (map Some us ++ entered t us os) (entered t us os)) ≡ o ∷ os
    go true k ih = true_false k
    go false k ih = ap (λ (z : List (Option ℕ)). o ∷ z) (ih k)

-- what holds of the new tables and of each slot's object holds of each that is entered
pub each_entered : (P : ℕ → Type 0) (t : ℕ) (us : List ℕ) (os : List (Option ℕ)) → Each P us → Each P (linked_in os) → Each P (linked_in (entered t us os))
unfolding entered linked_in
each_entered P t us [] a b = tt
each_entered P t us (None ∷ os) a b = each_entered P t us os a b
each_entered P t us (Some c ∷ os) a b = (b.0, go (leads_to t (Some c)) (each_entered P t us os a b.1))
  where
    go : (x : Bool) → Each P (linked_in (entered t us os)) → Each P (linked_in (cond x (map Some us ++ entered t us os) (entered t us os)))
    go false i = i
    go true i =
        subst (Each P) (sym (linked_append (map Some us) (entered t us os)))
        (each_append P (linked_in (map Some us)) (linked_in (entered t us os)) (subst (Each P) (sym (linked_all us)) a) i)

-- Redirection: what is not rewritten stays, and each of the others becomes the new lookup at its place. Assumes nothing.
use Rattle.std.specs.Prelude.{Option, Some, None}
use Prim.Native.Nat.{ℕ, suc, ◌+◌, ◌<◌}
use mathlib.Core.Path.{◌≡◌, refl, sym, ap, subst, ◌∙◌}
use mathlib.Core.Bool.{true, false, cond}
use mathlib.Core.List.{List, [], ◌∷◌, map}
use mathlib.Core.Logic.{◌⊎◌, inl, inr, ⊎_elim}
use native.Mathlib.Omega.{arith}
use native.Mathlib.Decide.{ℕ_discrete}
use lib.ListN.{length, get_or}
use lib.Dec.{eqb}
use borrow.Author.Tests.{eq-eqb, ne_eqb}
use Rattle.folds.specs.Lists.{among}
use Rattle.folds.proofs.Each.{each_at, among_each}
use Rattle.store_rules.specs.Store.{Link, lookup}
use Rattle.store_rules.proofs.Lookups.{mapped, lookup_changed}
use Rattle.lookup_rules.specs.Written.{redirect, redirected}

-- what stands in a list is one of it
pub among-place : (xs : List ℕ) (m : ℕ) → m < length xs → among (get_or xs m 0) xs ≡ true
among-place xs m l = each_at (λ x. among x xs ≡ true) xs (among_each (λ x. among x xs ≡ true) xs (λ x h. h)) m l 0

-- place m of the list has c, and c becomes new lookup m
abbrev pub At : ℕ → List ℕ → ℕ → Type 0
At n ps c = (m : ℕ) × (m < length ps) × (get_or ps m 0 ≡ c) × (redirect n ps c ≡ n + m)

-- c is one of the list, or stays
pub redirect_either : (n : ℕ) (ps : List ℕ) (c : ℕ) → At n ps c ⊎ ((among c ps ≡ false) × (redirect n ps c ≡ c))
unfolding redirect among
redirect_either n [] c = inr (refl, refl)
redirect_either n (p ∷ ps) c = go (ℕ_discrete c p) (redirect_either (n + 1) ps c)
  where
    go : Dec (c ≡ p) → At (n + 1) ps c ⊎ ((among c ps ≡ false) × (redirect (n + 1) ps c ≡ c))
        → At n (p ∷ ps) c ⊎ ((cond (eqb c p) true (among c ps) ≡ false) × (cond (eqb c p) n (redirect (n + 1) ps c) ≡ c))
    go (yes e) ih = let z : n ≡ n + 0 = omega arith in inl (0, omega arith, sym e, rw (eq-eqb c p e) z)
    go (no ne) (inl (m, l, a, b)) =
        let z : n + 1 + m ≡ n + suc m = omega arith in
        inl (suc m, omega arith, a, rw (ne_eqb c p ne) (b ∙ z))
    go (no ne) (inr (a, b)) = inr (rw (ne_eqb c p ne) a, rw (ne_eqb c p ne) b)

module _ (n : ℕ) (ps : List ℕ) where
  -- what is not rewritten stays
  pub redirect_other : (c : ℕ) → (among c ps ≡ true → ⊥) → redirect n ps c ≡ c
  redirect_other c ne =
      ⊎_elim (λ (m, l, a, b). absurd (ne (subst (λ (x : ℕ). among x ps ≡ true) a (among-place ps m l)))) (λ (a, b). b) (redirect_either n ps c)

  -- and nothing passes the last new lookup
  pub redirect_below : (c : ℕ) → c < n → redirect n ps c < n + length ps
  redirect_below c h = ⊎_elim (λ (m, l, a, b). omega (arith, b)) (λ (a, b). omega (arith, b)) (redirect_either n ps c)

  -- a child that is not rewritten stays
  pub child_stays : (o : Option ℕ) → ((c : ℕ) → o ≡ Some c → among c ps ≡ true → ⊥) → mapped (redirect n ps) o ≡ o
  child_stays None h = refl
  child_stays (Some c) h = ap Some (redirect_other c (h c refl))

  -- ---- links

  -- a link stands where it stood, and leads to what its child became
  pub lookup_redirected : (ls : List Link) (p q : ℕ) → lookup (map (redirected n ps) ls) p q ≡ mapped (redirect n ps) (lookup ls p q)
  unfolding redirected
  lookup_redirected ls p q = lookup_changed (redirected n ps) (redirect n ps) p q (λ l. refl) (λ l. refl) (λ l. refl) (λ l h. refl) ls

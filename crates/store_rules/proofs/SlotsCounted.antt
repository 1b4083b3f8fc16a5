-- The links of an object that all stand at slots are as many as the slots at which one is found. Assumes nothing.
use Rattle.std.specs.Prelude.{Some, None}
use Prim.Native.Nat.{ℕ, ◌+◌, ◌<◌}
use mathlib.Core.Path.{◌≡◌, refl, sym, ap, ◌∙◌}
use mathlib.Core.Bool.{Bool, true, false, cond}
use mathlib.Core.List.{List, [], ◌∷◌}
use mathlib.Core.Logic.{inr, ⊎_elim}
use native.Mathlib.Omega.{arith}
use lib.ListN.{length}
use lib.Dec.{eqb}
use borrow.Author.Tests.{eq-eqb}
use Rattle.folds.specs.Folds.{sum}
use Rattle.folds.specs.Lists.{sift, is_some}
use Rattle.folds.proofs.Tests.{by_test, and_first}
use Rattle.folds.proofs.Each.{Each, each_upto}
use Rattle.folds.proofs.FromTheFront.{sum_same}
use Rattle.folds.proofs.Sums.{sum-zero, sum_but_one}
use Rattle.store_rules.specs.Store.{Store, Link, lookup, links_of, link_at, child_at, position_of, offset_of}
use Rattle.store_rules.proofs.Sound.{Fits}
use Rattle.store_rules.proofs.Shaped.{of_offset, of_parent}
use Rattle.store_rules.proofs.Lookups.{hit, hit_apart}
use Rattle.store_rules.proofs.LinksAscend.{From, Climb, place, place_offset, from_trans, from_next}
use Rattle.store_rules.proofs.LinksFit.{rows_climb}
use Rattle.store_rules.proofs.RowChild.{hit_place}

-- what comes before ascending links is not found among them
none_before_lem : (ls : List Link) (p q x y e : ℕ) → From p (q + 1) x y → Climb x y e ls → lookup ls p q ≡ None
unfolding lookup
none_before_lem [] p q x y e b c = refl
none_before_lem (l ∷ ls) p q x y e b c =
    ap (λ (z : Bool). cond z (Some l.child) (lookup ls p q)) (miss next)
    ∙ none_before_lem ls p q l.parent (place l + 1) e (from_next p (q + 1) l.parent (place l) next) c.1
  where
    next : From p (q + 1) l.parent (place l)
    next = from_trans p (q + 1) x y l.parent (place l) b c.0

    miss : From p (q + 1) l.parent (place l) → hit l p q ≡ false
    miss a =
        by_test (hit l p q) (λ h. let (e, f) = hit_place l p q h in absurd (⊎_elim (λ b. omega arith) (λ (b, d). omega arith) a)) (λ h. h)

-- n slots of object p, each at its own place
module _ (p : ℕ) (slot : ℕ → ℕ) (n : ℕ) (own : (i k : ℕ) → slot i ≡ slot k → i ≡ k) where
  -- a link of p stands at one of them
  abbrev AtSlot : Link → Type 0
  AtSlot l = offset_of p l ≡ true → (i : ℕ) × (i < n) × (l.position ≡ slot i)

  -- 1 where slot k has a link
  abbrev there : List Link → ℕ → ℕ
  there ls k = cond (is_some (lookup ls p (slot k))) 1 0

  found_past : (l : Link) (ls : List Link) (k : ℕ) → hit l p (slot k) ≡ false → there (l ∷ ls) k ≡ there ls k
  unfolding lookup
  found_past l ls k e = ap (λ (z : Bool). cond (is_some (cond z (Some l.child) (lookup ls p (slot k)))) 1 0) e

  found_here : (l : Link) (ls : List Link) (k : ℕ) → offset_of p l ≡ true → l.position ≡ slot k → there (l ∷ ls) k ≡ 1
  unfolding lookup
  found_here l ls k e f = rw (e, eq-eqb l.position (slot k) f)

  counted : (ls : List Link) (x y e : ℕ) → Climb x y e ls → Each AtSlot ls → sum (there ls) n ≡ length (sift (offset_of p) ls)
  unfolding sift lookup
  counted [] x y e c at = sum-zero (there []) n (λ k l. refl)
  counted (l ∷ ls) x y e c at =
      let rest = counted ls l.parent (place l + 1) e c.1 at.1 in
      by_test (offset_of p l)
      (λ z.
      let (k, m, stands) = at.0 z in
      let elsewhere : (j : ℕ) → (j ≡ k → ⊥) → hit l p (slot j) ≡ false
      = λ j ne. hit_apart l p (slot j) (λ w. ne (own j k (sym w ∙ stands))) in
      let others = sum_but_one (there (l ∷ ls)) (there ls) k n m (λ j u ne. found_past l ls j (elsewhere j ne)) in
      let here : there (l ∷ ls) k ≡ 1 = found_here l ls k z stands in
      let none-later = none_before_lem ls p (slot k) l.parent (place l + 1) e (inr (sym (of_parent p l z), omega (arith, place_offset l (of_offset p l z)))) c.1 in
      let gone : there ls k ≡ 0 = rw none-later in
      rw z (omega arith))
      (λ z.
      let same = sum_same (there (l ∷ ls)) (there ls) n (λ k m. found_past l ls k (and_first (offset_of p l) (eqb l.position (slot k)) z)) in
      rw z (omega arith))

  pub slots_counted : (s : Store) → Fits s → ((k : ℕ) → k < s.link_count → offset_of p (link_at s k) ≡ true → (i : ℕ) × (i < n) × (position_of s k ≡ slot i))
      → sum (λ k. cond (is_some (child_at s p (slot k))) 1 0) n ≡ length (sift (offset_of p) (links_of s))
  unfolding child_at links_of
  slots_counted s f at = counted (links_of s) 0 0 s.object_count (rows_climb s f) (each_upto AtSlot (link_at s) s.link_count at)

-- The child at a parent's position, looked up in lists of links and in a store. Assumes nothing.
use Rattle.std.specs.Prelude.{Option, Some, None, unwrap_or}
use Prim.Native.Nat.{ℕ, zero, suc, ◌<◌, ◌≤◌}
use mathlib.Core.Path.{◌≡◌, refl, sym, ap, ◌∙◌}
use mathlib.Core.Bool.{Bool, true, false, cond, ◌&&◌}
use mathlib.Core.List.{List, [], ◌∷◌, ◌++◌, map}
use mathlib.Core.Logic.{⊎_elim}
use native.Mathlib.Omega.{arith}
use native.Mathlib.Nat.{not-suc-le-zero, eq-or-lt_of_le, le_of_suc-le-suc}
use lib.Dec.{eqb}
use borrow.Author.Tests.{eqb-true, ne_eqb}
use Rattle.folds.specs.Folds.{or_else, flat, upto}
use Rattle.folds.specs.Lists.{sift, is_some}
use Rattle.folds.proofs.Tests.{and_both, and_first, and_second, true_false}
use Rattle.folds.proofs.Each.{Each, each_all, each_moved}
use Rattle.store_rules.specs.Store.{Link, lookup, Store, link_at, position_of, child_of, child_at, links_of, bytes_of, linked_at, linked_bytes, offset_of}
use Rattle.store_rules.specs.Reach.{on_cycle, Reach}
use Rattle.store_rules.proofs.Sound.{Fits}
use Rattle.store_rules.proofs.Shaped.{of_parent, of_other}
use Rattle.store_rules.proofs.Reached.{reached_all}

-- the link is the one that is looked up
abbrev pub hit : Link → ℕ → ℕ → Bool
hit l p q = offset_of p l && eqb l.position q

-- it is an offset of p at q
pub hit_is : (l : Link) (p q : ℕ) → hit l p q ≡ true → (offset_of p l ≡ true) × (l.position ≡ q)
hit_is l p q h = let (a, b) = and_both (offset_of p l) (eqb l.position q) h in (a, eqb-true l.position q b)

pub hit_both : (l : Link) (p q : ℕ) → hit l p q ≡ true → (l.parent ≡ p) × (l.position ≡ q)
hit_both l p q h = let (a, b) = hit_is l p q h in (of_parent p l a, b)

-- one of another parent, or at another position, is not
pub hit_other : (l : Link) (p q : ℕ) → (l.parent ≡ p → ⊥) → hit l p q ≡ false
hit_other l p q ne = and_first (offset_of p l) (eqb l.position q) (of_other p l ne)

pub hit_apart : (l : Link) (p q : ℕ) → (l.position ≡ q → ⊥) → hit l p q ≡ false
hit_apart l p q ne = and_second (offset_of p l) (eqb l.position q) (ne_eqb l.position q ne)

-- ---- in one list after another

pub or_else_none : (o : Option ℕ) → or_else o None ≡ o
or_else_none (Some i) = refl
or_else_none None = refl

pub lookup_append : (xs ys : List Link) (p q : ℕ) → lookup (xs ++ ys) p q ≡ or_else (lookup xs p q) (lookup ys p q)
unfolding lookup
lookup_append [] ys p q = refl
lookup_append (x ∷ xs) ys p q = go (hit x p q) (lookup_append xs ys p q)
  where
    go : (b : Bool) → lookup (xs ++ ys) p q ≡ or_else (lookup xs p q) (lookup ys p q)
        → cond b (Some x.child) (lookup (xs ++ ys) p q) ≡ or_else (cond b (Some x.child) (lookup xs p q)) (lookup ys p q)
    go true e = refl
    go false e = e

pub lookup_none : (ls : List Link) (p q : ℕ) → Each (λ l. hit l p q ≡ false) ls → lookup ls p q ≡ None
unfolding lookup
lookup_none [] p q a = refl
lookup_none (l ∷ ls) p q a = rw a.0 (lookup_none ls p q a.1)

pub lookup_none_flat : (f : ℕ → List Link) (n p q : ℕ) → ((j : ℕ) → j < n → lookup (f j) p q ≡ None) → lookup (flat f n) p q ≡ None
unfolding flat lookup
lookup_none_flat f zero p q h = refl
lookup_none_flat f (suc n) p q h = lookup_append (flat f n) (f n) p q ∙ rw (lookup_none_flat f n p q (λ j l. h j (omega arith)), h n (omega arith))

-- one piece of several
pub lookup_piece : (f : ℕ → List Link) (n j p q : ℕ) → j < n → ((i : ℕ) → (i ≡ j → ⊥) → lookup (f i) p q ≡ None) → lookup (flat f n) p q ≡ lookup (f j) p q
unfolding flat lookup
lookup_piece f zero j p q l h = absurd (not-suc-le-zero l)
lookup_piece f (suc n) j p q l h =
    lookup_append (flat f n) (f n) p q
    ∙ ⊎_elim
    (λ e. rw (lookup_none_flat f n p q (λ i m. h i (omega arith)), e))
    (λ lt. rw (lookup_piece f n j p q lt h, h n (omega arith)) (or_else_none (lookup (f j) p q)))
    (eq-or-lt_of_le (le_of_suc-le-suc l))

-- ---- links that are sifted and changed

-- what is found, changed
abbrev pub mapped : (ℕ → ℕ) → Option ℕ → Option ℕ
mapped h (Some c) = Some (h c)
mapped h None = None

pub mapped_id : (h : ℕ → ℕ) → ((c : ℕ) → h c ≡ c) → (o : Option ℕ) → mapped h o ≡ o
mapped_id h e (Some c) = ap Some (e c)
mapped_id h e None = refl

module _ (f : Link → Link) (p : Link → Bool) (u q u' q' : ℕ) where
  -- where the looked up one is kept, and no other becomes it
  pub lookup_kept : (h : ℕ → ℕ) → ((l : Link) → p l ≡ true → hit (f l) u' q' ≡ hit l u q) → ((l : Link) → hit l u q ≡ true → (f l).child ≡ h l.child)
      → (ls : List Link) → Each (λ l. hit l u q ≡ true → p l ≡ true) ls → lookup (map f (sift p ls)) u' q' ≡ mapped h (lookup ls u q)
  unfolding lookup sift
  lookup_kept h a c [] b = refl
  lookup_kept h a c (l ∷ ls) b = go (hit l u q) (p l) (a l) b.0 (c l) (lookup_kept h a c ls b.1)
    where
      go : (x y : Bool) → (y ≡ true → hit (f l) u' q' ≡ x) → (x ≡ true → y ≡ true) → (x ≡ true → (f l).child ≡ h l.child)
          → lookup (map f (sift p ls)) u' q' ≡ mapped h (lookup ls u q)
          → lookup (map f (cond y (l ∷ sift p ls) (sift p ls))) u' q' ≡ mapped h (cond x (Some l.child) (lookup ls u q))
      go true true a b c e = rw (a refl, c refl)
      go true false a b c e = true_false (sym (b refl))
      go false true a b c e = rw (a refl) e
      go false false a b c e = e

  -- the same, where each that could be looked up is kept
  pub lookup_moved : (h : ℕ → ℕ) → ((l : Link) → p l ≡ true → hit (f l) u' q' ≡ hit l u q) → ((l : Link) → hit l u q ≡ true → p l ≡ true)
      → ((l : Link) → hit l u q ≡ true → (f l).child ≡ h l.child) → (ls : List Link) → lookup (map f (sift p ls)) u' q' ≡ mapped h (lookup ls u q)
  lookup_moved h a b c ls = lookup_kept h a c ls (each_all (λ l. hit l u q ≡ true → p l ≡ true) b ls)

  -- where none becomes it
  pub lookup_lost : ((l : Link) → p l ≡ true → hit (f l) u' q' ≡ false) → (ls : List Link) → lookup (map f (sift p ls)) u' q' ≡ None
  unfolding lookup sift
  lookup_lost a [] = refl
  lookup_lost a (l ∷ ls) = go (p l) (a l) (lookup_lost a ls)
    where
      go : (y : Bool) → (y ≡ true → hit (f l) u' q' ≡ false) → lookup (map f (sift p ls)) u' q' ≡ None → lookup (map f (cond y (l ∷ sift p ls) (sift p ls))) u' q' ≡ None
      go true a e = rw (a refl) e
      go false a e = e

-- no link is of that parent
pub lookup_elsewhere : (ls : List Link) (p q : ℕ) → Each (λ l. l.parent ≡ p → ⊥) ls → lookup ls p q ≡ None
unfolding lookup
lookup_elsewhere [] p q a = refl
lookup_elsewhere (l ∷ ls) p q a = rw (hit_other l p q a.0) (lookup_elsewhere ls p q a.1)

-- links of parents below n, where the parents stay
pub lookup_above : (f : Link → Link) (p : Link → Bool) (n u q : ℕ) → n ≤ u → ((l : Link) → (f l).parent ≡ l.parent)
    → (ls : List Link) → Each (λ l. l.parent < n) ls → lookup (map f (sift p ls)) u q ≡ None
lookup_above f p n u q h k ls a =
    lookup_elsewhere (map f (sift p ls)) u q (each_moved (λ l. l.parent < n) (λ l. l.parent ≡ u → ⊥) f p (λ l b c e. omega (arith, k l)) ls a)

-- links that stay where they are, with a child changed
pub lookup_changed : (f : Link → Link) (h : ℕ → ℕ) (p q : ℕ) → ((l : Link) → (f l).parent ≡ l.parent) → ((l : Link) → (f l).position ≡ l.position)
    → ((l : Link) → (f l).kind ≡ l.kind) → ((l : Link) → hit l p q ≡ true → (f l).child ≡ h l.child) → (ls : List Link) → lookup (map f ls) p q ≡ mapped h (lookup ls p q)
unfolding sift
lookup_changed f h p q a b k c ls =
    ap (λ (x : List Link). lookup (map f x) p q) (sym (all_pass ls))
    ∙ lookup_moved f (λ l. true) p q p q h (λ l e. rw (a l, b l, k l)) (λ l e. refl) c ls
  where
    all_pass : (xs : List Link) → sift (λ l. true) xs ≡ xs
    all_pass [] = refl
    all_pass (x ∷ xs) = ap (λ (r : List Link). x ∷ r) (all_pass xs)

-- ---- in a store

-- one of the first n rows is an offset of p at q, and leads to c
abbrev pub Row : Store → ℕ → ℕ → ℕ → ℕ → Type 0
Row s n p q c = (k : ℕ) × (k < n) × (offset_of p (link_at s k) ≡ true) × (position_of s k ≡ q) × (child_of s k ≡ c)

-- a link that is found is one of the rows
found_row : (s : Store) (n p q c : ℕ) → lookup (upto (link_at s) n) p q ≡ Some c → Row s n p q c
unfolding flat lookup
found_row s zero p q c e = let z : ◌≡◌ {A = ℕ} 0 1 = cc in absurd (omega arith)
found_row s (suc n) p q c e = go (lookup (upto (link_at s) n) p q) refl (found_row s n p q c)
  where
    last : (b : Bool) → hit (link_at s n) p q ≡ b → cond b (Some (child_of s n)) None ≡ Some c → Row s (suc n) p q c
    last true h f = let (x, y) = hit_is (link_at s n) p q h in (n, omega arith, x, y, cc)
    last false h f = let z : ◌≡◌ {A = ℕ} 0 1 = cc in absurd (omega arith)

    go : (o : Option ℕ) → lookup (upto (link_at s) n) p q ≡ o → (lookup (upto (link_at s) n) p q ≡ Some c → Row s n p q c) → Row s (suc n) p q c
    go (Some d) h ih =
        let f : Some d ≡ Some c = sym (lookup_append (upto (link_at s) n) (link_at s n ∷ []) p q ∙ rw h) ∙ e in
        let (k, l, a, b, x) = ih (h ∙ f) in (k, omega arith, a, b, x)
    go None h ih = last (hit (link_at s n) p q) refl (sym (lookup_append (upto (link_at s) n) (link_at s n ∷ []) p q ∙ rw h) ∙ e)

some_of : (o : Option ℕ) → is_some o ≡ true → (c : ℕ) × (o ≡ Some c)
some_of (Some c) h = (c, refl)
some_of None h = true_false (sym h)

module _ (s : Store) (t : ℕ) where
  pub child_there : (q : ℕ) → is_some (child_at s t q) ≡ true → (c : ℕ) × (child_at s t q ≡ Some c)
  child_there q h = some_of (child_at s t q) h

  pub child_row : (q c : ℕ) → child_at s t q ≡ Some c → Row s s.link_count t q c
  unfolding child_at links_of
  child_row q c e = found_row s s.link_count t q c e

  pub child_used_lem : Fits s → (q c : ℕ) → child_at s t q ≡ Some c → c < s.object_count
  child_used_lem f q c e = let (k, l, a, b, x) = child_row q c e in rw x at (f.link k l).child_used

  -- a table that is on no cycle leads to other objects
  pub child_other : Fits s → on_cycle s t ≡ false → (q c : ℕ) → child_at s t q ≡ Some c → c ≡ t → ⊥
  unfolding on_cycle
  child_other f acyclic q c e z =
      let (k, l, a, b, x) = child_row q c e in
      true_false (sym (reached_all s (λ k. offset_of t (link_at s k)) f (Reach.seed k l a (x ∙ z))) ∙ acyclic)

  pub linked_some : (q c : ℕ) → child_at s t q ≡ Some c → linked_bytes s t q ≡ bytes_of s c
  linked_some q c e = ap (λ (o : Option ℕ). bytes_of s (unwrap_or o 0)) e

  pub linked_is : (q c : ℕ) → child_at s t q ≡ Some c → linked_at s t q ≡ c
  linked_is q c e = ap (λ (o : Option ℕ). unwrap_or o 0) e

  -- what is linked at q, the first object where nothing is
  pub linked_used : Fits s → t < s.object_count → (q : ℕ) → linked_at s t q < s.object_count
  linked_used f used q = go (child_at s t q) refl
    where
      go : (o : Option ℕ) → child_at s t q ≡ o → unwrap_or o 0 < s.object_count
      go None e = omega arith
      go (Some c) e = child_used_lem f q c e

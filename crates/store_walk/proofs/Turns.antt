-- What holds at each turn of a walk, and what it leaves, on plain lists and numbers. Assumes nothing.
use Prim.Native.Nat.{ℕ, suc, ◌+◌, ◌-◌, ◌*◌, ◌≤◌, ◌<◌, max}
use mathlib.Core.Bool.{Bool, cond, not}
use mathlib.Core.List.{List, [], ◌∷◌}
use mathlib.Core.Logic.{◌⊎◌, inl, inr, ⊎_elim}
use mathlib.Core.Path.{◌≡◌, refl, sym, ap, subst, ◌∙◌}
use native.Mathlib.Decide.{ℕ_discrete}
use native.Mathlib.Nat.{suc-mul, mul-le-mul_right, eq-or-lt_of_le}
use native.Mathlib.Omega.{arith}
use lib.Dec.{leb, ltb, eqb}
use lib.ListN.{length, get_or, set, length-set}
use lib.Seq.{get_or-set_same, get_or-set_other, set-get_or}
use borrow.Author.Tests.{le-leb, lt-leb, le-ltb, lt-ltb, eq-eqb, ne_eqb}
use Rattle.folds.specs.Folds.{sum, before}
use Rattle.folds.proofs.Tests.{and_intro, either}
use Rattle.folds.proofs.Tally.{tally, count, tally_same, tally_one, tally_le}
use Rattle.store_rules.specs.Store.{Store, per_link, row_parent, row_child, row_kind, link_at}
use Rattle.store_rules.specs.Reach.{Reach}
use Rattle.store_rules.proofs.Shaped.{is_of}
use Rattle.store_rules.proofs.Sound.{Fits}
use Rattle.store_reader.specs.Rows.{key_of, row_place, FirstRow}
use Rattle.store_reader.proofs.Rows.{place_most}
use Rattle.store_walk.specs.Marks.{between}
use Rattle.store_walk.proofs.Ends.{zero_or, rows_start}
use Rattle.store_walk.proofs.Stack.{In, Stacked, Popped, stack_apart, stack_push, stack_pop, stack_empty}

-- a store of m link rows, for what can be reached along them
abbrev pub graph : List ℕ → ℕ → Store
graph l m = record { bytes = []; objects = []; links = l; byte_count = 0; object_count = 0; link_count = m }

-- row k's parent and child, and object i's length
abbrev pub parent_at_row : List ℕ → ℕ → ℕ
parent_at_row l k = get_or l (per_link * k + row_parent) 0

abbrev pub child_at_row : List ℕ → ℕ → ℕ
child_at_row l k = get_or l (per_link * k + row_child) 0

-- row k is an offset
abbrev pub IsOffset : List ℕ → ℕ → Type 0
IsOffset l k = get_or l (per_link * k + row_kind) 0 ≡ 0

abbrev pub size_at : List ℕ → ℕ → ℕ
size_at o i = get_or o (2 * i + 1) 0 - get_or o (2 * i) 0

-- object i has the mark e
abbrev pub Has : ℕ → List ℕ → ℕ → Type 0
Has e w i = get_or w i 0 ≡ e

abbrev pub has : ℕ → List ℕ → ℕ → Bool
has e w i = eqb (get_or w i 0) e

-- row k is still to be looked at
abbrev Ahead : ℕ → ℕ → ℕ → Type 0
Ahead row stop k = (row ≤ k) × (k < stop)

-- object i has been found: it has the mark e, or stands in the stack, with a number above it
abbrev pub Found : ℕ → List ℕ → ℕ → Type 0
Found e w i = e ≤ get_or w i 0

abbrev pub found : ℕ → List ℕ → ℕ → Bool
found e w i = leb e (get_or w i 0)

-- object i has not the mark e: its rows are still to come, if they come at all
abbrev pub unread : ℕ → List ℕ → ℕ → Bool
unread e w i = not (eqb (get_or w i 0) e)

-- each of n objects has its rows up to the one that the scratch says
abbrev EndsIn : List ℕ → ℕ → ℕ → List ℕ → Type 0
EndsIn l m n w = (i : ℕ) → i < n → FirstRow l m (key_of (i + 1) 0) (get_or w (n + i) 0)

-- m link rows name objects below n, at places of 32 bits
pub record Used (l : List ℕ) (m n : ℕ) : Type 0 where
  pub parents : (k : ℕ) → k < m → parent_at_row l k < n
  pub children : (k : ℕ) → k < m → child_at_row l k < n
  pub short : (k : ℕ) → k < m → row_place l k < 4294967296

pub used : (s : Store) → Fits s → Used s.links s.link_count s.object_count
used s f = record { parents = λ k h. (f.link k h).parent_used; children = λ k h. (f.link k h).child_used; short = place_most s f }

-- what can be reached is an object
pub reach_used : {l : List ℕ} {m n i : ℕ} {from : ℕ → Bool} → Used l m n → Reach (graph l m) from i → i < n
reach_used u (Reach.seed k h a e) = rw e at (u.children k h)
reach_used u (Reach.step r k h p e) = rw e at (u.children k h)

-- at each turn: found are objects that had the mark or can be reached, each offset from an object that has the mark leads to one that was found or
-- is still to come, the rest of the scratch is as it came, and the sum is the length of what was found
pub record Inv (o l : List ℕ) (n m lo hi e : ℕ) (w₀ w : List ℕ) (total row stop top : ℕ) : Type 0 where
  pub long : length w ≡ length w₀
  pub stop_le : stop ≤ m
  pub stack : List ℕ
  pub stacked : Stacked e w top stack
  pub waiting : (i : ℕ) → i < n → e < get_or w i 0 → In i stack
  pub reaches : (i : ℕ) → In i stack → Reach (graph l m) (between lo hi) i
  pub other : (i : ℕ) → i < n → (get_or w i 0 ≡ get_or w₀ i 0) ⊎ Found e w i
  pub only : (i : ℕ) → i < n → Found e w i → Has e w₀ i ⊎ Reach (graph l m) (between lo hi) i
  pub current : (k : ℕ) → row ≤ k → k < stop → IsOffset l k → Reach (graph l m) (between lo hi) (child_at_row l k)
  pub seeds : (k : ℕ) → lo ≤ k → k < hi → IsOffset l k → Found e w (child_at_row l k) ⊎ Ahead row stop k
  pub pending : (k : ℕ) → k < m → IsOffset l k → Has e w (parent_at_row l k) → Found e w (child_at_row l k) ⊎ Ahead row stop k
  pub outside : (i : ℕ) → n ≤ i → get_or w i 0 ≡ get_or w₀ i 0
  pub total_is : total + tally (size_at o) (found e w₀) n ≡ tally (size_at o) (found e w) n

-- what a walk leaves
pub record Spread (o l : List ℕ) (n m lo hi e : ℕ) (w₀ w : List ℕ) (total : ℕ) : Type 0 where
  pub long : length w ≡ length w₀
  pub other : (i : ℕ) → i < n → (get_or w i 0 ≡ get_or w₀ i 0) ⊎ Has e w i
  pub only : (i : ℕ) → i < n → Has e w i → Has e w₀ i ⊎ Reach (graph l m) (between lo hi) i
  pub seeds : (k : ℕ) → lo ≤ k → k < hi → IsOffset l k → Has e w (child_at_row l k)
  pub closed : (k : ℕ) → k < m → IsOffset l k → Has e w (parent_at_row l k) → Has e w (child_at_row l k)
  pub outside : (i : ℕ) → n ≤ i → get_or w i 0 ≡ get_or w₀ i 0
  pub total_is : total + tally (size_at o) (has e w₀) n ≡ tally (size_at o) (has e w) n

-- an object without rows, by whether it was found: it gets the mark and its size is added, or all stays as it is
by_found : (e : ℕ) (w : List ℕ) (c size : ℕ) (P : List ℕ → ℕ → Type 0) → (get_or w c 0 < e → P (set w c e) size) → (Found e w c → P w 0)
    → P (set w c (max (get_or w c 0) e)) (cond (ltb (get_or w c 0) e) size 0)
by_found e w c size P fresh again =
    ⊎_elim
    (λ a. let q : max (get_or w c 0) e ≡ e = omega arith in rw (q, lt-ltb (get_or w c 0) e a) (fresh a))
    (λ a. let q : max (get_or w c 0) e ≡ get_or w c 0 = omega arith in rw (q, le-ltb (get_or w c 0) e a, set-get_or w c 0) (again a))
    (either (get_or w c 0) e)

-- the rows of the parent x
module _ {l : List ℕ} {m n x row stop : ℕ} (u : Used l m n) (f : FirstRow l m (key_of x 0) row) (g : FirstRow l m (key_of (x + 1) 0) stop) where
  pub of_parent : (k : ℕ) → row ≤ k → k < stop → (k < m) × (parent_at_row l k ≡ x)
  of_parent k a b = let h : k < m = omega (arith, g.within) in (h, omega (arith, f.above k a h, g.below k b, u.short k h))

  pub parent_in : (k : ℕ) → k < m → x ≡ parent_at_row l k → Ahead row stop k
  parent_in k h q =
      let a : k < row → ⊥ = λ z. omega (arith, f.below k z) in
      let b : stop ≤ k → ⊥ = λ z. omega (arith, g.above k z h, u.short k h) in
      omega arith

module _ {o l : List ℕ} {n m lo hi e : ℕ} {w₀ : List ℕ} (latest : (i : ℕ) → i < n → get_or w₀ i 0 ≤ e) where
  pub start : hi ≤ m → ((k : ℕ) → k < m → IsOffset l k → Has e w₀ (parent_at_row l k) → Has e w₀ (child_at_row l k)) → Inv o l n m lo hi e w₀ w₀ 0 lo hi 0
  unfolding In Stacked
  start h closed = record {
    long = refl;
    stop_le = h;
    stack = [];
    stacked = refl;
    waiting = λ i a b. absurd (omega (arith, latest i a));
    reaches = λ i z. absurd z;
    other = λ i _. inl refl;
    only = λ i a f. inl (omega (arith, latest i a));
    current = λ k a b z. Reach.seed k (omega arith) (and_intro (leb lo k) (ltb k hi) (le-leb lo k a) (lt-ltb k hi b)) refl;
    seeds = λ k a b z. inr (a, b);
    pending = λ k a z t. inl (omega (arith, closed k a z t));
    outside = λ i a. refl;
    total_is = omega arith;
  }

  module _ {w : List ℕ} {total row stop top : ℕ} (v : Inv o l n m lo hi e w₀ w total row stop top) where
    -- a row whose child was found, or that is no offset
    pub skip : (IsOffset l row → Found e w (child_at_row l row)) → Inv o l n m lo hi e w₀ w total (row + 1) stop top
    skip t = record {
      long = v.long;
      stop_le = v.stop_le;
      stack = v.stack;
      stacked = v.stacked;
      waiting = v.waiting;
      reaches = v.reaches;
      other = v.other;
      only = v.only;
      current = λ k a b z. v.current k (omega arith) b z;
      seeds = λ k a b z. ⊎_elim inl (past k z) (v.seeds k a b z);
      pending = λ k a z p. ⊎_elim inl (past k z) (v.pending k a z p);
      outside = v.outside;
      total_is = v.total_is;
    }
      where
        past : (k : ℕ) → IsOffset l k → Ahead row stop k → Found e w (child_at_row l k) ⊎ Ahead (row + 1) stop k
        past k z a = ⊎_elim (λ q. inl (subst (λ (x : ℕ). IsOffset l x → Found e w (child_at_row l x)) q t z)) (λ b. inr (omega arith)) (eq-or-lt_of_le a.0)

    -- an object that can be reached and was not found gets the mark, or a number above it
    module _ {c x : ℕ} (big : 2 * n ≤ length w₀) (c< : c < n) (rc : Reach (graph l m) (between lo hi) c) (low : get_or w c 0 < e) (high : e ≤ x) where
      abbrev marked : List ℕ
      marked = set w c x

      here : get_or marked c 0 ≡ x
      here = get_or-set_same w c x 0 (omega (arith, v.long))

      -- an object is c, or has the number that it had
      at : (i : ℕ) → (i ≡ c) ⊎ (get_or marked i 0 ≡ get_or w i 0)
      at i = elim (ℕ_discrete i c) [ yes q ↦ inl q | no d ↦ inr (get_or-set_other w c i x 0 d) ]

      more : (i : ℕ) → Found e w i → Found e marked i
      more i t = ⊎_elim (λ q. rw q (omega (arith, here))) (λ q. omega arith) (at i)

      -- with these objects on the stack, c among them if it has rows
      mark : {top' : ℕ} (xs : List ℕ) → Stacked e marked top' xs → ((i : ℕ) → i < n → e < get_or marked i 0 → In i xs) → ((i : ℕ) → In i xs → Reach (graph l m) (between lo hi) i)
          → ((k : ℕ) → k < m → parent_at_row l k ≡ c → x ≡ e → ⊥) → Inv o l n m lo hi e w₀ marked (total + size_at o c) row stop top'
      mark xs stacked waiting reaches none = record {
        long = simp length-set v.long;
        stop_le = v.stop_le;
        stack = xs;
        stacked = stacked;
        waiting = waiting;
        reaches = reaches;
        other = λ i a. ⊎_elim (λ q. inr (rw q (omega (arith, here)))) (λ q. ⊎_elim (λ z. inl (q ∙ z)) (λ t. inr (more i t)) (v.other i a)) (at i);
        only = λ i a t. ⊎_elim (λ q. inr (rw q rc)) (λ q. v.only i a (omega arith)) (at i);
        current = v.current;
        seeds = λ k a b z. ⊎_elim (λ t. inl (more (child_at_row l k) t)) inr (v.seeds k a b z);
        pending = λ k a z t. ⊎_elim (λ q. absurd (none k a q (sym here ∙ ap (λ (i : ℕ). get_or marked i 0) (sym q) ∙ t)))
            (λ q. ⊎_elim (λ p. inl (more (child_at_row l k) p)) inr (v.pending k a z (sym q ∙ t))) (at (parent_at_row l k));
        outside = λ i a. get_or-set_other w c i x 0 (omega arith) ∙ v.outside i a;
        total_is = omega (arith, grown, v.total_is);
      }
        where
          same : (i : ℕ) → i < n → (i ≡ c → ⊥) → found e marked i ≡ found e w i
          same i a d = ⊎_elim (λ q. absurd (d q)) (λ q. rw q) (at i)

          grown : tally (size_at o) (found e marked) n ≡ tally (size_at o) (found e w) n + size_at o c
          grown =
              tally_one (size_at o) (found e w) (found e marked) c n c< (lt-leb e (get_or w c 0) low)
              (le-leb e (get_or marked c 0) (omega (arith, here))) same

      -- above the mark it is unread, as before
      high_unread : e < x → count (unread e marked) n ≡ count (unread e w) n
      high_unread above =
          tally_same (λ i. 1) (unread e marked) (unread e w) n
          (λ i a. ⊎_elim (λ q. rw q (ap not (ne_eqb (get_or marked c 0) e (omega (arith, here)) ∙ sym (ne_eqb (get_or w c 0) e (omega arith))))) (λ q. rw q) (at i))

      -- with the mark it is unread no more
      mark_unread : x ≡ e → count (unread e w) n ≡ count (unread e marked) n + 1
      mark_unread exact =
          tally_one (λ i. 1) (unread e marked) (unread e w) c n c<
          (ap not (eq-eqb (get_or marked c 0) e (here ∙ exact))) (ap not (ne_eqb (get_or w c 0) e (omega arith)))
          (λ i a d. ⊎_elim (λ q. absurd (d q)) (λ q. rw q) (at i))

    module _ {c : ℕ} (big : 2 * n ≤ length w₀) (c< : c < n) (rc : Reach (graph l m) (between lo hi) c) (low : get_or w c 0 < e) where
      -- it goes onto the stack
      stack_mark : Inv o l n m lo hi e w₀ (set w c (e + 1 + top)) (total + size_at o c) row stop (c + 1)
      unfolding In
      stack_mark =
          let le : e ≤ e + 1 + top = omega arith in
          mark big c< rc low le (c ∷ v.stack) (stack_push e w c top v.stack (omega (arith, v.long)) low v.stacked)
          (λ i a h. ⊎_elim inl (λ q. inr (v.waiting i a (omega arith))) (at big c< rc low le i))
          (λ i. ⊎_elim (λ q. rw q rc) (v.reaches i)) (λ k a q z. omega arith)

      -- or has no rows, and need not wait there
      leaf_mark : ((k : ℕ) → k < m → parent_at_row l k ≡ c → ⊥) → Inv o l n m lo hi e w₀ (set w c e) (total + size_at o c) row stop top
      leaf_mark none =
          let le : e ≤ e = omega arith in
          mark big c< rc low le v.stack (stack_apart e w c e top v.stack low v.stacked)
          (λ i a h. ⊎_elim (λ q. absurd (omega (arith, here big c< rc low le, ap (λ (j : ℕ). get_or (set w c e) j 0) q))) (λ q. v.waiting i a (omega arith)) (at big c< rc low le i))
          v.reaches (λ k a q z. none k a q)

    -- the ends of the rows are as they came
    still_ends : EndsIn l m n w₀ → EndsIn l m n w
    still_ends ends i h = subst (FirstRow l m (key_of (i + 1) 0)) (sym (v.outside (n + i) (omega arith))) (ends i h)

    -- an object whose rows would start where they end has none
    pub rowless : Used l m n → EndsIn l m n w₀ → {i : ℕ} → i < n → before (λ j. get_or w (n + j) 0) i ≡ get_or w (n + i) 0 → (k : ℕ) → k < m → parent_at_row l k ≡ i → ⊥
    rowless u ends {i} h q k a z =
        let b : Ahead (before (λ j. get_or w (n + j) 0) i) (get_or w (n + i) 0) k = parent_in u (rows_start l m n w (still_ends ends) i h) (still_ends ends i h) k a (sym z) in
        omega arith

    -- the stack's last is an object
    pub top_few : Used l m n → top ≤ n
    top_few u = ⊎_elim (λ q. omega arith) (λ h. omega (arith, reach_used u (v.reaches (top - 1) (stack_pop e w top v.stack h v.stacked).is_in))) (zero_or top)

    -- a row whose child was not found
    module _ (u : Used l m n) (big : 2 * n ≤ length w₀) (h : row < stop) (z : IsOffset l row) (low : get_or w (child_at_row l row) 0 < e) where
      child< : child_at_row l row < n
      child< = u.children row (omega (arith, v.stop_le))

      pub push_unread : count (unread e (set w (child_at_row l row) (e + 1 + top))) n ≡ count (unread e w) n
      push_unread = high_unread big child< (v.current row (omega arith) h z) low (omega arith) (omega arith)

    -- the last of the stack leaves it and gets the mark, and its rows are walked
    module _ (u : Used l m n) (big : 2 * n ≤ length w₀) (some : 0 < top) where
      abbrev popped : List ℕ
      popped = set w (top - 1) e

      p : Popped e w top v.stack
      p = stack_pop e w top v.stack some v.stacked

      pub top_reached : Reach (graph l m) (between lo hi) (top - 1)
      top_reached = v.reaches (top - 1) p.is_in

      pub top_used : top - 1 < n
      top_used = reach_used u top_reached

      pub top_high : e < get_or w (top - 1) 0
      top_high = p.high

      at_top : get_or popped (top - 1) 0 ≡ e
      at_top = get_or-set_same w (top - 1) e 0 (omega (arith, v.long, top_used))

      pub pop_ends : EndsIn l m n w₀ → EndsIn l m n popped
      pop_ends ends i h = subst (FirstRow l m (key_of (i + 1) 0)) (sym (get_or-set_other w (top - 1) (n + i) e 0 (omega (arith, top_used)))) (still_ends ends i h)

      -- an object is the last, or has the number that it had
      apart : (i : ℕ) → (i ≡ top - 1) ⊎ (get_or popped i 0 ≡ get_or w i 0)
      apart i = elim (ℕ_discrete i (top - 1)) [ yes q ↦ inl q | no d ↦ inr (get_or-set_other w (top - 1) i e 0 d) ]

      kept : (i : ℕ) → Found e w i → Found e popped i
      kept i t = ⊎_elim (λ q. rw q (omega (arith, at_top))) (λ q. omega arith) (apart i)

      was : (i : ℕ) → Found e popped i → Found e w i
      was i t = ⊎_elim (λ q. rw q (omega (arith, top_high))) (λ q. omega arith) (apart i)

      pub pop : {row' stop' : ℕ} → stop ≤ row → FirstRow l m (key_of (top - 1) 0) row' → FirstRow l m (key_of (top - 1 + 1) 0) stop'
          → Inv o l n m lo hi e w₀ popped total row' stop' (get_or w (top - 1) 0 - e - 1)
      pop end f g = record {
        long = simp length-set v.long;
        stop_le = g.within;
        stack = p.rest;
        stacked = p.below;
        waiting = λ i a h. ⊎_elim (λ q. absurd (omega (arith, at_top, ap (λ (j : ℕ). get_or popped j 0) q))) (λ q. ⊎_elim (λ z. absurd (omega (arith, at_top, ap (λ (j : ℕ). get_or popped j 0) z))) (λ z. z) (p.others i (v.waiting i a (omega arith)))) (apart i);
        reaches = λ i z. v.reaches i (p.fewer i z);
        other = λ i a. ⊎_elim (λ q. inr (rw q (omega (arith, at_top)))) (λ q. ⊎_elim (λ z. inl (q ∙ z)) (λ t. inr (kept i t)) (v.other i a)) (apart i);
        only = λ i a t. v.only i a (was i t);
        current = λ k a b z. let (d, q) = of_parent u f g k a b in Reach.step top_reached k d (is_of (top - 1) (link_at (graph l m) k) (eq-eqb _ 0 z) q) refl;
        seeds = λ k a b z. ⊎_elim (λ t. inl (kept (child_at_row l k) t)) (λ y. absurd (omega arith)) (v.seeds k a b z);
        pending = λ k a z t. ⊎_elim (λ q. inr (parent_in u f g k a (sym q)))
            (λ q. ⊎_elim (λ y. inl (kept (child_at_row l k) y)) (λ y. absurd (omega arith)) (v.pending k a z (sym q ∙ t))) (apart (parent_at_row l k));
        outside = λ i a. get_or-set_other w (top - 1) i e 0 (omega (arith, top_used)) ∙ v.outside i a;
        total_is = omega (arith, v.total_is, tally_same (size_at o) (found e popped) (found e w) n same);
      }
        where
          same : (i : ℕ) → i < n → found e popped i ≡ found e w i
          same i a = ⊎_elim (λ q. rw q (le-leb e (get_or popped (top - 1) 0) (omega (arith, at_top)) ∙ sym (le-leb e (get_or w (top - 1) 0) (omega (arith, top_high))))) (λ q. rw q) (apart i)

      -- one object less is without the mark
      pub pop_unread : count (unread e w) n ≡ count (unread e popped) n + 1
      pop_unread =
          tally_one (λ i. 1) (unread e popped) (unread e w) (top - 1) n top_used
          (ap not (eq-eqb (get_or popped (top - 1) 0) e at_top)) (ap not (ne_eqb (get_or w (top - 1) 0) e (omega (arith, top_high))))
          (λ i a d. ⊎_elim (λ q. absurd (d q)) (λ q. rw q) (apart i))

    -- nothing is left to look at
    pub done : Used l m n → hi ≤ m → stop ≤ row → top ≡ 0 → Spread o l n m lo hi e w₀ w total
    done u him end empty = record {
      long = v.long;
      other = λ i a. ⊎_elim inl (λ t. inr (settled i a t)) (v.other i a);
      only = λ i a t. v.only i a (omega arith);
      seeds = λ k a b z. ⊎_elim (λ t. settled (child_at_row l k) (u.children k (omega arith)) t) (λ y. absurd (omega arith)) (v.seeds k a b z);
      closed = λ k a z t. ⊎_elim (λ y. settled (child_at_row l k) (u.children k a) y) (λ y. absurd (omega arith)) (v.pending k a z t);
      outside = v.outside;
      total_is = omega (arith, v.total_is, tally_same (size_at o) (found e w₀) (has e w₀) n at_first, tally_same (size_at o) (found e w) (has e w) n at_last);
    }
      where
        nothing : (i : ℕ) → In i v.stack → ⊥
        nothing = stack_empty e w top v.stack empty v.stacked

        -- what was found has the mark
        settled : (i : ℕ) → i < n → Found e w i → Has e w i
        settled i a t = ⊎_elim (λ q. sym q) (λ q. absurd (nothing i (v.waiting i a q))) (eq-or-lt_of_le t)

        same : (x : ℕ) → (e ≤ x → x ≡ e) → leb e x ≡ eqb x e
        same x h = ⊎_elim (λ q. rw (lt-leb e x q, ne_eqb x e (omega arith))) (λ q. rw (le-leb e x q, eq-eqb x e (h q))) (either x e)

        at_first : (i : ℕ) → i < n → found e w₀ i ≡ has e w₀ i
        at_first i a = same (get_or w₀ i 0) (λ h. omega (arith, latest i a))

        at_last : (i : ℕ) → i < n → found e w i ≡ has e w i
        at_last i a = same (get_or w i 0) (settled i a)

    pub total_most : sum (size_at o) n ≤ 16777216 → total ≤ 16777216
    total_most h = omega (arith, v.total_is, tally_le (size_at o) (found e w) n)

  pub push : {w : List ℕ} {total row stop top : ℕ} → Inv o l n m lo hi e w₀ w total row stop top → Used l m n → 2 * n ≤ length w₀ → row < stop → IsOffset l row → get_or w (child_at_row l row) 0 < e
      → Inv o l n m lo hi e w₀ (set w (child_at_row l row) (e + 1 + top)) (total + size_at o (child_at_row l row)) (row + 1) stop (child_at_row l row + 1)
  push {w} {row = row} {top = top} v u big h z low =
      let c< : child_at_row l row < n = child< v u big h z low in
      skip (stack_mark v big c< (v.current row (omega arith) h z) low)
      (λ _. omega (arith, get_or-set_same w (child_at_row l row) (e + 1 + top) 0 (omega (arith, v.long))))

  -- a row whose child has no rows, found or not
  module _ {w : List ℕ} {total row stop top : ℕ} (v : Inv o l n m lo hi e w₀ w total row stop top) (u : Used l m n) (big : 2 * n ≤ length w₀) (h : row < stop) (z : IsOffset l row) where
    abbrev c : ℕ
    c = child_at_row l row

    leaf_used : c < n
    leaf_used = u.children row (omega (arith, v.stop_le))

    pub leaf : ((k : ℕ) → k < m → parent_at_row l k ≡ c → ⊥) → Inv o l n m lo hi e w₀ (set w c (max (get_or w c 0) e)) (total + cond (ltb (get_or w c 0) e) (size_at o c) 0) (row + 1) stop top
    leaf none =
        by_found e w c (size_at o c) (λ w' x. Inv o l n m lo hi e w₀ w' (total + x) (row + 1) stop top)
        (λ low. skip (leaf_mark v big leaf_used (v.current row (omega arith) h z) low none) (λ _. omega (arith, get_or-set_same w c e 0 (omega (arith, v.long, leaf_used)))))
        (λ t. let y : total + 0 ≡ total = omega arith in rw y (skip v (λ _. t)))

    pub leaf_unread : count (unread e (set w c (max (get_or w c 0) e))) n ≤ count (unread e w) n
    leaf_unread =
        by_found e w c (size_at o c) (λ w' x. count (unread e w') n ≤ count (unread e w) n)
        (λ low. omega (arith, mark_unread v big leaf_used (v.current row (omega arith) h z) low (omega arith) refl))
        (λ t. omega arith)

-- the measure falls with a row
pub falls_row : (m u u' row stop : ℕ) → u' ≤ u → row < stop → u' * (m + 1) + (stop - (row + 1)) < u * (m + 1) + (stop - row)
falls_row m u u' row stop h l = omega (arith, mul-le-mul_right (m + 1) h)

-- the measure falls when the stack gives its last object
pub falls : (m u u' row stop a : ℕ) → u ≡ u' + 1 → stop ≤ m → u' * (m + 1) + (stop - row) < u * (m + 1) + a
falls m u u' row stop a h l =
    let q : u ≡ suc u' = omega arith in
    rw q (omega (arith, suc-mul u' (m + 1)))

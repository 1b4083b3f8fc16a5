-- What a walk's contract says of its marks, and the marks from one walk to the next. Assumes nothing.
use Prim.Native.Nat.{ℕ, zero, suc, ◌+◌, ◌*◌, ◌≤◌, ◌<◌}
use mathlib.Core.Bool.{Bool, true, false, cond}
use mathlib.Core.List.{List}
use mathlib.Core.Logic.{⊎_elim}
use mathlib.Core.Path.{◌≡◌, refl, sym, ap, subst, ◌∙◌}
use native.Mathlib.Nat.{not-suc-le-zero, le_of_suc-le-suc, eq-or-lt_of_le}
use native.Mathlib.Omega.{arith}
use lib.Dec.{leb, ltb, eqb}
use lib.ListN.{length, get_or, set, length-set}
use lib.Seq.{get_or-set_same, get_or-set_other, ext_get_or}
use borrow.Author.Tests.{leb-true, ltb-true, eqb-true, eq-eqb, ne_eqb}
use Rattle.folds.proofs.Tests.{and_both, cond_has, by_test, true_false, either}
use Rattle.folds.proofs.Joined.{or_either, or-first, or-second}
use Rattle.folds.proofs.Tally.{tally_same, tally_le}
use Rattle.store_rules.specs.Store.{Store, lent, link_at, parent_of, kind_of, size_of}
use Rattle.store_rules.specs.Reach.{marked, reached, reach_size, Reach}
use Rattle.store_rules.proofs.Reached.{reached_only, reached_all}
use Rattle.store_rules.proofs.Reaching.{reach_all, reach_more, reached_bytes, reached_more, reached_same, reached_none, size_bytes}
use Rattle.store_rules.proofs.Shaped.{is_of}
use Rattle.store_rules.proofs.Sound.{Fits, sizes_most}
use Rattle.store_reader.specs.Rows.{key_of, FirstRow}
use Rattle.store_walk.specs.Marks.{between, Offsets, no_row, also_between, Marks, stamp, Walked}
use Rattle.store_walk.proofs.Turns.{graph, parent_at_row, child_at_row, IsOffset, size_at, Has, has, Spread}

-- ---- the scratch with some marks more

module _ (e : ℕ) (r w : List ℕ) where
  pub length-stamp : (n : ℕ) → length (stamp e r w n) ≡ length w
  unfolding stamp
  length-stamp zero = refl
  length-stamp (suc n) = by_test (marked r n) (λ t. rw t (simp length-set (length-stamp n))) (λ t. rw t (length-stamp n))

  pub stamp_above : (n i : ℕ) → n ≤ i → get_or (stamp e r w n) i 0 ≡ get_or w i 0
  unfolding stamp
  stamp_above zero i h = refl
  stamp_above (suc n) i h =
      by_test (marked r n)
      (λ t. rw t (get_or-set_other (stamp e r w n) n i e 0 (omega arith) ∙ stamp_above n i (omega arith)))
      (λ t. rw t (stamp_above n i (omega arith)))

  pub stamp_below : (n i : ℕ) → n ≤ length w → i < n → get_or (stamp e r w n) i 0 ≡ cond (marked r i) e (get_or w i 0)
  unfolding stamp
  stamp_below zero i l h = absurd (not-suc-le-zero h)
  stamp_below (suc n) i l h = ⊎_elim here (λ d. there d (stamp_below n i (omega arith) d)) (eq-or-lt_of_le (le_of_suc-le-suc h))
    where
      here : i ≡ n → get_or (cond (marked r n) (set (stamp e r w n) n e) (stamp e r w n)) i 0 ≡ cond (marked r i) e (get_or w i 0)
      here q =
          rw q
          (by_test (marked r n)
          (λ t. rw t (get_or-set_same (stamp e r w n) n e 0 (omega (arith, length-stamp n))))
          (λ t. rw t (stamp_above n n (omega arith))))

      there : i < n → get_or (stamp e r w n) i 0 ≡ cond (marked r i) e (get_or w i 0) → get_or (cond (marked r n) (set (stamp e r w n) n e) (stamp e r w n)) i 0 ≡ cond (marked r i) e (get_or w i 0)
      there d ih = by_test (marked r n) (λ t. rw t (get_or-set_other (stamp e r w n) n i e 0 (omega arith) ∙ ih)) (λ t. rw t ih)

-- ---- before a walk

module _ {s : Store} {from : ℕ → Bool} {e : ℕ} {w : List ℕ} (f : Fits s) (v : Marks s from e w) where
  -- an object has the mark exactly if it can be reached
  marked_reach : (i : ℕ) → i < s.object_count → Has e w i → Reach s from i
  marked_reach i h t = reached_only s from f i h (sym (v.seen i h) ∙ eq-eqb (get_or w i 0) e t)

  reach_marked : (i : ℕ) → i < s.object_count → Reach s from i → Has e w i
  reach_marked i h r = eqb-true (get_or w i 0) e (v.seen i h ∙ reached_all s from f r)

  -- so that offsets of marked objects lead to marked ones
  pub marks_closed : (k : ℕ) → k < s.link_count → IsOffset s.links k → Has e w (parent_at_row s.links k) → Has e w (child_at_row s.links k)
  marks_closed k h z t = reach_marked (child_at_row s.links k) (f.link k h).child_used (Reach.step (marked_reach (parent_at_row s.links k) (f.link k h).parent_used t) k h (is_of (parent_of s k) (link_at s k) (eq-eqb (kind_of s k) 0 z) refl) refl)

-- ---- after a walk

-- from the rows alone to the store
reach_of_lem : {s : Store} {from : ℕ → Bool} {i : ℕ} → Reach (graph s.links s.link_count) from i → Reach s from i
reach_of_lem (Reach.seed k h a e) = Reach.seed k h a e
reach_of_lem (Reach.step r k h p e) = Reach.step (reach_of_lem r) k h p e

module _ {s : Store} {from : ℕ → Bool} {lo hi e : ℕ} {w w' : List ℕ} {total : ℕ} (f : Fits s) (v : Marks s from e w) (d : Spread s.objects s.links s.object_count s.link_count lo hi e w w' total) (offsets : Offsets s.links lo hi) where
  kept : (i : ℕ) → i < s.object_count → Has e w i → Has e w' i
  kept i h t = ⊎_elim (λ q. q ∙ t) (λ q. q) (d.other i h)

  marks_reach : (i : ℕ) → i < s.object_count → Has e w' i → Reach s (also_between from lo hi) i
  marks_reach i h t =
      ⊎_elim (λ p. reach_more (λ k l a. or-first (from k) (between lo hi k) a) (marked_reach f v i h p))
      (λ r. reach_more (λ k l a. or-second (from k) (between lo hi k) a) (reach_of_lem r)) (d.only i h t)

  reach_marks : {i : ℕ} → Reach s (also_between from lo hi) i → Has e w' i
  reach_marks r =
      reach_all (Has e w')
      (λ k l a. ⊎_elim (λ b. kept (child_at_row s.links k) (f.link k l).child_used (reach_marked f v (child_at_row s.links k) (f.link k l).child_used (Reach.seed k l b refl)))
      (λ b. let (p, q) = and_both (leb lo k) (ltb k hi) b in let x = leb-true lo k p in let y = ltb-true k hi q in d.seeds k x y (offsets k x y)) (or_either (from k) (between lo hi k) a))
      (λ k l o. d.closed k l (eqb-true (kind_of s k) 0 o)) r

  -- what has the mark now
  seen_now : (i : ℕ) → i < s.object_count → has e w' i ≡ marked (reached s (also_between from lo hi)) i
  seen_now i h =
      by_test (marked (reached s (also_between from lo hi)) i)
      (λ t. rw t (eq-eqb (get_or w' i 0) e (reach_marks (reached_only s (also_between from lo hi) f i h t))))
      (λ t. rw t (ne_eqb (get_or w' i 0) e (λ q. true_false (sym (reached_all s (also_between from lo hi) f (marks_reach i h q)) ∙ t))))

  walk_is : w' ≡ stamp e (reached s (also_between from lo hi)) w s.object_count
  walk_is =
      ext_get_or 0 w' (stamp e (reached s (also_between from lo hi)) w s.object_count) (d.long ∙ sym (length-stamp e (reached s (also_between from lo hi)) w s.object_count))
      (λ i h. ⊎_elim (inside i)
      (λ g. d.outside i g ∙ sym (stamp_above e (reached s (also_between from lo hi)) w s.object_count i g)) (either i s.object_count))
    where
      inside : (i : ℕ) → i < s.object_count → get_or w' i 0 ≡ get_or (stamp e (reached s (also_between from lo hi)) w s.object_count) i 0
      inside i g =
          rw (stamp_below e (reached s (also_between from lo hi)) w s.object_count i (omega (arith, v.room)) g)
          (by_test (marked (reached s (also_between from lo hi)) i)
          (λ t. rw t (eqb-true (get_or w' i 0) e (seen_now i g ∙ t)))
          (λ t. rw t (⊎_elim (λ q. q) (λ q. true_false (sym (sym (seen_now i g) ∙ eq-eqb (get_or w' i 0) e q) ∙ t)) (d.other i g))))

  size_is : total + reach_size s from ≡ reach_size s (also_between from lo hi)
  unfolding reach_size
  size_is =
      omega (
        arith,
        d.total_is,
        tally_same (size_of s) (has e w) (marked (reached s from)) s.object_count v.seen,
        tally_same (size_of s) (has e w') (marked (reached s (also_between from lo hi))) s.object_count seen_now,
      )

  pub walked : Walked s from lo hi e w w' total
  walked = record { walk = walk_is; size = size_is; most = omega (arith, d.total_is, tally_le (size_at s.objects) (has e w') s.object_count, sizes_most s f) }

-- ---- from one walk to the next

-- the bytes are of no matter
module _ (b b' o l c : List ℕ) {from : ℕ → Bool} {e : ℕ} {w : List ℕ} where
  pub marks_bytes_lem : Marks (lent b o l c) from e w → Marks (lent b' o l c) from e w
  marks_bytes_lem v = record { room = v.room; seen = λ i h. v.seen i h ∙ ap (λ (r : List ℕ). marked r i) (reached_bytes b b' o l c from); latest = v.latest; ends = v.ends }

  pub walked_bytes : {lo hi : ℕ} {w' : List ℕ} {total : ℕ} → Walked (lent b o l c) from lo hi e w w' total → Walked (lent b' o l c) from lo hi e w w' total
  walked_bytes {lo} {hi} d = record {
    walk = d.walk ∙ ap (λ (r : List ℕ). stamp e r w (get_or c 1 0)) (reached_bytes b b' o l c (also_between from lo hi));
    size = omega (arith, d.size, size_bytes b b' o l c from, size_bytes b b' o l c (also_between from lo hi));
    most = d.most;
  }

module _ {s : Store} {e : ℕ} {w : List ℕ} (f : Fits s) where
  -- an epoch later than every mark: nothing is seen
  pub marks_fresh : 2 * s.object_count ≤ length w → ((i : ℕ) → i < s.object_count → get_or w i 0 < e)
      → ((i : ℕ) → i < s.object_count → FirstRow s.links s.link_count (key_of (i + 1) 0) (get_or w (s.object_count + i) 0)) → Marks s no_row e w
  marks_fresh room early ends = record {
    room = room;
    seen = λ i h. ne_eqb (get_or w i 0) e (λ q. omega (arith, early i h)) ∙ sym (reached_none s f no_row (λ k l. refl) i h);
    latest = λ i h. omega (arith, early i h);
    ends = ends;
  }

  module _ {from : ℕ → Bool} (v : Marks s from e w) where
    -- the same rows under another name
    pub marks_same : {same : ℕ → Bool} → ((k : ℕ) → k < s.link_count → from k ≡ same k) → Marks s same e w
    marks_same {same} h = record { room = v.room; seen = λ i l. v.seen i l ∙ reached_same s f from same h i l; latest = v.latest; ends = v.ends }

    -- the next epoch: nothing is seen
    pub marks_next : {none : ℕ → Bool} → ((k : ℕ) → k < s.link_count → none k ≡ false) → Marks s none (e + 1) w
    marks_next h = record {
      room = v.room;
      seen = λ i l. ne_eqb (get_or w i 0) (e + 1) (λ q. omega (arith, v.latest i l)) ∙ sym (reached_none s f _ h i l);
      latest = λ i l. omega (arith, v.latest i l);
      ends = v.ends;
    }

    -- more rows walked
    pub marks_stamp : {more : ℕ → Bool} → ((k : ℕ) → k < s.link_count → from k ≡ true → more k ≡ true) → {w' : List ℕ} → w' ≡ stamp e (reached s more) w s.object_count → Marks s more e w'
    marks_stamp {more} h {w'} q = subst (Marks s more e) (sym q) record {
      room = omega (arith, v.room, length-stamp e r w s.object_count);
      seen = λ i l. ap (λ (x : ℕ). eqb x e) (at i l) ∙ now i l;
      latest = λ i l. rw (at i l) (cond_has (λ (x : ℕ). x ≤ e) (marked r i) e (get_or w i 0) (omega arith) (v.latest i l));
      ends = λ i l. rw (stamp_above e r w s.object_count (s.object_count + i) (omega arith)) (v.ends i l);
    }
      where
        r : List ℕ
        r = reached s more

        at : (i : ℕ) → i < s.object_count → get_or (stamp e (reached s more) w s.object_count) i 0 ≡ cond (marked (reached s more) i) e (get_or w i 0)
        at i l = stamp_below e (reached s more) w s.object_count i (omega (arith, v.room)) l

        now : (i : ℕ) → i < s.object_count → eqb (cond (marked (reached s more) i) e (get_or w i 0)) e ≡ marked (reached s more) i
        now i l =
            by_test (marked (reached s more) i)
            (λ t. rw t (eq-eqb e e refl))
            (λ t. rw t (v.seen i l ∙ by_test (marked (reached s from) i) (λ y. true_false (sym (reached_more s f from more h i l y) ∙ t)) (λ y. y)))

    pub marks_after : {lo hi : ℕ} {w' : List ℕ} {total : ℕ} → Walked s from lo hi e w w' total → Marks s (also_between from lo hi) e w'
    marks_after {lo} {hi} d = marks_stamp (λ k l a. or-first (from k) (between lo hi k) a) d.walk

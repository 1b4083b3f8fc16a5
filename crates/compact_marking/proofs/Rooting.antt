-- A root more: one that has a mark adds nothing, and one that has none adds itself and what its offsets reach. Assumes nothing.
use Prim.Native.Nat.{ℕ, ◌+◌, ◌<◌, ◌≤◌}
use mathlib.Core.Path.{◌≡◌, refl, sym, ap, ap₂, ◌∙◌}
use mathlib.Core.Bool.{Bool, true, false, cond, ◌&&◌, ◌||◌}
use mathlib.Core.List.{List, [], ◌∷◌, ◌++◌}
use mathlib.Core.Logic.{⊎_elim}
use native.Mathlib.Omega.{arith}
use native.Mathlib.Decide.{ℕ_discrete}
use lib.ListN.{length, get_or, set, length-set}
use lib.Dec.{leb, ltb, eqb}
use lib.Seq.{get_or-set_same, get_or-set_other}
use borrow.Author.Tests.{eqb-true, eqb-false, eq-eqb, ne_eqb, lt-ltb, le-ltb, le-leb}
use Rattle.folds.specs.Lists.{among}
use Rattle.folds.proofs.Tests.{by_test, and_intro, and_second, true_false}
use Rattle.folds.proofs.Joined.{or_either, or-first, or-second}
use Rattle.folds.proofs.Agree.{both_ways}
use Rattle.folds.proofs.Among.{among-append, among_one}
use Rattle.store_rules.specs.Store.{Store, link_at, is_offset, offset_of, parent_of, child_of, kind_of}
use Rattle.store_rules.specs.Reach.{Reach, marked, reached}
use Rattle.store_rules.proofs.Sound.{Fits}
use Rattle.store_rules.proofs.Shaped.{of_offset, of_parent}
use Rattle.store_rules.proofs.Reached.{reached_only, reached_all}
use Rattle.store_rules.proofs.Reaching.{reached_more, reached_same, reached_none}
use Rattle.store_reader.specs.declared.LinkRows.{LinkRows}
use Rattle.store_reader.specs.Rows.{ParentRows}
use Rattle.store_reader.proofs.Rows.{parent_rows}
use Rattle.store_walk.specs.Marks.{no_row, also_between, Offsets, Marks, Walked}
use Rattle.store_walk.proofs.Marks.{stamp_below, marks_next, marks_same, marks_after}
use Rattle.compact_rules.specs.Kept.{from_roots, kept_by, kept}
use Rattle.compact_rules.specs.Marks.{has_mark}
use Rattle.compact_marking.specs.Rooted.{Rooted}

-- one more in a list
among-behind : (x : ℕ) (ys : List ℕ) (y : ℕ) → among x (ys ++ y ∷ []) ≡ among x ys || eqb x y
among-behind x ys y = among-append x ys (y ∷ []) ∙ ap (λ (b : Bool). among x ys || b) (among_one x y)

or_false : (b : Bool) → b || false ≡ b
or_false true = refl
or_false false = refl

-- ---- before the first root

pub none_rooted : (s : Store) (w : List ℕ) → Fits s → Marks s no_row 1 w → Rooted s [] w
unfolding kept_by among
none_rooted s w f v =
    record {
      marks = marks_next f v none;
      kept = λ i h.
          let unseen : eqb (get_or w i 0) 1 ≡ false = v.seen i h ∙ reached_none s f no_row (λ k l. refl) i h in
          le-ltb 0 (get_or w i 0) (omega (arith, v.latest i h, eqb-false (get_or w i 0) 1 unseen)) ∙ sym (reached_none s f (from_roots s []) none i h);
    }
  where
    none : (k : ℕ) → k < s.link_count → from_roots s [] k ≡ false
    none k h = and_second (is_offset (link_at s k)) false refl

module _ (s : Store) (f : Fits s) (roots w : List ℕ) (v : Rooted s roots w) (r : ℕ) (used : r < s.object_count) where
  abbrev more : List ℕ
  more = roots ++ r ∷ []

  -- its offsets come to those that are walked
  from_more : (k : ℕ) → from_roots s more k ≡ from_roots s roots k || offset_of r (link_at s k)
  from_more k = ap (λ (b : Bool). is_offset (link_at s k) && b) (among-behind (parent_of s k) roots r) ∙ spread (is_offset (link_at s k)) (among (parent_of s k) roots) (eqb (parent_of s k) r)
    where
      spread : (a b c : Bool) → a && (b || c) ≡ a && b || a && c
      spread true b c = refl
      spread false b c = refl

  from_grows : (k : ℕ) → k < s.link_count → from_roots s roots k ≡ true → from_roots s more k ≡ true
  from_grows k h a = from_more k ∙ or-first (from_roots s roots k) (offset_of r (link_at s k)) a

  -- an object that is not the root is among the roots if it was
  other : (i : ℕ) → (i ≡ r → ⊥) → among i more ≡ among i roots
  other i ne = among-behind i roots r ∙ ap (λ (b : Bool). among i roots || b) (ne_eqb i r ne) ∙ or_false (among i roots)

  -- ---- it has a mark

  module _ (marks : has_mark w r ≡ true) where
    was_kept : kept s roots r ≡ true
    was_kept = sym (v.kept r used) ∙ marks

    -- what its offsets lead to was reached
    own_reached : (k : ℕ) → k < s.link_count → offset_of r (link_at s k) ≡ true → {i : ℕ} → child_of s k ≡ i → Reach s (from_roots s roots) i
    unfolding kept_by
    own_reached k h o e =
        ⊎_elim
        (λ a. Reach.seed k h (and_intro (is_offset (link_at s k)) (among (parent_of s k) roots) (of_offset r (link_at s k) o) (ap (λ (p : ℕ). among p roots) (of_parent r (link_at s k) o) ∙ a)) e)
        (λ m. Reach.step (reached_only s (from_roots s roots) f r used m) k h o e)
        (or_either (among r roots) (marked (reached s (from_roots s roots)) r) was_kept)

    fewer : {i : ℕ} → Reach s (from_roots s more) i → Reach s (from_roots s roots) i
    fewer (Reach.seed k h a e) =
        ⊎_elim (λ b. Reach.seed k h b e) (λ o. own_reached k h o e) (or_either (from_roots s roots k) (offset_of r (link_at s k)) (sym (from_more k) ∙ a))
    fewer (Reach.step q k h o e) = Reach.step (fewer q) k h o e

    same_reached : (i : ℕ) → i < s.object_count → marked (reached s (from_roots s roots)) i ≡ marked (reached s (from_roots s more)) i
    same_reached i h =
        both_ways _ _ (reached_more s f (from_roots s roots) (from_roots s more) from_grows i h)
        (λ m. reached_all s (from_roots s roots) f (fewer (reached_only s (from_roots s more) f i h m)))

    pub passed_over : Rooted s more w
    unfolding kept_by
    passed_over =
        record {
          marks = record { room = v.marks.room; seen = λ i h. v.marks.seen i h ∙ same_reached i h; latest = v.marks.latest; ends = v.marks.ends };
          kept = λ i h. go i h (ℕ_discrete i r);
        }
      where
        go : (i : ℕ) → i < s.object_count → Dec (i ≡ r) → has_mark w i ≡ among i more || marked (reached s (from_roots s more)) i
        go i h (yes e) =
            ap (has_mark w) e ∙ marks
            ∙ sym (or-first (among i more) (marked (reached s (from_roots s more)) i) (among-behind i roots r ∙ or-second (among i roots) (eqb i r) (eq-eqb i r e)))
        go i h (no ne) = v.kept i h ∙ ap₂ (λ (a b : Bool). a || b) (sym (other i ne)) (same_reached i h)

  -- ---- it has none

  module _ (unmarked : get_or w r 0 ≡ 0) where
    long : s.object_count ≤ length w
    long = omega (arith, v.marks.room)

    -- its own mark is an earlier epoch's, so that a way that leads to it still finds it
    pub root_marked : Marks s (from_roots s roots) 2 (set w r 1)
    root_marked =
        record {
          room = simp length-set v.marks.room;
          seen = λ i h. seen i h (ℕ_discrete i r);
          latest = λ i h. latest i h (ℕ_discrete i r);
          ends = λ i h. rw (get_or-set_other w r (s.object_count + i) 1 0 (omega arith)) (v.marks.ends i h);
        }
      where
        seen : (i : ℕ) → i < s.object_count → Dec (i ≡ r) → eqb (get_or (set w r 1) i 0) 2 ≡ marked (reached s (from_roots s roots)) i
        seen i h (no ne) = ap (λ (x : ℕ). eqb x 2) (get_or-set_other w r i 1 0 ne) ∙ v.marks.seen i h
        seen i h (yes e) =
            ap (λ (j : ℕ). eqb (get_or (set w r 1) j 0) 2) e
            ∙ ap (λ (x : ℕ). eqb x 2) (get_or-set_same w r 1 0 (omega (arith, long)))
            ∙ ap (λ (x : ℕ). eqb x 2) (sym unmarked)
            ∙ ap (λ (j : ℕ). eqb (get_or w j 0) 2) (sym e)
            ∙ v.marks.seen i h

        latest : (i : ℕ) → i < s.object_count → Dec (i ≡ r) → get_or (set w r 1) i 0 ≤ 2
        latest i h (no ne) = rw (get_or-set_other w r i 1 0 ne) (v.marks.latest i h)
        latest i h (yes e) = rw e (omega (arith, get_or-set_same w r 1 0 (omega (arith, long))))

    module _ {rows : LinkRows} (own : ParentRows s.links s.link_count r rows) where
      -- its rows are offsets
      pub own_offsets : Offsets s.links rows.first rows.after
      own_offsets k a b =
          let l : k < s.link_count = omega (arith, own.after.within) in
          let o = sym (parent_rows s f r own k l) ∙ and_intro (leb rows.first k) (ltb k rows.after) (le-leb rows.first k a) (lt-ltb k rows.after b) in
          eqb-true (kind_of s k) 0 (of_offset r (link_at s k) o)

      module _ {w' : List ℕ} {total : ℕ} (d : Walked s (from_roots s roots) rows.first rows.after 2 (set w r 1) w' total) where
        abbrev walked : ℕ → Bool
        walked = also_between (from_roots s roots) rows.first rows.after

        walked_are : (k : ℕ) → k < s.link_count → walked k ≡ from_roots s more k
        walked_are k h = ap (λ (b : Bool). from_roots s roots k || b) (parent_rows s f r own k h) ∙ sym (from_more k)

        mark_at_lem : (i : ℕ) → i < s.object_count → get_or w' i 0 ≡ cond (marked (reached s walked) i) 2 (get_or (set w r 1) i 0)
        mark_at_lem i h =
            ap (λ (x : List ℕ). get_or x i 0) d.walk ∙ stamp_below 2 (reached s walked) (set w r 1) s.object_count i (simp length-set long) h

        pub walked_from : Rooted s more w'
        unfolding kept_by
        walked_from =
            record {
              marks = marks_same f (marks_after f root_marked d) walked_are;
              kept = λ i h.
                  ap (λ (x : ℕ). ltb 0 x) (mark_at_lem i h)
                  ∙ ap (λ (b : Bool). ltb 0 (cond b 2 (get_or (set w r 1) i 0))) (reached_same s f walked (from_roots s more) walked_are i h)
                  ∙ go i h (ℕ_discrete i r) (marked (reached s (from_roots s more)) i) refl;
            }
          where
            none : (i : ℕ) → i < s.object_count → marked (reached s (from_roots s more)) i ≡ false → marked (reached s (from_roots s roots)) i ≡ false
            none i h m =
                by_test (marked (reached s (from_roots s roots)) i)
                (λ y. true_false (sym (reached_more s f (from_roots s roots) (from_roots s more) from_grows i h y) ∙ m))
                (λ y. y)

            go : (i : ℕ) → i < s.object_count → Dec (i ≡ r) → (b : Bool) → marked (reached s (from_roots s more)) i ≡ b
                → ltb 0 (cond b 2 (get_or (set w r 1) i 0)) ≡ among i more || b
            go i h e true m = sym (or-second (among i more) true refl)
            go i h (yes e) false m =
                ap (λ (j : ℕ). ltb 0 (get_or (set w r 1) j 0)) e
                ∙ ap (λ (x : ℕ). ltb 0 x) (get_or-set_same w r 1 0 (omega (arith, long)))
                ∙ sym (or-first (among i more) false (among-behind i roots r ∙ or-second (among i roots) (eqb i r) (eq-eqb i r e)))
            go i h (no ne) false m =
                ap (λ (x : ℕ). ltb 0 x) (get_or-set_other w r i 1 0 ne)
                ∙ v.kept i h
                ∙ ap₂ (λ (a b : Bool). a || b) (sym (other i ne)) (none i h m)

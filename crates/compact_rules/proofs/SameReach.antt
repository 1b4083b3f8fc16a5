-- What is reached from kept objects stays the same under new numbers, and so does its size: items cost after a compaction what they cost before, and a way back
-- to a table is there or not as it was. Assumes nothing.
use Prim.Native.Nat.{ℕ, zero, suc, ◌+◌, ◌-◌, ◌<◌}
use mathlib.Core.Path.{◌≡◌, refl, sym, ap, ap₂, subst, ◌∙◌}
use mathlib.Core.Bool.{Bool, true, false, cond, ◌&&◌}
use native.Mathlib.Omega.{arith}
use lib.ListN.{get_or}
use lib.Dec.{leb, ltb}
use Rattle.folds.specs.Folds.{sum}
use Rattle.folds.proofs.Tests.{by_test, true_false, and_both, and_intro}
use Rattle.folds.proofs.Joined.{and_three}
use Rattle.folds.proofs.Agree.{both_ways}
use Rattle.folds.proofs.FromTheFront.{sum_same}
use Rattle.folds.proofs.Moved.{has_moved, was_moved}
use Rattle.store_rules.specs.Store.{Store, Link, links_of, link_at, is_offset, offset_of, parent_of, child_of, size_of, of_span}
use Rattle.store_rules.specs.Reach.{Reach, marked, reached, reach_size, reach_of, on_cycle, item_size}
use Rattle.store_rules.proofs.Sound.{Fits}
use Rattle.store_rules.proofs.Shaped.{is_of, of_offset, of_parent}
use Rattle.store_rules.proofs.Reached.{reached_only, reached_all}
use Rattle.store_rules.proofs.LinkRows.{no_link, row_is}
use Rattle.store_rules.proofs.LinksFit.{rows_many}
use Rattle.compact_rules.specs.Kept.{renumber}
use Rattle.compact_rules.specs.Compacted.{keeps_ends, renumbered, kept_links, compacted}
use Rattle.compact_rules.proofs.Numbers.{number_least, number_kept_lem, number_dropped, number_own, number_less}
use Rattle.compact_rules.proofs.Kept.{Keeps}
use Rattle.compact_rules.proofs.Objects.{objects_left_lem, size_kept}
use Rattle.compact_rules.proofs.Links.{links_left_lem, rows_left, compacted_fits, offset_moved, offset_owner}

-- a sum over the new numbers is one over what is kept
sum_kept : (keep : ℕ → Bool) (g : ℕ → ℕ) (n : ℕ) → sum g (renumber keep n) ≡ sum (λ i. cond (keep i) (g (renumber keep i)) 0) n
unfolding sum
sum_kept keep g zero = ap (sum g) (number_least keep)
sum_kept keep g (suc n) =
    by_test (keep n)
    (λ e. ap (sum g) (number_kept_lem keep n e) ∙ rw e (ap (λ (x : ℕ). x + g (renumber keep n)) (sum_kept keep g n)))
    (λ e. ap (sum g) (number_dropped keep n e) ∙ rw e (sum_kept keep g n ∙ omega arith))

module _ (s : Store) (f : Fits s) (keep : ℕ → Bool) (k : Keeps s keep) where
  abbrev left : Store
  left = compacted s keep

  abbrev new : ℕ → ℕ
  new = renumber keep

  row_there : (r : ℕ) → r < s.link_count → keeps_ends keep (link_at s r) ≡ true → (j : ℕ) × (j < left.link_count) × (link_at left j ≡ renumbered new (link_at s r))
  unfolding kept_links
  row_there r l h =
      let e : link_at s r ≡ get_or (links_of s) r no_link = row_is s (links_of s) refl r l no_link in
      let (j, a, b) = has_moved (renumbered new) (keeps_ends keep) no_link no_link (links_of s) r (omega (arith, rows_many s)) (rw (← e) h) in
      let m : j < left.link_count = omega (arith, rows_left s keep) in
      (j, m, row_is left (kept_links s keep) (links_left_lem s keep) j m no_link ∙ b ∙ ap (renumbered new) (sym e))

  row_back : (j : ℕ) → j < left.link_count → (r : ℕ) × (r < s.link_count) × (keeps_ends keep (link_at s r) ≡ true) × (link_at left j ≡ renumbered new (link_at s r))
  unfolding kept_links
  row_back j l =
      let (r, a, b, c) = was_moved (renumbered new) (keeps_ends keep) no_link no_link (links_of s) j (omega (arith, rows_left s keep)) in
      let m : r < s.link_count = omega (arith, rows_many s) in
      let e : link_at s r ≡ get_or (links_of s) r no_link = row_is s (links_of s) refl r m no_link in
      (r, m, ap (keeps_ends keep) e ∙ b, row_is left (kept_links s keep) (links_left_lem s keep) j l no_link ∙ c ∙ ap (renumbered new) (sym e))

  -- links of kept objects to start from, before and after
  module _ (from then : Link → Bool) (of_kept : (l : Link) → from l ≡ true → (is_offset l ≡ true) × (keep l.parent ≡ true)) where
    abbrev Old : ℕ → Type 0
    Old i = Reach s (λ r. from (link_at s r)) i

    abbrev New : ℕ → Type 0
    New m = Reach left (λ r. then (link_at left r)) m

    -- ---- a way before is a way after

    pub reach_there : ((l : Link) → keeps_ends keep l ≡ true → from l ≡ true → then (renumbered new l) ≡ true) → {i : ℕ} → Old i → (keep i ≡ true) × New (new i)
    reach_there starts (Reach.seed r l a e) =
        let (v, p) = of_kept (link_at s r) a in
        let c = k.closed r l v p in
        let both = and_intro (keep (parent_of s r)) (keep (child_of s r)) p c in
        let (j, m, q) = row_there r l both in (
          sym (ap keep e) ∙ c,
          Reach.seed j m (ap then q ∙ starts (link_at s r) both a) (ap (λ (x : Link). x.child) q ∙ ap new e),
        )
    reach_there starts (Reach.step {i} o r l b e) =
        let (h, w) = reach_there starts o in
        let v = of_offset i (link_at s r) b in
        let z = of_parent i (link_at s r) b in
        let p : keep (parent_of s r) ≡ true = ap keep z ∙ h in
        let c = k.closed r l v p in
        let (j, m, q) = row_there r l (and_intro (keep (parent_of s r)) (keep (child_of s r)) p c) in (
          sym (ap keep e) ∙ c,
          Reach.step w j m (is_of (new i) (link_at left j) (ap is_offset q ∙ v) (ap (λ (x : Link). x.parent) q ∙ ap new z)) (ap (λ (x : Link). x.child) q ∙ ap new e),
        )

    -- ---- and the other way round

    module _ (agree : (l : Link) → keeps_ends keep l ≡ true → then (renumbered new l) ≡ from l) where
      reach_back : {m : ℕ} → New m → (i : ℕ) × (keep i ≡ true) × (new i ≡ m) × Old i
      reach_back (Reach.seed j l a e) =
          let (r, h, both, q) = row_back j l in
          let (p, c) = and_both (keep (parent_of s r)) (keep (child_of s r)) both in (
            child_of s r,
            c,
            sym (ap (λ (x : Link). x.child) q) ∙ e,
            Reach.seed r h (sym (agree (link_at s r) both) ∙ sym (ap then q) ∙ a) refl,
          )
      reach_back (Reach.step {i = n} o j l b e) =
          let (i, h, z, w) = reach_back o in
          let (r, g, both, q) = row_back j l in
          let (p, c) = and_both (keep (parent_of s r)) (keep (child_of s r)) both in
          let same : parent_of s r ≡ i = number_own keep (parent_of s r) i p h (sym (ap (λ (x : Link). x.parent) q) ∙ of_parent n (link_at left j) b ∙ sym z) in (
            child_of s r,
            c,
            sym (ap (λ (x : Link). x.child) q) ∙ e,
            Reach.step w r g (is_of i (link_at s r) (sym (ap is_offset q) ∙ of_offset n (link_at left j) b) same) refl,
          )

      there : {i : ℕ} → Old i → (keep i ≡ true) × New (new i)
      there = reach_there (λ l both a. agree l both ∙ a)

      fits_left : Fits left
      fits_left = compacted_fits s f keep k

      pub marks_same : (i : ℕ) → keep i ≡ true → marked (reached left (λ r. then (link_at left r))) (new i) ≡ marked (reached s (λ r. from (link_at s r))) i
      marks_same i h =
          let used = k.used i h in
          both_ways _ _
          (λ e.
          let w = reached_only left (λ r. then (link_at left r)) fits_left (new i) (omega (arith, objects_left_lem s keep, number_less keep i s.object_count h used)) e in
          let (m, g, z, o) = reach_back w in
          reached_all s (λ r. from (link_at s r)) f (subst Old (number_own keep m i g h z) o))
          (λ e. reached_all left (λ r. then (link_at left r)) fits_left (there (reached_only s (λ r. from (link_at s r)) f i used e)).1)

      none_marked : (i : ℕ) → i < s.object_count → keep i ≡ false → marked (reached s (λ r. from (link_at s r))) i ≡ false
      none_marked i l h =
          by_test (marked (reached s (λ r. from (link_at s r))) i)
          (λ e. true_false (sym (there (reached_only s (λ r. from (link_at s r)) f i l e)).0 ∙ h))
          (λ e. e)

      pub reach_size_kept : reach_of left then ≡ reach_of s from
      unfolding reach_size
      reach_size_kept =
          ap (sum (λ i. cond (marked (reached left (λ r. then (link_at left r))) i) (size_of left i) 0)) (objects_left_lem s keep)
          ∙ sum_kept keep (λ i. cond (marked (reached left (λ r. then (link_at left r))) i) (size_of left i) 0) s.object_count
          ∙ sum_same _ _ s.object_count (λ i l. by_test (keep i) (λ e. one i e) (λ e. rw e (sym (ap (λ (b : Bool). cond b (size_of s i) 0) (none_marked i l e)))))
        where
          one : (i : ℕ) → keep i ≡ true
              → cond (keep i) (cond (marked (reached left (λ r. then (link_at left r))) (new i)) (size_of left (new i)) 0) 0
              ≡ cond (marked (reached s (λ r. from (link_at s r))) i) (size_of s i) 0
          one i e = rw e (ap₂ (λ (b : Bool) (n : ℕ). cond b n 0) (marks_same i e) (size_kept s f keep k i e))

  -- ---- a kept object

  -- whether it can be reached from itself
  pub cycle_kept : (t : ℕ) → keep t ≡ true → on_cycle left (new t) ≡ on_cycle s t
  unfolding on_cycle
  cycle_kept t h = marks_same (offset_of t) (offset_of (new t)) (offset_owner s f keep k t h) (offset_moved s f keep k t h) t h

  -- what its offsets at some positions reach
  pub span_size_kept : (t lo hi : ℕ) → keep t ≡ true → reach_of left (of_span (new t) lo hi) ≡ reach_of s (of_span t lo hi)
  span_size_kept t lo hi h =
      reach_size_kept (of_span t lo hi) (of_span (new t) lo hi)
      (λ l e. offset_owner s f keep k t h l (and_three (offset_of t l) (leb lo l.position) (ltb l.position hi) e).0)
      (λ l e. ap (λ (b : Bool). b && leb lo l.position && ltb l.position hi) (offset_moved s f keep k t h l e))

  -- S(i) of a kept table's items, whose links stand at these positions
  pub item_size_kept : (t : ℕ) (place : ℕ → ℕ) → keep t ≡ true → (a i : ℕ)
      → item_size left (λ lo hi. of_span (new t) (place lo) (place hi)) a i ≡ item_size s (λ lo hi. of_span t (place lo) (place hi)) a i
  unfolding item_size
  item_size_kept t place h a i = ap₂ (λ (x y : ℕ). x - y) (span_size_kept t (place a) (place (i + 1)) h) (span_size_kept t (place a) (place i) h)

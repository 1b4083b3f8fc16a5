-- What is compacted and compacted again stays as it is: all of it is kept, and it lies where it would go. Assumes nothing.
use Prim.Native.Nat.{ℕ, ◌+◌, ◌*◌, ◌<◌, ◌≤◌}
use mathlib.Core.Path.{◌≡◌, refl, sym, ap, ap₂, subst, ◌∙◌}
use mathlib.Core.Bool.{Bool, true, cond, not}
use mathlib.Core.List.{List, [], map}
use mathlib.Core.Logic.{inl, inr, ⊎_elim}
use native.Mathlib.Omega.{arith}
use lib.ListN.{length, get_or, replicate, length-replicate}
use lib.Dec.{eqb}
use borrow.Author.Tests.{eq-eqb}
use Rattle.folds.specs.Folds.{upto}
use Rattle.folds.specs.Lists.{among, put, join}
use Rattle.folds.proofs.Tests.{and_both, and_intro, and_second}
use Rattle.folds.proofs.Folds.{upto-same}
use Rattle.folds.proofs.FromTheFront.{upto_get_d}
use Rattle.folds.proofs.Sums.{sum-zero}
use Rattle.folds.proofs.Picked.{picked_same}
use Rattle.folds.proofs.Moved.{map-own, sift-all}
use Rattle.folds.proofs.Each.{Each, each_map, each_then, among_each}
use Rattle.folds.proofs.Among.{among-map}
use Rattle.folds.proofs.Put.{put_over, length-put}
use Rattle.store_rules.specs.Store.{Store, Link, per_link, joining, links_of, is_offset, head_of, size_of, bytes_of}
use Rattle.store_rules.specs.Reach.{Reach}
use Rattle.store_rules.specs.Appended.{appended, rows_from, row_numbers}
use Rattle.store_rules.proofs.Sound.{Fits}
use Rattle.store_rules.proofs.LinkRows.{rows_numbers}
use Rattle.store_rules.proofs.ObjectRows.{rows_length}
use Rattle.store_rules.proofs.LinksFit.{Fitting, links_fit_lem}
use Rattle.compact_rules.specs.Kept.{renumber, head_then, of_roots, from_roots, kept}
use Rattle.compact_rules.specs.Compacted.{kept_objects, keeps_ends, renumbered, kept_links, wiped, emptied, compacted, displaced, bytes_moved, roots_then}
use Rattle.compact_rules.specs.Calls.{roots_used}
use Rattle.compact_rules.proofs.Numbers.{number_from, number_all, number_less}
use Rattle.compact_rules.proofs.Kept.{Keeps, keeps, kept_wanted, wanted_kept, each_used}
use Rattle.compact_rules.proofs.Objects.{wiped_long, kept_many, kept_long, kept_within, roomy, objects_left_lem, bytes_at, head_kept}
use Rattle.compact_rules.proofs.Links.{links_left_lem, no_more_links, compacted_fits}
use Rattle.compact_rules.proofs.SameReach.{reach_there}

-- ---- all of a store that has no gaps, and is packed as it was: the same store

-- a buffer that is wiped and written as before
written_again : (d xs : List ℕ) (n : ℕ) → n ≡ length xs → length xs ≤ length d → put (wiped (put d 0 xs) n) 0 xs ≡ put d 0 xs
unfolding wiped
written_again d xs n e h =
    let zeros = length-replicate {A = ℕ} n 0 in
    let long = length-put d 0 xs (omega arith) in
    put_over (put d 0 xs) 0 (replicate n 0) xs (omega arith) (omega arith) ∙ put_over d 0 xs xs (omega arith) (omega arith)

packed_again : (s : Store) (new : List (List ℕ)) (ls : List Link)
    → length (join new) ≤ length (emptied s).bytes → 2 * length new ≤ length (emptied s).objects → per_link * length ls ≤ length (emptied s).links
    → appended (emptied (appended (emptied s) new ls)) new ls ≡ appended (emptied s) new ls
unfolding appended emptied
packed_again s new ls a b c =
    let n : 0 + length (join new) ≡ length (join new) = omega arith in
    let m : 2 * (0 + length new) ≡ length (rows_from 0 new) = omega (arith, rows_length 0 new) in
    let k : per_link * length ls ≡ length (row_numbers ls) = sym (rows_numbers ls) in
    let p = written_again (wiped s.bytes s.byte_count) (join new) (0 + length (join new)) n a in
    let q = written_again (wiped s.objects (2 * s.object_count)) (rows_from 0 new) (2 * (0 + length new)) m (omega (arith, rows_length 0 new)) in
    let r = written_again (wiped s.links (per_link * s.link_count)) (row_numbers ls) (per_link * length ls) k (omega (arith, rows_numbers ls)) in
    λ i. record {
      bytes = p i;
      objects = q i;
      links = r i;
      byte_count = 0 + length (join new);
      object_count = 0 + length new;
      link_count = length ls;
    }

-- ---- a store of which all is kept

module _ (s : Store) (f : Fits s) (keep : ℕ → Bool) (all : (i : ℕ) → i < s.object_count → keep i ≡ true) where
  own_number : (i : ℕ) → i < s.object_count → renumber keep i ≡ i
  own_number i l = number_all keep s.object_count all i (omega arith)

  all-objects : kept_objects s keep ≡ upto (bytes_of s) s.object_count
  unfolding kept_objects
  all-objects = picked_same keep (λ k. true) (bytes_of s) (bytes_of s) s.object_count all (λ k l e. refl)

  all-links : kept_links s keep ≡ links_of s
  unfolding kept_links
  all-links =
      ap (map (renumbered (renumber keep))) (sift-all (keeps_ends keep) (links_of s) (each_then (Fitting s) (λ l. keeps_ends keep l ≡ true) both (links_of s) (links_fit_lem s f)))
      ∙ map-own (renumbered (renumber keep)) (links_of s) (each_then (Fitting s) (λ l. renumbered (renumber keep) l ≡ l) same (links_of s) (links_fit_lem s f))
    where
      both : (l : Link) → Fitting s l → keeps_ends keep l ≡ true
      both l g = and_intro (keep l.parent) (keep l.child) (all l.parent g.parent_used) (all l.child g.child_used)

      same : (l : Link) → Fitting s l → renumbered (renumber keep) l ≡ l
      same l g = let p = own_number l.parent g.parent_used in let c = own_number l.child g.child_used in λ i. joining (p i) (c i) l

-- ---- a compacted store, by any choice that keeps all of it

module _ (s : Store) (f : Fits s) (keep : ℕ → Bool) (k : Keeps s keep) (more : ℕ → Bool)
    (all : (i : ℕ) → i < (compacted s keep).object_count → more i ≡ true) (mk : Keeps (compacted s keep) more) where
  then_fits : Fits (compacted s keep)
  then_fits = compacted_fits s f keep k

  same_objects : kept_objects (compacted s keep) more ≡ kept_objects s keep
  same_objects =
      let n : (compacted s keep).object_count ≡ length (kept_objects s keep) = objects_left_lem s keep ∙ sym (kept_many s keep) in
      all-objects (compacted s keep) then_fits more all
      ∙ ap (upto (bytes_of (compacted s keep))) n
      ∙ upto-same (bytes_of (compacted s keep)) (λ m. get_or (kept_objects s keep) m []) (length (kept_objects s keep)) (bytes_at s f keep)
      ∙ upto_get_d (kept_objects s keep) []

  same_links : kept_links (compacted s keep) more ≡ kept_links s keep
  same_links = all-links (compacted s keep) then_fits more all ∙ links_left_lem s keep

  pub same_store : compacted (compacted s keep) more ≡ compacted s keep
  unfolding compacted emptied
  same_store =
      ap₂ (λ (new : List (List ℕ)) (ls : List Link). appended (emptied (compacted s keep)) new ls) same_objects same_links
      ∙ packed_again s (kept_objects s keep) (kept_links s keep)
      (omega (arith, wiped_long s.bytes s.byte_count f.bytes_in, kept_long s f keep, kept_within s f keep, f.bytes_in))
      (omega (arith, (roomy s f keep).objects_in))
      (omega (arith, wiped_long s.links (per_link * s.link_count) f.links_in, no_more_links s keep, f.links_in))

  none_displaced : (i : ℕ) → i < (compacted s keep).object_count → head_then (compacted s keep) more i ≡ head_of (compacted s keep) i
  none_displaced i l =
      sym (head_kept (compacted s keep) then_fits more mk i (all i l))
      ∙ ap₂ head_of same_store (own_number (compacted s keep) then_fits more all i l)

  pub none_moved : bytes_moved (compacted s keep) more ≡ 0
  unfolding bytes_moved
  none_moved =
      sum-zero (λ i. cond (displaced (compacted s keep) more i) (size_of (compacted s keep) i) 0) (compacted s keep).object_count
      (λ i l.
      ap (λ (b : Bool). cond b (size_of (compacted s keep) i) 0)
      (and_second (more i) (not (eqb (head_then (compacted s keep) more i) (head_of (compacted s keep) i)))
      (ap not (eq-eqb (head_then (compacted s keep) more i) (head_of (compacted s keep) i) (none_displaced i l)))))

  pub same_roots : (rs : List ℕ) → Each (λ r. r < (compacted s keep).object_count) rs → roots_then more rs ≡ rs
  same_roots rs a =
      map-own (renumber more) rs
      (each_then (λ r. r < (compacted s keep).object_count) (λ r. renumber more r ≡ r) (λ r l. own_number (compacted s keep) then_fits more all r l) rs a)

-- ---- by the rewritten roots all of it is kept

module _ (s : Store) (f : Fits s) (roots : List ℕ) (used : roots_used s.object_count roots ≡ true) where
  abbrev keep : ℕ → Bool
  keep = kept s roots

  abbrev left : Store
  left = compacted s keep

  abbrev new : List ℕ
  new = roots_then keep roots

  pub left_fits : Fits left
  left_fits = compacted_fits s f keep (keeps s f roots used)

  -- what a root reaches, a rewritten root reaches
  reach_moved : {i : ℕ} → Reach s (from_roots s roots) i → Reach left (from_roots left new) (renumber keep i)
  reach_moved r =
      (reach_there s f keep (keeps s f roots used) (of_roots roots) (of_roots new)
      (λ l a. let (o, p) = and_both (is_offset l) (among l.parent roots) a in (o, wanted_kept s f roots used l.parent (inl p)))
      (λ l e a.
      let (o, p) = and_both (is_offset l) (among l.parent roots) a in
      and_intro (is_offset l) (among (renumber keep l.parent) new) o (among-map (renumber keep) l.parent roots p))
      r).1

  new_each : Each (λ r. r < left.object_count) new
  new_each =
      each_map (λ r. among r roots ≡ true) (λ r. r < left.object_count) (renumber keep)
      (λ r a.
      let h = wanted_kept s f roots used r (inl a) in
      omega (arith, objects_left_lem s keep, number_less keep r s.object_count h ((keeps s f roots used).used r h)))
      roots (among_each (λ r. among r roots ≡ true) roots (λ x a. a))

  pub new_used : roots_used left.object_count new ≡ true
  new_used = each_used left.object_count new new_each

  pub all-kept : (m : ℕ) → m < left.object_count → kept left new m ≡ true
  all-kept m l =
      let (i, a, h, e) = number_from keep s.object_count m (omega (arith, objects_left_lem s keep)) in
      subst (λ (x : ℕ). kept left new x ≡ true) e
      (wanted_kept left left_fits new new_used (renumber keep i)
      (⊎_elim (λ r. inl (among-map (renumber keep) i roots r)) (λ r. inr (reach_moved r)) (kept_wanted s f roots used i a h)))

  again : Keeps left (kept left new)
  again = keeps left left_fits new new_used

  -- "close all gaps" is done: a second compaction by the rewritten roots changes nothing and moves nothing
  pub store_again : compacted left (kept left new) ≡ left
  store_again = same_store s f keep (keeps s f roots used) (kept left new) all-kept again

  pub moved_again : bytes_moved left (kept left new) ≡ 0
  moved_again = none_moved s f keep (keeps s f roots used) (kept left new) all-kept again

  pub roots_again : roots_then (kept left new) new ≡ new
  roots_again = same_roots s f keep (keeps s f roots used) (kept left new) all-kept again new new_each

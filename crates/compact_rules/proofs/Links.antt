-- The links after a compaction: they fit and ascend, so that the store is sound, and each kept object has its children under their new numbers. Assumes nothing.
use Prim.Native.Nat.{ℕ, suc, ◌+◌, ◌*◌, ◌<◌, ◌≤◌}
use mathlib.Core.Path.{◌≡◌, refl, sym, ap, ◌∙◌}
use mathlib.Core.Bool.{Bool, true, false, ◌&&◌}
use mathlib.Core.List.{List}
use mathlib.Core.Logic.{inl, inr, ⊎_elim}
use native.Mathlib.Omega.{arith}
use lib.ListN.{length}
use lib.Dec.{eqb}
use Rattle.folds.specs.Lists.{sift}
use Rattle.folds.proofs.Tests.{by_test, either, and_both, and_intro, true_false}
use Rattle.folds.proofs.Each.{Each, each_moved, each_then, each_upto}
use Rattle.folds.proofs.Moved.{length-map, sift-map, sift-sift, sift-both, sift-same}
use Rattle.store_rules.specs.Store.{Store, Link, per_link, lookup, links_of, link_at, is_offset, offset_of, parent_of, child_of, size_of, child_at, sound}
use Rattle.store_rules.specs.SlotLinks.{links_from}
use Rattle.store_rules.proofs.Sound.{Fits, size_most, fits_sound}
use Rattle.store_rules.proofs.Shaped.{of_offset, of_parent, offset_inside}
use Rattle.store_rules.proofs.LinksAscend.{From, Climb, place, place_offset, place_order}
use Rattle.store_rules.proofs.LinksFit.{Fitting, fitting_then, links_fit_lem, rows_many}
use Rattle.store_rules.proofs.Rising.{Behind, Rises, rises_moved, rises_climb, rows_rise}
use Rattle.store_rules.proofs.Appended.{links_then, links_count}
use Rattle.store_rules.proofs.AppendedFits.{appended_fits}
use Rattle.store_rules.proofs.Lookups.{hit, hit_is, mapped, lookup_kept}
use Rattle.compact_rules.specs.Kept.{renumber}
use Rattle.compact_rules.specs.Compacted.{kept_objects, keeps_ends, renumbered, kept_links, emptied, compacted}
use Rattle.compact_rules.proofs.Numbers.{number_less, number_same}
use Rattle.compact_rules.proofs.Kept.{Keeps}
use Rattle.compact_rules.proofs.Objects.{wiped_long, roomy, objects_left_lem, size_kept}

-- ---- in order

module _ (keep : ℕ → Bool) where
  -- a link under its new numbers
  abbrev moved : Link → Link
  moved l = renumbered (renumber keep) l

  ends : (l : Link) → keeps_ends keep l ≡ true → (keep l.parent ≡ true) × (keep l.child ≡ true)
  ends l h = and_both (keep l.parent) (keep l.child) h

  -- an offset keeps its place among its parent's links, behind which order-only links go by their new children
  offset_place : (l : Link) → is_offset l ≡ true → place (moved l) ≡ l.position
  offset_place l o = place_offset (moved l) o

  order_place : (l : Link) → is_offset l ≡ false → place (moved l) ≡ 16777216 + renumber keep l.child
  order_place l o = place_order (moved l) o

  -- an offset lies within its parent's bytes
  abbrev Inside : Link → Type 0
  Inside l = is_offset l ≡ true → l.position + 2 ≤ 16777216

  pub behind_moved : (l m : Link) → Inside l → Inside m → keeps_ends keep l ≡ true → keeps_ends keep m ≡ true → Behind l m → Behind (moved l) (moved m)
  behind_moved l m x y p q (inl a) = inl (number_less keep l.parent m.parent (ends l p).0 a)
  behind_moved l m x y p q (inr (e, a)) =
      inr (
        ap (renumber keep) e,
        by_test (is_offset l)
            (λ o. by_test (is_offset m)
            (λ w. omega (arith, place_offset l o, place_offset m w, offset_place l o, offset_place m w))
            (λ w. omega (arith, x o, offset_place l o, order_place m w)))
            (λ o. by_test (is_offset m)
            (λ w. absurd (omega (arith, y w, place_order l o, place_offset m w)))
            (λ w.
            let less : l.child < m.child = omega (arith, place_order l o, place_order m w) in
            omega (arith, number_less keep l.child m.child (ends l p).1 less, order_place l o, order_place m w))),
      )

module _ (s : Store) (keep : ℕ → Bool) where
  pub links_left_lem : links_of (compacted s keep) ≡ kept_links s keep
  unfolding compacted
  links_left_lem = links_then (emptied s) (kept_objects s keep) (kept_links s keep)

  pub rows_left : (compacted s keep).link_count ≡ length (kept_links s keep)
  unfolding compacted
  rows_left = links_count (emptied s) (kept_objects s keep) (kept_links s keep)

  pub no_more_links : length (kept_links s keep) ≤ s.link_count
  unfolding kept_links
  no_more_links =
      omega (
        arith,
        length-map (renumbered (renumber keep)) (sift (keeps_ends keep) (links_of s)),
        sift-both (keeps_ends keep) (links_of s),
        rows_many s,
      )

-- ---- sound

module _ (s : Store) (f : Fits s) (keep : ℕ → Bool) (k : Keeps s keep) where
  end_used : (i : ℕ) → keep i ≡ true → renumber keep i < (compacted s keep).object_count
  end_used i h = omega (arith, objects_left_lem s keep, number_less keep i s.object_count h (k.used i h))

  moved_fits : (l : Link) → Fitting s l → keeps_ends keep l ≡ true → Fitting (compacted s keep) (moved keep l)
  moved_fits l g h =
      let (p, c) = ends keep l h in
      fitting_then (compacted s keep) l (moved keep l) (size_of s l.parent) refl refl refl (end_used l.parent p) (end_used l.child c)
      (λ o i. omega (arith, size_kept s f keep k l.parent p)) g.shape

  kept_fit : Each (Fitting (compacted s keep)) (kept_links s keep)
  unfolding kept_links
  kept_fit = each_moved (Fitting s) (Fitting (compacted s keep)) (moved keep) (keeps_ends keep) moved_fits (links_of s) (links_fit_lem s f)

  inside : (l : Link) → Fitting s l → Inside keep l
  inside l g o = omega (arith, offset_inside (size_of s l.parent) l o g.shape, size_most s f l.parent g.parent_used)

  kept_rise : Rises (kept_links s keep)
  unfolding kept_links
  kept_rise =
      rises_moved (Fitting s) (moved keep) (keeps_ends keep) (λ l m a b p q. behind_moved keep l m (inside l a) (inside m b) p q) (links_of s) (links_fit_lem s f) (rows_rise s f)

  -- with no objects there are no links
  kept_climb : Climb 0 0 (suc (compacted s keep).object_count) (kept_links s keep)
  kept_climb =
      rises_climb (kept_links s keep) 0 0 (suc (compacted s keep).object_count) (omega arith)
      (each_then (Fitting (compacted s keep)) (λ l. l.parent < suc (compacted s keep).object_count) (λ l g. omega (arith, g.parent_used)) (kept_links s keep) kept_fit)
      (each_then (Fitting (compacted s keep)) (λ l. From 0 0 l.parent (place l)) (λ l g. from_start l) (kept_links s keep) kept_fit)
      kept_rise
    where
      from_start : (l : Link) → From 0 0 l.parent (place l)
      from_start l = ⊎_elim (λ a. inl a) (λ a. inr (omega arith, omega arith)) (either 0 l.parent)

  pub compacted_fits : Fits (compacted s keep)
  unfolding compacted emptied
  compacted_fits =
      appended_fits (emptied s) (kept_objects s keep) (kept_links s keep) (roomy s f keep) kept_fit (suc (compacted s keep).object_count) kept_climb
      (omega (arith, no_more_links s keep, f.links_in, wiped_long s.links (per_link * s.link_count) f.links_in))
      (omega (arith, no_more_links s keep, f.links_most))

  pub compacted_sound : sound (compacted s keep) ≡ true
  compacted_sound = fits_sound (compacted s keep) compacted_fits

  -- ---- the offsets of a kept object

  module _ (u : ℕ) (h : keep u ≡ true) where
    pub offset_moved : (l : Link) → keeps_ends keep l ≡ true → offset_of (renumber keep u) (moved keep l) ≡ offset_of u l
    offset_moved l e = ap (λ (b : Bool). is_offset l && b) (number_same keep l.parent u (ends keep l e).0 h)

    pub offset_owner : (l : Link) → offset_of u l ≡ true → (is_offset l ≡ true) × (keep l.parent ≡ true)
    offset_owner l a = (of_offset u l a, ap keep (of_parent u l a) ∙ h)

    -- each of them stays
    offset_stays : (j : ℕ) → j < s.link_count → offset_of u (link_at s j) ≡ true → keeps_ends keep (link_at s j) ≡ true
    offset_stays j l a = let (o, p) = offset_owner (link_at s j) a in and_intro (keep (parent_of s j)) (keep (child_of s j)) p (k.closed j l o p)

    -- its children, under their new numbers
    pub child_kept : (q : ℕ) → child_at (compacted s keep) (renumber keep u) q ≡ mapped (renumber keep) (child_at s u q)
    unfolding child_at kept_links links_of
    child_kept q =
        ap (λ (ls : List Link). lookup ls (renumber keep u) q) (links_left_lem s keep)
        ∙ lookup_kept (moved keep) (keeps_ends keep) u q (renumber keep u) q (renumber keep)
        (λ l e. ap (λ (b : Bool). b && eqb l.position q) (offset_moved l e)) (λ l e. refl) (links_of s)
        (each_upto (λ l. hit l u q ≡ true → keeps_ends keep l ≡ true) (link_at s) s.link_count (λ j l e. offset_stays j l (hit_is (link_at s j) u q e).0))

    -- and how many they are
    pub links_from_kept : links_from (compacted s keep) (renumber keep u) ≡ links_from s u
    unfolding links_from kept_links links_of
    links_from_kept =
        ap (λ (ls : List Link). length (sift (offset_of (renumber keep u)) ls)) (links_left_lem s keep)
        ∙ ap length (sift-map (moved keep) (offset_of (renumber keep u)) (sift (keeps_ends keep) (links_of s)))
        ∙ length-map (moved keep) (sift (λ l. offset_of (renumber keep u) (moved keep l)) (sift (keeps_ends keep) (links_of s)))
        ∙ ap length (sift-sift (λ l. offset_of (renumber keep u) (moved keep l)) (keeps_ends keep) (links_of s))
        ∙ ap length
        (sift-same (λ l. keeps_ends keep l && offset_of (renumber keep u) (moved keep l)) (offset_of u) (links_of s)
        (each_upto (λ l. (keeps_ends keep l && offset_of (renumber keep u) (moved keep l)) ≡ offset_of u l) (link_at s) s.link_count
        (λ j l. one (link_at s j) (offset_stays j l))))
      where
        one : (l : Link) → (offset_of u l ≡ true → keeps_ends keep l ≡ true) → (keeps_ends keep l && offset_of (renumber keep u) (moved keep l)) ≡ offset_of u l
        one l stay =
            by_test (keeps_ends keep l) (λ e. rw e (offset_moved l e))
            (λ e. rw e (by_test (offset_of u l) (λ a. true_false (sym (stay a) ∙ e)) (λ a. sym a)))

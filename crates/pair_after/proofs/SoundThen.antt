-- The store stays sound: its objects follow one another, and its links name objects in use, lie in their parents and ascend. Assumes nothing.
use Rattle.std.specs.Prelude.{Option, Some, None, unwrap_or}
use Prim.Native.Nat.{ℕ, suc, ◌+◌, ◌-◌, ◌*◌, ◌<◌, ◌≤◌}
use mathlib.Core.Path.{◌≡◌, refl, sym, ap, subst, ◌∙◌}
use mathlib.Core.Bool.{Bool, true, false, cond, not}
use mathlib.Core.List.{List, map}
use mathlib.Core.Logic.{⊎_elim}
use native.Mathlib.Omega.{arith}
use native.Mathlib.Decide.{ℕ_discrete}
use native.Mathlib.Nat.{mul-suc, mul-sub}
use lib.ListN.{length}
use Rattle.folds.specs.Folds.{flat}
use Rattle.folds.specs.Lists.{among, sift}
use Rattle.folds.proofs.Tests.{either, true_false}
use Rattle.folds.proofs.Each.{Each, each_upto, each_moved, each_append, each_flat, each_among}
use Rattle.ot_layouts.specs.PairPos.{is_slot, Shape, heads, shape_of, shape1, shape2, item_at}
use Rattle.ot_layouts.proofs.Shapes.{by_format}
use Rattle.ot_layouts.proofs.Slots.{slot_fits}
use Rattle.store_rules.specs.Store.{Store, Link, size_of, links_of, link_at, is_offset, offset_of, child_at, bytes_of, sound, linked_at}
use Rattle.pair_rules.specs.Table.{of_items, shape}
use Rattle.pair_rules.specs.Written.{split_store, new_of, per_table, new_links, head_links, table_links, moved, store_after, kept_table}
use Rattle.store_rules.specs.Appended.{new_number, with_bytes, with_tail}
use Rattle.cut_rules.specs.Ranges.{from, to}
use Rattle.store_rules.proofs.Sound.{Fits, fits_sound}
use Rattle.store_rules.proofs.Lookups.{child_used_lem}
use Rattle.pair_rules.proofs.ItemLinks.{items_in, items_from}
use Rattle.store_rules.proofs.LinksAscend.{Climb, climb_upper, climb_append, climb_stay, climb_flat}
use Rattle.pair_rules.proofs.Checks.{at_slot}
use Rattle.pair_rules.proofs.NewCounts.{per_two}
use Rattle.pair_rules.proofs.TableLinks.{table_climb}
use Rattle.store_rules.specs.Header.{own_child, kept}
use Rattle.store_rules.proofs.Header.{header_each, child_any, kept_any, kept_place}
use Rattle.store_rules.proofs.Shaped.{is_of, of_offset, offset_wide, offset_shaped}
use Rattle.pair_after.proofs.Ready.{Ready, objects_then, many_new, new_used}
use Rattle.pair_after.proofs.NewLinks.{piece, stayed, stays}
use Rattle.pair_after.proofs.NewBytes.{shortened, room, other_size, kept_size_lem, new_size, new_bytes}
use Rattle.store_rules.proofs.LinksFit.{Fitting, link_fitting, fitting_then, row_fitting, rows_climb}
use Rattle.store_rules.proofs.AppendedFits.{appended_fits}
use Rattle.pair_after.proofs.KeptAndNew.{view_new}
use Rattle.pair_after.proofs.LinksCounted.{many_links}

-- a choice lies below what both sides lie below
cond_lt : (b : Bool) (x y n : ℕ) → (b ≡ true → x < n) → (b ≡ false → y < n) → cond b x y < n
cond_lt true x y n f h = f refl
cond_lt false x y n f h = h refl

-- a link of the old store: one of the table stands at a slot
record Old (s : Store) (t : ℕ) (l : Link) : Type 0 where
  fits : Fitting s l
  slot : offset_of t l ≡ true → is_slot (shape s t) l.position ≡ true

-- a header link lies in the header
head_inside : (b : List ℕ) (q : ℕ) → among q (heads (shape_of b)) ≡ true → q + 2 ≤ (shape_of b).header
unfolding shape1 shape2
head_inside b q =
    by_format (λ sh. among q (heads sh) ≡ true → q + 2 ≤ sh.header) b
    (λ e. each_among (λ p. p + 2 ≤ 10) (heads (shape1 b)) q (omega arith, tt))
    (λ e. each_among (λ p. p + 2 ≤ 16) (heads (shape2 b)) q (omega arith, (omega arith, (omega arith, tt))))

module _ (s : Store) (t : ℕ) (cs : List ℕ) (g : Ready s t cs) where
  abbrev sh : Shape
  sh = shape s t

  abbrev s' : Store
  s' = split_store s t cs

  -- ---- links ascend

  piece_climb : (j : ℕ) → Climb (new_number s (per_table sh) j) 0 (new_number s (per_table sh) (suc j)) (piece s t cs j)
  piece_climb j =
      let more : suc (new_number s (per_table sh) j) ≤ new_number s (per_table sh) (suc j) = omega (arith, per_two (bytes_of s t), mul-suc (per_table sh) j) in
      climb_upper (piece s t cs j) (new_number s (per_table sh) j) 0 (suc (new_number s (per_table sh) j)) (new_number s (per_table sh) (suc j)) more
      (table_climb s t (new_number s (per_table sh) j) (from cs j) (to sh.count cs j) s.object_count (rows_climb s g.fit))

  new_climb : Climb 0 0 (new_number s (per_table sh) (length cs)) (new_links s t sh cs)
  unfolding new_links kept
  new_climb =
      let z : new_number s (per_table sh) 0 ≡ s.object_count = omega arith in
      climb_append (stayed s t cs) (flat (piece s t cs) (length cs)) 0 0 (new_number s (per_table sh) 0) (new_number s (per_table sh) (length cs))
      (rw z (climb_stay (kept sh.own t (new_number s (per_table sh) (length cs))) (stays s t cs) (λ l. refl) (kept_place sh.own t (new_number s (per_table sh) (length cs))) (links_of s) 0 0 s.object_count (rows_climb s g.fit)))
      (climb_flat (piece s t cs) (λ j. new_number s (per_table sh) j) (length cs) (λ j l. piece_climb j))

  -- ---- each link fits

  old_links : Each (Old s t) (links_of s)
  unfolding links_of
  old_links =
      each_upto (Old s t) (link_at s) s.link_count
      (λ k l. record { fits = row_fitting s g.fit k l; slot = at_slot s t g.at_slots k l })

  stayed_fit : Each (Fitting s') (stayed s t cs)
  unfolding kept
  stayed_fit = each_moved (Old s t) (Fitting s') (kept sh.own t v) (stays s t cs) one (links_of s) old_links
    where
      v : ℕ
      v = new_number s (per_table (shape s t)) (length cs)

      child_in_lem : (l : Link) → Old s t l → (kept sh.own t v l).child < s'.object_count
      child_in_lem l o =
          ⊎_elim
          (λ same. omega (arith, same, o.fits.child_used, objects_then s t cs g))
          (λ (low, high). omega (arith, high, objects_then s t cs g, many_new s t cs g))
          (kept_any sh.own t v l)

      room : (l : Link) → Old s t l → stays s t cs l ≡ true → is_offset l ≡ true → l.position + 2 ≤ size_of s l.parent → l.position + 2 ≤ size_of s' l.parent
      room l o h w inside = go (ℕ_discrete l.parent t)
        where
          go : Dec (l.parent ≡ t) → l.position + 2 ≤ size_of s' l.parent
          go (no n) = omega (arith, other_size s t cs g l.parent o.fits.parent_used n)
          go (yes e) =
              let i : l.position + 2 ≤ size_of s t = subst (λ (n : ℕ). l.position + 2 ≤ size_of s n) e inside in
              let own = is_of t l w e in
              let below : l.position < item_at sh (from cs 0) = ⊎_elim (λ lt. lt)
              (λ ge. true_false (sym h ∙ ap not (items_in t sh (from cs 0) sh.count l own ge (omega (arith, g.size))))) (either l.position (item_at sh (from cs 0))) in
              subst (λ (n : ℕ). l.position + 2 ≤ size_of s' n) (sym e) (omega (arith, kept_size_lem s t cs g, slot_fits (bytes_of s t) l.position (from cs 0) (o.slot own) below))

      one : (l : Link) → Old s t l → stays s t cs l ≡ true → Fitting s' (kept sh.own t v l)
      one l o h =
          fitting_then s' l (kept sh.own t v l) (size_of s l.parent) refl refl refl
          (omega (arith, o.fits.parent_used, objects_then s t cs g)) (child_in_lem l o) (room l o h) o.fits.shape

  module _ (j : ℕ) (l : j < length cs) where
    abbrev u : ℕ
    u = new_number s (per_table (shape s t)) j

    in_use_lem : u < s'.object_count
    in_use_lem = omega (arith, new_used s t cs g j 0 l (omega (arith, per_two (bytes_of s t))))

    size_new : size_of s' u ≡ sh.header + sh.item * (to sh.count cs j - from cs j)
    size_new =
        let m : per_table sh * j < length (new_of s t cs) = omega (arith, in_use_lem, objects_then s t cs g) in
        new_size s t cs g (per_table sh * j) m ∙ sym (ap length (new_bytes s t cs g (per_table sh * j) m)) ∙ (view_new s t cs g j l).long

    -- what the old table's links lead to is in use
    linked_used : (q : ℕ) → linked_at s t q < s.object_count
    linked_used q = go (child_at s t q) refl
      where
        go : (o : Option ℕ) → child_at s t q ≡ o → unwrap_or o 0 < s.object_count
        go None e = omega (arith, g.reads.used)
        go (Some k) e = child_used_lem s t g.fit q k e

    heads_fit : Each (Fitting s') (head_links sh u (linked_at s t))
    heads_fit =
        header_each sh.own u (linked_at s t) (Fitting s') (heads sh)
        (λ q a. link_fitting s' u q (own_child sh.own (u + 1) q (linked_at s t q)) in_use_lem (child_in_lem q) (omega (arith, size_new, head_inside (bytes_of s t) q a)))
      where
        child_in_lem : (q : ℕ) → own_child sh.own (u + 1) q (linked_at s t q) < s'.object_count
        child_in_lem q =
            ⊎_elim
            (λ same. omega (arith, same, linked_used q, objects_then s t cs g))
            (λ (low, high). omega (arith, high, new_used s t cs g j (length sh.own) l (omega arith)))
            (child_any sh.own (u + 1) q (linked_at s t q))

    piece_fit : Each (Fitting s') (piece s t cs j)
    unfolding table_links moved
    piece_fit =
        each_append (Fitting s') (head_links sh u (linked_at s t)) (map (moved sh u (from cs j)) (sift (of_items t sh (from cs j) (to sh.count cs j)) (links_of s)))
        heads_fit
        (each_moved (Old s t) (Fitting s') (moved sh u (from cs j)) (of_items t sh (from cs j) (to sh.count cs j)) one (links_of s) old_links)
      where
        one : (k : Link) → Old s t k → of_items t sh (from cs j) (to sh.count cs j) k ≡ true → Fitting s' (moved sh u (from cs j) k)
        one k o h =
            let (a, b, c) = items_from t sh (from cs j) (to sh.count cs j) k h in
            let f : k.position + 2 ≤ item_at sh (to sh.count cs j) = slot_fits (bytes_of s t) k.position (to sh.count cs j) (o.slot a) c in
            record {
              parent_used = in_use_lem;
              child_used = omega (arith, o.fits.child_used, objects_then s t cs g);
              shape = offset_shaped (size_of s' u) (moved sh u (from cs j) k) (of_offset t k a) (offset_wide (size_of s k.parent) k (of_offset t k a) o.fits.shape)
                  (omega (arith, size_new, mul-sub sh.item (to sh.count cs j) (from cs j)));
            }

  new_links_lem : Each (Fitting s') (new_links s t sh cs)
  unfolding new_links
  new_links_lem = each_append (Fitting s') (stayed s t cs) (flat (piece s t cs) (length cs)) stayed_fit (each_flat (Fitting s') (piece s t cs) (length cs) piece_fit)

  -- ---- the store

  pub fits_then_lem : Fits s'
  unfolding split_store store_after kept_table with_bytes with_tail
  fits_then_lem =
      let many = many_links s t cs g in
      appended_fits (shortened s t cs g) (new_of s t cs) (new_links s t sh cs) (room s t cs g) new_links_lem (new_number s (per_table sh) (length cs)) new_climb
      (omega (arith, g.links_room)) (omega (arith, g.links_most))

  pub sound_then : sound s' ≡ true
  sound_then = fits_sound s' fits_then_lem

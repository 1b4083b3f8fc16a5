-- The store stays sound: its objects follow one another, and its links name objects in use, lie in their parents and ascend. Assumes nothing.
use Rattle.std.specs.Prelude.{Some}
use Prim.Native.Nat.{ℕ, suc, ◌+◌, ◌-◌, ◌*◌, ◌<◌, ◌≤◌}
use mathlib.Core.Path.{◌≡◌, refl, ap, subst, ◌∙◌}
use mathlib.Core.Bool.{true}
use mathlib.Core.List.{List}
use mathlib.Core.Logic.{inl, ⊎_elim}
use native.Mathlib.Omega.{arith}
use lib.ListN.{length}
use Rattle.folds.specs.Folds.{flat}
use Rattle.folds.specs.Lists.{among}
use Rattle.folds.proofs.Each.{Each, each_append, each_upto, each_map, each_sift, each_at, each_among}
use Rattle.ot_layouts.specs.Numbers.{words, be16}
use Rattle.ot_layouts.specs.MarkBasePos.{cover_at, base_cover_at, mark_array_at, base_array_at, own, heads, table_size, mark_slot, base_slot}
use Rattle.store_rules.specs.Store.{Store, Link, links_of, size_of, sound, linked_at}
use Rattle.store_rules.specs.Appended.{new_number, link, with_bytes}
use Rattle.store_rules.specs.Header.{own_child, header_links, kept}
use Rattle.store_rules.proofs.Sound.{Fits, fits_sound}
use Rattle.store_rules.proofs.Lookups.{child_used_lem, linked_is}
use Rattle.store_rules.proofs.LinksAscend.{Climb, climb_map, climb_upper, climb_lower, climb_append, climb_flat}
use Rattle.store_rules.proofs.LinksFit.{Fitting, link_fitting, fitting_then, links_fit_lem, rows_climb}
use Rattle.store_rules.proofs.Header.{Rising, header_climb, header_each, kept_any, kept_parent, kept_place}
use Rattle.store_rules.proofs.SlotLinks.{slots_each, slots_climb}
use Rattle.store_rules.proofs.AppendedFits.{appended_fits}
use Rattle.cut_rules.specs.Ranges.{from, to}
use Rattle.mark_rules.specs.Table.{Mark, classes_of, bases_in, marks_in, mark_array, mark_anchor, base_array, marks_of, mark_at, marks_within, in_classes, base_anchor, cut_places}
use Rattle.mark_rules.specs.Written.{
  new_table,
  new_parts,
  per_table,
  no_mark,
  mark_child,
  base_child,
  mark_links,
  base_links,
  array_links,
  table_links,
  fresh_links,
  new_links,
  new_of,
  kept_table,
  split_store,
}
use Rattle.mark_rules.proofs.NewArrays.{array_long, base_long}
use Rattle.promise_marks.specs.Demands.{StaysSound}
use Rattle.promise_marks.proofs.Ready.{Ready, objects_then, new_used, splits_ready, store_written}
use Rattle.promise_marks.proofs.NewBytes.{counted, room, old_size, table_size_lem, kept_size_lem}
use Rattle.promise_marks.proofs.NewLinks.{piece, kept_piece, stayed, fresh_is, fresh_each, array_each}
use Rattle.promise_marks.proofs.LinksCounted.{many_links}

-- ---- they ascend

module _ (s : Store) (t : ℕ) where
  array_climb : (p lo hi : ℕ) → Climb p 0 (p + 2) (array_links s t p lo hi)
  unfolding array_links mark_links base_links
  array_climb p lo hi =
      let ms = marks_within lo hi (marks_of s t) in
      let z : suc p ≡ p + 1 = omega arith in
      let y : suc (p + 1) ≡ p + 2 = omega arith in
      climb_append (mark_links s t p lo hi) (base_links s t (p + 1) lo hi) p 0 (p + 1) (p + 2)
      (subst (λ (e : ℕ). Climb p 0 e (mark_links s t p lo hi)) z (slots_climb p (mark_slot 0) 4 (mark_child ms) (length ms) (omega arith)))
      (subst (λ (e : ℕ). Climb (p + 1) 0 e (base_links s t (p + 1) lo hi)) y
      (slots_climb (p + 1) (base_slot 0) 2 (base_child s t lo (hi - lo)) (bases_in s t * (hi - lo)) (omega arith)))

  heads_rise : Rising 0 heads table_size
  heads_rise = (omega arith, (omega arith, (omega arith, (omega arith, omega arith))))

  table_climb : (u lo hi : ℕ) → Climb u 0 (u + per_table) (table_links s t u lo hi)
  unfolding table_links
  table_climb u lo hi =
      let z : u + 2 + 2 ≡ u + per_table = omega arith in
      let arrays = subst (λ (e : ℕ). Climb (u + 2) 0 e (array_links s t (u + 2) lo hi)) z (array_climb (u + 2) lo hi) in
      header_climb own u (linked_at s t) heads 0 table_size (u + per_table) (array_links s t (u + 2) lo hi) heads_rise
      (climb_lower (array_links s t (u + 2) lo hi) u table_size (u + 2) 0 (u + per_table) (inl (omega arith)) arrays)

module _ (s : Store) (t : ℕ) (cs : List ℕ) (g : Ready s t cs) where
  abbrev s' : Store
  s' = split_store s t cs

  abbrev v : ℕ
  v = new_number s per_table (length cs)

  new_climb : Climb 0 0 (v + 3) (new_links s t cs)
  unfolding new_links
  new_climb =
      let z : new_number s per_table 0 ≡ s.object_count = omega arith in
      let y : v + 1 + 2 ≡ v + 3 = omega arith in
      let old : Climb 0 0 (new_number s per_table 0) (stayed s t cs)
      = rw z (climb_map (kept own t v) (kept_parent own t v) (kept_place own t v) (links_of s) 0 0 s.object_count (rows_climb s g.fit)) in
      let tables : Climb (new_number s per_table 0) 0 v (flat (piece s t cs) (length cs)) = climb_flat (piece s t cs) (new_number s per_table) (length cs) one in
      climb_append (stayed s t cs) (fresh_links s t cs) 0 0 (new_number s per_table 0) (v + 3) old
      (rw (fresh_is s t cs)
      (climb_append (flat (piece s t cs) (length cs)) (kept_piece s t cs) (new_number s per_table 0) 0 (v + 1) (v + 3)
      (climb_upper (flat (piece s t cs) (length cs)) (new_number s per_table 0) 0 v (v + 1) (omega arith) tables)
      (subst (λ (e : ℕ). Climb (v + 1) 0 e (kept_piece s t cs)) y (array_climb s t (v + 1) 0 (from cs 0)))))
    where
      one : (j : ℕ) → j < length cs → Climb (new_number s per_table j) 0 (new_number s per_table (suc j)) (piece s t cs j)
      one j l =
          let x : new_number s per_table j + per_table ≡ new_number s per_table (suc j) = omega arith in
          subst (λ (e : ℕ). Climb (new_number s per_table j) 0 e (piece s t cs j)) x
          (table_climb s t (new_number s per_table j) (from cs j) (to (classes_of s t) cs j))

  -- ---- each fits

  -- an old link, and what becomes of it
  stayed_fit : Each (Fitting s') (stayed s t cs)
  unfolding kept
  stayed_fit = each_map (Fitting s) (Fitting s') (kept own t v) one (links_of s) (links_fit_lem s g.fit)
    where
      one : (l : Link) → Fitting s l → Fitting s' (kept own t v l)
      one l f =
          let o = objects_then s t cs g in
          fitting_then s' l (kept own t v l) (size_of s l.parent) refl refl refl (omega (arith, f.parent_used))
          (⊎_elim (λ e. omega (arith, f.child_used)) (λ (a, b). omega arith) (kept_any own t v l))
          (λ w inside. omega (arith, old_size s t cs g l.parent f.parent_used)) f.shape

  -- an anchor is an old object
  abbrev OldAnchor : Mark → Type 0
  OldAnchor m = (c : ℕ) → m.anchor ≡ Some c → c < s.object_count

  anchors_used : (lo hi : ℕ) → Each OldAnchor (marks_within lo hi (marks_of s t))
  unfolding marks_within marks_of mark_at mark_anchor
  anchors_used lo hi =
      each_sift OldAnchor OldAnchor (λ m. in_classes lo hi m.class) (λ m h e. h) (marks_of s t)
      (each_upto OldAnchor (mark_at s t) (marks_in s t) (λ k l c e. child_used_lem s (mark_array s t) g.fit (mark_slot k) c e))

  -- the links of two arrays that are long enough
  array_fit : (p lo hi : ℕ) → p + 1 < s'.object_count → size_of s' p ≡ 2 + 4 * length (marks_within lo hi (marks_of s t))
      → size_of s' (p + 1) ≡ 2 + 2 * (bases_in s t * (hi - lo))
      → Each (Fitting s') (array_links s t p lo hi)
  unfolding mark_links base_links base_anchor
  array_fit p lo hi h a b =
      let ms = marks_within lo hi (marks_of s t) in
      let n = bases_in s t * (hi - lo) in
      let o = objects_then s t cs g in
      let old = each_at OldAnchor ms (anchors_used lo hi) in
      array_each s t (Fitting s') p lo hi
      (slots_each p (mark_slot 0) 4 (mark_child ms) (Fitting s') (length ms)
      (λ k c l e. link_fitting s' p _ c (omega arith) (omega (arith, old k l no_mark c e)) (omega arith)))
      (slots_each (p + 1) (base_slot 0) 2 (base_child s t lo (hi - lo)) (Fitting s') n
      (λ k c l e. link_fitting s' (p + 1) _ c h (omega (arith, child_used_lem s (base_array s t) g.fit _ c e)) (omega arith)))

  module _ (j : ℕ) (l : j < length cs) where
    abbrev u : ℕ
    u = new_number s per_table j

    abbrev lo : ℕ
    lo = from cs j

    abbrev hi : ℕ
    hi = to (classes_of s t) cs j

    size_table : size_of s' u ≡ table_size
    unfolding new_table words be16
    size_table = let z : u ≡ u + 0 = omega arith in ap (size_of s') z ∙ table_size_lem s t cs g j 0 l (omega arith)

    size_marks : size_of s' (u + 2) ≡ 2 + 4 * length (marks_within lo hi (marks_of s t))
    unfolding new_parts
    size_marks = table_size_lem s t cs g j 2 l (omega arith) ∙ array_long lo (marks_within lo hi (marks_of s t))

    size_bases : size_of s' (u + 2 + 1) ≡ 2 + 2 * (bases_in s t * (hi - lo))
    unfolding new_parts
    size_bases = let z : u + 2 + 1 ≡ u + 3 = omega arith in ap (size_of s') z ∙ table_size_lem s t cs g j 3 l (omega arith) ∙ base_long (bases_in s t) (hi - lo)

    -- the links of its header lead to its own parts and to the base coverage
    heads_fit : (q : ℕ) → among q heads ≡ true → Fitting s' (link u q (own_child own (u + 1) q (linked_at s t q)))
    unfolding own_child
    heads_fit q a = each_among (λ q. Fitting s' (link u q (own_child own (u + 1) q (linked_at s t q)))) heads q (cover, (base, (marks, (bases, tt)))) a
      where
        part-fits : (q c : ℕ) → c < s'.object_count → q + 2 ≤ table_size → Fitting s' (link u q c)
        part-fits q c used h =
            link_fitting s' u q c (omega (arith, new_used s t cs g j 0 l (omega arith))) used (omega (arith, size_table))

        cover : Fitting s' (link u cover_at (u + 1))
        cover = part-fits cover_at (u + 1) (new_used s t cs g j 1 l (omega arith)) (omega arith)

        base : Fitting s' (link u base_cover_at (linked_at s t base_cover_at))
        base =
            let (c, e) = g.parts.base_cover in
            let old : linked_at s t base_cover_at < s'.object_count
            = omega (arith, linked_is s t base_cover_at c e, child_used_lem s t g.fit base_cover_at c e, objects_then s t cs g) in
            part-fits base_cover_at (linked_at s t base_cover_at) old (omega arith)

        marks : Fitting s' (link u mark_array_at (u + 1 + 1))
        marks = part-fits mark_array_at (u + 1 + 1) (omega (arith, new_used s t cs g j 2 l (omega arith))) (omega arith)

        bases : Fitting s' (link u base_array_at (u + 1 + 1 + 1))
        bases = part-fits base_array_at (u + 1 + 1 + 1) (omega (arith, new_used s t cs g j 3 l (omega arith))) (omega arith)

    piece_fit : Each (Fitting s') (piece s t cs j)
    unfolding table_links
    piece_fit =
        each_append (Fitting s') (header_links own heads u (linked_at s t)) (array_links s t (u + 2) lo hi)
        (header_each own u (linked_at s t) (Fitting s') heads heads_fit)
        (array_fit (u + 2) lo hi (omega (arith, new_used s t cs g j 3 l (omega arith))) size_marks size_bases)

  kept_fit : Each (Fitting s') (kept_piece s t cs)
  unfolding new_parts
  kept_fit =
      let z : v + 1 + 1 ≡ v + 2 = omega arith in
      array_fit (v + 1) 0 (from cs 0) (omega (arith, objects_then s t cs g))
      (kept_size_lem s t cs g 1 (omega arith) ∙ array_long 0 (marks_within 0 (from cs 0) (marks_of s t)))
      (ap (size_of s') z ∙ kept_size_lem s t cs g 2 (omega arith) ∙ base_long (bases_in s t) (from cs 0 - 0))

  new_fit : Each (Fitting s') (new_links s t cs)
  unfolding new_links
  new_fit = each_append (Fitting s') (stayed s t cs) (fresh_links s t cs) stayed_fit (fresh_each (Fitting s') s t cs piece_fit kept_fit)

  -- ---- the store

  pub fits_then_lem : Fits s'
  unfolding split_store kept_table with_bytes
  fits_then_lem =
      let n = many_links s t cs g in
      appended_fits (counted s t cs g) (new_of s t cs) (new_links s t cs) (room s t cs g) new_fit (v + 3) new_climb
      (omega (arith, g.links_room)) (omega (arith, g.links_most))

  pub sound_then : sound s' ≡ true
  sound_then = fits_sound s' fits_then_lem

-- the store at exit is one that may be lent again
pub stays_sound : StaysSound
stays_sound how s t w list p =
    let (g, e) = splits_ready how s t w list p in
    rw (store_written how s t w list p) (sound_then s t (cut_places how s t) g)

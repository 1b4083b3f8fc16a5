-- The store stays sound, and its data bytes, when new tables are entered; and it takes what its room was asked for. Assumes nothing.
use Rattle.std.specs.Prelude.{Option, None}
use Prim.Native.Nat.{ℕ, ◌+◌, ◌*◌, ◌<◌, ◌≤◌}
use mathlib.Core.Path.{◌≡◌, refl, sym, ap, subst, ◌∙◌}
use mathlib.Core.Bool.{true}
use mathlib.Core.List.{List, [], map}
use native.Mathlib.Omega.{arith}
use lib.ListN.{length, get_or}
use Rattle.folds.specs.Lists.{join, Bytes}
use Rattle.folds.proofs.Each.{Each, each_of, each_append, each_flat, each_map, each_then}
use Rattle.ot_layouts.specs.Lookup.{lookup_header}
use Rattle.store_rules.specs.Store.{Store, Link, shaped, sound, size_of, bytes_of, links_of}
use Rattle.store_rules.specs.Appended.{link}
use Rattle.store_rules.proofs.Sound.{Fits, fits_sound}
use Rattle.store_rules.proofs.Bytes.{object_bytes_lem}
use Rattle.store_rules.proofs.LinksAscend.{Climb}
use Rattle.store_rules.proofs.LinksFit.{Fitting, links_fit_lem}
use Rattle.store_rules.proofs.Shaped.{offset_shaped, shaped_then, shaped_leading}
use Rattle.store_rules.proofs.InOrder.{order_each}
use Rattle.store_rules.proofs.SlotLinks.{slots_each}
use Rattle.store_rules.proofs.Appended as behind
use Rattle.store_rules.proofs.AppendedFits.{appended_fits, appended_bytes}
use Rattle.pair_rules.specs.Table.{cut_places}
use Rattle.pair_rules.specs.Written.{new_tables, split_store, needed, needs_of, need_objects}
use Rattle.lookup_rules.specs.Listed.{rewritten}
use Rattle.lookup_rules.specs.Written.{new_slots, new_lookup, subtable_links, new_lookup_links, redirected, lookup_store, lookups_need, needed_in_all}
use Rattle.lookup_rules.proofs.Redirection.{redirect_below}
use Rattle.lookup_rules.proofs.RedirectedRows.{climb_redirected}
use Rattle.lookup_rules.proofs.NewLookup.{new_long, new_octets}
use Rattle.promise_calls.specs.Unchanged.{Octets}
use Rattle.pair_after.proofs.Ready.{objects_then, many_new}
use Rattle.promise_pairs.proofs.GoesAhead.{store_written}
use Rattle.promise_pairs.proofs.StaysOctets.{stays_octets}
use Rattle.pair_after.proofs.Taken.{bytes_then, links_length}
use Rattle.promise_lookups.specs.Demands.{StaysSoundEntered, StaysOctetsEntered, EntersAsNeeded}
use Rattle.promise_lookups.proofs.Answered.{store_entered_lem}
use Rattle.lookup_after.proofs.Entering.{Entering}
use Rattle.promise_lookups.proofs.GoesAhead.{entering, splits}
use Rattle.lookup_after.proofs.Unled.{more, unled, fit', slot_used, old_links, climb_unled}
use Rattle.lookup_after.proofs.NewLookups.{
  new,
  links,
  s''_is,
  room,
  many_lookups,
  many_links,
  used_then,
  lookup_is,
  lookup_long,
  split_head,
  split_tail,
}

module _ (s : Store) (l t : ℕ) (cs : List ℕ) (e : Entering s l t cs) where
  abbrev s' : Store
  s' = split_store s t cs

  abbrev ps : List ℕ
  ps = rewritten s l t

  abbrev n : ℕ
  n = (split_store s t cs).object_count

  abbrev slots : ℕ → List (Option ℕ)
  slots m = new_slots s t (new_tables s t cs) (get_or (rewritten s l t) m 0)

  abbrev s'' : Store
  s'' = lookup_store s l t cs

  -- ---- links

  -- a link before redirection
  record Before (k : Link) : Type 0 where
    parent_used : k.parent < s''.object_count
    child_used : k.child < n
    shape : shaped (size_of s'' k.parent) k ≡ true

  old_before : Each Before (links_of s')
  old_before =
      each_then (Fitting s') Before
      (λ k f.
      let a = f.parent_used in
      record {
        parent_used = omega (arith, used_then s l t cs e);
        child_used = f.child_used;
        shape = shaped_then (size_of s' k.parent) k (size_of s'' k.parent)
            (λ o i. omega (arith, split_head s l t cs e k.parent a, split_tail s l t cs e k.parent a)) f.shape;
      })
      (links_of s') (links_fit_lem s' (fit' s l t cs e))

  lookup_size : (m : ℕ) → m < length ps → lookup_header + 2 * length (slots m) ≤ size_of s'' (n + m)
  lookup_size m h =
      let z : size_of s'' (n + m) ≡ length (get_or (new s l t cs e) m [])
      = ap (λ (x : Store). size_of x (n + m)) (s''_is s l t cs e)
      ∙ behind.new_size s' (new s l t cs e) (links s l t cs e) (room s l t cs e) m (omega (arith, many_lookups s l t cs e)) in
      omega (arith, z, ap length (lookup_is s l t cs e m h), new_long (bytes_of s (get_or ps m 0)) (length (slots m)) (lookup_long s l t cs e m h))

  new_before : Each Before (more s l t cs e)
  unfolding new_lookup_links
  new_before =
      each_flat Before (λ m. subtable_links (n + m) (slots m)) (length ps)
      (λ m h. slots_each (n + m) lookup_header 2 (λ i. get_or (slots m) i None) Before (length (slots m))
      (λ i c k x. record {
        parent_used = omega (arith, used_then s l t cs e);
        child_used = slot_used s l t cs e m i c k x;
        shape = offset_shaped (size_of s'' (n + m)) (link (n + m) (lookup_header + 2 * i) c) refl refl (omega (arith, lookup_size m h));
      }))

  all_fit : Each (Fitting s'') (links s l t cs e)
  unfolding redirected
  all_fit =
      order_each (Fitting s'') (map (redirected n ps) (unled s l t cs e))
      (each_map Before (Fitting s'') (redirected n ps)
      (λ k b. record {
        parent_used = b.parent_used;
        child_used = omega (arith, redirect_below n ps k.child b.child_used, used_then s l t cs e);
        shape = shaped_leading (size_of s'' k.parent) k (redirected n ps k) refl refl refl b.shape;
      })
      (unled s l t cs e)
      (each_append Before (links_of s') (more s l t cs e) old_before new_before))

  all_climb : Climb 0 0 (n + length ps) (links s l t cs e)
  all_climb = climb_redirected n ps (unled s l t cs e) (n + length ps) (climb_unled s l t cs e) (old_links s l t cs e)

  -- ---- the store

  pub fits_entered : Fits s''
  fits_entered =
      let many = many_links s l t cs e in
      subst Fits (sym (s''_is s l t cs e))
      (appended_fits s' (new s l t cs e) (links s l t cs e) (room s l t cs e)
      (subst (λ (x : Store). Each (Fitting x) (links s l t cs e)) (s''_is s l t cs e) all_fit) (n + length ps) all_climb
      (omega (arith, e.links_room, links_length s t cs e.ready)) (omega (arith, e.links_most)))

  pub sound_entered : sound s'' ≡ true
  sound_entered = fits_sound s'' fits_entered

  -- ---- bytes

  octets_entered : Octets s → Octets s' → Octets s''
  octets_entered h h' =
      let xs = new s l t cs e in
      subst Octets (sym (s''_is s l t cs e))
      (appended_bytes s' xs (links s l t cs e) (room s l t cs e) h'
      (each_of Bytes xs []
      (λ m k. let f : m < length ps = omega (arith, many_lookups s l t cs e) in subst Bytes (sym (lookup_is s l t cs e m f)) (one m f))))
    where
      one : (m : ℕ) → m < length ps → Bytes (new_lookup (bytes_of s (get_or ps m 0)) (length (slots m)))
      one m f =
          new_octets (bytes_of s (get_or ps m 0)) (length (slots m)) (lookup_long s l t cs e m f) (object_bytes_lem s h (get_or ps m 0)) (omega (arith, e.counts m f))

-- the store at exit is one that may be lent again
pub stays_sound_entered : StaysSoundEntered
stays_sound_entered how s l t w list p = rw (store_entered_lem how s l t w list p) (sound_entered s l t (cut_places how s t) (entering how s l t w list p))

-- and its data stay bytes
pub stays_octets_entered : StaysOctetsEntered
stays_octets_entered how s l t w list h p =
    let split = splits how s l t w list p in
    rw (store_entered_lem how s l t w list p)
    (octets_entered s l t (cut_places how s t) (entering how s l t w list p) h (rw (store_written how s t w list split) at (stays_octets how s t w list h split)))

-- what it takes is what 8 asked for
pub enters_as_needed : EntersAsNeeded
unfolding needed_in_all needed needs_of need_objects lookups_need
enters_as_needed how s l t w list p =
    let cs = cut_places how s t in
    let e = entering how s l t w list p in
    let objects = used_then s l t cs e in
    let rows : (lookup_store s l t cs).link_count ≡ length (links s l t cs e)
    = ap (λ (x : Store). x.link_count) (s''_is s l t cs e) ∙ behind.links_count (split_store s t cs) (new s l t cs e) (links s l t cs e) in
    let bytes : (lookup_store s l t cs).byte_count ≡ (split_store s t cs).byte_count + length (join (new s l t cs e))
    = ap (λ (x : Store). x.byte_count) (s''_is s l t cs e) ∙ behind.bytes_then (split_store s t cs) (new s l t cs e) (links s l t cs e) in
    rw (store_entered_lem how s l t w list p) (
      omega (arith, objects, objects_then s t cs e.ready, many_new s t cs e.ready),
      omega (arith, rows, many_links s l t cs e),
      omega (arith, bytes, bytes_then s t cs e.ready),
    )

-- The links before redirection: those of a store, then those of the new lookups. They ascend, and each leads to an object of the store. Assumes nothing.
use Rattle.std.specs.Prelude.{Option, Some, None}
use Prim.Native.Nat.{ℕ, suc, ◌+◌, ◌*◌, ◌<◌, ◌≤◌}
use mathlib.Core.Path.{◌≡◌, refl, subst}
use mathlib.Core.List.{List, ◌++◌}
use native.Mathlib.Omega.{arith}
use lib.ListN.{length, get_or}
use Rattle.folds.proofs.Each.{Each, each_append, each_flat, each_then, each_among}
use Rattle.ot_layouts.specs.Lookup.{subtable_count, lookup_header}
use Rattle.store_rules.specs.Store.{Store, Link, size_of, bytes_of, child_at, links_of}
use Rattle.store_rules.specs.Appended.{link}
use Rattle.store_rules.proofs.Sound.{Fits, size_most}
use Rattle.store_rules.proofs.Shaped.{formed_in, offset_shaped}
use Rattle.store_rules.proofs.Lookups.{child_used_lem}
use Rattle.store_rules.proofs.LinksAscend.{Climb, climb_append, climb_flat}
use Rattle.store_rules.proofs.LinksFit.{Fitting, links_fit_lem, rows_climb}
use Rattle.store_rules.proofs.SlotLinks.{slots_each, slots_climb}
use Rattle.lookup_rules.specs.Listed.{slots_at, linked_in, subtable_slots}
use Rattle.lookup_rules.specs.Written.{new_slots, subtable_links, new_lookup_links}
use Rattle.lookup_rules.proofs.Slots.{each_linked, among-linked, each_entered}
use Rattle.lookup_rules.proofs.RedirectedRows.{Old}

-- the lookups ps of s are to be written behind the objects of s', with the tables us, which are in use there
module _ (s : Store) (t : ℕ) (us ps : List ℕ) (s' : Store) (fit : Fits s) (fit' : Fits s') (grown : s.object_count ≤ s'.object_count)
    (used : Each (λ c. c < s'.object_count) us) (counted : (m : ℕ) → m < length ps → length (new_slots s t us (get_or ps m 0)) ≤ 65535) where
  abbrev n : ℕ
  n = s'.object_count

  abbrev slots : ℕ → List (Option ℕ)
  slots m = new_slots s t us (get_or ps m 0)

  -- those of the new lookups
  abbrev more : List Link
  more = new_lookup_links s t us ps s'.object_count

  -- ---- where they lead

  -- what a slot of a new lookup leads to is in use
  pub slot_used : (m i c : ℕ) → i < length (slots m) → get_or (slots m) i None ≡ Some c → c < n
  unfolding new_slots subtable_slots slots_at
  slot_used m i c h f =
      let p = get_or ps m 0 in
      each_among (λ c. c < n) (linked_in (slots m)) c
      (each_entered (λ c. c < n) t us (subtable_slots s p) used
      (each_linked (λ c. c < n) (λ i. child_at s p (lookup_header + 2 * i)) (subtable_count (bytes_of s p))
      (λ i c k x. omega (arith, child_used_lem s p fit (lookup_header + 2 * i) c x))))
      (among-linked (slots m) i c h f)

  -- each is of its kind's shape, and leads to an object in use
  pub old_links : Each (Old n) (links_of s' ++ more)
  unfolding new_lookup_links
  old_links =
      each_append (Old n) (links_of s') more
      (each_then (Fitting s') (Old n)
      (λ k f. record { formed = formed_in (size_of s' k.parent) k (size_most s' fit' k.parent f.parent_used) f.shape; below = f.child_used })
      (links_of s') (links_fit_lem s' fit'))
      (each_flat (Old n) (λ m. subtable_links (n + m) (slots m)) (length ps)
      (λ m h. slots_each (n + m) lookup_header 2 (λ i. get_or (slots m) i None) (Old n) (length (slots m))
      (λ i c k x. record {
        formed = offset_shaped 16777216 (link (n + m) (lookup_header + 2 * i) c) refl refl (omega (arith, counted m h));
        below = slot_used m i c k x;
      })))

  -- ---- they ascend

  pub climb_unled : Climb 0 0 (n + length ps) (links_of s' ++ more)
  unfolding new_lookup_links
  climb_unled =
      let z : n ≡ n + 0 = omega arith in
      climb_append (links_of s') more 0 0 (n + 0) (n + length ps)
      (subst (λ (k : ℕ). Climb 0 0 k (links_of s')) z (rows_climb s' fit'))
      (climb_flat (λ m. subtable_links (n + m) (slots m)) (λ m. n + m) (length ps)
      (λ m h.
      let next : suc (n + m) ≡ n + suc m = omega arith in
      subst (λ (k : ℕ). Climb (n + m) 0 k (subtable_links (n + m) (slots m))) next
      (slots_climb (n + m) lookup_header 2 (λ i. get_or (slots m) i None) (length (slots m)) (omega arith))))

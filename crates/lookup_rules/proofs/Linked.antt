-- What the slots of a list and of a lookup lead to: the children of its own links, in the order of their rows. Assumes nothing.
use Prim.Native.Nat.{ℕ}
use mathlib.Core.Path.{◌≡◌, ap, ◌∙◌}
use mathlib.Core.Bool.{true}
use mathlib.Core.List.{List, map}
use Rattle.folds.specs.Lists.{among, sift}
use Rattle.folds.proofs.Tests.{and_both}
use Rattle.ot_layouts.specs.Lookup.{lookup_count, list_header, list_exact, is_list_slot}
use Rattle.store_rules.specs.Store.{Store, links_of, bytes_of, offset_of, all_at}
use Rattle.store_rules.proofs.Sound.{Fits}
use Rattle.lookup_rules.specs.Listed.{linked_in, list_slots, subtable_slots, names, good_list, good_lookup}
use Rattle.lookup_rules.proofs.Slots.{leads_among}
use Rattle.lookup_rules.proofs.Filled.{filled_linked, slots_filled, lookup_filled}

-- the children of object p, in that order
abbrev pub children_of : Store → ℕ → List ℕ
children_of s p = map (λ l. l.child) (sift (offset_of p) (links_of s))

module _ (s : Store) (fit : Fits s) (p : ℕ) where
  pub list_linked : good_list s p ≡ true → linked_in (list_slots s p) ≡ children_of s p
  unfolding good_list list_slots is_list_slot
  list_linked good =
      let b = bytes_of s p in
      filled_linked (slots_filled p s fit list_header (lookup_count b) (and_both (list_exact b) (all_at s p (is_list_slot b)) good).1)

  -- a lookup names t where a link of it leads there
  pub names_linked : good_lookup s p ≡ true → (t : ℕ) → names s t p ≡ among t (children_of s p)
  names_linked good t = leads_among t (subtable_slots s p) ∙ ap (among t) (filled_linked (lookup_filled s fit p good))

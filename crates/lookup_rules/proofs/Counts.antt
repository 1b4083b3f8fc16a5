-- How many subtables and links a new lookup has: those of the old one, and K for each listing. Assumes nothing.
use Rattle.std.specs.Prelude.{Option, Some, None}
use Prim.Native.Nat.{ℕ, ◌+◌, ◌*◌, ◌<◌}
use mathlib.Core.Path.{◌≡◌, ap, ◌∙◌}
use mathlib.Core.Bool.{Bool, true, false, cond}
use mathlib.Core.List.{List, [], ◌∷◌, ◌++◌, map}
use native.Mathlib.Omega.{arith}
use native.Mathlib.Nat.{mul-suc}
use lib.ListN.{length, get_or, length-append}
use Rattle.folds.specs.Folds.{sum}
use Rattle.folds.specs.Lists.{sift}
use Rattle.folds.proofs.Tests.{and_both}
use Rattle.folds.proofs.Folds.{length-flat, length-upto}
use Rattle.folds.proofs.FromTheFront.{sum_same, sum-cons, upto-at}
use Rattle.folds.proofs.Moved.{length-map}
use Rattle.ot_layouts.specs.Lookup.{subtable_count, lookup_header, lookup_exact, is_subtable_slot}
use Rattle.ot_layouts.proofs.LookupSlots.{which_slot}
use Rattle.store_rules.specs.Store.{Store, child_at, bytes_of, position_of, all_at}
use Rattle.store_rules.specs.SlotLinks.{links_from}
use Rattle.store_rules.proofs.Sound.{Fits}
use Rattle.store_rules.proofs.Slots.{one_stands}
use Rattle.store_rules.proofs.SlotLinks.{there, slots_many, slots_all}
use Rattle.lookup_rules.specs.Listed.{slots_at, leads_to, subtable_slots, good_lookup}
use Rattle.lookup_rules.specs.Written.{entered, new_slots, subtable_links, new_lookup_links, listings, links_needed}

-- as many slots as have a link
abbrev linked_many : List (Option ℕ) → ℕ
linked_many os = sum (λ i. there (get_or os i None)) (length os)

many_cons : (o : Option ℕ) (os : List (Option ℕ)) → linked_many (o ∷ os) ≡ there o + linked_many os
many_cons o os = sum-cons (λ i. there (get_or (o ∷ os) i None)) (length os)

many_behind : (us : List ℕ) (os : List (Option ℕ)) → linked_many (map Some us ++ os) ≡ length us + linked_many os
many_behind [] os = omega arith
many_behind (u ∷ us) os = omega (arith, many_cons (Some u) (map Some us ++ os), many_behind us os)

-- a new lookup has as many slots as the old one, and at each listing one for each new table
pub entered_count : (t : ℕ) (us : List ℕ) (os : List (Option ℕ)) → length (entered t us os) ≡ length os + length us * listings t os
unfolding entered sift listings
entered_count t us [] = omega arith
entered_count t us (o ∷ os) = go (leads_to t o) (entered_count t us os)
  where
    go : (b : Bool) → length (entered t us os) ≡ length os + length us * length (sift (leads_to t) os)
        → length (o ∷ cond b (map Some us ++ entered t us os) (entered t us os))
        ≡ length (o ∷ os) + length us * length (cond b (o ∷ sift (leads_to t) os) (sift (leads_to t) os))
    go true i =
        let new : List (Option ℕ) = map Some us in
        omega (arith, length-append new (entered t us os), length-map Some us, mul-suc (length us) (length (sift (leads_to t) os)))
    go false i = omega arith

entered_many : (t : ℕ) (us : List ℕ) (os : List (Option ℕ)) → linked_many (entered t us os) ≡ linked_many os + length us * listings t os
unfolding entered sift listings
entered_many t us [] = omega arith
entered_many t us (o ∷ os) =
    many_cons o (cond (leads_to t o) (map Some us ++ entered t us os) (entered t us os))
    ∙ go (leads_to t o) (entered_many t us os)
  where
    go : (b : Bool) → linked_many (entered t us os) ≡ linked_many os + length us * length (sift (leads_to t) os)
        → there o + linked_many (cond b (map Some us ++ entered t us os) (entered t us os))
        ≡ linked_many (o ∷ os) + length us * length (cond b (o ∷ sift (leads_to t) os) (sift (leads_to t) os))
    go true i = omega (arith, many_behind us (entered t us os), many_cons o os, mul-suc (length us) (length (sift (leads_to t) os)))
    go false i = omega (arith, many_cons o os)

module _ (s : Store) (f : Fits s) where
  -- the links of a lookup that 9 does not refuse are those at its slots
  slots_hold : (p : ℕ) → good_lookup s p ≡ true → linked_many (subtable_slots s p) ≡ links_from s p
  unfolding good_lookup subtable_slots slots_at is_subtable_slot
  slots_hold p good =
      let b = bytes_of s p in
      let n = subtable_count b in
      let child : ℕ → Option ℕ = λ i. child_at s p (lookup_header + 2 * i) in
      let (exactly, stand) = and_both (lookup_exact b) (all_at s p (is_subtable_slot b)) good in
      ap (sum (λ i. there (get_or (subtable_slots s p) i None))) (length-upto child n)
      ∙ sum_same (λ i. there (get_or (subtable_slots s p) i None)) (λ i. there (child i)) n (λ i l. ap there (upto-at child n i None l))
      ∙ slots_all s f p lookup_header 2 n (omega arith) (λ k l e. which_slot lookup_header n (position_of s k) (one_stands s p (is_subtable_slot b) stand k l e))

  -- what it needs is what is written
  links_needed_lem : (t : ℕ) (us : List ℕ) (u p : ℕ) → good_lookup s p ≡ true → length (subtable_links u (new_slots s t us p)) ≡ links_needed s t us p
  unfolding links_needed new_slots
  links_needed_lem t us u p good =
      let os = entered t us (subtable_slots s p) in
      slots_many u lookup_header 2 (λ i. get_or os i None) (length os)
      ∙ entered_many t us (subtable_slots s p)
      ∙ ap (λ (n : ℕ). n + length us * listings t (subtable_slots s p)) (slots_hold p good)

  pub all_needed_lem : (t : ℕ) (us ps : List ℕ) (n : ℕ) → ((m : ℕ) → m < length ps → good_lookup s (get_or ps m 0) ≡ true)
      → length (new_lookup_links s t us ps n) ≡ sum (λ m. links_needed s t us (get_or ps m 0)) (length ps)
  unfolding new_lookup_links
  all_needed_lem t us ps n good =
      length-flat (λ m. subtable_links (n + m) (new_slots s t us (get_or ps m 0))) (length ps)
      ∙ sum_same (λ m. length (subtable_links (n + m) (new_slots s t us (get_or ps m 0)))) (λ m. links_needed s t us (get_or ps m 0)) (length ps)
      (λ m l. links_needed_lem t us (n + m) (get_or ps m 0) (good m l))

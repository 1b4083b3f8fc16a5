-- The order-only links of an object after new tables are entered: redirected, in order. Assumes nothing.
use Prim.Native.Nat.{ℕ, ◌+◌}
use mathlib.Core.Path.{◌≡◌, refl, ap, ap₂, ◌∙◌}
use mathlib.Core.Bool.{true}
use mathlib.Core.List.{List, ◌++◌, map, append-nil}
use lib.ListN.{length, get_or}
use Rattle.folds.specs.Ascending.{ascending}
use Rattle.folds.proofs.Each.{Each, each_flat}
use Rattle.ot_layouts.specs.Lookup.{lookup_header}
use Rattle.store_rules.specs.Store.{Store, Link, links_of, is_offset, orders_in, orders_of}
use Rattle.store_rules.proofs.SlotLinks.{slots_each}
use Rattle.store_rules.proofs.Orders.{orders_append, orders_offsets}
use Rattle.pair_rules.specs.Written.{new_tables, split_store}
use Rattle.lookup_rules.specs.Listed.{rewritten}
use Rattle.lookup_rules.specs.Written.{new_slots, subtable_links, new_lookup_links, redirect, lookup_store}
use Rattle.lookup_rules.proofs.RedirectedRows.{orders_redirected}
use Rattle.pair_after.proofs.OrdersStay.{orders_then}
use Rattle.lookup_after.proofs.Entering.{Entering}
use Rattle.lookup_after.proofs.Unled.{more, unled, climb_unled, old_links}
use Rattle.lookup_after.proofs.NewLookups.{links_are}

module _ (s : Store) (l t : ℕ) (cs : List ℕ) (e : Entering s l t cs) where
  abbrev n : ℕ
  n = (split_store s t cs).object_count

  abbrev ps : List ℕ
  ps = rewritten s l t

  -- new lookups have offsets alone
  more_offsets : Each (λ k. is_offset k ≡ true) (more s l t cs e)
  unfolding new_lookup_links
  more_offsets =
      each_flat (λ k. is_offset k ≡ true) (λ m. subtable_links (n + m) (new_slots s t (new_tables s t cs) (get_or ps m 0))) (length ps)
      (λ m h. slots_each (n + m) lookup_header 2 _ (λ k. is_offset k ≡ true) _ (λ i c a b. refl))

  pub orders_entered : (i : ℕ) → orders_of (lookup_store s l t cs) i ≡ ascending (map (redirect n ps) (orders_of s i))
  orders_entered i =
      ap (λ (ls : List Link). orders_in ls i) (links_are s l t cs e)
      ∙ orders_redirected n ps (unled s l t cs e) (n + length ps) (climb_unled s l t cs e) (old_links s l t cs e) i
      ∙ ap (λ (cs : List ℕ). ascending (map (redirect n ps) cs))
      (orders_append (links_of (split_store s t cs)) (more s l t cs e) i
      ∙ ap₂ (λ (xs ys : List ℕ). xs ++ ys) (orders_then s t cs i) (orders_offsets (more s l t cs e) i more_offsets)
      ∙ append-nil (orders_of s i))

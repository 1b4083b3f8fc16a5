-- Order-only links "stay with the kept table in a split, and are not given to new ones", and other objects keep theirs. Assumes nothing.
use Prim.Native.Nat.{ℕ, ◌+◌, ◌-◌, ◌*◌}
use mathlib.Core.Path.{◌≡◌, refl, ap, ap₂, ◌∙◌}
use mathlib.Core.Bool.{true}
use mathlib.Core.List.{List, ◌++◌, map-id, append-nil}
use lib.ListN.{length}
use Rattle.folds.proofs.Each.{Each, each_append}
use Rattle.ot_layouts.specs.MarkBasePos.{own, heads, mark_slot, base_slot}
use Rattle.store_rules.specs.Store.{Store, Link, links_of, is_offset, orders_in, orders_of, linked_at}
use Rattle.store_rules.specs.Appended.{new_number}
use Rattle.store_rules.specs.Header.{header_links, kept}
use Rattle.store_rules.proofs.Header.{header_each, kept_kind, kept_parent, kept_order}
use Rattle.store_rules.proofs.SlotLinks.{slots_each}
use Rattle.store_rules.proofs.Orders.{orders_append, orders_offsets, orders_map}
use Rattle.cut_rules.specs.Ranges.{from, to}
use Rattle.mark_rules.specs.Table.{classes_of, marks_of, marks_within, bases_in}
use Rattle.mark_rules.specs.Written.{per_table, mark_child, base_child, mark_links, base_links, array_links, table_links, fresh_links, split_store}
use Rattle.promise_marks.proofs.NewLinks.{stayed, links_then, array_each, fresh_each}

-- a link is an offset
abbrev Offset : Link → Type 0
Offset l = is_offset l ≡ true

module _ (s : Store) (t : ℕ) where
  array_offsets : (p lo hi : ℕ) → Each Offset (array_links s t p lo hi)
  unfolding mark_links base_links
  array_offsets p lo hi =
      let ms = marks_within lo hi (marks_of s t) in
      array_each s t Offset p lo hi
      (slots_each p (mark_slot 0) 4 (mark_child ms) Offset (length ms) (λ k c l e. refl))
      (slots_each (p + 1) (base_slot 0) 2 (base_child s t lo (hi - lo)) Offset (bases_in s t * (hi - lo)) (λ k c l e. refl))

  table_offsets : (u lo hi : ℕ) → Each Offset (table_links s t u lo hi)
  unfolding table_links
  table_offsets u lo hi =
      each_append Offset (header_links own heads u (linked_at s t)) (array_links s t (u + 2) lo hi)
      (header_each own u (linked_at s t) Offset heads (λ q a. refl)) (array_offsets (u + 2) lo hi)

  module _ (cs : List ℕ) where
    fresh_offsets : Each Offset (fresh_links s t cs)
    fresh_offsets =
        fresh_each Offset s t cs (λ j l. table_offsets (new_number s per_table j) (from cs j) (to (classes_of s t) cs j))
        (array_offsets (new_number s per_table (length cs) + 1) 0 (from cs 0))

    pub orders_then : (i : ℕ) → orders_of (split_store s t cs) i ≡ orders_of s i
    orders_then i =
        let v = new_number s per_table (length cs) in
        ap (λ (ls : List Link). orders_in ls i) (links_then s t cs)
        ∙ orders_append (stayed s t cs) (fresh_links s t cs) i
        ∙ ap₂ (λ (xs ys : List ℕ). xs ++ ys)
        (orders_map (kept own t v) (λ c. c) (kept_kind own t v) (kept_parent own t v) (kept_order own t v) (links_of s) i ∙ map-id (orders_of s i))
        (orders_offsets (fresh_links s t cs) i fresh_offsets)
        ∙ append-nil (orders_of s i)

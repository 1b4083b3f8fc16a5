-- Order-only links "stay with the kept table in a split, and are not given to new ones", and other objects keep theirs. Assumes nothing.
use Prim.Native.Nat.{ℕ}
use mathlib.Core.Path.{◌≡◌, refl, ap, ap₂, ◌∙◌}
use mathlib.Core.Bool.{true}
use mathlib.Core.List.{List, ◌++◌, map, map-id, append-nil}
use lib.ListN.{length}
use Rattle.folds.specs.Folds.{flat}
use Rattle.folds.specs.Lists.{sift}
use Rattle.folds.proofs.Each.{Each, each_of, each_append, each_flat, each_moved}
use Rattle.ot_layouts.specs.PairPos.{heads}
use Rattle.store_rules.specs.Store.{Store, Link, links_of, is_offset, orders_in, orders_of, linked_at}
use Rattle.store_rules.specs.Appended.{new_number}
use Rattle.store_rules.specs.Header.{kept}
use Rattle.store_rules.proofs.Shaped.{of_offset}
use Rattle.store_rules.proofs.LinkRows.{no_link}
use Rattle.store_rules.proofs.Header.{header_each, kept_kind, kept_parent, kept_order}
use Rattle.store_rules.proofs.Orders.{orders_append, orders_offsets, orders_stay}
use Rattle.cut_rules.specs.Ranges.{from, to}
use Rattle.pair_rules.specs.Table.{shape, of_items}
use Rattle.pair_rules.specs.Written.{head_links, moved, table_links, per_table, split_store}
use Rattle.pair_rules.proofs.ItemLinks.{items_from}
use Rattle.pair_after.proofs.NewLinks.{piece, stayed, stays, links_then}

module _ (s : Store) (t : ℕ) (cs : List ℕ) where
  -- the links of a new table are offsets
  piece_offsets : (j : ℕ) → Each (λ l. is_offset l ≡ true) (piece s t cs j)
  unfolding table_links moved
  piece_offsets j =
      let u = new_number s (per_table (shape s t)) j in
      let lo = from cs j in
      let hi = to (shape s t).count cs j in
      each_append (λ l. is_offset l ≡ true) (head_links (shape s t) u (linked_at s t)) (map (moved (shape s t) u lo) (sift (of_items t (shape s t) lo hi) (links_of s)))
      (header_each (shape s t).own u (linked_at s t) (λ l. is_offset l ≡ true) (heads (shape s t)) (λ q a. refl))
      (each_moved (λ l. Unit {0}) (λ l. is_offset l ≡ true) (moved (shape s t) u lo) (of_items t (shape s t) lo hi)
      (λ l o h. of_offset t l (items_from t (shape s t) lo hi l h).0) (links_of s) (each_of (λ l. Unit {0}) (links_of s) no_link (λ k h. tt)))

  pub orders_then : (i : ℕ) → orders_of (split_store s t cs) i ≡ orders_of s i
  orders_then i =
      let v = new_number s (per_table (shape s t)) (length cs) in
      ap (λ (ls : List Link). orders_in ls i) (links_then s t cs)
      ∙ orders_append (stayed s t cs) (flat (piece s t cs) (length cs)) i
      ∙ ap₂ (λ (xs ys : List ℕ). xs ++ ys)
      (orders_stay (kept (shape s t).own t v) (stays s t cs) (λ c. c) (kept_kind (shape s t).own t v) (kept_parent (shape s t).own t v)
      (kept_order (shape s t).own t v) (λ l o. rw o) (links_of s) i
      ∙ map-id (orders_of s i))
      (orders_offsets (flat (piece s t cs) (length cs)) i (each_flat (λ l. is_offset l ≡ true) (piece s t cs) (length cs) (λ j l. piece_offsets j)))
      ∙ append-nil (orders_of s i)

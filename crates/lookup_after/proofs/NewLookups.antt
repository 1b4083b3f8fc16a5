-- The store after new tables are entered: the split's objects, where links lead, and the new lookups. Assumes nothing.
use Rattle.std.specs.Prelude.{Option, Some, None}
use Prim.Native.Nat.{ℕ, ◌+◌, ◌*◌, ◌<◌, ◌≤◌}
use mathlib.Core.Path.{◌≡◌, refl, sym, ap, ◌∙◌}
use mathlib.Core.List.{List, [], map}
use native.Mathlib.Omega.{arith}
use lib.ListN.{length, get_or, length-append}
use Rattle.folds.specs.Folds.{sum, or_else}
use Rattle.folds.proofs.Folds.{length-upto, upto-same}
use Rattle.folds.proofs.FromTheFront.{upto_get_d, upto-at}
use Rattle.folds.proofs.Moved.{length-map, map-upto}
use Rattle.ot_layouts.specs.Lookup.{subtable_count, lookup_header}
use Rattle.store_rules.specs.Store.{Store, Link, head_of, tail_of, bytes_of, child_at, lookup, link_at, links_of}
use Rattle.store_rules.specs.Appended.{appended}
use Rattle.store_rules.specs.InOrder.{in_order}
use Rattle.store_rules.proofs.Shaped.{of_parent}
use Rattle.store_rules.proofs.InOrder.{RowsAlike, alike_many}
use Rattle.store_rules.proofs.Sound.{Fits}
use Rattle.store_rules.proofs.Lookups.{mapped, lookup_append, lookup_none_flat, lookup_piece, or_else_none, child_row}
use Rattle.store_rules.proofs.LinksFit.{rows_many}
use Rattle.store_rules.proofs.SlotLinks.{slot_at, slot_none}
use Rattle.store_rules.proofs.Appended as behind
use Rattle.pair_rules.specs.Table.{shape}
use Rattle.pair_rules.specs.Written.{new_tables, split_store, need_links}
use Rattle.lookup_rules.specs.Listed.{slots_at, subtable_slots, rewritten}
use Rattle.lookup_rules.specs.Written.{
  new_slots,
  new_lookup,
  new_lookups,
  subtable_links,
  new_lookup_links,
  redirect,
  redirected,
  entered_store,
  lookup_store,
  links_needed,
}
use Rattle.lookup_rules.proofs.Redirection.{among-place}
use Rattle.lookup_rules.proofs.RedirectedRows.{rows_redirected, lookup_ordered}
use Rattle.lookup_rules.proofs.NewLookup.{exact_long, new_count_lem}
use Rattle.lookup_rules.proofs.Counts.{all_needed_lem}
use Rattle.pair_after.proofs.Ready.{objects_then}
use Rattle.pair_after.proofs.Taken.{bytes_then, links_then, bytes_length, rows_length}
use Rattle.lookup_after.proofs.Entering.{Entering}
use Rattle.lookup_after.proofs.Apart.{Named, each_named}
use Rattle.lookup_after.proofs.Unled as before

module _ (s : Store) (l t : ℕ) (cs : List ℕ) (e : Entering s l t cs) where
  -- the store after the split
  abbrev s' : Store
  s' = split_store s t cs

  -- the new tables, the lookups to rewrite, and the first new lookup
  abbrev us : List ℕ
  us = new_tables s t cs

  abbrev ps : List ℕ
  ps = rewritten s l t

  abbrev n : ℕ
  n = (split_store s t cs).object_count

  -- a lookup to rewrite, and its new slots
  abbrev p : ℕ → ℕ
  p m = get_or (rewritten s l t) m 0

  abbrev slots : ℕ → List (Option ℕ)
  slots m = new_slots s t (new_tables s t cs) (get_or (rewritten s l t) m 0)

  -- the new lookups, and all links
  abbrev pub new : List (List ℕ)
  new = new_lookups s t (new_tables s t cs) (rewritten s l t)

  abbrev more : List Link
  more = before.more s l t cs e

  abbrev unled : List Link
  unled = before.unled s l t cs e

  abbrev pub links : List Link
  links = in_order (map (redirected (split_store s t cs).object_count (rewritten s l t)) unled)

  -- the store at exit
  abbrev s'' : Store
  s'' = lookup_store s l t cs

  pub s''_is : s'' ≡ appended s' new links
  unfolding lookup_store entered_store
  s''_is = refl

  abbrev pub fit' : Fits s'
  fit' = before.fit' s l t cs e

  -- what is known of a lookup that is rewritten
  pub named : (m : ℕ) → m < length ps → Named s t (p m)
  named m h = each_named s l t e.fine e.ready.fit e.ready.reads (p m) (among-place ps m h)

  -- the rows are the redirected ones, but for children that order-only links of one parent exchange
  pub rows_alike : RowsAlike links (map (redirected n ps) unled)
  rows_alike = rows_redirected n ps unled (n + length ps) (before.climb_unled s l t cs e) (before.old_links s l t cs e)

  -- ---- room

  pub many_lookups : length new ≡ length ps
  unfolding new_lookups
  many_lookups = length-upto (λ m. new_lookup (bytes_of s (p m)) (length (slots m))) (length ps)

  pub many_links : length links ≡ s.link_count + need_links (shape s t) (length cs) + sum (λ m. links_needed s t us (p m)) (length ps)
  many_links =
      alike_many links (map (redirected n ps) unled) rows_alike ∙ length-map (redirected n ps) unled ∙ length-append (links_of s') more
      ∙ omega (arith, rows_many s', links_then s t cs e.ready, all_needed_lem s e.ready.fit t us ps n (λ m h. (named m h).lists.good))

  pub room : behind.Room s' new
  room =
      let o = objects_then s t cs e.ready in
      let b = bytes_then s t cs e.ready in
      let m = many_lookups in
      record {
        object = fit'.object;
        bytes_in = omega (arith, e.bytes_room, bytes_length s t cs e.ready);
        bytes_most = omega (arith, e.bytes_most);
        objects_in = omega (arith, e.objects_room, rows_length s t cs e.ready);
        objects_most = omega (arith, e.objects_most);
      }

  pub used_then : s''.object_count ≡ n + length ps
  used_then = ap (λ (x : Store). x.object_count) s''_is ∙ behind.objects_then s' new links ∙ ap (λ (k : ℕ). n + k) many_lookups

  -- ---- objects of the split

  pub split_head : (i : ℕ) → i < n → head_of s'' i ≡ head_of s' i
  split_head i h = ap (λ (x : Store). head_of x i) s''_is ∙ behind.old_head s' new links room i h

  pub split_tail : (i : ℕ) → i < n → tail_of s'' i ≡ tail_of s' i
  split_tail i h = ap (λ (x : Store). tail_of x i) s''_is ∙ behind.old_tail s' new links room i h

  pub split_bytes : (i : ℕ) → i < n → bytes_of s'' i ≡ bytes_of s' i
  split_bytes i h = ap (λ (x : Store). bytes_of x i) s''_is ∙ behind.old_bytes s' new links room i h

  pub links_are : links_of s'' ≡ links
  links_are = ap links_of s''_is ∙ behind.links_then s' new links

  -- a child at exit
  child_is : (i q : ℕ) → child_at s'' i q ≡ mapped (redirect n ps) (or_else (child_at s' i q) (lookup more i q))
  unfolding child_at
  child_is i q =
      ap (λ (x : List Link). lookup x i q) links_are
      ∙ lookup_ordered n ps unled (n + length ps) (before.climb_unled s l t cs e) (before.old_links s l t cs e) i q
      ∙ ap (mapped (redirect n ps)) (lookup_append (links_of s') more i q)

  -- no link of another object is among those of new lookup m
  none_of : (m i q : ℕ) → (n + m ≡ i → ⊥) → lookup (subtable_links (n + m) (slots m)) i q ≡ None
  none_of m i q ne = slot_none (n + m) lookup_header 2 (λ k. get_or (slots m) k None) (length (slots m)) i q ne

  -- "every link to the old lookup then leads to the new one"
  pub split_child : (i q : ℕ) → i < n → child_at s'' i q ≡ mapped (redirect n ps) (child_at s' i q)
  unfolding new_lookup_links
  split_child i q h =
      let none-new : lookup more i q ≡ None
      = lookup_none_flat (λ m. subtable_links (n + m) (slots m)) (length ps) i q (λ m k. none_of m i q (λ z. omega arith)) in
      child_is i q
      ∙ ap (λ (o : Option ℕ). mapped (redirect n ps) (or_else (child_at s' i q) o)) none-new
      ∙ ap (mapped (redirect n ps)) (or_else_none (child_at s' i q))

  -- ---- new lookups

  pub lookup_is : (m : ℕ) → m < length ps → get_or new m [] ≡ new_lookup (bytes_of s (p m)) (length (slots m))
  unfolding new_lookups
  lookup_is m h = upto-at (λ m. new_lookup (bytes_of s (p m)) (length (slots m))) (length ps) m [] h

  pub lookup_bytes : (m : ℕ) → m < length ps → bytes_of s'' (n + m) ≡ new_lookup (bytes_of s (p m)) (length (slots m))
  lookup_bytes m h =
      ap (λ (x : Store). bytes_of x (n + m)) s''_is ∙ behind.new_bytes s' new links room m (omega (arith, many_lookups)) ∙ lookup_is m h

  -- no old link is theirs
  none_old : (m q : ℕ) → child_at s' (n + m) q ≡ None
  none_old m q = go (child_at s' (n + m) q) refl
    where
      go : (o : Option ℕ) → child_at s' (n + m) q ≡ o → o ≡ None
      go None h = refl
      go (Some c) h = let (k, a, b, d, f) = child_row s' (n + m) q c h in absurd (omega (arith, of_parent (n + m) (link_at s' k) b, (fit'.link k a).parent_used))

  lookup_child : (m i : ℕ) → m < length ps → i < length (slots m) → child_at s'' (n + m) (lookup_header + 2 * i) ≡ mapped (redirect n ps) (get_or (slots m) i None)
  unfolding new_lookup_links
  lookup_child m i h k =
      let q = lookup_header + 2 * i in
      child_is (n + m) q
      ∙ ap (λ (o : Option ℕ). mapped (redirect n ps) (or_else o (lookup more (n + m) q))) (none_old m q)
      ∙ ap (mapped (redirect n ps))
      (lookup_piece (λ m. subtable_links (n + m) (slots m)) (length ps) m (n + m) q h (λ j ne. none_of j (n + m) q (λ z. ne (omega arith)))
      ∙ slot_at (n + m) lookup_header 2 (λ k. get_or (slots m) k None) (omega arith) (length (slots m)) i k)

  pub lookup_long : (m : ℕ) → m < length ps → lookup_header + 2 * subtable_count (bytes_of s (p m)) ≤ length (bytes_of s (p m))
  lookup_long m h = exact_long (bytes_of s (p m)) (named m h).lists.exactly

  pub lookup_slots : (m : ℕ) → m < length ps → subtable_slots s'' (n + m) ≡ map (mapped (redirect n ps)) (slots m)
  unfolding subtable_slots slots_at
  lookup_slots m h =
      let r = mapped (redirect n ps) in
      ap (λ (b : List ℕ). slots_at s'' (n + m) lookup_header (subtable_count b)) (lookup_bytes m h)
      ∙ ap (slots_at s'' (n + m) lookup_header) (new_count_lem (bytes_of s (p m)) (length (slots m)) (lookup_long m h))
      ∙ upto-same (λ i. child_at s'' (n + m) (lookup_header + 2 * i)) (λ i. r (get_or (slots m) i None)) (length (slots m)) (λ i k. lookup_child m i h k)
      ∙ sym (map-upto r (λ i. get_or (slots m) i None) (length (slots m)))
      ∙ ap (map r) (upto_get_d (slots m) None)

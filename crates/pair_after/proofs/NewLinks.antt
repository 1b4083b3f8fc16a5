-- The links after a split: those that stay, then those of each new table; and where each of them leads. Assumes nothing.
use Rattle.std.specs.Prelude.{Some}
use Prim.Native.Nat.{ℕ, ◌+◌, ◌*◌, ◌<◌, ◌≤◌}
use mathlib.Core.Path.{◌≡◌, refl, sym, ap, ◌∙◌}
use mathlib.Core.Bool.{Bool, true, false, not}
use mathlib.Core.List.{List, ◌++◌, map}
use mathlib.Core.Logic.{◌⊎◌}
use native.Mathlib.Omega.{arith}
use lib.ListN.{length}
use lib.Dec.{eqb}
use Rattle.folds.specs.Folds.{flat}
use Rattle.folds.specs.Lists.{sift}
use Rattle.folds.proofs.Each.{Each, each_upto}
use Rattle.ot_layouts.specs.PairPos.{Shape, item_at}
use Rattle.store_rules.specs.Store.{Store, Link, links_of, child_at, lookup, link_at, bytes_of, linked_at}
use Rattle.pair_rules.specs.Table.{of_items, shape}
use Rattle.cut_rules.specs.Ranges.{from, to}
use Rattle.pair_rules.specs.Written.{table_links, split_store, store_after, new_links, head_links, moved, per_table, kept_table, new_of}
use Rattle.store_rules.specs.Appended.{new_number}
use Rattle.store_rules.proofs.Lookups.{lookup_append, lookup_none_flat, or_else_none, lookup_moved, mapped_id, hit, hit_is, hit_both, mapped, lookup_above, lookup_piece}
use Rattle.pair_rules.proofs.ItemLinks.{items_out, items_in}
use Rattle.store_rules.proofs.Appended as behind
use Rattle.store_rules.specs.Header.{own_child, kept}
use Rattle.store_rules.proofs.Shaped.{of_other}
use Rattle.store_rules.proofs.Header.{kept_other, kept_own, kept_parent}
use Rattle.pair_rules.proofs.NewCounts.{tables_apart}
use Rattle.pair_rules.proofs.TableLinks.{table_none, head_cover, head_class1, head_class2, past_header, same_hit, moved_child_lem}
use Rattle.pair_after.proofs.Ready.{Ready}

-- a link stays that is not of an item past the first cut
abbrev pub stays : Store → ℕ → List ℕ → Link → Bool
stays s t cs l = not (of_items t (shape s t) (from cs 0) (shape s t).count l)

-- the links that stay
abbrev pub stayed : Store → ℕ → List ℕ → List Link
stayed s t cs = map (kept (shape s t).own t (new_number s (per_table (shape s t)) (length cs))) (sift (stays s t cs) (links_of s))

-- the links of new table j
abbrev pub piece : Store → ℕ → List ℕ → ℕ → List Link
piece s t cs j = table_links s t (shape s t) (new_number s (per_table (shape s t)) j) (from cs j) (to (shape s t).count cs j)

-- the links in use after a split, whatever room there is
pub links_then : (s : Store) (t : ℕ) (cs : List ℕ) → links_of (split_store s t cs) ≡ stayed s t cs ++ flat (piece s t cs) (length cs)
unfolding split_store store_after new_links
links_then s t cs = behind.links_then (kept_table s t (shape s t) (from cs 0)) (new_of s t cs) (new_links s t (shape s t) cs)

module _ (s : Store) (t : ℕ) (cs : List ℕ) (g : Ready s t cs) where
  abbrev sh : Shape
  sh = shape s t

  abbrev s' : Store
  s' = split_store s t cs

  -- where the kept table's coverage is
  abbrev v : ℕ
  v = new_number s (per_table (shape s t)) (length cs)

  -- ---- an old object has the links that stay

  child_of_old : (i q : ℕ) → i < s.object_count → child_at s' i q ≡ lookup (stayed s t cs) i q
  unfolding child_at
  child_of_old i q h =
      rw (links_then s t cs)
      (lookup_append (stayed s t cs) (flat (piece s t cs) (length cs)) i q
      ∙ rw (lookup_none_flat (piece s t cs) (length cs) i q (λ j l. table_none s t sh (new_number s (per_table sh) j) (from cs j) (to sh.count cs j) i q (λ e. omega arith))) (or_else_none (lookup (stayed s t cs) i q)))

  -- another object than the table keeps its links
  pub others_child : (i q : ℕ) → i < s.object_count → (i ≡ t → ⊥) → child_at s' i q ≡ child_at s i q
  unfolding child_at kept
  others_child i q h ne =
      child_of_old i q h
      ∙ lookup_moved (kept sh.own t v) (stays s t cs) i q i q (λ c. c) (λ l e. refl) still same (links_of s)
      ∙ mapped_id (λ c. c) (λ c. refl) (lookup (links_of s) i q)
    where
      other : (l : Link) → hit l i q ≡ true → l.parent ≡ t → ⊥
      other l e z = ne (sym (hit_both l i q e).0 ∙ z)

      still : (l : Link) → hit l i q ≡ true → stays s t cs l ≡ true
      still l e = rw (of_other t l (other l e))

      same : (l : Link) → hit l i q ≡ true → (kept sh.own t v l).child ≡ l.child
      same l e = kept_other sh.own t v l (other l e)

  -- the kept table keeps those of its header and of the items below the first cut, some with new children
  pub kept_child : (q : ℕ) → (q < item_at sh (from cs 0)) ⊎ (item_at sh sh.count ≤ q) → child_at s' t q ≡ mapped (own_child sh.own v q) (child_at s t q)
  unfolding child_at kept
  kept_child q d =
      child_of_old t q g.reads.used
      ∙ lookup_moved (kept sh.own t v) (stays s t cs) t q t q (own_child sh.own v q) (λ l h. refl) still turned (links_of s)
    where
      still : (l : Link) → hit l t q ≡ true → stays s t cs l ≡ true
      still l h = let (a, b) = hit_both l t q h in rw (items_out t sh (from cs 0) sh.count l (rw b d))

      turned : (l : Link) → hit l t q ≡ true → (kept sh.own t v l).child ≡ own_child sh.own v q l.child
      turned l h = let (a, b) = hit_both l t q h in kept_own sh.own t v l (hit_is l t q h).0 ∙ ap (λ (n : ℕ). own_child sh.own v n l.child) b

  -- ---- a new table has its own links

  old_parents : Each (λ l. l.parent < s.object_count) (links_of s)
  unfolding links_of
  old_parents = each_upto (λ l. l.parent < s.object_count) (link_at s) s.link_count (λ k m. (g.fit.link k m).parent_used)

  child_of_new : (j q : ℕ) → j < length cs → child_at s' (new_number s (per_table sh) j) q ≡ lookup (piece s t cs j) (new_number s (per_table sh) j) q
  unfolding child_at
  child_of_new j q l =
      let u = new_number s (per_table sh) j in
      rw (links_then s t cs)
      (lookup_append (stayed s t cs) (flat (piece s t cs) (length cs)) u q
      ∙ rw (lookup_above (kept sh.own t v) (stays s t cs) s.object_count u q (omega arith) (kept_parent sh.own t v) (links_of s) old_parents)
      (lookup_piece (piece s t cs) (length cs) j u q l (λ i ne. table_none s t sh (new_number s (per_table sh) i) (from cs i) (to sh.count cs i) u q (λ e. tables_apart sh i j ne (omega arith)))))

  pub new_cover : (j : ℕ) → j < length cs → child_at s' (new_number s (per_table sh) j) 2 ≡ Some (new_number s (per_table sh) j + 1)
  unfolding table_links
  new_cover j l = child_of_new j 2 l ∙ head_cover (bytes_of s t) (new_number s (per_table sh) j) (linked_at s t) _

  pub new_class1 : (j : ℕ) → j < length cs → eqb sh.format 1 ≡ false → child_at s' (new_number s (per_table sh) j) 8 ≡ Some (new_number s (per_table sh) j + 2)
  unfolding table_links
  new_class1 j l e = child_of_new j 8 l ∙ head_class1 (bytes_of s t) (new_number s (per_table sh) j) (linked_at s t) _ e

  pub new_class2 : (j : ℕ) → j < length cs → eqb sh.format 1 ≡ false → child_at s' (new_number s (per_table sh) j) 10 ≡ Some (linked_at s t 10)
  unfolding table_links
  new_class2 j l e = child_of_new j 10 l ∙ head_class2 (bytes_of s t) (new_number s (per_table sh) j) (linked_at s t) _ e

  -- and those of its items, "same children"
  pub new_item : (j q : ℕ) → j < length cs → sh.header ≤ q → q + sh.item * from cs j < item_at sh (to sh.count cs j) → child_at s' (new_number s (per_table sh) j) q ≡ child_at s t (q + sh.item * from cs j)
  unfolding table_links child_at
  new_item j q l a b =
      let u = new_number s (per_table sh) j in
      let lo = from cs j in
      let hi = to sh.count cs j in
      child_of_new j q l
      ∙ lookup_append (head_links sh u (linked_at s t)) (map (moved sh u lo) (sift (of_items t sh lo hi) (links_of s))) u q
      ∙ rw (past_header (bytes_of s t) u (linked_at s t) q a)
      (lookup_moved (moved sh u lo) (of_items t sh lo hi) t (q + sh.item * lo) u q (λ c. c) (same_hit sh t u lo hi q) (in_range_lem lo hi a b) (λ l h. moved_child_lem sh u lo l) (links_of s)
      ∙ mapped_id (λ c. c) (λ c. refl) (lookup (links_of s) t (q + sh.item * lo)))
    where
      in_range_lem : (lo hi : ℕ) → sh.header ≤ q → q + sh.item * lo < item_at sh hi → (l : Link) → hit l t (q + sh.item * lo) ≡ true → of_items t sh lo hi l ≡ true
      in_range_lem lo hi a b l h = let (c, d) = hit_is l t (q + sh.item * lo) h in items_in t sh lo hi l c (omega arith) (omega arith)

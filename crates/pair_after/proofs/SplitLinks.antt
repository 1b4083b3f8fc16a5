-- After a split, what the kept table, the new objects and what the old table reached lead to is new, or the old table reached it. Assumes nothing.
use Rattle.std.specs.Prelude.{Some}
use Prim.Native.Nat.{ℕ, ◌+◌, ◌<◌, ◌≤◌}
use mathlib.Core.Path.{◌≡◌, refl, sym, ap₂, subst}
use mathlib.Core.Bool.{true}
use mathlib.Core.List.{List, ◌++◌, map}
use mathlib.Core.Logic.{◌⊎◌, inl, inr, ⊎_elim}
use native.Mathlib.Omega.{arith}
use lib.ListN.{length}
use Rattle.folds.specs.Folds.{flat}
use Rattle.folds.specs.Lists.{among, sift}
use Rattle.folds.proofs.Each.{Each, each_at, each_upto, each_moved, each_append, each_flat, each_among}
use Rattle.ot_layouts.specs.PairPos.{Shape, heads}
use Rattle.ot_layouts.proofs.Shapes.{formats}
use Rattle.store_rules.specs.Store.{Store, Link, links_of, link_at, is_offset, offset_of, child_at, parent_of, child_of, bytes_of, linked_at}
use Rattle.store_rules.specs.Reach.{Reach}
use Rattle.store_rules.specs.Appended.{new_number}
use Rattle.store_rules.specs.Header.{kept, own_child}
use Rattle.store_rules.proofs.Lookups.{child_row, linked_is}
use Rattle.store_rules.proofs.LinkRows.{no_link, row_is}
use Rattle.store_rules.proofs.LinksFit.{rows_many}
use Rattle.store_rules.proofs.Header.{header_each, child_any, kept_any}
use Rattle.store_rules.proofs.Shaped.{is_of, of_offset, of_parent}
use Rattle.store_rules.proofs.Ways.{Way, way_child}
use Rattle.cut_rules.specs.Ranges.{from, to}
use Rattle.pair_rules.specs.Table.{shape, of_items}
use Rattle.pair_rules.specs.Written.{head_links, moved, table_links, per_table, split_store}
use Rattle.pair_rules.proofs.ItemLinks.{items_from}
use Rattle.pair_after.proofs.Ready.{Ready}
use Rattle.pair_after.proofs.NewLinks.{piece, stayed, stays, links_then}

-- c is a new object, or t reached it
abbrev pub NewOrOwn : Store → ℕ → ℕ → Type 0
NewOrOwn s t c = (s.object_count ≤ c) ⊎ Way s t c

-- the link, where it is an offset, leads there from t and from such objects
abbrev LeadsOn : Store → ℕ → Link → Type 0
LeadsOn s t l = is_offset l ≡ true → (l.parent ≡ t) ⊎ NewOrOwn s t l.parent → NewOrOwn s t l.child

module _ (s : Store) (t : ℕ) (cs : List ℕ) (g : Ready s t cs) where
  abbrev sh : Shape
  sh = shape s t

  abbrev s' : Store
  s' = split_store s t cs

  -- where the kept table's coverage is
  abbrev v : ℕ
  v = new_number s (per_table (shape s t)) (length cs)

  -- a link of the old store
  record Old (l : Link) : Type 0 where
    parent_used : l.parent < s.object_count
    own : offset_of t l ≡ true → Way s t l.child
    on : is_offset l ≡ true → Way s t l.parent → Way s t l.child

  old_links : Each Old (links_of s)
  unfolding links_of
  old_links =
      each_upto Old (link_at s) s.link_count
      (λ k l. record {
        parent_used = (g.fit.link k l).parent_used;
        own = λ e. Reach.seed k l e refl;
        on = λ o w. Reach.step w k l (is_of (parent_of s k) (link_at s k) o refl) refl;
      })

  old_leads : (l : Link) → Old l → is_offset l ≡ true → (l.parent ≡ t) ⊎ NewOrOwn s t l.parent → Way s t l.child
  old_leads l o x (inl e) = o.own (is_of t l x e)
  old_leads l o x (inr (inl ge)) = absurd (omega (arith, o.parent_used))
  old_leads l o x (inr (inr w)) = o.on x w

  stayed_lead : Each (LeadsOn s t) (stayed s t cs)
  unfolding kept
  stayed_lead = each_moved Old (LeadsOn s t) (kept sh.own t v) (stays s t cs) one (links_of s) old_links
    where
      one : (l : Link) → Old l → stays s t cs l ≡ true → LeadsOn s t (kept sh.own t v l)
      one l o h x a =
          ⊎_elim (λ same. inr (subst (Way s t) (sym same) (old_leads l o x a))) (λ (low, high). inl (omega arith)) (kept_any sh.own t v l)

  -- where the header of the old table has a link
  heads_lead : (q : ℕ) → among q (heads sh) ≡ true → Way s t (linked_at s t q)
  heads_lead q a =
      let (c, e) = ⊎_elim
      (λ f. each_among There (heads sh) q (subst (Each There) (sym (ap₂ (λ (x y : List ℕ). x ++ y) f.own_is f.shared_is)) (g.parts.cover, tt)) a)
      (λ f. each_among There (heads sh) q
      (subst (Each There) (sym (ap₂ (λ (x y : List ℕ). x ++ y) f.own_is f.shared_is))
      (g.parts.cover, (g.parts.class1 f.two, (g.parts.class2 f.two, tt)))) a)
      (formats (bytes_of s t)) in
      subst (Way s t) (sym (linked_is s t q c e)) (way_child s t q c e)
    where
      There : ℕ → Type 0
      There q = (c : ℕ) × (child_at s t q ≡ Some c)

  piece_lead : (j : ℕ) → Each (LeadsOn s t) (piece s t cs j)
  unfolding table_links moved
  piece_lead j =
      let u = new_number s (per_table sh) j in
      let lo = from cs j in
      let hi = to sh.count cs j in
      each_append (LeadsOn s t) (head_links sh u (linked_at s t)) (map (moved sh u lo) (sift (of_items t sh lo hi) (links_of s)))
      (header_each sh.own u (linked_at s t) (LeadsOn s t) (heads sh) (λ q a w x. head u q a (omega arith)))
      (each_moved Old (LeadsOn s t) (moved sh u lo) (of_items t sh lo hi) (λ l o h w x. inr (o.own (items_from t sh lo hi l h).0)) (links_of s) old_links)
    where
      head : (u q : ℕ) → among q (heads sh) ≡ true → s.object_count ≤ u → NewOrOwn s t (own_child sh.own (u + 1) q (linked_at s t q))
      head u q a h =
          ⊎_elim (λ same. inr (subst (Way s t) (sym same) (heads_lead q a))) (λ (low, high). inl (omega arith)) (child_any sh.own (u + 1) q (linked_at s t q))

  all-lead : Each (LeadsOn s t) (links_of s')
  all-lead =
      subst (Each (LeadsOn s t)) (sym (links_then s t cs))
      (each_append (LeadsOn s t) (stayed s t cs) (flat (piece s t cs) (length cs)) stayed_lead
      (each_flat (LeadsOn s t) (piece s t cs) (length cs) (λ j l. piece_lead j)))

  -- so do the rows in use
  pub row_leads : (k : ℕ) → k < s'.link_count → is_offset (link_at s' k) ≡ true → (parent_of s' k ≡ t) ⊎ NewOrOwn s t (parent_of s' k) → NewOrOwn s t (child_of s' k)
  row_leads k h =
      subst (LeadsOn s t) (sym (row_is s' (links_of s') refl k h no_link))
      (each_at (LeadsOn s t) (links_of s') all-lead k (omega (arith, rows_many s')) no_link)

  -- and the children
  pub child_leads : (u q c : ℕ) → (u ≡ t) ⊎ NewOrOwn s t u → child_at s' u q ≡ Some c → NewOrOwn s t c
  child_leads u q c h e =
      let (k, l, a, b, x) = child_row s' u q c e in
      subst (NewOrOwn s t) x (row_leads k l (of_offset u (link_at s' k) a) (subst (λ (i : ℕ). (i ≡ t) ⊎ NewOrOwn s t i) (sym (of_parent u (link_at s' k) a)) h))

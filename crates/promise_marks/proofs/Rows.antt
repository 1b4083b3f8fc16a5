-- The rows after a split: the old ones at their old places, then rows of new objects. Assumes nothing.
use Prim.Native.Nat.{ℕ, ◌+◌, ◌-◌, ◌<◌, ◌≤◌}
use mathlib.Core.Path.{◌≡◌, refl, sym, ap, subst, ◌∙◌}
use mathlib.Core.Bool.{true}
use mathlib.Core.List.{List, ◌++◌}
use mathlib.Core.Logic.{⊎_elim}
use native.Mathlib.Omega.{arith}
use lib.ListN.{length, get_or, length-append, get_or-append, get_or-map}
use lib.Seq.{get_or-append-add}
use Rattle.folds.proofs.Tests.{either}
use Rattle.folds.proofs.Each.{Each, each_at}
use Rattle.folds.proofs.Moved.{length-map}
use Rattle.ot_layouts.specs.MarkBasePos.{own}
use Rattle.store_rules.specs.Store.{Store, Link, links_of, link_at, offset_of, parent_of, position_of, child_of}
use Rattle.store_rules.specs.Appended.{new_number}
use Rattle.store_rules.specs.Header.{kept}
use Rattle.store_rules.proofs.LinkRows.{no_link, row_is}
use Rattle.store_rules.proofs.LinksFit.{rows_many}
use Rattle.store_rules.proofs.Shaped.{of_parent}
use Rattle.store_rules.proofs.Header.{kept_parent, kept_position, kept_offset, kept_other}
use Rattle.mark_rules.specs.Written.{per_table, fresh_links, split_store}
use Rattle.promise_marks.proofs.Ready.{Ready}
use Rattle.promise_marks.proofs.NewLinks.{stayed, links_then, fresh_of}

module _ (s : Store) (t : ℕ) (cs : List ℕ) (g : Ready s t cs) where
  abbrev s' : Store
  s' = split_store s t cs

  abbrev v : ℕ
  v = new_number s per_table (length cs)

  -- all links then
  abbrev links : List Link
  links = stayed s t cs ++ fresh_links s t cs

  stayed_many : length (stayed s t cs) ≡ s.link_count
  stayed_many = length-map (kept own t v) (links_of s) ∙ rows_many s

  pub rows_then : s'.link_count ≡ s.link_count + length (fresh_links s t cs)
  rows_then = omega (arith, rows_many s', ap length (links_then s t cs), length-append (stayed s t cs) (fresh_links s t cs), stayed_many)

  -- ---- an old row

  pub row_old : (k : ℕ) → k < s.link_count → link_at s' k ≡ kept own t v (link_at s k)
  row_old k l =
      row_is s' links (links_then s t cs) k (omega (arith, rows_then)) (kept own t v no_link)
      ∙ get_or-append (stayed s t cs) (fresh_links s t cs) (kept own t v no_link) k (omega (arith, stayed_many))
      ∙ get_or-map (kept own t v) (links_of s) k no_link
      ∙ ap (kept own t v) (sym (row_is s (links_of s) refl k l no_link))

  pub same_parent : (k : ℕ) → k < s.link_count → parent_of s' k ≡ parent_of s k
  same_parent k l = ap (λ (x : Link). x.parent) (row_old k l) ∙ kept_parent own t v (link_at s k)

  pub same_position : (k : ℕ) → k < s.link_count → position_of s' k ≡ position_of s k
  same_position k l = ap (λ (x : Link). x.position) (row_old k l) ∙ kept_position own t v (link_at s k)

  pub same_offset : (k : ℕ) → k < s.link_count → (p : ℕ) → offset_of p (link_at s' k) ≡ offset_of p (link_at s k)
  same_offset k l p = ap (offset_of p) (row_old k l) ∙ kept_offset own t v (link_at s k) p

  -- of another object than the table it leads where it led
  pub same_child : (k : ℕ) → k < s.link_count → (parent_of s k ≡ t → ⊥) → child_of s' k ≡ child_of s k
  same_child k l ne = ap (λ (x : Link). x.child) (row_old k l) ∙ kept_other own t v (link_at s k) ne

  -- ---- a new row has what each of the new links has

  pub row_fresh : (P : Link → Type 0) → Each P (fresh_links s t cs) → (k : ℕ) → s.link_count ≤ k → k < s'.link_count → P (link_at s' k)
  row_fresh P a k l h =
      let i = k - s.link_count in
      let z : k ≡ length (stayed s t cs) + i = omega (arith, stayed_many) in
      let e : link_at s' k ≡ get_or (fresh_links s t cs) i no_link
      = row_is s' links (links_then s t cs) k h no_link
      ∙ ap (λ (n : ℕ). get_or links n no_link) z
      ∙ get_or-append-add (stayed s t cs) (fresh_links s t cs) i no_link in
      subst P (sym e) (each_at P (fresh_links s t cs) a i (omega (arith, rows_then)) no_link)

  pub new_parent : (k : ℕ) → s.link_count ≤ k → k < s'.link_count → s.object_count ≤ parent_of s' k
  new_parent k l h = row_fresh (λ l. s.object_count ≤ l.parent) (fresh_of s t cs g) k l h

  -- ---- a row of an old object is an old one, and one of a new object a new one

  pub from_old : (k i : ℕ) → k < s'.link_count → offset_of i (link_at s' k) ≡ true → i < s.object_count → k < s.link_count
  from_old k i h p l = ⊎_elim (λ lt. lt) (λ ge. absurd (omega (arith, of_parent i (link_at s' k) p, new_parent k ge h))) (either k s.link_count)

  pub from_new : (k i : ℕ) → k < s'.link_count → offset_of i (link_at s' k) ≡ true → s.object_count ≤ i → s.link_count ≤ k
  from_new k i h p l = ⊎_elim (λ lt. absurd (omega (arith, of_parent i (link_at s' k) p, same_parent k lt, (g.fit.link k lt).parent_used))) (λ ge. ge) (either k s.link_count)

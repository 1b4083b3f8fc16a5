-- The links after a split: the old ones, then those of the new objects; and where each of them leads. Assumes nothing.
use Rattle.std.specs.Prelude.{Some, None}
use Prim.Native.Nat.{ℕ, ◌+◌, ◌-◌, ◌*◌, ◌<◌, ◌≤◌}
use mathlib.Core.Path.{◌≡◌, refl, sym, ap, ◌∙◌}
use mathlib.Core.Bool.{true}
use mathlib.Core.List.{List, ◌++◌, map}
use mathlib.Core.Logic.{⊎_elim}
use native.Mathlib.Omega.{arith}
use native.Mathlib.Nat.{mul-le-mul_left, mul-add}
use lib.ListN.{length}
use borrow.Author.Tests.{eq-eqb}
use Rattle.folds.specs.Folds.{flat}
use Rattle.folds.proofs.Tests.{either}
use Rattle.folds.proofs.Each.{Each, each_append, each_flat, each_then, each_upto, each_map}
use Rattle.ot_layouts.specs.MarkBasePos.{cover_at, base_cover_at, mark_array_at, base_array_at, own, heads, mark_slot, base_slot}
use Rattle.store_rules.specs.Store.{Store, Link, links_of, link_at, lookup, child_at, linked_at}
use Rattle.store_rules.specs.Appended.{new_number}
use Rattle.store_rules.specs.Header.{own_child, header_links, kept}
use Rattle.store_rules.proofs.Lookups.{lookup_append, lookup_piece, lookup_elsewhere, lookup_changed, or_else_none, hit, hit_is, hit_both, mapped, mapped_id}
use Rattle.store_rules.proofs.Header.{header_each, header_other, kept_parent, kept_position, kept_kind, kept_own, kept_other}
use Rattle.store_rules.proofs.SlotLinks.{slot_at, slot_none, slots_each}
use Rattle.store_rules.proofs.Appended as behind
use Rattle.cut_rules.specs.Ranges.{from, to}
use Rattle.mark_rules.specs.Table.{classes_of, marks_of, marks_within, bases_in}
use Rattle.mark_rules.specs.Written.{
  per_table,
  mark_child,
  base_child,
  mark_links,
  base_links,
  array_links,
  table_links,
  fresh_links,
  new_links,
  kept_table,
  new_of,
  split_store,
}
use Rattle.promise_marks.proofs.Ready.{Ready}

-- the parent lies from lo up to hi
abbrev pub Of : ℕ → ℕ → Link → Type 0
Of lo hi l = (lo ≤ l.parent) × (l.parent < hi)

module _ (s : Store) (t : ℕ) where
  -- the marks of a range of classes
  abbrev marks : ℕ → ℕ → ℕ
  marks lo hi = length (marks_within lo hi (marks_of s t))

  -- ---- of a mark array and the base array behind it

  -- what holds of each link at a slot
  pub array_each : (P : Link → Type 0) (p lo hi : ℕ) → Each P (mark_links s t p lo hi) → Each P (base_links s t (p + 1) lo hi) → Each P (array_links s t p lo hi)
  unfolding array_links
  array_each P p lo hi a b = each_append P (mark_links s t p lo hi) (base_links s t (p + 1) lo hi) a b

  pub array_of : (p lo hi : ℕ) → Each (Of p (p + 2)) (array_links s t p lo hi)
  unfolding mark_links base_links
  array_of p lo hi =
      array_each (Of p (p + 2)) p lo hi
      (slots_each p (mark_slot 0) 4 (mark_child (marks_within lo hi (marks_of s t))) (Of p (p + 2)) (marks lo hi) (λ k c l e. (omega arith, omega arith)))
      (slots_each (p + 1) (base_slot 0) 2 (base_child s t lo (hi - lo)) (Of p (p + 2)) (bases_in s t * (hi - lo)) (λ k c l e. (omega arith, omega arith)))

  -- they have the children of their slots
  array_mark : (p lo hi k : ℕ) → k < marks lo hi → lookup (array_links s t p lo hi) p (mark_slot k) ≡ mark_child (marks_within lo hi (marks_of s t)) k
  unfolding array_links mark_links base_links
  array_mark p lo hi k l =
      let ms = marks_within lo hi (marks_of s t) in
      lookup_append (mark_links s t p lo hi) (base_links s t (p + 1) lo hi) p (mark_slot k)
      ∙ rw (
        slot_at p (mark_slot 0) 4 (mark_child ms) (omega arith) (length ms) k l,
        slot_none (p + 1) (base_slot 0) 2 (base_child s t lo (hi - lo)) (bases_in s t * (hi - lo)) p (mark_slot k) (λ e. omega arith),
      ) (or_else_none (mark_child ms k))

  array_base : (p lo hi k : ℕ) → k < bases_in s t * (hi - lo) → lookup (array_links s t p lo hi) (p + 1) (base_slot k) ≡ base_child s t lo (hi - lo) k
  unfolding array_links mark_links base_links
  array_base p lo hi k l =
      lookup_append (mark_links s t p lo hi) (base_links s t (p + 1) lo hi) (p + 1) (base_slot k)
      ∙ rw (
        slot_none p (mark_slot 0) 4 (mark_child (marks_within lo hi (marks_of s t))) (marks lo hi) (p + 1) (base_slot k) (λ e. omega arith),
        slot_at (p + 1) (base_slot 0) 2 (base_child s t lo (hi - lo)) (omega arith) (bases_in s t * (hi - lo)) k l,
      )

  -- ---- of a new table and its arrays

  pub table_of : (u lo hi : ℕ) → Each (Of u (u + per_table)) (table_links s t u lo hi)
  unfolding table_links
  table_of u lo hi =
      each_append (Of u (u + per_table)) (header_links own heads u (linked_at s t)) (array_links s t (u + 2) lo hi)
      (header_each own u (linked_at s t) (Of u (u + per_table)) heads (λ q a. (omega arith, omega arith)))
      (each_then (Of (u + 2) (u + 2 + 2)) (Of u (u + per_table)) (λ l (a, b). (omega arith, omega arith)) (array_links s t (u + 2) lo hi)
      (array_of (u + 2) lo hi))

  head_child : (u lo hi q c : ℕ) → lookup (header_links own heads u (linked_at s t)) u q ≡ Some c → lookup (table_links s t u lo hi) u q ≡ Some c
  unfolding table_links
  head_child u lo hi q c e = lookup_append (header_links own heads u (linked_at s t)) (array_links s t (u + 2) lo hi) u q ∙ rw e

  head_past : (u lo hi p q : ℕ) → u < p → lookup (table_links s t u lo hi) p q ≡ lookup (array_links s t (u + 2) lo hi) p q
  unfolding table_links
  head_past u lo hi p q h =
      lookup_append (header_links own heads u (linked_at s t)) (array_links s t (u + 2) lo hi) p q
      ∙ rw (header_other own u (linked_at s t) heads p q (λ e. omega arith))

  module _ (u lo hi : ℕ) where
    pub head_cover : lookup (table_links s t u lo hi) u cover_at ≡ Some (u + 1)
    unfolding header_links own_child lookup
    head_cover = head_child u lo hi cover_at (u + 1) (rw (eq-eqb u u refl))

    pub head_base : lookup (table_links s t u lo hi) u base_cover_at ≡ Some (linked_at s t base_cover_at)
    unfolding header_links own_child lookup
    head_base = head_child u lo hi base_cover_at (linked_at s t base_cover_at) (rw (eq-eqb u u refl))

    pub head_marks : lookup (table_links s t u lo hi) u mark_array_at ≡ Some (u + 2)
    unfolding header_links own_child lookup
    head_marks = head_child u lo hi mark_array_at (u + 2) (rw (eq-eqb u u refl) (ap Some (omega arith)))

    pub head_bases : lookup (table_links s t u lo hi) u base_array_at ≡ Some (u + 3)
    unfolding header_links own_child lookup
    head_bases = head_child u lo hi base_array_at (u + 3) (rw (eq-eqb u u refl) (ap Some (omega arith)))

-- ---- in the store

-- the links of new table j
abbrev pub piece : Store → ℕ → List ℕ → ℕ → List Link
piece s t cs j = table_links s t (new_number s per_table j) (from cs j) (to (classes_of s t) cs j)

-- those of the kept table's arrays
abbrev pub kept_piece : Store → ℕ → List ℕ → List Link
kept_piece s t cs = array_links s t (new_number s per_table (length cs) + 1) 0 (from cs 0)

-- the old links
abbrev pub stayed : Store → ℕ → List ℕ → List Link
stayed s t cs = map (kept own t (new_number s per_table (length cs))) (links_of s)

pub fresh_is : (s : Store) (t : ℕ) (cs : List ℕ) → fresh_links s t cs ≡ flat (piece s t cs) (length cs) ++ kept_piece s t cs
unfolding fresh_links
fresh_is s t cs = refl

pub links_then : (s : Store) (t : ℕ) (cs : List ℕ) → links_of (split_store s t cs) ≡ stayed s t cs ++ fresh_links s t cs
unfolding split_store new_links
links_then s t cs = behind.links_then (kept_table s t (from cs 0)) (new_of s t cs) (new_links s t cs)

-- what holds of each new link
pub fresh_each : (P : Link → Type 0) (s : Store) (t : ℕ) (cs : List ℕ) → ((j : ℕ) → j < length cs → Each P (piece s t cs j)) → Each P (kept_piece s t cs)
    → Each P (fresh_links s t cs)
unfolding fresh_links
fresh_each P s t cs a b = each_append P (flat (piece s t cs) (length cs)) (kept_piece s t cs) (each_flat P (piece s t cs) (length cs) a) b

module _ (s : Store) (t : ℕ) (cs : List ℕ) (g : Ready s t cs) where
  abbrev s' : Store
  s' = split_store s t cs

  -- new table j
  abbrev number : ℕ → ℕ
  number j = new_number s per_table j

  -- where the kept table's new parts start
  abbrev v : ℕ
  v = new_number s per_table (length cs)

  piece_of : (j : ℕ) → Each (Of (number j) (number j + per_table)) (piece s t cs j)
  piece_of j = table_of s t (number j) (from cs j) (to (classes_of s t) cs j)

  kept_of : Each (Of (v + 1) (v + 3)) (kept_piece s t cs)
  kept_of =
      each_then (Of (v + 1) (v + 1 + 2)) (Of (v + 1) (v + 3)) (λ l (a, b). (omega arith, omega arith)) (kept_piece s t cs) (array_of s t (v + 1) 0 (from cs 0))

  -- a new link is of a new object
  abbrev New : Link → Type 0
  New l = s.object_count ≤ l.parent

  pub fresh_of : Each New (fresh_links s t cs)
  fresh_of =
      fresh_each New s t cs
      (λ j l. each_then (Of (number j) (number j + per_table)) New (λ l (a, b). omega arith) (piece s t cs j) (piece_of j))
      (each_then (Of (v + 1) (v + 3)) New (λ l (a, b). omega arith) (kept_piece s t cs) kept_of)

  old_parents : Each (λ l. l.parent < s.object_count) (links_of s)
  unfolding links_of
  old_parents = each_upto (λ l. l.parent < s.object_count) (link_at s) s.link_count (λ k m. (g.fit.link k m).parent_used)

  -- ---- an old object has the old links

  child_of_old : (i q : ℕ) → i < s.object_count → child_at s' i q ≡ lookup (stayed s t cs) i q
  unfolding child_at
  child_of_old i q h =
      let none-new = lookup_elsewhere (fresh_links s t cs) i q (each_then New (λ l. l.parent ≡ i → ⊥) (λ l a e. omega arith) (fresh_links s t cs) fresh_of) in
      rw (links_then s t cs) (lookup_append (stayed s t cs) (fresh_links s t cs) i q ∙ rw none-new (or_else_none (lookup (stayed s t cs) i q)))

  -- another object than the table keeps its links
  pub others_child : (i q : ℕ) → i < s.object_count → (i ≡ t → ⊥) → child_at s' i q ≡ child_at s i q
  unfolding child_at
  others_child i q h ne =
      child_of_old i q h
      ∙ lookup_changed (kept own t v) (λ c. c) i q (kept_parent own t v) (kept_position own t v) (kept_kind own t v) same (links_of s)
      ∙ mapped_id (λ c. c) (λ c. refl) (lookup (links_of s) i q)
    where
      same : (l : Link) → hit l i q ≡ true → (kept own t v l).child ≡ l.child
      same l e = kept_other own t v l (λ z. ne (sym (hit_both l i q e).0 ∙ z))

  -- the kept table keeps its own, three of them with new children
  pub kept_child : (q : ℕ) → child_at s' t q ≡ mapped (own_child own v q) (child_at s t q)
  unfolding child_at kept
  kept_child q =
      child_of_old t q g.reads.used
      ∙ lookup_changed (kept own t v) (own_child own v q) t q (kept_parent own t v) (kept_position own t v) (kept_kind own t v)
      (λ l e. let (a, b) = hit_is l t q e in kept_own own t v l a ∙ ap (λ (n : ℕ). own_child own v n l.child) b) (links_of s)

  -- ---- a new object has its own

  child_of_new : (i q : ℕ) → s.object_count ≤ i → child_at s' i q ≡ lookup (fresh_links s t cs) i q
  unfolding child_at kept
  child_of_new i q h =
      let none_old = lookup_elsewhere (stayed s t cs) i q
      (each_map (λ l. l.parent < s.object_count) (λ l. l.parent ≡ i → ⊥) (kept own t v) (λ l a e. omega arith) (links_of s) old_parents) in
      rw (links_then s t cs) (lookup_append (stayed s t cs) (fresh_links s t cs) i q ∙ rw none_old)

  -- object r of new table j
  child_table : (j r q : ℕ) → j < length cs → r < per_table → child_at s' (number j + r) q ≡ lookup (piece s t cs j) (number j + r) q
  child_table j r q l h =
      let p = number j + r in
      let far = mul-le-mul_left {m = j + 1} {n = length cs} per_table (omega arith) in
      let one = mul-add per_table j 1 in
      let not-kept = lookup_elsewhere (kept_piece s t cs) p q
      (each_then (Of (v + 1) (v + 3)) (λ l. l.parent ≡ p → ⊥) (λ l (a, b) e. omega arith) (kept_piece s t cs) kept_of) in
      child_of_new p q (omega arith)
      ∙ ap (λ (ls : List Link). lookup ls p q) (fresh_is s t cs)
      ∙ lookup_append (flat (piece s t cs) (length cs)) (kept_piece s t cs) p q
      ∙ rw (lookup_piece (piece s t cs) (length cs) j p q l other, not-kept) (or_else_none (lookup (piece s t cs j) p q))
    where
      other : (i : ℕ) → (i ≡ j → ⊥) → lookup (piece s t cs i) (number j + r) q ≡ None
      other i ne =
          lookup_elsewhere (piece s t cs i) (number j + r) q
          (each_then (Of (number i) (number i + per_table)) (λ l. l.parent ≡ number j + r → ⊥)
          (λ l (a, b) e. ⊎_elim (λ lt. omega arith) (λ ge. omega arith) (either i j)) (piece s t cs i) (piece_of i))

  -- the kept table's part r
  child_part : (r q : ℕ) → child_at s' (v + r) q ≡ lookup (kept_piece s t cs) (v + r) q
  child_part r q =
      let p = v + r in
      child_of_new p q (omega arith)
      ∙ ap (λ (ls : List Link). lookup ls p q) (fresh_is s t cs)
      ∙ lookup_append (flat (piece s t cs) (length cs)) (kept_piece s t cs) p q
      ∙ rw (lookup_elsewhere (flat (piece s t cs) (length cs)) p q (each_flat (λ l. l.parent ≡ p → ⊥) (piece s t cs) (length cs) below))
    where
      below : (j : ℕ) → j < length cs → Each (λ l. l.parent ≡ v + r → ⊥) (piece s t cs j)
      below j l =
          let far = mul-le-mul_left {m = j + 1} {n = length cs} per_table (omega arith) in
          let one = mul-add per_table j 1 in
          each_then (Of (number j) (number j + per_table)) (λ l. l.parent ≡ v + r → ⊥) (λ l (a, b) e. omega arith) (piece s t cs j) (piece_of j)

  -- ---- so

  module _ (j : ℕ) (l : j < length cs) where
    abbrev u : ℕ
    u = new_number s per_table j

    abbrev lo : ℕ
    lo = from cs j

    abbrev hi : ℕ
    hi = to (classes_of s t) cs j

    pub new_head : (q c : ℕ) → lookup (piece s t cs j) u q ≡ Some c → child_at s' u q ≡ Some c
    new_head q c e =
        let z : u ≡ u + 0 = omega arith in
        ap (λ (p : ℕ). child_at s' p q) z ∙ child_table j 0 q l (omega arith) ∙ ap (λ (p : ℕ). lookup (piece s t cs j) p q) (sym z) ∙ e

    pub new_mark : (k : ℕ) → k < marks s t lo hi → child_at s' (u + 2) (mark_slot k) ≡ mark_child (marks_within lo hi (marks_of s t)) k
    new_mark k h =
        child_table j 2 (mark_slot k) l (omega arith)
        ∙ head_past s t u lo hi (u + 2) (mark_slot k) (omega arith)
        ∙ array_mark s t (u + 2) lo hi k h

    pub new_base : (k : ℕ) → k < bases_in s t * (hi - lo) → child_at s' (u + 3) (base_slot k) ≡ base_child s t lo (hi - lo) k
    new_base k h =
        let z : u + 3 ≡ u + 2 + 1 = omega arith in
        child_table j 3 (base_slot k) l (omega arith)
        ∙ head_past s t u lo hi (u + 3) (base_slot k) (omega arith)
        ∙ ap (λ (p : ℕ). lookup (array_links s t (u + 2) lo hi) p (base_slot k)) z
        ∙ array_base s t (u + 2) lo hi k h

  pub kept_mark : (k : ℕ) → k < marks s t 0 (from cs 0) → child_at s' (v + 1) (mark_slot k) ≡ mark_child (marks_within 0 (from cs 0) (marks_of s t)) k
  kept_mark k h = child_part 1 (mark_slot k) ∙ array_mark s t (v + 1) 0 (from cs 0) k h

  pub kept_base : (k : ℕ) → k < bases_in s t * (from cs 0 - 0) → child_at s' (v + 2) (base_slot k) ≡ base_child s t 0 (from cs 0 - 0) k
  kept_base k h =
      let z : v + 2 ≡ v + 1 + 1 = omega arith in
      child_part 2 (base_slot k) ∙ ap (λ (p : ℕ). lookup (kept_piece s t cs) p (base_slot k)) z ∙ array_base s t (v + 1) 0 (from cs 0) k h

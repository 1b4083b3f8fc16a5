-- The links of a new table, its header's and then those of its items, and the links that stay. Assumes nothing.
use Rattle.std.specs.Prelude.{Some, None}
use Prim.Native.Nat.{ℕ, suc, ◌+◌, ◌-◌, ◌*◌, ◌≤◌}
use mathlib.Core.Path.{◌≡◌, refl, sym, ap, ◌∙◌}
use mathlib.Core.Bool.{true, false}
use mathlib.Core.List.{List, ◌++◌, map}
use mathlib.Core.Logic.{inl, ⊎_elim}
use native.Mathlib.Omega.{arith}
use native.Mathlib.Decide.{ℕ_discrete}
use lib.Dec.{eqb}
use borrow.Author.Tests.{eq-eqb, ne_eqb}
use Rattle.folds.specs.Lists.{sift}
use Rattle.ot_layouts.specs.PairPos.{Shape, heads, shape1, shape2, cover_at, class1_at, class2_at, shape_of}
use Rattle.ot_layouts.proofs.Shapes.{heads_within, own_within, by_format, formats, format_two}
use Rattle.store_rules.specs.Store.{Link, lookup, Store, links_of, bytes_of, linked_at}
use Rattle.store_rules.specs.Header.{own_child, header_links, kept}
use Rattle.store_rules.proofs.Shaped.{of_offset, of_parent}
use Rattle.store_rules.proofs.Lookups.{hit, hit_other, lookup_append, lookup_lost}
use Rattle.store_rules.proofs.LinksAscend.{Climb}
use Rattle.store_rules.proofs.Header.{Rising, header_other, header_none, header_climb, kept_apart}
use Rattle.pair_rules.specs.Table.{of_items, shape}
use Rattle.pair_rules.specs.Written.{moved, head_links, table_links}
use Rattle.pair_rules.proofs.ItemLinks.{items_from, climb_moved}

-- ---- where a new table's links stand

same_eqb : (a b c d : ℕ) → (a ≡ b → c ≡ d) → (c ≡ d → a ≡ b) → eqb a b ≡ eqb c d
same_eqb a b c d f g = go (ℕ_discrete a b)
  where
    go : Dec (a ≡ b) → eqb a b ≡ eqb c d
    go (yes e) = eq-eqb a b e ∙ sym (eq-eqb c d (f e))
    go (no n) = ne_eqb a b n ∙ sym (ne_eqb c d (λ e. n (g e)))

-- a moved link stands where the link stood, less the items before the table's first
pub same_hit : (sh : Shape) (t u lo hi q : ℕ) (l : Link) → of_items t sh lo hi l ≡ true → hit (moved sh u lo l) u q ≡ hit l t (q + sh.item * lo)
unfolding moved
same_hit sh t u lo hi q l h =
    let (o, b, c) = items_from t sh lo hi l h in
    rw (of_offset t l o, eq-eqb u u refl, eq-eqb l.parent t (of_parent t l o)) (same_eqb (l.position - sh.item * lo) q l.position (q + sh.item * lo) (λ e. omega arith) (λ e. omega arith))

pub moved_child_lem : (sh : Shape) (u lo : ℕ) (l : Link) → (moved sh u lo l).child ≡ l.child
unfolding moved
moved_child_lem sh u lo l = refl

-- no header link stands past the header
pub past_header : (b : List ℕ) (u : ℕ) (old : ℕ → ℕ) (q : ℕ) → (shape_of b).header ≤ q → lookup (head_links (shape_of b) u old) u q ≡ None
past_header b u old q h = header_none (shape_of b).own u old (heads (shape_of b)) u q (heads_within b q h)

module _ (b : List ℕ) (u : ℕ) (old : ℕ → ℕ) (rest : List Link) where
  pub head_cover : lookup (head_links (shape_of b) u old ++ rest) u cover_at ≡ Some (u + 1)
  unfolding header_links own_child lookup
  head_cover = ⊎_elim (λ f. rw (f.own_is, eq-eqb u u refl)) (λ f. rw (f.own_is, eq-eqb u u refl)) (formats b)

  pub head_class1 : eqb (shape_of b).format 1 ≡ false → lookup (head_links (shape_of b) u old ++ rest) u class1_at ≡ Some (u + 2)
  unfolding header_links own_child lookup
  head_class1 e = rw ((format_two b e).own_is, eq-eqb u u refl) (ap Some (omega arith))

  pub head_class2 : eqb (shape_of b).format 1 ≡ false → lookup (head_links (shape_of b) u old ++ rest) u class2_at ≡ Some (old class2_at)
  unfolding header_links own_child lookup
  head_class2 e = rw ((format_two b e).own_is, (format_two b e).shared_is, eq-eqb u u refl)

-- no link of a table has another parent
pub table_none : (s : Store) (t : ℕ) (sh : Shape) (v lo hi u q : ℕ) → (v ≡ u → ⊥) → lookup (table_links s t sh v lo hi) u q ≡ None
unfolding table_links moved
table_none s t sh v lo hi u q ne =
    lookup_append (head_links sh v (linked_at s t)) (map (moved sh v lo) (sift (of_items t sh lo hi) (links_of s))) u q
    ∙ rw (
      header_other sh.own v (linked_at s t) (heads sh) u q ne,
      lookup_lost (moved sh v lo) (of_items t sh lo hi) u q u q (λ l h. hit_other (moved sh v lo l) u q ne) (links_of s),
    )

-- ---- in ascending order

heads_rise : (b : List ℕ) → Rising 0 (heads (shape_of b)) (shape_of b).header
unfolding shape1 shape2
heads_rise b =
    by_format (λ sh. Rising 0 (heads sh) sh.header) b
    (λ e. (omega arith, omega arith))
    (λ e. (omega arith, (omega arith, (omega arith, omega arith))))

-- the links of new table u start at u and end before the next number
pub table_climb : (s : Store) (t u lo hi e : ℕ) → Climb 0 0 e (links_of s) → Climb u 0 (suc u) (table_links s t (shape s t) u lo hi)
unfolding table_links
table_climb s t u lo hi e c =
    let b = bytes_of s t in
    header_climb (shape s t).own u (linked_at s t) (heads (shape s t)) 0 (shape s t).header (suc u) (map (moved (shape s t) u lo) (sift (of_items t (shape s t) lo hi) (links_of s)))
    (heads_rise b) (climb_moved t (shape s t) u lo hi (links_of s) 0 0 (shape s t).header e c (inl (omega arith)))

-- ---- a link that stays

-- a link of an item leads where it led
pub kept_item : (b : List ℕ) (t v : ℕ) (l : Link) → (shape_of b).header ≤ l.position → (kept (shape_of b).own t v l).child ≡ l.child
kept_item b t v l h = kept_apart (shape_of b).own t v l (own_within b l.position h)

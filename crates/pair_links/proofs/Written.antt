-- The links after a split, as the blocks of rows that the code makes. Assumes nothing.
use Prim.Native.Nat.{ℕ, ◌+◌, ◌*◌, ◌≤◌, ◌<◌}
use mathlib.Core.Path.{◌≡◌, refl, sym, ap, ap₂, ◌∙◌}
use mathlib.Core.Bool.{Bool, true, false, cond, not, ◌&&◌}
use mathlib.Core.List.{List, [], ◌++◌, append-nil, map}
use mathlib.Core.Logic.{inl, inr, ⊎_elim}
use native.Mathlib.Omega.{arith}
use lib.ListN.{length, get_or-eq_default}
use lib.Dec.{leb, ltb}
use borrow.Author.Tests.{ltb-true, leb-true, lt-ltb, le-leb}
use Rattle.folds.specs.Folds.{flat}
use Rattle.folds.specs.Lists.{among, sift}
use Rattle.folds.proofs.Among.{among_either}
use Rattle.folds.proofs.Tests.{either, by_test, true_false}
use Rattle.folds.proofs.Joined.{and_three, three_hold}
use Rattle.folds.proofs.Parts.{get_d_default}
use Rattle.folds.proofs.FromTheFront.{flat-same}
use Rattle.ot_layouts.specs.PairPos.{Shape, own_in, shared_in, item_at}
use Rattle.ot_layouts.proofs.Shapes.{items_rise}
use Rattle.store_rules.specs.Store.{Store, Link, link_at, links_of, offset_of, position_of, linked_at}
use Rattle.pair_rules.specs.Table.{of_items}
use Rattle.cut_rules.specs.Ranges.{from, to}
use Rattle.pair_rules.specs.Written.{per_table, head_links, moved, table_links, new_links}
use Rattle.store_rules.specs.Header.{kept}
use Rattle.store_rules.proofs.Header.{header_same}
use Rattle.ot_pairpos.specs.declared.Layout.{Layout}
use Rattle.ot_pairpos.specs.Layout.{shape_with}
use Rattle.store_rules.specs.Appended.{numbers_of, row_numbers, new_number}
use Rattle.store_link_rows.specs.Rows.{segment, position_in, placed_row, kept_row}
use Rattle.pair_new_rows.specs.Blocks.{Plan, edge, inside, table_id, moved_row, share, head_rows, table_rows, new_rows}
use Rattle.pair_links.specs.Parting.{Between}
use Rattle.store_link_rows.proofs.Keeping.{numbers_kept}
use Rattle.store_link_rows.proofs.Spans.{flat-span, span_join, span_none, span_ext}
use Rattle.store_link_rows.proofs.Links.{numbers_append, numbers_flat, numbers_sifted}
use Rattle.pair_new_rows.proofs.Spreading.{edge_at, edge_end}
use Rattle.pair_links.proofs.Parting.{plan_of, moves, stays_before, stays_after}

-- rows of which only those from a up to b are given, and rows of which only those are not
module _ (f g : ℕ → List ℕ) (a b m : ℕ) (ab : a ≤ b) (bm : b ≤ m) where
  pub only_between : ((k : ℕ) → k < a → f k ≡ []) → ((k : ℕ) → a ≤ k → k < b → f k ≡ g k) → ((k : ℕ) → b ≤ k → k < m → f k ≡ []) → flat f m ≡ segment g a b
  only_between low own high =
      flat-span f m
      ∙ span_join f 0 a m (omega arith) (omega arith)
      ∙ ap₂ (λ (x y : List ℕ). x ++ y) (span_none f 0 a (λ k l h. low k h))
      (span_join f a b m ab bm
      ∙ ap₂ (λ (x y : List ℕ). x ++ y) (span_ext f g a b own) (span_none f b m high)
      ∙ append-nil (segment g a b))

  pub all_but_between : ((k : ℕ) → k < a → f k ≡ g k) → ((k : ℕ) → a ≤ k → k < b → f k ≡ []) → ((k : ℕ) → b ≤ k → k < m → f k ≡ g k) → flat f m ≡ segment g 0 a ++ segment g b m
  all_but_between low own high =
      flat-span f m
      ∙ span_join f 0 a m (omega arith) (omega arith)
      ∙ ap₂ (λ (x y : List ℕ). x ++ y) (span_ext f g 0 a (λ k l h. low k h))
      (span_join f a b m ab bm ∙ ap₂ (λ (x y : List ℕ). x ++ y) (span_none f a b own) (span_ext f g b m high))

-- ---- one row

numbers_moved : (s : Store) (sh : Shape) (u lo k : ℕ) → numbers_of (moved sh u lo (link_at s k)) ≡ moved_row s.links u (sh.item * lo) k
unfolding moved moved_row placed_row
numbers_moved s sh u lo k = refl

numbers_heads : (l : Layout) (u class2 : ℕ) (old : ℕ → ℕ) → ((q : ℕ) → among q (shared_in l.format) ≡ true → class2 ≡ old q)
    → row_numbers (head_links (shape_with l) u old) ≡ head_rows l.format class2 u
unfolding head_rows
numbers_heads l u class2 old h =
    let own = own_in l.format in
    let shared = shared_in l.format in
    ap row_numbers (header_same own (own ++ shared) u old (λ q. class2)
    (λ q a. ⊎_elim (λ o. inl o) (λ x. inr (sym (h q x))) (among_either q own shared a)))

module _ (s : Store) (t : ℕ) (layout : Layout) (cs : List ℕ) (a b class2 : ℕ) (g : Between s t layout cs a b class2) where
  abbrev sh : Shape
  sh = shape_with layout

  abbrev planned : Plan
  planned = plan_of s layout cs class2

  -- the code's numbers of the new tables
  named : (j : ℕ) → new_number s (per_table sh) j ≡ table_id planned j
  named j = ap (λ (n : ℕ). s.object_count + (n + 1) * j) (sym g.known.numbered.own_is)

  -- ---- the links that stay

  stayed : (v : ℕ) → row_numbers (map (kept sh.own t v) (sift (λ l. not (of_items t sh (from cs 0) sh.count l)) (links_of s)))
      ≡ segment (kept_row s.links sh.own t v) 0 a ++ segment (kept_row s.links sh.own t v) b s.link_count
  unfolding links_of
  stayed v =
      numbers_sifted (kept sh.own t v) (λ l. not (of_items t sh (from cs 0) sh.count l)) (link_at s) s.link_count
      ∙ all_but_between (λ k. cond (not (of_items t sh (from cs 0) sh.count (link_at s k))) (numbers_of (kept sh.own t v (link_at s k))) []) (kept_row s.links sh.own t v) a b s.link_count g.ordered g.used
      (λ k l. rw (stays_before s t layout cs a b class2 g k l) (numbers_kept s sh.own t v k))
      (λ k l h. rw (goes k l h))
      (λ k l h. rw (stays_after s t layout cs a b class2 g k l h) (numbers_kept s sh.own t v k))
    where
      goes : (k : ℕ) → a ≤ k → k < b → of_items t sh (from cs 0) sh.count (link_at s k) ≡ true
      goes k l h =
          let (p, x, y) = moves s t layout cs a b class2 g k l h in
          three_hold _ _ _ p (le-leb (item_at sh (from cs 0)) (position_of s k) x) (lt-ltb (position_of s k) (item_at sh sh.count) y)

  -- ---- the links of new table j

  module _ (j : ℕ) (jk : j < length cs) where
    to_within : to sh.count cs j ≤ sh.count
    to_within =
        ⊎_elim
        (λ lt. omega (arith, get_d_default cs (j + 1) sh.count 0 lt, g.known.within (j + 1) lt))
        (λ ge. omega (arith, get_or-eq_default cs sh.count {n = j + 1} ge))
        (either (j + 1) (length cs))

    -- a link of its items is one of those that are cut off
    part_of_all : (l : Link) → of_items t sh (from cs 0) sh.count l ≡ false → of_items t sh (from cs j) (to sh.count cs j) l ≡ false
    part_of_all l n =
        by_test (of_items t sh (from cs j) (to sh.count cs j) l)
        (λ y.
        let (p, x, z) = and_three (offset_of t l) (leb (item_at sh (from cs j)) l.position) (ltb l.position (item_at sh (to sh.count cs j))) y in
        let lo : item_at sh (from cs 0) ≤ l.position = omega (arith, leb-true (item_at sh (from cs j)) l.position x, items_rise sh (from cs 0) (from cs j) (g.known.rising 0 j (omega arith) jk)) in
        let hi : l.position < item_at sh sh.count = omega (arith, ltb-true l.position (item_at sh (to sh.count cs j)) z, items_rise sh (to sh.count cs j) sh.count to_within) in
        true_false (sym (three_hold _ _ _ p (le-leb (item_at sh (from cs 0)) l.position lo) (lt-ltb l.position (item_at sh sh.count) hi)) ∙ n))
        (λ n. n)

    -- of the links that are cut off its own are those between its edges
    upper : (k : ℕ) → a ≤ k → k < b → ltb (position_of s k) (item_at sh (to sh.count cs j)) ≡ ltb (position_in s.links k) (edge planned (j + 1))
    upper k l h =
        let (p, x, y) = moves s t layout cs a b class2 g k l h in
        ⊎_elim
        (λ lt. rw (edge_at planned (j + 1) lt, get_d_default cs (j + 1) sh.count 0 lt))
        (λ ge.
        let e : j + 1 ≡ length cs = omega arith in
        rw (e, edge_end planned, get_or-eq_default cs sh.count {n = length cs} (omega arith))
        (lt-ltb (position_of s k) (item_at sh sh.count) y ∙ sym (lt-ltb (position_of s k) 4294967296 (omega (arith, g.known.size)))))
        (either (j + 1) (length cs))

    own : (k : ℕ) → a ≤ k → k < b → of_items t sh (from cs j) (to sh.count cs j) (link_at s k) ≡ inside planned j (position_in s.links k)
    unfolding inside
    own k l h =
        let (p, x, y) = moves s t layout cs a b class2 g k l h in
        rw (p, edge_at planned j jk)
        (ap (λ (z : Bool). leb (item_at sh (from cs j)) (position_of s k) && z) (upper k l h))

    cut_off : row_numbers (map (moved sh (table_id planned j) (from cs j)) (sift (of_items t sh (from cs j) (to sh.count cs j)) (links_of s)))
        ≡ segment (share s.links planned j) a b
    unfolding links_of share
    cut_off =
        let u = table_id planned j in
        numbers_sifted (moved sh u (from cs j)) (of_items t sh (from cs j) (to sh.count cs j)) (link_at s) s.link_count
        ∙ only_between (λ k. cond (of_items t sh (from cs j) (to sh.count cs j) (link_at s k)) (numbers_of (moved sh u (from cs j) (link_at s k))) []) (share s.links planned j) a b s.link_count g.ordered g.used
        (λ k l. rw (part_of_all (link_at s k) (stays_before s t layout cs a b class2 g k l)))
        (λ k l h. ap₂ (λ (z : Bool) (r : List ℕ). cond z r []) (own k l h) (numbers_moved s sh u (from cs j) k))
        (λ k l h. rw (part_of_all (link_at s k) (stays_after s t layout cs a b class2 g k l h)))

    table_numbers : row_numbers (table_links s t sh (table_id planned j) (from cs j) (to sh.count cs j)) ≡ table_rows s.links a b planned j
    unfolding table_links table_rows
    table_numbers =
        let u = table_id planned j in
        numbers_append (head_links sh u (linked_at s t)) (map (moved sh u (from cs j)) (sift (of_items t sh (from cs j) (to sh.count cs j)) (links_of s)))
        ∙ ap₂ (λ (x y : List ℕ). x ++ y) (numbers_heads layout u class2 (linked_at s t) g.known.shared) cut_off

  -- ---- all links

  pub link_numbers : row_numbers (new_links s t sh cs)
      ≡ (segment (kept_row s.links sh.own t (table_id planned (length cs))) 0 a ++ segment (kept_row s.links sh.own t (table_id planned (length cs))) b s.link_count)
      ++ new_rows s.links a b planned
  unfolding new_links
  link_numbers =
      let v = new_number s (per_table sh) (length cs) in
      let links : ℕ → ℕ → List Link = λ u j. table_links s t sh u (from cs j) (to sh.count cs j) in
      let new : ℕ → List Link = λ j. links (new_number s (per_table sh) j) j in
      let rows = table_rows s.links a b planned in
      numbers_append (map (kept sh.own t v) (sift (λ l. not (of_items t sh (from cs 0) sh.count l)) (links_of s))) (flat new (length cs))
      ∙ ap₂ (λ (x y : List ℕ). x ++ y)
      (ap (λ (n : ℕ). row_numbers (map (kept sh.own t n) (sift (λ l. not (of_items t sh (from cs 0) sh.count l)) (links_of s)))) (named (length cs)) ∙ stayed (table_id planned (length cs)))
      (numbers_flat new (length cs)
      ∙ flat-same (λ j. row_numbers (new j)) rows (length cs) (λ j m. ap (λ (u : ℕ). row_numbers (links u j)) (named j) ∙ table_numbers j m)
      ∙ flat-span rows (length cs))

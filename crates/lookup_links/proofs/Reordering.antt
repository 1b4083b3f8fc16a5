-- Links redirected, and those of each parent put in order again: as rows, the links put in order. Assumes nothing.
use Prim.Native.Nat.{ℕ, suc, ◌+◌, ◌*◌, ◌≤◌, ◌<◌}
use mathlib.Core.Path.{◌≡◌, refl, sym, ap, subst, ◌∙◌}
use mathlib.Core.Bool.{true, false}
use mathlib.Core.List.{List, [], ◌∷◌, map}
use mathlib.Core.Logic.{inl, inr, ⊎_elim}
use native.Mathlib.Omega.{arith}
use lib.ListN.{length, get_or, drop}
use lib.Seq.{ext_get_or}
use borrow.Author.Tests.{eq-eqb, ne_eqb}
use Rattle.folds.specs.Folds.{upto}
use Rattle.folds.specs.Lists.{put}
use Rattle.folds.specs.Ascending.{ascending}
use Rattle.folds.proofs.Tests.{either}
use Rattle.folds.proofs.Folds.{length-upto}
use Rattle.folds.proofs.FromTheFront.{upto-at}
use Rattle.folds.proofs.Each.{Each, each_upto}
use Rattle.folds.proofs.Moved.{length-map, map-upto}
use Rattle.folds.proofs.Put.{length-put, put-inside, put-above}
use Rattle.store_rules.specs.Store.{Link, lent, per_link, links_of, is_offset, orders_in}
use Rattle.store_rules.specs.Appended.{row_numbers}
use Rattle.store_rules.specs.InOrder.{in_order}
use Rattle.store_rules.proofs.InOrder.{RowsAlike, rows_back, rows_then, rows_upto}
use Rattle.store_rules.proofs.LinkRows.{no_link, links_back, rows_numbers}
use Rattle.store_rules.proofs.LinksAscend.{Behind, Climb, place, place_offset, place_order, climb_upto}
use Rattle.store_rules.proofs.Orders.{orders_map}
use Rattle.store_rules.proofs.SameRows.{same_rows}
use Rattle.store_rules.proofs.Shaped.{offset_inside}
use Rattle.store_reader.proofs.Rows.{row_place_lem}
use Rattle.store_link_rows.specs.Rows.{row, rows, link_in}
use Rattle.store_link_rows.proofs.Links.{numbers_flat}
use Rattle.store_link_rows.proofs.RowLaws.{own_rows}
use Rattle.store_link_rows.proofs.Spans.{flat-span}
use Rattle.lookup_rules.specs.Written.{redirect, redirected}
use Rattle.lookup_rules.proofs.Redirection.{redirect_either}
use Rattle.lookup_rules.proofs.RedirectedRows.{Old, rows_redirected, orders_redirected}
use Rattle.lookup_orders.specs.Blocks.{Together, Led, OrdersSorted}
use Rattle.lookup_links.specs.Redirecting.{links_in, Redirecting}

-- ---- rows by a list

many_in : (ls : List ℕ) (count : ℕ) → length (links_in ls count) ≡ count
unfolding links_of
many_in ls count = length-upto (link_in ls) count

-- rows written from the first on
written_in : (ls : List ℕ) (count : ℕ) (xs : List Link) {out : List ℕ} → out ≡ put ls 0 (row_numbers xs) → length xs ≡ count → links_in out count ≡ xs
unfolding put
written_in ls count xs {out} e many = links_back (lent [] [] out (0 ∷ 0 ∷ count ∷ [])) xs (drop (0 + length (row_numbers xs)) ls) e (sym many)

-- rows as the numbers of their links
numbers_in : (ls : List ℕ) (count : ℕ) → row_numbers (links_in ls count) ≡ rows ls 0 count
unfolding links_of row_numbers row
numbers_in ls count = numbers_flat (λ k. link_in ls k ∷ []) count ∙ flat-span (row ls) count

-- what is written covers all that differs
put-covers : (d e xs : List ℕ) → length e ≡ length d → length xs ≤ length d → ((i : ℕ) → length xs ≤ i → get_or e i 0 ≡ get_or d i 0) → put e 0 xs ≡ put d 0 xs
put-covers d e xs long room same =
    let a = length-put e 0 xs (omega arith) in
    let b = length-put d 0 xs (omega arith) in
    ext_get_or 0 (put e 0 xs) (put d 0 xs) (a ∙ long ∙ sym b)
    (λ i h.
    ⊎_elim
    (λ (l : i < length xs). put-inside e 0 xs (omega arith) i (omega arith) (omega arith) ∙ sym (put-inside d 0 xs (omega arith) i (omega arith) (omega arith)))
    (λ (l : length xs ≤ i). put-above e 0 xs (omega arith) i (omega arith) ∙ same i l ∙ sym (put-above d 0 xs (omega arith) i (omega arith)))
    (either i (length xs)))

-- ---- the rows before

module _ {ls : List ℕ} {count : ℕ} {marks : List ℕ} {n : ℕ} (r : Redirecting ls count marks n) where
  behind : (j k : ℕ) → j < k → k < count → Behind (link_in ls j) (link_in ls k)
  behind j k h l =
      let s = lent [] [] ls [] in
      let rise = r.order.rising j k h l in
      let a = r.order.places j (omega arith) in
      let b = r.order.places k l in
      ⊎_elim (λ c. inl c)
      (λ c. inr (omega arith, omega (arith, row_place_lem s j, row_place_lem s k)))
      (either (link_in ls j).parent (link_in ls k).parent)

  climbs : Climb 0 0 65536 (links_in ls count)
  unfolding links_of
  climbs =
      climb_upto (link_in ls) count 0 0 65536 (λ k h. behind k (suc k) (omega arith) h) r.parents (omega arith)
      (λ h. ⊎_elim (λ a. inl a) (λ a. inr (omega arith, omega arith)) (either 0 (link_in ls 0).parent))

  olds : Each (Old n) (links_in ls count)
  unfolding links_of
  olds = each_upto (Old n) (link_in ls) count (λ k h. record { formed = r.formed k h; below = r.children k h })

  -- ---- redirected, then put in order

  module _ (ps : List ℕ) {mid : List ℕ} (led : mid ≡ put ls 0 (row_numbers (map (redirected n ps) (links_in ls count)))) where
    abbrev new : List Link
    new = map (redirected n ps) (links_in ls count)

    new_many : length new ≡ count
    new_many = length-map (redirected n ps) (links_in ls count) ∙ many_in ls count

    mid_links : links_in mid count ≡ new
    mid_links = written_in ls count new led new_many

    -- only children differ
    mid_at : (k : ℕ) → k < count → link_in mid k ≡ redirected n ps (link_in ls k)
    unfolding links_of
    mid_at k h =
        sym (upto-at (link_in mid) count k no_link h)
        ∙ ap (λ (xs : List Link). get_or xs k no_link) (mid_links ∙ map-upto (redirected n ps) (link_in ls) count)
        ∙ upto-at (λ j. redirected n ps (link_in ls j)) count k no_link h

    kind_at : (k : ℕ) → k < count → (link_in mid k).kind ≡ (link_in ls k).kind
    unfolding redirected
    kind_at k h = ap (λ (l : Link). l.kind) (mid_at k h)

    parent_at : (k : ℕ) → k < count → (link_in mid k).parent ≡ (link_in ls k).parent
    unfolding redirected
    parent_at k h = ap (λ (l : Link). l.parent) (mid_at k h)

    -- a row that does not lead to a new lookup leads where it led
    child_at_lem : (k : ℕ) → k < count → (link_in mid k).child < n → (link_in mid k).child ≡ (link_in ls k).child
    unfolding redirected
    child_at_lem k h low =
        let c = (link_in ls k).child in
        let led-to : (link_in mid k).child ≡ redirect n ps c = ap (λ (l : Link). l.child) (mid_at k h) in
        ⊎_elim (λ (m, l, a, b). absurd (omega arith)) (λ (a, b). led-to ∙ b) (redirect_either n ps c)

    -- ---- order-only rows of one parent

    order_was : (k : ℕ) → k < count → ((link_in mid k).kind ≡ 0 → ⊥) → is_offset (link_in ls k) ≡ false
    order_was k h only = ne_eqb (link_in ls k).kind 0 (λ z. only (kind_at k h ∙ z))

    between : (i j k : ℕ) → i < j → j < k → k < count → Together mid i k → Together mid i j
    between i j k l m h g =
        let x = link_in ls i in
        let y = link_in ls j in
        let z = link_in ls k in
        let same : x.parent ≡ z.parent = sym (parent_at i (omega arith)) ∙ g.parents ∙ parent_at k h in
        let (parent, later) : (x.parent ≡ y.parent) × (place x + 1 ≤ place y)
        = ⊎_elim (λ (p : x.parent < y.parent). absurd (⊎_elim (λ (q : y.parent < z.parent). omega arith) (λ (q, t). omega arith) (behind j k m h))) (λ (p, q). (p, q)) (behind i j l (omega arith)) in
        let only : (link_in mid j).kind ≡ 0 → ⊥
        = λ v.
        let o : is_offset y ≡ true = eq-eqb y.kind 0 (sym (kind_at j (omega arith)) ∙ v) in
        omega (arith, place_order x (order_was i (omega arith) g.one), place_offset y o, offset_inside 16777216 y o (r.formed j (omega arith))) in
        record { one = g.one; other = only; parents = parent_at i (omega arith) ∙ parent ∙ sym (parent_at j (omega arith)) }

    rise : (j k : ℕ) → j < k → k < count → Together mid j k → (link_in mid j).child < n → (link_in mid k).child < n → (link_in mid j).child ≤ (link_in mid k).child
    rise j k l h g a b =
        let x = link_in ls j in
        let y = link_in ls k in
        let same : x.parent ≡ y.parent = sym (parent_at j (omega arith)) ∙ g.parents ∙ parent_at k h in
        let later : place x + 1 ≤ place y = ⊎_elim (λ p. absurd (omega arith)) (λ (p, q). q) (behind j k l h) in
        omega (arith, child_at_lem j (omega arith) a, child_at_lem k h b, place_order x (order_was j (omega arith) g.one), place_order y (order_was k h g.other))

    mid_long : length mid ≡ length ls
    mid_long = ap length led ∙ length-put ls 0 (row_numbers new) (omega (arith, rows_numbers new, new_many, r.leading.room))

    pub rows_led : Led mid count n
    rows_led = record { room = omega (arith, mid_long, r.leading.room); between = between; rise = rise }

    module _ {out : List ℕ} (sorted : OrdersSorted mid count out) where
      orders_led : (p : ℕ) → orders_in new p ≡ map (redirect n ps) (orders_in (links_in ls count) p)
      unfolding redirected
      orders_led p = orders_map (redirected n ps) (redirect n ps) (λ l. refl) (λ l. refl) (λ l o. refl) (links_in ls count) p

      ordered_links : links_in out count ≡ in_order (map (redirected n ps) (links_in ls count))
      unfolding links_of
      ordered_links =
          let old = links_in ls count in
          same_rows (upto (link_in out) count) (in_order new)
          (rows_then (upto (link_in out) count) (upto (link_in mid) count) (in_order new) (rows_upto (link_in out) (link_in mid) count sorted.rows)
          (subst (λ (xs : List Link). RowsAlike xs (in_order new)) (sym mid_links) (rows_back (in_order new) new (rows_redirected n ps old 65536 climbs olds))))
          (λ p.
          sorted.orders p
          ∙ ap ascending (ap (λ (xs : List Link). orders_in xs p) mid_links ∙ orders_led p)
          ∙ sym (orders_redirected n ps old 65536 climbs olds p))

      pub all-ordered : out ≡ put ls 0 (row_numbers (in_order (map (redirected n ps) (links_in ls count))))
      all-ordered =
          let room = r.leading.room in
          let numbers = numbers_in out count in
          let many : length (row_numbers (links_in out count)) ≡ per_link * count = rows_numbers (links_in out count) ∙ ap (λ (m : ℕ). per_link * m) (many_in out count) in
          sym (own_rows out 0 count (omega arith) (omega (arith, sorted.long, mid_long)))
          ∙ ap (put out 0) (sym numbers)
          ∙ put-covers ls out (row_numbers (links_in out count)) (sorted.long ∙ mid_long) (omega arith)
          (λ i h.
          sorted.rest i (omega arith)
          ∙ ap (λ (o : List ℕ). get_or o i 0) led
          ∙ put-above ls 0 (row_numbers new) (omega (arith, rows_numbers new, new_many)) i (omega (arith, rows_numbers new, new_many)))
          ∙ ap (λ (xs : List Link). put ls 0 (row_numbers xs)) ordered_links

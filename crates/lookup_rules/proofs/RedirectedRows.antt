-- Rows in order, redirected and put in order again: they ascend, and each is what it was but for its child, which order-only links of one parent may exchange.
-- Assumes nothing.
use Prim.Native.Nat.{ℕ, ◌+◌, ◌<◌, ◌≤◌}
use mathlib.Core.Path.{◌≡◌, refl, sym, ap, ◌∙◌}
use mathlib.Core.Bool.{true, false}
use mathlib.Core.List.{List, [], ◌∷◌, map}
use mathlib.Core.Logic.{◌⊎◌, inl, inr, ⊎_elim}
use native.Mathlib.Omega.{arith}
use lib.ListN.{get_or}
use borrow.Author.Tests.{eqb-true}
use Rattle.folds.specs.Lists.{among}
use Rattle.folds.specs.Ascending.{ascending}
use Rattle.folds.proofs.Tests.{by_test, true_false}
use Rattle.folds.proofs.Each.{Each, each_map}
use Rattle.store_rules.specs.Store.{Link, is_offset, lookup, orders_in}
use Rattle.store_rules.specs.InOrder.{in_order, Alike}
use Rattle.store_rules.proofs.Lookups.{mapped}
use Rattle.store_rules.proofs.Shaped.{Formed, offset_inside, order_numbers, shaped_leading}
use Rattle.store_rules.proofs.LinksAscend.{Behind, Climb, place, place_offset, place_order, climb_each, climb_below}
use Rattle.store_rules.proofs.RowOrder.{Before, before_is}
use Rattle.store_rules.proofs.Orders.{orders_map, orders_ordered}
use Rattle.store_rules.proofs.InOrder.{Apart, AllApart, RowsAlike, PassedAlike, AllPassed, order_climb, order_alike, alike_lookup}
use Rattle.lookup_rules.specs.Written.{redirect, redirected}
use Rattle.lookup_rules.proofs.Redirection.{At, redirect_either, lookup_redirected}

-- two that become one were one
pub redirect_once : (n : ℕ) (ps : List ℕ) (c d : ℕ) → c < n → d < n → redirect n ps c ≡ redirect n ps d → c ≡ d
redirect_once n ps c d h k e = go (redirect_either n ps c) (redirect_either n ps d)
  where
    go : At n ps c ⊎ ((among c ps ≡ false) × (redirect n ps c ≡ c)) → At n ps d ⊎ ((among d ps ≡ false) × (redirect n ps d ≡ d)) → c ≡ d
    go (inl (m, l, a, b)) (inl (m', l', a', b')) = let z : m ≡ m' = omega arith in sym a ∙ ap (λ (i : ℕ). get_or ps i 0) z ∙ a'
    go (inl (m, l, a, b)) (inr (a', b')) = absurd (omega arith)
    go (inr (a, b)) (inl (m', l', a', b')) = absurd (omega arith)
    go (inr (a, b)) (inr (a', b')) = sym b ∙ e ∙ b'

-- a link that may be redirected: of its kind's shape, and to an object below n
pub record Old (n : ℕ) (l : Link) : Type 0 where
  pub formed : Formed l
  pub below : l.child < n

module _ (n : ℕ) (ps : List ℕ) where
  abbrev f : Link → Link
  f = redirected n ps

  formed_then : (l : Link) → Old n l → Formed (redirected n ps l)
  unfolding redirected
  formed_then l o = shaped_leading 16777216 l (redirected n ps l) refl refl refl o.formed

  -- ---- two of them, one before the other

  module _ (l m : Link) (ol : Old n l) (om : Old n m) (after : Behind l m) where
    -- an offset stands before the end of the data
    in_data : (x : Link) → Old n x → is_offset x ≡ true → x.position + 2 ≤ 16777216
    in_data x o w = offset_inside 16777216 x w o.formed

    -- of one parent, the first has the lower place
    lower : l.parent ≡ m.parent → place l < place m
    lower e = ⊎_elim (λ a. absurd (omega arith)) (λ (a, b). omega arith) after

    pub still_apart : Apart (redirected n ps l) (redirected n ps m)
    unfolding redirected
    still_apart (e, same) =
        let less = lower e in
        by_test (is_offset l)
        (λ a. by_test (is_offset m)
        (λ b. omega (arith, place_offset l a, place_offset m b, place_offset (redirected n ps l) a, place_offset (redirected n ps m) b))
        (λ b. omega (arith, in_data l ol a, place_offset (redirected n ps l) a, place_order (redirected n ps m) b)))
        (λ a. by_test (is_offset m)
        (λ b. omega (arith, in_data m om b, place_order (redirected n ps l) a, place_offset (redirected n ps m) b))
        (λ b.
        let became : redirect n ps l.child ≡ redirect n ps m.child = omega (arith, place_order (redirected n ps l) a, place_order (redirected n ps m) b) in
        omega (arith, redirect_once n ps l.child m.child ol.below om.below became, place_order l a, place_order m b)))

    -- only order-only links of one parent change places
    pub passed : PassedAlike (redirected n ps l) (redirected n ps m)
    unfolding redirected
    passed h = go (before_is (redirected n ps m) (redirected n ps l) h)
      where
        orders : is_offset l ≡ false → is_offset m ≡ false → m.parent ≡ l.parent → Alike (redirected n ps m) (redirected n ps l) × Alike (redirected n ps l) (redirected n ps m)
        orders a b e =
            let (k, q, w) = order_numbers 16777216 l a ol.formed in
            let (k', q', w') = order_numbers 16777216 m b om.formed in (
              record { kind = k' ∙ sym k; parent = e; position = q' ∙ sym q; width = w' ∙ sym w; child = λ o. true_false (sym o ∙ a) },
              record { kind = k ∙ sym k'; parent = sym e; position = q ∙ sym q'; width = w ∙ sym w'; child = λ o. true_false (sym o ∙ b) },
            )

        zero_kind : (x : Link) → is_offset x ≡ true → x.kind ≡ 0
        zero_kind x o = eqb-true x.kind 0 o

        go : Before (redirected n ps m) (redirected n ps l) → Alike (redirected n ps m) (redirected n ps l) × Alike (redirected n ps l) (redirected n ps m)
        go (inl p) = absurd (⊎_elim (λ a. omega arith) (λ (a, b). omega arith) after)
        go (inr (p, r)) =
            let less = lower (sym p) in
            by_test (is_offset l)
            (λ a. by_test (is_offset m)
            (λ b.
            let rises : l.position < m.position = omega (arith, place_offset l a, place_offset m b) in
            absurd (⊎_elim (λ k. omega (arith, zero_kind l a)) (λ (k, x). ⊎_elim (λ q. omega arith) (λ (q, c). omega arith) x) r))
            (λ b.
            let one = (order_numbers 16777216 m b om.formed).0 in
            absurd (⊎_elim (λ k. omega (arith, zero_kind l a)) (λ (k, x). omega (arith, zero_kind l a)) r)))
            (λ a. by_test (is_offset m)
            (λ b. absurd (omega (arith, place_order l a, place_offset m b, in_data m om b)))
            (λ b. orders a b p))

  -- ---- all of them

  each_behind : (P : Link → Link → Type 0) → ((l m : Link) → Old n l → Old n m → Behind l m → P (redirected n ps l) (redirected n ps m))
      → (l : Link) → Old n l → (ls : List Link) → Each (Old n) ls → Each (Behind l) ls → Each (P (redirected n ps l)) (map f ls)
  each_behind P h l ol [] os a = tt
  each_behind P h l ol (m ∷ ls) os a = (h l m ol os.0 a.0, each_behind P h l ol ls os.1 a.1)

  all_apart : (ls : List Link) (p q e : ℕ) → Climb p q e ls → Each (Old n) ls → AllApart (map f ls)
  all_apart [] p q e c os = tt
  all_apart (l ∷ ls) p q e c os =
      (each_behind Apart still_apart l os.0 ls os.1 (climb_each ls l.parent (place l + 1) e c.1), all_apart ls l.parent (place l + 1) e c.1 os.1)

  all_passed : (ls : List Link) (p q e : ℕ) → Climb p q e ls → Each (Old n) ls → AllPassed (map f ls)
  all_passed [] p q e c os = tt
  all_passed (l ∷ ls) p q e c os =
      (each_behind PassedAlike passed l os.0 ls os.1 (climb_each ls l.parent (place l + 1) e c.1), all_passed ls l.parent (place l + 1) e c.1 os.1)

  module _ (ls : List Link) (e : ℕ) (climbs : Climb 0 0 e ls) (os : Each (Old n) ls) where
    -- the rows ascend again
    pub climb_redirected : Climb 0 0 e (in_order (map (redirected n ps) ls))
    unfolding redirected
    climb_redirected =
        order_climb (map f ls) e (each_map (Old n) Formed f formed_then ls os) (all_apart ls 0 0 e climbs os)
        (each_map (λ m. m.parent < e) (λ m. m.parent < e) f (λ m h. h) ls (climb_below ls 0 0 e climbs))

    -- the order-only links of an object lead to what their children became, in order
    pub orders_redirected : (p : ℕ) → orders_in (in_order (map (redirected n ps) ls)) p ≡ ascending (map (redirect n ps) (orders_in ls p))
    unfolding redirected
    orders_redirected p =
        orders_ordered p (map f ls) e (each_map (Old n) Formed f formed_then ls os) (all_apart ls 0 0 e climbs os)
        (each_map (λ m. m.parent < e) (λ m. m.parent < e) f (λ m h. h) ls (climb_below ls 0 0 e climbs))
        ∙ ap ascending (orders_map f (redirect n ps) (λ l. refl) (λ l. refl) (λ l o. refl) ls p)

    -- each is the redirected one at its place, but for children of order-only links
    pub rows_redirected : RowsAlike (in_order (map (redirected n ps) ls)) (map (redirected n ps) ls)
    rows_redirected = order_alike (map f ls) (all_passed ls 0 0 e climbs os)

    -- an offset stands where it stood, and leads to what its child became
    pub lookup_ordered : (p q : ℕ) → lookup (in_order (map (redirected n ps) ls)) p q ≡ mapped (redirect n ps) (lookup ls p q)
    lookup_ordered p q = alike_lookup (in_order (map f ls)) (map f ls) rows_redirected p q ∙ lookup_redirected n ps ls p q

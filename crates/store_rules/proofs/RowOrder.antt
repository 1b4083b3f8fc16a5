-- The order of rows, "(parent, kind, position, child)" and no two offsets at one position, is that of parent and place. Assumes nothing.
use Prim.Native.Nat.{ℕ, ◌<◌}
use mathlib.Core.Path.{◌≡◌, refl, sym, ◌∙◌}
use mathlib.Core.Bool.{Bool, true, false, not, ◌&&◌, ◌||◌}
use mathlib.Core.Logic.{◌⊎◌, inl, inr, ⊎_elim}
use native.Mathlib.Omega.{arith}
use lib.Dec.{ltb, eqb}
use borrow.Author.Tests.{ltb-true, eqb-true, lt-ltb, eq-eqb, ne_eqb, not-true}
use Rattle.folds.proofs.Tests.{by_test, and_both, and_intro, and_second, true_false}
use Rattle.folds.proofs.Joined.{or_either, or-first, or-second}
use Rattle.store_rules.specs.Store.{Link, is_offset, offset_of, row_before, one_position}
use Rattle.store_rules.proofs.Shaped.{Formed, offset_inside, order_numbers}
use Rattle.store_rules.proofs.LinksAscend.{Behind, place_offset, place_order}

-- the sentence's order, as a fact
abbrev pub Before : Link → Link → Type 0
Before l m =
    (l.parent < m.parent)
    ⊎ ((l.parent ≡ m.parent)
    × ((l.kind < m.kind) ⊎ ((l.kind ≡ m.kind) × ((l.position < m.position) ⊎ ((l.position ≡ m.position) × (l.child < m.child))))))

-- one number of a key: less, or the same and the rest decides
first_less : (a b : ℕ) (rest : Bool) → (ltb a b || eqb a b && rest) ≡ true → (a < b) ⊎ ((a ≡ b) × (rest ≡ true))
first_less a b rest h =
    ⊎_elim (λ x. inl (ltb-true a b x)) (λ x. let (y, z) = and_both (eqb a b) rest x in inr (eqb-true a b y, z)) (or_either (ltb a b) (eqb a b && rest) h)

less_first : (a b : ℕ) (rest : Bool) → (a < b) ⊎ ((a ≡ b) × (rest ≡ true)) → (ltb a b || eqb a b && rest) ≡ true
less_first a b rest (inl x) = or-first (ltb a b) (eqb a b && rest) (lt-ltb a b x)
less_first a b rest (inr (x, y)) = or-second (ltb a b) (eqb a b && rest) (and_intro (eqb a b) rest (eq-eqb a b x) y)

module _ (l m : Link) where
  abbrev by_child : Bool
  by_child = ltb l.child m.child

  abbrev by_position : Bool
  by_position = ltb l.position m.position || eqb l.position m.position && by_child

  abbrev by_kind : Bool
  by_kind = ltb l.kind m.kind || eqb l.kind m.kind && by_position

  pub before_is : row_before l m ≡ true → Before l m
  unfolding row_before
  before_is h =
      ⊎_elim inl
      (λ (a, b).
      inr (
        a,
        ⊎_elim inl (λ (c, d). inr (c, ⊎_elim inl (λ (e, f). inr (e, ltb-true l.child m.child f)) (first_less l.position m.position by_child d)))
            (first_less l.kind m.kind by_position b),
      ))
      (first_less l.parent m.parent by_kind h)

  pub is_before : Before l m → row_before l m ≡ true
  unfolding row_before
  is_before h =
      less_first l.parent m.parent by_kind
      (⊎_elim inl
      (λ (a, b).
      inr (
        a,
        less_first l.kind m.kind by_position
            (⊎_elim inl (λ (c, d). inr (c, less_first l.position m.position by_child (⊎_elim inl (λ (e, f). inr (e, lt-ltb l.child m.child f)) d))) b),
      ))
      h)

  -- two offsets of one parent at one position
  pub one_position_lem : l.parent ≡ m.parent → is_offset l ≡ true → is_offset m ≡ true → l.position ≡ m.position → one_position l m ≡ true
  unfolding one_position
  one_position_lem a b c d = rw (b, c, eq-eqb l.parent m.parent a, eq-eqb l.position m.position d)

  kind_zero : (x : Link) → is_offset x ≡ true → x.kind ≡ 0
  kind_zero x o = eqb-true x.kind 0 o

  module _ (fl : Formed l) (fm : Formed m) where
    -- in the sentence's order, then by place
    pub rows_from_lem : (row_before l m && not (one_position l m)) ≡ true → Behind l m
    rows_from_lem h =
        let (x, y) = and_both (row_before l m) (not (one_position l m)) h in
        by_test (is_offset l)
        (λ o. by_test (is_offset m) (λ w. both o w (not-true (one_position l m) y) (before_is x)) (λ w. mixed o w (before_is x)))
        (λ o. by_test (is_offset m) (λ w. wrong o w (before_is x)) (λ w. orders o w (before_is x)))
      where
        both : is_offset l ≡ true → is_offset m ≡ true → one_position l m ≡ false → Before l m → Behind l m
        both o w n (inl p) = inl p
        both o w n (inr (p, inl k)) = absurd (omega (arith, kind_zero l o, kind_zero m w))
        both o w n (inr (p, inr (k, inl q))) = inr (p, omega (arith, place_offset l o, place_offset m w))
        both o w n (inr (p, inr (k, inr (q, c)))) = true_false (sym (one_position_lem p o w q) ∙ n)

        mixed : is_offset l ≡ true → is_offset m ≡ false → Before l m → Behind l m
        mixed o w (inl p) = inl p
        mixed o w (inr (p, r)) = inr (p, omega (arith, place_offset l o, place_order m w, offset_inside 16777216 l o fl))

        wrong : is_offset l ≡ false → is_offset m ≡ true → Before l m → Behind l m
        wrong o w (inl p) = inl p
        wrong o w (inr (p, inl k)) = absurd (omega (arith, (order_numbers 16777216 l o fl).0, kind_zero m w))
        wrong o w (inr (p, inr (k, q))) = absurd (omega (arith, (order_numbers 16777216 l o fl).0, kind_zero m w))

        orders : is_offset l ≡ false → is_offset m ≡ false → Before l m → Behind l m
        orders o w (inl p) = inl p
        orders o w (inr (p, inl k)) = absurd (omega (arith, (order_numbers 16777216 l o fl).0, (order_numbers 16777216 m w fm).0))
        orders o w (inr (p, inr (k, inl q))) = absurd (omega (arith, (order_numbers 16777216 l o fl).1, (order_numbers 16777216 m w fm).1))
        orders o w (inr (p, inr (k, inr (q, c)))) = inr (p, omega (arith, place_order l o, place_order m w))

    -- and the other way round
    pub from_rows : Behind l m → (row_before l m && not (one_position l m)) ≡ true
    unfolding one_position
    from_rows (inl p) = and_intro (row_before l m) (not (one_position l m)) (is_before (inl p)) (rw (ne_eqb l.parent m.parent (λ e. omega arith), and_second (is_offset l) false refl))
    from_rows (inr (p, q)) =
        by_test (is_offset l)
        (λ o. by_test (is_offset m)
        (λ w.
        let less : l.position < m.position = omega (arith, place_offset l o, place_offset m w) in
        and_intro (row_before l m) (not (one_position l m)) (is_before (inr (p, inr (kind_zero l o ∙ sym (kind_zero m w), inl less))))
        (rw (and_second (offset_of m.parent l && is_offset m) (eqb l.position m.position) (ne_eqb l.position m.position (λ e. omega arith)))))
        (λ w.
        and_intro (row_before l m) (not (one_position l m)) (is_before (inr (p, inl (omega (arith, kind_zero l o, (order_numbers 16777216 m w fm).0)))))
        (rw (w, and_second (offset_of m.parent l) false refl))))
        (λ o. by_test (is_offset m)
        (λ w. absurd (omega (arith, place_order l o, place_offset m w, offset_inside 16777216 m w fm)))
        (λ w.
        let (k, x, u) = order_numbers 16777216 l o fl in
        let (k', x', u') = order_numbers 16777216 m w fm in
        and_intro (row_before l m) (not (one_position l m))
        (is_before (inr (p, inr (k ∙ sym k', inr (x ∙ sym x', omega (arith, place_order l o, place_order m w))))))
        (rw o)))

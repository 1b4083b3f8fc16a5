-- What it says of a ClassDef that it is readable: by its bytes, and by its header. Assumes nothing.
use Rattle.std.specs.Prelude.{Some, None}
use Prim.Native.Nat.{ℕ, ◌+◌, ◌-◌, ◌*◌, ◌≤◌, ◌<◌}
use mathlib.Core.Path.{◌≡◌, refl, ap, ◌∙◌}
use mathlib.Core.Bool.{Bool, true, false, cond, ◌&&◌, ◌||◌}
use mathlib.Core.List.{List}
use native.Mathlib.Omega.{arith}
use lib.ListN.{length}
use lib.Dec.{eqb, leb, ltb}
use borrow.Author.Tests.{eqb-true, leb-true, le-leb, lt-leb, eq-eqb, ne_eqb}
use Rattle.folds.specs.Folds.{first_at}
use Rattle.folds.proofs.Tests.{and_both, and_second, by_test}
use Rattle.ot_layouts.specs.Numbers.{u16_at}
use Rattle.ot_layouts.specs.Coverage.{start_at, end_at, ranges_fit, kind_of, reading}
use Rattle.ot_layouts.specs.ClassDef.{class_readable, class_def_of, beside_or, class_of}
use Rattle.ot_layouts.specs.declared.Kind.{Kind}
use Rattle.ot_layouts.specs.declared.Header.{Header}
use Rattle.ot_layouts.proofs.RangesRead.{not_long}

-- format 1, with n classes
pub record ListedClasses (b : List ℕ) (n : ℕ) : Type 0 where
  pub long : length b ≡ 6 + 2 * n
  pub last : u16_at b 2 + n ≤ 65536
  pub class : (g : ℕ) → class_of b g ≡ cond (leb (u16_at b 2) g && ltb g (u16_at b 2 + n)) (u16_at b (6 + 2 * (g - u16_at b 2))) 0

-- format 2, with n ranges
pub record RangedClasses (b : List ℕ) (n : ℕ) : Type 0 where
  pub fits : ranges_fit b n ≡ true
  pub class : (g : ℕ) → class_of b g ≡ beside_or b (first_at (λ k. leb (start_at b k) g && leb g (end_at b k)) n)

-- ---- by the tests that a reader makes

module _ (b : List ℕ) where
  -- the count and the place of the last glyph fit
  abbrev listed : Bool
  listed = eqb (length b) (6 + 2 * u16_at b 4) && leb (u16_at b 2 + u16_at b 4) 65536

  by_first : u16_at b 0 ≡ 1 → class_readable b ≡ listed
  unfolding class_readable
  by_first f = rw f (go (eqb (length b) (6 + 2 * u16_at b 4)) (leb (u16_at b 2 + u16_at b 4) 65536))
    where
      go : (x y : Bool) → x && y || false ≡ x && y
      go true true = refl
      go true false = refl
      go false y = refl

  by_second : u16_at b 0 ≡ 2 → class_readable b ≡ ranges_fit b (u16_at b 2)
  unfolding class_readable
  by_second f = rw f

  pub list_reading : u16_at b 0 ≡ 1 → class_def_of b ≡ cond listed (Some (record { kind = Kind.List; count = u16_at b 4 })) None
  unfolding class_def_of
  list_reading f = rw (by_first f, f)

  pub list_readable : u16_at b 0 ≡ 1 → length b ≡ 6 + 2 * u16_at b 4 → u16_at b 2 + u16_at b 4 ≤ 65536 → Some (record { kind = Kind.List; count = u16_at b 4 }) ≡ class_def_of b
  list_readable f l e = rw (list_reading f, eq-eqb (length b) (6 + 2 * u16_at b 4) l, le-leb (u16_at b 2 + u16_at b 4) 65536 e)

  pub list_not_long : u16_at b 0 ≡ 1 → (length b ≡ 6 + 2 * u16_at b 4 → ⊥) → None ≡ class_def_of b
  list_not_long f l = rw (list_reading f, ne_eqb (length b) (6 + 2 * u16_at b 4) l)

  pub list_too_far : u16_at b 0 ≡ 1 → 65536 < u16_at b 2 + u16_at b 4 → None ≡ class_def_of b
  list_too_far f e = rw (list_reading f, and_second (eqb (length b) (6 + 2 * u16_at b 4)) _ (lt-leb (u16_at b 2 + u16_at b 4) 65536 e))

  pub ranges_reading : u16_at b 0 ≡ 2 → cond (ranges_fit b (u16_at b 2)) (Some (record { kind = Kind.Ranges; count = u16_at b 2 })) None ≡ class_def_of b
  unfolding class_def_of
  ranges_reading f = rw (by_second f, f)

  pub no_format : (u16_at b 0 ≡ 1 → ⊥) → (u16_at b 0 ≡ 2 → ⊥) → None ≡ class_def_of b
  unfolding class_def_of class_readable
  no_format one two = rw (ne_eqb (u16_at b 0) 1 one, ne_eqb (u16_at b 0) 2 two)

  pub too_short_lem : length b < 4 → None ≡ class_def_of b
  unfolding class_def_of class_readable
  too_short_lem h = rw (ne_eqb (length b) (6 + 2 * u16_at b 4) (λ e. omega arith), not_long b (u16_at b 2) (λ e. omega arith)) (go (eqb (u16_at b 0) 1) (eqb (u16_at b 0) 2))
    where
      go : (x y : Bool) → None ≡ reading (x && false && leb (u16_at b 2 + u16_at b 4) 65536 || y && false) (u16_at b 0) (cond x (u16_at b 4) (u16_at b 2))
      go true true = refl
      go true false = refl
      go false true = refl
      go false false = refl

-- ---- by its header

module _ (b : List ℕ) (h : Header) (r : class_def_of b ≡ Some h) where
  -- the test that was made, and the header
  header_read : (class_readable b ≡ true) × (h ≡ record { kind = kind_of (u16_at b 0); count = cond (eqb (u16_at b 0) 1) (u16_at b 4) (u16_at b 2) })
  unfolding class_def_of
  header_read = go (class_readable b) refl r
    where
      n : ℕ
      n = cond (eqb (u16_at b 0) 1) (u16_at b 4) (u16_at b 2)

      go : (t : Bool) → class_readable b ≡ t → reading t (u16_at b 0) n ≡ Some h → (class_readable b ≡ true) × (h ≡ record { kind = kind_of (u16_at b 0); count = n })
      go true e q = (e, cc)
      go false e q = let z : ◌≡◌ {A = ℕ} 0 1 = cc in absurd (omega arith)

  pub header_list : h.kind ≡ Kind.List → ListedClasses b h.count
  unfolding class_of
  header_list e = by_test (eqb (u16_at b 0) 1) yes_list (λ o. absurd (other o))
    where
      other : eqb (u16_at b 0) 1 ≡ false → ⊥
      other o =
          let k : h.kind ≡ Kind.Ranges = ap (λ (x : Header). x.kind) header_read.1 ∙ rw o in
          let z : ◌≡◌ {A = ℕ} 0 1 = cc in
          omega arith

      yes_list : eqb (u16_at b 0) 1 ≡ true → ListedClasses b h.count
      yes_list o =
          let n : h.count ≡ u16_at b 4 = ap (λ (x : Header). x.count) header_read.1 ∙ rw o in
          let (l, m) = and_both (eqb (length b) (6 + 2 * u16_at b 4)) (leb (u16_at b 2 + u16_at b 4) 65536) (rw (by_first b (eqb-true (u16_at b 0) 1 o)) at header_read.0) in
          rw n (record { long = eqb-true _ _ l; last = leb-true _ _ m; class = λ g. rw o })

  pub header_ranges : h.kind ≡ Kind.Ranges → RangedClasses b h.count
  unfolding class_readable class_of
  header_ranges e = by_test (eqb (u16_at b 0) 1) (λ o. absurd (other o)) yes_ranges
    where
      other : eqb (u16_at b 0) 1 ≡ true → ⊥
      other o =
          let k : h.kind ≡ Kind.List = ap (λ (x : Header). x.kind) header_read.1 ∙ rw o in
          let z : ◌≡◌ {A = ℕ} 0 1 = cc in
          omega arith

      yes_ranges : eqb (u16_at b 0) 1 ≡ false → RangedClasses b h.count
      yes_ranges o =
          let n : h.count ≡ u16_at b 2 = ap (λ (x : Header). x.count) header_read.1 ∙ rw o in
          let k : (eqb (u16_at b 0) 2 && ranges_fit b (u16_at b 2)) ≡ true = rw o at header_read.0 in
          rw n (record { fits = (and_both (eqb (u16_at b 0) 2) (ranges_fit b (u16_at b 2)) k).1; class = λ g. rw o })

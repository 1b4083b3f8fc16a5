-- What opening a table answers, by its length and format. Assumes nothing.
use Prim.Native.Nat.{ℕ, ◌+◌, ◌*◌, ◌≤◌, ◌<◌}
use mathlib.Core.Path.{◌≡◌, refl, sym, ap, ap₂, ◌∙◌}
use mathlib.Core.List.{List}
use native.Mathlib.Nat.{mul-le-mul_left}
use native.Mathlib.Omega.{arith}
use lib.ListN.{length}
use borrow.Author.Tests.{eq-eqb, ne_eqb, le-ltb, lt-ltb}
use Rattle.ot_layouts.specs.Numbers.{u16_at}
use Rattle.ot_layouts.specs.Values.{field_count}
use Rattle.ot_layouts.specs.PairPos.{format_of, value1, value2, columns, record_size, shape1, shape2, shape_of, exact}
use Rattle.ot_pairpos.specs.Layout.{layout_of, opened_as, opened_of}
use Rattle.ot_pairpos.specs.declared.Opened.TheVariants.{Pair, Other, Bad}

module _ (b : List ℕ) where
  pub no_format : length b < 2 → opened_as Bad ≡ opened_of b
  unfolding opened_of
  no_format h = rw (lt-ltb (length b) 2 h)

  pub other_format : 2 ≤ length b → (format_of b ≡ 1 → ⊥) → (format_of b ≡ 2 → ⊥) → opened_as Other ≡ opened_of b
  unfolding opened_of
  other_format h n m = rw (le-ltb (length b) 2 h, ne_eqb (format_of b) 1 n, ne_eqb (format_of b) 2 m)

  module _ (long : 2 ≤ length b) (one : format_of b ≡ 1) where
    pub bad_format1 : (length b ≡ 10 + 2 * u16_at b 8 → ⊥) → opened_as Bad ≡ opened_of b
    unfolding opened_of exact shape_of shape1
    bad_format1 n = rw (le-ltb (length b) 2 long, eq-eqb (format_of b) 1 one, ne_eqb (length b) (10 + 2 * u16_at b 8) n)

    pub opened_format1 : length b ≡ 10 + 2 * u16_at b 8
        → opened_as (Pair (record { format = 1; header = 10; own = 1; heads = 1; count_at = 8; count = u16_at b 8; item = 2; unit = 2; value1 = u16_at b 4; value2 = u16_at b 6; columns = 0 })) ≡ opened_of b
    unfolding opened_of exact shape_of shape1 layout_of
    opened_format1 e = rw (le-ltb (length b) 2 long, eq-eqb (format_of b) 1 one, eq-eqb (length b) (10 + 2 * u16_at b 8) e)

  -- by the numbers that were read
  module _ (long : 2 ≤ length b) (two : format_of b ≡ 2) {v w u c r : ℕ} (at4 : v ≡ value1 b) (at6 : w ≡ value2 b) (size : u ≡ 2 * (field_count v + field_count w)) (at14 : c ≡ columns b) (at12 : r ≡ u16_at b 12) where
    not-one : format_of b ≡ 1 → ⊥
    not-one e = omega arith

    records : u ≡ record_size b
    unfolding record_size
    records = size ∙ ap₂ (λ (x y : ℕ). 2 * (field_count x + field_count y)) at4 at6

    rows : 16 + u * c * r ≡ 16 + record_size b * columns b * u16_at b 12
    rows = ap (λ (x : ℕ). 16 + x) (ap₂ (λ (x y : ℕ). x * y) (ap₂ (λ (x y : ℕ). x * y) records at14) at12)

    pub bad_format2 : (length b ≡ 16 + u * c * r → ⊥) → opened_as Bad ≡ opened_of b
    unfolding opened_of exact shape_of shape2
    bad_format2 n =
        rw (
          le-ltb (length b) 2 long,
          ne_eqb (format_of b) 1 not-one,
          eq-eqb (format_of b) 2 two,
          ne_eqb (length b) (16 + record_size b * columns b * u16_at b 12) (λ e. n (e ∙ sym rows)),
        )

    pub opened_format2 : length b ≡ 16 + u * c * r → opened_as (Pair (record { format = 2; header = 16; own = 2; heads = 3; count_at = 12; count = r; item = u * c; unit = u; value1 = v; value2 = w; columns = c })) ≡ opened_of b
    unfolding opened_of exact shape_of shape2 layout_of
    opened_format2 e =
        rw (
          le-ltb (length b) 2 long,
          ne_eqb (format_of b) 1 not-one,
          eq-eqb (format_of b) 2 two,
          eq-eqb (length b) (16 + record_size b * columns b * u16_at b 12) (e ∙ rows),
        )
        (ap opened_as (λ k. Pair (record {
          format = 2;
          header = 16;
          own = 2;
          heads = 3;
          count_at = 12;
          count = at12 k;
          item = records k * at14 k;
          unit = records k;
          value1 = at4 k;
          value2 = at6 k;
          columns = at14 k;
        })))

  pub short_format2 : 2 ≤ length b → format_of b ≡ 2 → length b < 16 → opened_as Bad ≡ opened_of b
  unfolding record_size
  short_format2 long two h = bad_format2 long two refl refl refl refl refl (λ e. omega arith)

-- rows of any number of records of at most sixteen fields: their bytes are counted without wrapping
pub rows_fit : (u c r : ℕ) → u ≤ 32 → c < 65536 → r < 65536 → (u * c ≤ 32 * 65536) × (u * c * r ≤ 32 * 65536 * 65536)
rows_fit u c r h k l =
    let a : u * c ≤ u * 65536 = mul-le-mul_left u (omega arith) in
    let p : u * c ≤ 32 * 65536 = omega arith in
    let q : u * c * r ≤ u * c * 65536 = mul-le-mul_left (u * c) (omega arith) in
    (p, omega arith)

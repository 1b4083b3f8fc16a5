-- Shapes, by their two formats. Assumes nothing.
use Prim.Native.Nat.{ℕ, ◌+◌, ◌*◌, ◌≤◌}
use mathlib.Core.Path.{◌≡◌, refl, sym, ap₂, ◌∙◌}
use mathlib.Core.Bool.{Bool, true, false, cond}
use mathlib.Core.List.{List, [], ◌∷◌, ◌++◌, map}
use mathlib.Core.Logic.{◌⊎◌, inl, inr, ⊎_elim}
use native.Mathlib.Omega.{arith}
use native.Mathlib.Nat.{mul-le-mul_left}
use lib.Dec.{eqb}
use borrow.Author.Tests.{ne_eqb}
use Rattle.folds.specs.Lists.{among}
use Rattle.folds.proofs.Tests.{true_false, or_none}
use Rattle.folds.proofs.Among.{among-append}
use Rattle.ot_layouts.specs.Values.{field_count, devices}
use Rattle.ot_layouts.specs.PairPos.{Shape, own_in, cover_at, class1_at, class2_at, heads, format_of, shape1, shape2, shape_of, record_size, columns, item_at, value1, value2, device_slots}

-- by the two formats
pub by_format : (P : Shape → Type 0) (b : List ℕ) → (eqb (format_of b) 1 ≡ true → P (shape1 b)) → (eqb (format_of b) 1 ≡ false → P (shape2 b)) → P (shape_of b)
unfolding shape_of
by_format P b one two = go (eqb (format_of b) 1) one two
  where
    go : (c : Bool) → (c ≡ true → P (shape1 b)) → (c ≡ false → P (shape2 b)) → P (cond c (shape1 b) (shape2 b))
    go true f g = f refl
    go false f g = g refl

-- what a shape has in format 1
pub record Format1 (sh : Shape) : Type 0 where
  pub one : eqb sh.format 1 ≡ true
  pub header_is : sh.header ≡ 10
  pub own_is : sh.own ≡ cover_at ∷ []
  pub shared_is : sh.shared ≡ []
  pub count_is : sh.count_at ≡ 8
  pub item_is : sh.item ≡ 2

-- and in format 2, of the bytes b
pub record Format2 (b : List ℕ) (sh : Shape) : Type 0 where
  pub two : eqb sh.format 1 ≡ false
  pub header_is : sh.header ≡ 16
  pub own_is : sh.own ≡ cover_at ∷ class1_at ∷ []
  pub shared_is : sh.shared ≡ class2_at ∷ []
  pub count_is : sh.count_at ≡ 12
  pub item_is : sh.item ≡ record_size b * columns b

pub formats : (b : List ℕ) → Format1 (shape_of b) ⊎ Format2 b (shape_of b)
unfolding shape1 shape2
formats b =
    by_format (λ sh. Format1 sh ⊎ Format2 b sh) b
    (λ e. inl (record { one = refl; header_is = refl; own_is = refl; shared_is = refl; count_is = refl; item_is = refl }))
    (λ e. inr (record { two = refl; header_is = refl; own_is = refl; shared_is = refl; count_is = refl; item_is = refl }))

pub format_one : (b : List ℕ) → eqb (shape_of b).format 1 ≡ true → Format1 (shape_of b)
format_one b e = ⊎_elim (λ f. f) (λ f. true_false (sym e ∙ f.two)) (formats b)

pub format_two : (b : List ℕ) → eqb (shape_of b).format 1 ≡ false → Format2 b (shape_of b)
format_two b e = ⊎_elim (λ f. true_false (sym f.one ∙ e)) (λ f. f) (formats b)

-- a shape is of the format that the bytes say
pub format_test : (b : List ℕ) → eqb (shape_of b).format 1 ≡ eqb (format_of b) 1
unfolding shape1 shape2
format_test b = by_format (λ sh. eqb sh.format 1 ≡ eqb (format_of b) 1) b (λ e. sym e) (λ e. sym e)

-- ---- headers and items

-- the own parts are those of the format
pub own_of : (b : List ℕ) → (shape_of b).own ≡ own_in (shape_of b).format
unfolding shape1 shape2
own_of b = by_format (λ sh. sh.own ≡ own_in sh.format) b (λ e. refl) (λ e. refl)

pub count_in_header : (b : List ℕ) → (shape_of b).count_at + 2 ≤ (shape_of b).header
unfolding shape1 shape2
count_in_header b = by_format (λ sh. sh.count_at + 2 ≤ sh.header) b (λ e. omega arith) (λ e. omega arith)

-- each link of a header stands within it
pub heads_within : (b : List ℕ) (q : ℕ) → (shape_of b).header ≤ q → among q (heads (shape_of b)) ≡ false
unfolding shape1 shape2 among
heads_within b q =
    by_format (λ sh. sh.header ≤ q → among q (heads sh) ≡ false) b
    (λ e h. rw (ne_eqb q cover_at (λ z. omega arith)))
    (λ e h. rw (ne_eqb q cover_at (λ z. omega arith), ne_eqb q class1_at (λ z. omega arith), ne_eqb q class2_at (λ z. omega arith)))

-- and so does each to a part of the table's own
pub own_within : (b : List ℕ) (q : ℕ) → (shape_of b).header ≤ q → among q (shape_of b).own ≡ false
own_within b q h = (or_none (among q (shape_of b).own) (among q (shape_of b).shared) (sym (among-append q (shape_of b).own (shape_of b).shared) ∙ heads_within b q h)).0

-- the header holds format, coverage, value formats and count
pub header_long : (b : List ℕ) → 10 ≤ (shape_of b).header
header_long b = ⊎_elim {C = 10 ≤ (shape_of b).header} (λ f. omega arith) (λ f. omega arith) (formats b)

-- items do not go down
pub items_rise : (sh : Shape) (i j : ℕ) → i ≤ j → item_at sh i ≤ item_at sh j
items_rise sh i j h = let k : sh.item * i ≤ sh.item * j = mul-le-mul_left sh.item h in omega arith

-- ---- a shape but for its count

-- the shape with another count
abbrev pub recount : Shape → ℕ → Shape
recount sh n =
    record {
      format = sh.format;
      header = sh.header;
      own = sh.own;
      shared = sh.shared;
      count_at = sh.count_at;
      count = n;
      item = sh.item;
      unit = sh.unit;
      slots = sh.slots;
    }

pub record_same : (b c : List ℕ) → value1 b ≡ value1 c → value2 b ≡ value2 c → record_size b ≡ record_size c
unfolding record_size
record_same b c p q = ap₂ (λ (x y : ℕ). 2 * (field_count x + field_count y)) p q

pub slots_same : (b c : List ℕ) → value1 b ≡ value1 c → value2 b ≡ value2 c → device_slots b ≡ device_slots c
unfolding device_slots
slots_same b c p q = ap₂ (λ (x y : ℕ). map (λ k. 2 * k) (devices x) ++ map (λ k. 2 * (field_count x + k)) (devices y)) p q

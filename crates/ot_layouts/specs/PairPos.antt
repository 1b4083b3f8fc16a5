-- PairPos formats 1 and 2: what stands where in a table and in a pair set. Assumes nothing.
use Rattle.std.specs.Prelude.{ℕ, zero, suc, ◌+◌, ◌-◌, ◌*◌, ◌%◌, Bool, true, cond, ◌&&◌, ◌||◌, List, [], ◌∷◌, ◌++◌, map, length, drop, leb, eqb, Option, None}
use Rattle.folds.specs.Folds.{first_at}
use Rattle.folds.specs.Lists.{among}
use Rattle.ot_layouts.specs.Numbers.{u16_at}
use Rattle.ot_layouts.specs.Values.{field_count, devices}

-- both formats: format at 0, coverage offset at 2, value formats at 4 and 6
abbrev pub format_of : List ℕ → ℕ
format_of b = u16_at b 0

-- the first glyph's value format
abbrev pub value1 : List ℕ → ℕ
value1 b = u16_at b 4

-- the second glyph's value format
abbrev pub value2 : List ℕ → ℕ
value2 b = u16_at b 6

-- format 2: class definitions at 8 and 10, class1Count at 12, class2Count at 14
abbrev pub columns : List ℕ → ℕ
columns b = u16_at b 14

-- the bytes of the two value records of a pair
unfoldable pub record_size : List ℕ → ℕ
record_size b = 2 * (field_count (value1 b) + field_count (value2 b))

-- the device slots of a pair's two value records, from its start
unfoldable pub device_slots : List ℕ → List ℕ
device_slots b = map (λ k. 2 * k) (devices (value1 b)) ++ map (λ k. 2 * (field_count (value1 b) + k)) (devices (value2 b))

-- where a header has the link to the coverage
abbrev pub cover_at : ℕ
cover_at = 2

-- in format 2, to class definition 1
abbrev pub class1_at : ℕ
class1_at = 8

-- and to class definition 2
abbrev pub class2_at : ℕ
class2_at = 10

-- the links of a header to parts that are a table's own: "coverage, class definition 1 (format 2)"
abbrev pub own_in : ℕ → List ℕ
own_in format = cond (eqb format 1) (cover_at ∷ []) (cover_at ∷ class1_at ∷ [])

-- and to those that tables share: "Class definition 2 is shared."
abbrev pub shared_in : ℕ → List ℕ
shared_in format = cond (eqb format 1) [] (class2_at ∷ [])

-- what the two formats share: a header with link slots and a count of items (pair sets, class-1 rows), then the items, each of one size;
-- an item is one or more units, and each unit has link slots at the same places
pub record Shape : Type 0 where
  pub format : ℕ
  pub header : ℕ
  pub own : List ℕ
  pub shared : List ℕ
  pub count_at : ℕ
  pub count : ℕ
  pub item : ℕ
  pub unit : ℕ
  pub slots : List ℕ

-- "10 + 2·sets (format 1)": an item is the offset of a pair set
unfoldable pub shape1 : List ℕ → Shape
shape1 b =
    record {
      format = 1;
      header = 10;
      own = own_in 1;
      shared = shared_in 1;
      count_at = 8;
      count = u16_at b 8;
      item = 2;
      unit = 2;
      slots = 0 ∷ [];
    }

-- "16 + rows·row size (format 2)", "row size = 2·(fields1 + fields2)·class2Count": an item is a row, a unit a pair's two value records
unfoldable pub shape2 : List ℕ → Shape
shape2 b =
    record {
      format = 2;
      header = 16;
      own = own_in 2;
      shared = shared_in 2;
      count_at = 12;
      count = u16_at b 12;
      item = record_size b * columns b;
      unit = record_size b;
      slots = device_slots b;
    }

-- the shape of a table of format 1 or 2
unfoldable pub shape_of : List ℕ → Shape
shape_of b = cond (eqb (format_of b) 1) (shape1 b) (shape2 b)

-- all links of a header, in order
abbrev pub heads : Shape → List ℕ
heads sh = sh.own ++ sh.shared

-- where item i starts, and where the table ends
abbrev pub item_at : Shape → ℕ → ℕ
item_at sh i = sh.header + sh.item * i

-- "not exactly": the length is the one that header and count give (a table shorter than its header is not)
unfoldable pub exact : List ℕ → Bool
exact b = eqb (length b) (item_at (shape_of b) (shape_of b).count)

-- a link may stand at q
unfoldable pub is_slot : Shape → ℕ → Bool
is_slot sh q = among q (heads sh) || leb sh.header q && among ((q - sh.header) % sh.unit) sh.slots

-- "a set is a count, then records of 2 + field bytes; a set under 2 bytes or too short for its count has no pairs"
unfoldable pub set_readable : List ℕ → ℕ → Bool
set_readable b size = leb 2 (length b) && leb (2 + (2 + size) * u16_at b 0) (length b)

-- where the values of record r stand
abbrev pub values_at : ℕ → ℕ → ℕ
values_at size r = 4 + (2 + size) * r

-- "the first record in that set with the second glyph"
unfoldable pub first_record : List ℕ → ℕ → ℕ → Option ℕ
first_record b size g = cond (set_readable b size) (first_at (λ r. eqb (u16_at b (2 + (2 + size) * r)) g) (u16_at b 0)) None

-- "strictly ascending": n records stand at the front of b, the first glyph is no less than `least`, and each is above the one before it
unfoldable pub ascending : ℕ → ℕ → ℕ → List ℕ → Bool
ascending size least zero b = true
ascending size least (suc n) b = leb least (u16_at b 0) && ascending size (u16_at b 0 + 1) n (drop (2 + size) b)

-- "of sorted sets only, strictly ascending, length exactly 2 plus the records": one under 2 bytes never is
unfoldable pub set_sorted : List ℕ → ℕ → Bool
set_sorted b size = eqb (length b) (2 + (2 + size) * u16_at b 0) && ascending size 0 (u16_at b 0) (drop 2 b)

-- all of this file's definitions, for checks that compute
unfoldable pub computes : Unit {0}
unfolding record_size device_slots shape1 shape2 shape_of exact is_slot set_readable first_record ascending set_sorted
computes = tt

-- OpenType's lookup list and lookup: what stands where. Assumes nothing.
use Rattle.std.specs.Prelude.{ℕ, ◌+◌, ◌-◌, ◌*◌, ◌/◌, ◌%◌, Bool, ◌&&◌, List, length, leb, ltb, eqb}
use Rattle.ot_layouts.specs.Numbers.{u16_at}

-- q is one of n slots of two bytes each, of which the first is at a
unfoldable pub is_one_of : ℕ → ℕ → ℕ → Bool
is_one_of a n q = leb a q && ltb q (a + 2 * n) && eqb ((q - a) % 2) 0

-- ---- a lookup list: a count, then the offset of each lookup, linked at 2 + 2i

-- how many lookups it lists
abbrev pub lookup_count : List ℕ → ℕ
lookup_count b = u16_at b 0

-- where its offsets start
abbrev pub list_header : ℕ
list_header = 2

-- "OT's exact length"
unfoldable pub list_exact : List ℕ → Bool
list_exact b = eqb (length b) (list_header + 2 * lookup_count b)

-- a link of the list may stand at q
unfoldable pub is_list_slot : List ℕ → ℕ → Bool
is_list_slot b q = is_one_of list_header (lookup_count b) q

-- ---- a lookup: type, flag, count, then the offset of each subtable, linked at 6 + 2i; and two bytes more where the flag has bit 0010 hex

-- its type
abbrev pub lookup_type : List ℕ → ℕ
lookup_type b = u16_at b 0

-- the type of pair adjustment
abbrev pub pair_type : ℕ
pair_type = 2

-- how many subtables it has, empty slots counted
abbrev pub subtable_count : List ℕ → ℕ
subtable_count b = u16_at b 4

-- where its offsets start
abbrev pub lookup_header : ℕ
lookup_header = 6

-- 1 where the flag has bit 0010 hex, else 0: a mark filtering set stands behind the offsets
unfoldable pub filters : List ℕ → ℕ
filters b = u16_at b 2 / 0x10 % 2

-- "OT's exact length"
unfoldable pub lookup_exact : List ℕ → Bool
lookup_exact b = eqb (length b) (lookup_header + 2 * subtable_count b + 2 * filters b)

-- a link of the lookup may stand at q; where a mark filtering set stands is no slot
unfoldable pub is_subtable_slot : List ℕ → ℕ → Bool
is_subtable_slot b q = is_one_of lookup_header (subtable_count b) q

-- all of this file's definitions, for checks that compute
unfoldable pub computes : Unit {0}
unfolding is_one_of list_exact is_list_slot filters lookup_exact is_subtable_slot
computes = tt

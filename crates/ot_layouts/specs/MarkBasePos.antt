-- MarkBasePos format 1: what stands where in a table, in its mark array and in its base array. Assumes nothing.
use Rattle.std.specs.Prelude.{ℕ, ◌+◌, ◌-◌, ◌*◌, ◌/◌, ◌%◌, Bool, ◌&&◌, List, [], ◌∷◌, length, leb, ltb, eqb}
use Rattle.folds.specs.Folds.{all}
use Rattle.folds.specs.Lists.{among}
use Rattle.ot_layouts.specs.Numbers.{u16_at}

-- ---- the table: six numbers

-- the format, at 0
abbrev pub format_of : List ℕ → ℕ
format_of b = u16_at b 0

-- where a table has the link to the mark coverage
abbrev pub cover_at : ℕ
cover_at = 2

-- to the base coverage
abbrev pub base_cover_at : ℕ
base_cover_at = 4

-- where it has the number of its mark classes
abbrev pub class_count_at : ℕ
class_count_at = 6

-- where it has the link to the mark array
abbrev pub mark_array_at : ℕ
mark_array_at = 8

-- and to the base array
abbrev pub base_array_at : ℕ
base_array_at = 10

-- how many mark classes it has
abbrev pub class_count : List ℕ → ℕ
class_count b = u16_at b class_count_at

-- "3 is length not 12"
abbrev pub table_size : ℕ
table_size = 12

-- the links to parts that are a table's own, in the order of these: "table, coverage, mark array, base array"
abbrev pub own : List ℕ
own = cover_at ∷ mark_array_at ∷ base_array_at ∷ []

-- all links of a table, in order; tables share the base coverage
abbrev pub heads : List ℕ
heads = cover_at ∷ base_cover_at ∷ mark_array_at ∷ base_array_at ∷ []

-- a link of the table may stand at q
unfoldable pub is_table_slot : ℕ → Bool
is_table_slot q = among q heads

-- ---- the mark array: a count, then for each mark a class and the offset of its anchor

-- how many marks it has
abbrev pub mark_count : List ℕ → ℕ
mark_count b = u16_at b 0

-- the class of mark i
abbrev pub mark_class : List ℕ → ℕ → ℕ
mark_class b i = u16_at b (2 + 4 * i)

-- where the offset of its anchor stands
abbrev pub mark_slot : ℕ → ℕ
mark_slot i = 4 + 4 * i

-- a link of the array may stand at q; soundness has seen that it lies within
unfoldable pub is_mark_slot : ℕ → Bool
is_mark_slot q = leb 4 q && eqb (q % 4) 0

-- the class of the mark whose slot is at q: it stands right before
abbrev pub class_before : List ℕ → ℕ → ℕ
class_before b q = u16_at b (q - 2)

-- "lengths exactly 2 + 4·marks, .. and a mark class at or above the class count" do not refuse it
unfoldable pub marks_readable : ℕ → List ℕ → Bool
marks_readable classes b = eqb (length b) (2 + 4 * mark_count b) && all (λ i. ltb (mark_class b i) classes) (mark_count b)

-- ---- the base array: a count, then for each base the offset of an anchor a class

-- how many bases it has
abbrev pub base_count : List ℕ → ℕ
base_count b = u16_at b 0

-- where slot k stands, counted over all bases and their classes: base j has its slot for class c of n at k = j·n + c
abbrev pub base_slot : ℕ → ℕ
base_slot k = 2 + 2 * k

-- a link of the array may stand at q; soundness has seen that it lies within
unfoldable pub is_base_slot : ℕ → Bool
is_base_slot q = leb 2 q && eqb (q % 2) 0

-- the class of the slot at q
abbrev pub column_at : ℕ → ℕ → ℕ
column_at classes q = (q - 2) / 2 % classes

-- "lengths exactly .. 2 + 2·bases·classes"
unfoldable pub bases_readable : ℕ → List ℕ → Bool
bases_readable classes b = eqb (length b) (2 + 2 * (base_count b * classes))

-- all of this file's definitions, for checks that compute
unfoldable pub computes : Unit {0}
unfolding is_table_slot is_mark_slot marks_readable is_base_slot bases_readable
computes = tt

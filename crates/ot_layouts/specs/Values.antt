-- Value formats: "each of the low eight bits is a two-byte field, lowest first". Assumes nothing.
use Rattle.std.specs.Prelude.{ℕ, ◌/◌, ◌%◌, Bool, true, false, cond, ◌&&◌, List, [], ◌∷◌, get_or, eqb}
use Rattle.folds.specs.Folds.{sum, flat}
use Rattle.ot_layouts.specs.declared.Field.{Field}

-- a row of the table: mask, device or plain, and the field's name, its place in a pair answer
abbrev pub field : ℕ → Bool → ℕ → Field
field m d i = record { mask = m; device = d; name = i }

-- "A fixed table of the eight bits says which field each one is": "X placement, Y placement, X advance, Y advance, then their four devices (10, 20, 40, 80 hex)"
unfoldable pub fields : List Field
fields =
    field 0x01 false 0 ∷ field 0x02 false 1 ∷ field 0x04 false 2 ∷ field 0x08 false 3
    ∷ field 0x10 true 4 ∷ field 0x20 true 5 ∷ field 0x40 true 6 ∷ field 0x80 true 7 ∷ []

-- row j of the table
abbrev pub field_at : ℕ → Field
field_at j = get_or fields j (field 1 false 8)

-- 1 where the format has field j, else 0; "Higher bits are ignored": no row names one
unfoldable pub bit : ℕ → ℕ → ℕ
bit vf j = vf / (field_at j).mask % 2

-- "A format's field count is the number of its ones among the low eight."
unfoldable pub field_count : ℕ → ℕ
field_count vf = sum (bit vf) 8

-- a field's position: the fields of the format before it
unfoldable pub position : ℕ → ℕ → ℕ
position vf j = sum (bit vf) j

-- the positions of the format's device fields
unfoldable pub devices : ℕ → List ℕ
devices vf = flat (λ j. cond (eqb (bit vf j) 1 && (field_at j).device) (position vf j ∷ []) []) 8

-- all of this file's definitions, for checks that compute
unfoldable pub computes : Unit {0}
unfolding fields bit field_count position devices
computes = tt

-- "Pair reading": where the values of a pair stand, and the eight numbers of each. Assumes nothing.
use Rattle.std.specs.Prelude.{ℕ, ◌+◌, ◌*◌, Bool, true, false, cond, ◌&&◌, List, [], ◌∷◌, replicate, ℤ, pos, ltb, eqb, Option, Some, None}
use Rattle.folds.specs.Folds.{upto}
use Rattle.folds.specs.Lists.{given, and_then}
use Rattle.ot_layouts.specs.Numbers.{u16_at, signed16}
use Rattle.ot_layouts.specs.Values.{bit, field_at, field_count, position}
use Rattle.ot_layouts.specs.Coverage.{cover_place}
use Rattle.ot_layouts.specs.ClassDef.{class_of}
use Rattle.ot_layouts.specs.PairPos.{cover_at, class1_at, class2_at, value1, value2, columns, record_size, item_at, values_at, first_record}
use Rattle.store_rules.specs.Store.{Store, bytes_of, child_at, linked_bytes}
use Rattle.pair_rules.specs.Table.{shape}

-- where a pair's values stand: in which object, and from which byte on
pub record Spot : Type 0 where
  pub object : ℕ
  pub at : ℕ

-- "the first glyph's place k in the coverage; if k is below the set count and slot 10+2k has a link, the first record in that set with the second glyph"
unfoldable pub spot1 : Store → ℕ → ℕ → ℕ → Option Spot
spot1 s t a b =
    and_then (cover_place (linked_bytes s t cover_at) a) λ k.
    and_then (given (ltb k (shape s t).count) (item_at (shape s t) k)) λ q.
    and_then (child_at s t q) λ c.
    and_then (first_record (bytes_of s c) (record_size (bytes_of s t)) b) λ r.
    Some (record { object = c; at = values_at (record_size (bytes_of s t)) r })

-- "first glyph covered, both classes below their counts, then the record at row·class2Count + column"
unfoldable pub spot2 : Store → ℕ → ℕ → ℕ → Option Spot
spot2 s t a b =
    let c1 = class_of (linked_bytes s t class1_at) a in
    let c2 = class_of (linked_bytes s t class2_at) b in
    and_then (cover_place (linked_bytes s t cover_at) a) λ k.
    given (ltb c1 (shape s t).count && ltb c2 (columns (bytes_of s t)))
    (record { object = t; at = (shape s t).header + record_size (bytes_of s t) * (c1 * columns (bytes_of s t) + c2) })

-- in either format
unfoldable pub spot_of : Store → ℕ → ℕ → ℕ → Option Spot
spot_of s t a b = cond (eqb (shape s t).format 1) (spot1 s t a b) (spot2 s t a b)

-- "for a device the linked object's number plus one, or 0"
abbrev pub device_number : Option ℕ → ℤ
device_number (Some c) = pos (c + 1)
device_number None = pos 0

-- field j of a value record of format vf at q of object o: "signed 16-bit field values .. Absent fields are 0; the raw bytes of a device field are never read."
unfoldable pub number_of : Store → ℕ → ℕ → ℕ → ℕ → ℤ
number_of s o q vf j =
    cond (eqb (bit vf j) 0) (pos 0)
    (cond (field_at j).device (device_number (child_at s o (q + 2 * position vf j))) (signed16 (u16_at (bytes_of s o) (q + 2 * position vf j))))

-- "The answer holds eight numbers for the first glyph and eight for the second"
pub record Pair : Type 0 where
  pub found : Bool
  pub first : List ℤ
  pub second : List ℤ

-- "no pair and sixteen zeros"
unfoldable pub no_pair : Pair
no_pair = record { found = false; first = replicate 8 (pos 0); second = replicate 8 (pos 0) }

-- the two value records from that byte on, the second behind the first
unfoldable pub pair_at : Store → ℕ → Option Spot → Pair
pair_at s t None = no_pair
pair_at s t (Some p) =
    record {
      found = true;
      first = upto (number_of s p.object p.at (value1 (bytes_of s t))) 8;
      second = upto (number_of s p.object (p.at + 2 * field_count (value1 (bytes_of s t))) (value2 (bytes_of s t))) 8;
    }

-- the pair of glyphs a and b by a readable table t
unfoldable pub pair_of : Store → ℕ → ℕ → ℕ → Pair
pair_of s t a b = pair_at s t (spot_of s t a b)

-- "reading the kept table and then the new ones in order": the first of the tables with a pair decides
unfoldable pub pair_among : Store → List ℕ → ℕ → ℕ → Pair
pair_among s [] a b = no_pair
pair_among s (u ∷ us) a b = cond (pair_of s u a b).found (pair_of s u a b) (pair_among s us a b)

-- all of this file's definitions, for checks that compute
unfoldable pub computes : Unit {0}
unfolding spot1 spot2 spot_of number_of no_pair pair_at pair_of pair_among
computes = tt

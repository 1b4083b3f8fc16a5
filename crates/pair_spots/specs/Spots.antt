-- Where a pair's values stand, by what the code holds of a table. Assumes nothing.
use Rattle.std.specs.Prelude.{ℕ, ◌+◌, ◌*◌, ◌<◌, ◌≡◌, true, ◌&&◌, ltb, Option, Some, None}
use Rattle.folds.specs.Lists.{given, and_then}
use Rattle.ot_layouts.specs.Values.{field_count}
use Rattle.ot_layouts.specs.ClassDef.{class_of}
use Rattle.ot_layouts.specs.PairPos.{first_record, values_at, set_sorted}
use Rattle.ot_pairpos.specs.declared.Layout.{Layout}
use Rattle.store_rules.specs.Store.{Store, bytes_of, child_at}
use Rattle.pair_rules.specs.Pairs as Pairs
use Rattle.pair_checks.specs.declared.PairTable.{PairTable}
use Rattle.pair_spots.specs.declared.Spot.{Spot}

-- where a pair's values were found, if anywhere
abbrev pub spot_found : Option Spot → Option Pairs.Spot
spot_found (Some q) = Some (record { object = q.object; at = q.at })
spot_found None = None

-- the bytes of a pair's two value records
abbrev pub field_bytes : Layout → ℕ
field_bytes l = 2 * (field_count l.value1 + field_count l.value2)

-- where slot k leads to a pair set, that set is sorted
abbrev pub SlotSorted : Store → ℕ → Layout → ℕ → Type 0
SlotSorted s t l k = (c : ℕ) → k < l.count → child_at s t (10 + 2 * k) ≡ Some c → set_sorted (bytes_of s c) (field_bytes l) ≡ true

-- "the first record in that set with the second glyph"
unfoldable pub in_set : Store → ℕ → ℕ → ℕ → Option Pairs.Spot
in_set s size b c = and_then (first_record (bytes_of s c) size b) λ r. Some (record { object = c; at = values_at size r })

-- "if k is below the set count and slot 10+2k has a link"
unfoldable pub by_set : Store → ℕ → Layout → ℕ → ℕ → Option Pairs.Spot
by_set s t l b k =
    and_then (given (ltb k l.count) (10 + 2 * k)) λ q.
    and_then (child_at s t q) (in_set s (field_bytes l) b)

-- "both classes below their counts, then the record at row·class2Count + column"
unfoldable pub by_classes : Store → ℕ → PairTable → ℕ → ℕ → Option Pairs.Spot
by_classes s t p a b =
    let c1 = class_of (bytes_of s p.class1.object) a in
    let c2 = class_of (bytes_of s p.class2.object) b in
    given (ltb c1 p.layout.count && ltb c2 p.layout.columns)
    (record { object = t; at = 16 + p.layout.unit * (c1 * p.layout.columns + c2) })

-- New lookups written from their old ones, behind all that is in use. Assumes nothing.
use Rattle.std.specs.Prelude.{ℕ, ◌+◌, ◌*◌, ◌≤◌, ◌≡◌, true, List, [], ◌∷◌, length}
use Rattle.folds.specs.Lists.{part}
use Rattle.ot_layouts.specs.Lookup.{subtable_count, lookup_header}
use Rattle.store_rules.specs.Store.{Store, sound}
use Rattle.store_object_rows.specs.Objects.{ObjectsRoom}
use Rattle.lookup_rules.specs.Written.{new_lookup, new_lookups, counts_fit}
use Rattle.lookup_rules.specs.Rewritable.{EachRewritable}
use Rattle.lookup_new_objects.specs.Counted.{count_with, lookup_with, Sizing}

-- the bytes of a new lookup of n subtables can be written from `at` on: its old one, which stands from head up to tail, lies below and holds its slots
pub record LookupCopyReady (d : List ℕ) (head tail n at : ℕ) : Type 0 where
  pub long : head + (lookup_header + 2 * subtable_count (part d head tail)) ≤ tail
  pub apart : tail ≤ at
  pub room : at + length (new_lookup (part d head tail) n) ≤ length d

-- the new lookup for p can be written from byte `at` and row `row` on, where k new tables are entered behind each listing of t
pub record NewLookupReady (s : Store) (t k p at row : ℕ) : Type 0 where
  pub sizing : Sizing s k p
  pub count_fits : count_with s t k p ≤ 65535
  pub apart : s.byte_count ≤ at
  pub room : ObjectsRoom s.bytes s.objects at row (lookup_with s t k p ∷ [])

-- those for the lookups ps can be, and these are k new tables: 10 does not apply, and there is room
pub record WritingLookups (s : Store) (t k : ℕ) (ps : List ℕ) : Type 0 where
  pub sound_is : sound s ≡ true
  pub lookups : EachRewritable s ps
  pub few : k ≤ 65536
  pub tables : List ℕ
  pub many : length tables ≡ k
  pub counts_fit_lem : counts_fit s t tables ps ≡ true
  pub room : ObjectsRoom s.bytes s.objects s.byte_count s.object_count (new_lookups s t tables ps)

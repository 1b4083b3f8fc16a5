-- The classes below some class in tables, as the code accounts for it and as the cut rule does. Assumes nothing.
use Rattle.std.specs.Prelude.{ℕ, ◌+◌, ◌*◌, ◌≤◌, ◌<◌, ◌≡◌, true, cond, List, leb, length}
use Rattle.folds.specs.Folds.{sum}
use Rattle.ot_layouts.specs.MarkBasePos.{base_cover_at}
use Rattle.store_rules.specs.Store.{Store, lent, size_of, linked_at}
use Rattle.store_rules.specs.Reach.{rows_of}
use Rattle.store_walk.specs.Marks.{no_row, Marks}
use Rattle.glyph_class_parts.specs.ClassParts.{start_of, OrderedByClass}
use Rattle.cut_rules.specs.Cuts.{Cutting, after}
use Rattle.cut_filling.specs.Filling.{Placed, Filled}
use Rattle.call_rules.specs.declared.Settings.{Settings}
use Rattle.mark_rules.specs.Table.{classes_of, mark_array, base_array, bases_in, marks_of_class, all_at_slots, of_classes, rule_of, cut_places}
use Rattle.mark_rules.specs.Reads.{Reads}
use Rattle.mark_order.specs.Marks.{mark_places}
use Rattle.mark_points.specs.declared.table_info.TableInfo.{TableInfo}
use Rattle.mark_points.specs.declared.Columns.{Columns}

-- the numbers are those of table t, whose links and those of its arrays stand at slots, and the places are its marks', by class
pub record Described (s : Store) (t : ℕ) (x : TableInfo) (ps cs : List ℕ) : Type 0 where
  pub reads : Reads s t
  pub slots : all_at_slots s t ≡ true
  pub marks_at : x.arrays.mark_array ≡ mark_array s t
  pub bases_at : x.arrays.base_array ≡ base_array s t
  pub classes : x.arrays.classes ≡ classes_of s t
  pub bases : x.arrays.bases ≡ bases_in s t
  pub start : x.start ≡ 16 + size_of s (linked_at s t base_cover_at)
  pub ordered : OrderedByClass (mark_places s t) ps cs
  -- an epoch for each table that may come
  pub epochs : x.epoch + x.arrays.classes < 2147483648

-- what a caller has seen before it asks for the cut places: nothing has the epoch's mark, and there is an entry for each cut
pub record PointsReady (s : Store) (t : ℕ) (x : TableInfo) (ps cs w l : List ℕ) : Type 0 where
  pub described : Described s t x ps cs
  pub marks : Marks s no_row x.epoch w
  pub room : classes_of s t ≤ length l

-- where the cut rule stands once the classes below i have been weighed
abbrev pub cutting_at : Settings → Store → ℕ → ℕ → Cutting
cutting_at how s t i = after (rule_of how s t) i

-- the classes below i have been weighed; what those reach from which objects count as seen has the epoch's mark, the next class's marks are at hand, and
-- the coverage has the marks of those in the table that is being filled
pub record Below (how : Settings) (s : Store) (t : ℕ) (x : TableInfo) (ps cs d : List ℕ) (i : ℕ) (p : Columns) (w l : List ℕ) : Type 0 where
  pub described : Described s t x ps cs
  pub filled : Filled (rule_of how s t) d i p.filling l
  pub order : (cutting_at how s t i).seen ≤ i
  pub marks : Marks s (rows_of s (of_classes s t) (cutting_at how s t i).seen i) (x.epoch + p.filling.cuts) w
  pub from : p.from ≡ start_of (mark_places s t) i
  pub coverage : p.partial ≡ 4 + 2 * sum (λ k. cond (leb (cutting_at how s t i).first k) (marks_of_class s t k) 0) i

-- class i was weighed, whatever the bytes of the store and the table
abbrev pub Weighs : Settings → List ℕ → List ℕ → List ℕ → TableInfo → List ℕ → List ℕ → ℕ → Columns → List ℕ → List ℕ → Columns → List ℕ → List ℕ → Type 0
Weighs how o l c x ps cs i p w cuts p' w' cuts' =
    (b : List ℕ) (t : ℕ) (d : List ℕ) → Below how (lent b o l c) t x ps cs d i p w cuts → Below how (lent b o l c) t x ps cs d (i + 1) p' w' cuts'

-- all classes were weighed
abbrev pub FindsPlaces : Settings → List ℕ → List ℕ → List ℕ → TableInfo → List ℕ → List ℕ → List ℕ → List ℕ → List ℕ → ℕ → Type 0
FindsPlaces how o l c x ps cs w cuts cuts' r =
    (b : List ℕ) (t : ℕ) → PointsReady (lent b o l c) t x ps cs w cuts → Placed (cut_places how (lent b o l c) t) cuts cuts' r

-- Writing the new tables one behind another, and all new objects of a split. Assumes nothing.
use Prim.Native.Nat.{ℕ, ◌+◌, ◌*◌, ◌<◌, ◌≤◌}
use mathlib.Core.Path.{◌≡◌, refl, sym, subst, ap, ap₂, ◌∙◌}
use mathlib.Core.List.{List, ◌∷◌, ◌++◌}
use native.Mathlib.Omega.{arith}
use lib.ListN.{length, get_or}
use Rattle.folds.specs.Lists.{part}
use Rattle.folds.proofs.FromTheFront.{length_even}
use Rattle.cut_rules.specs.Ranges.{from}
use Rattle.cut_parts.specs.Tables.{high_at, PartEnd, Halved}
use Rattle.cut_parts.proofs.TableParts.{kept_half, new_half}
use Rattle.store_object_rows.specs.Objects.{ObjectsRoom, Written}
use Rattle.store_object_rows.proofs.Writing.{room_first, room_rest, written_more}
use Rattle.store_object_rows.proofs.Rounds.{Rounds, rounds_start, rounds_stop, next_room, row_fits, rounds_turn}
use Rattle.mark_rules.specs.Written.{new_table, new_parts, new_objects}
use Rattle.mark_new_objects.specs.Planned.{RangeMarks, PlannedParts}
use Rattle.mark_new_objects.specs.Objects.{parts_of, table_objects, tables_of, objects_of}
use Rattle.mark_new_objects.proofs.Planning.{kept_parts_lem, kept_marked, table_parts, table_marked}

-- the objects of a new table
objects_many : (gs ks : List ℕ) (bases n : ℕ) (cs : List ℕ) (j : ℕ) → length (table_objects gs ks bases n cs j) ≡ 4
unfolding new_parts
objects_many gs ks bases n cs j = refl

-- the objects of the first j new tables are written, and the glyphs of the next one start at `start`
pub record Tables (d o gs ks cs : List ℕ) (n bases bytes count : ℕ) (d' o' : List ℕ) (start at row j : ℕ) : Type 0 where
  pub known : PlannedParts gs ks cs n
  pub halved : Halved ks (high_at n cs j) start
  pub rounds : Rounds d o bytes count (table_objects gs ks bases n cs) (length cs) 4 d' o' at row j

module _ (d o gs ks cs : List ℕ) (n bases bytes count : ℕ) where
  abbrev objects : ℕ → List (List ℕ)
  objects = table_objects gs ks bases n cs

  pub tables_start : (start : ℕ) → PlannedParts gs ks cs n → PartEnd ks 0 (from cs 0) start → ObjectsRoom d o bytes count (tables_of gs ks bases n cs)
      → Tables d o gs ks cs n bases bytes count d o start bytes count 0
  tables_start start p e room =
      record {
        known = p;
        halved = kept_half gs ks cs n p.parts start e;
        rounds = rounds_start d o bytes count objects (length cs) 4 room (objects_many gs ks bases n cs);
      }

  module _ (d' o' : List ℕ) (start at row j : ℕ) (t : Tables d o gs ks cs n bases bytes count d' o' start at row j) where
    pub tables_stop : length cs ≤ j → Written d o bytes count (tables_of gs ks bases n cs) d' o' at
    tables_stop h = rounds_stop d o bytes count objects (length cs) 4 d' o' at row j t.rounds h

    module _ (h : j < length cs) where
      pub row_small : row + 4 ≤ length o
      row_small = row_fits d o bytes count objects (length cs) 4 d' o' at row j t.rounds h

      module _ (lo hi end : ℕ) (a : lo ≡ from cs j) (b : hi ≡ get_or cs (j + 1) n) (e : PartEnd ks start hi end) where
        e' : PartEnd ks start (get_or cs (j + 1) n) end
        e' = subst (λ (m : ℕ). PartEnd ks start m end) b e

        -- what the table's part of the marks gives
        abbrev these : List (List ℕ)
        these = new_table lo hi ∷ parts_of (part gs start end) (part ks start end) bases lo hi

        objects_are : objects j ≡ these
        objects_are =
            ap (λ (y : List (List ℕ)). new_table (from cs j) (get_or cs (j + 1) n) ∷ y) (table_parts gs ks cs n t.known j start end h t.halved e' bases)
            ∙ ap₂ (λ (k m : ℕ). new_table k m ∷ parts_of (part gs start end) (part ks start end) bases k m) (sym a) (sym b)

        pub turn_marked : RangeMarks (part gs start end) (part ks start end) lo hi
        turn_marked =
            subst (λ (m : ℕ). RangeMarks (part gs start end) (part ks start end) m hi) (sym a)
            (subst (λ (m : ℕ). RangeMarks (part gs start end) (part ks start end) (from cs j) m) (sym b)
            (table_marked gs ks cs n t.known j start end h t.halved e'))

        pub turn_room : ObjectsRoom d' o' at row these
        turn_room =
            subst (λ (new : List (List ℕ)). ObjectsRoom d' o' at row new) objects_are
            (next_room d o bytes count objects (length cs) 4 d' o' at row j t.rounds h)

        pub tables_turn : (d'' o'' : List ℕ) (r : ℕ) → Written d' o' at row these d'' o'' r
            → Tables d o gs ks cs n bases bytes count d'' o'' end r (row + 4) (j + 1)
        tables_turn d'' o'' r w =
            record {
              known = t.known;
              halved = new_half gs ks cs n t.known.parts j start end h t.halved e';
              rounds =
                  rounds_turn d o bytes count objects (length cs) 4 d' o' at row j t.rounds h d'' o'' r
                  (subst (λ (new : List (List ℕ)). Written d' o' at row new d'' o'' r) (sym objects_are) w);
            }

-- ---- all new objects

module _ (d o gs ks cs : List ℕ) (n bases bytes count first : ℕ) (p : PlannedParts gs ks cs n) (e : PartEnd ks 0 (from cs 0) first)
    (room : ObjectsRoom d o bytes count (objects_of gs ks bases n cs)) where
  abbrev tables : List (List ℕ)
  tables = tables_of gs ks bases n cs

  -- the kept table's parts
  abbrev parts : List (List ℕ)
  parts = parts_of (part gs 0 first) (part ks 0 first) bases 0 (from cs 0)

  all-objects : objects_of gs ks bases n cs ≡ tables ++ parts
  unfolding new_objects
  all-objects = ap (λ (y : List (List ℕ)). tables ++ y) (kept_parts_lem gs ks cs n p first e bases)

  whole : ObjectsRoom d o bytes count (tables ++ parts)
  whole = subst (λ (new : List (List ℕ)). ObjectsRoom d o bytes count new) all-objects room

  pub tables_room : ObjectsRoom d o bytes count tables
  tables_room = room_first tables parts whole

  tables_many : length tables ≡ 4 * length cs
  tables_many = length_even (table_objects gs ks bases n cs) 4 (objects_many gs ks bases n cs) (length cs)

  pub tables_small : count + 4 * length cs ≤ length o
  tables_small = let m = tables_room.rows in omega (arith, tables_many)

  pub first_marked : RangeMarks (part gs 0 first) (part ks 0 first) 0 (from cs 0)
  first_marked = kept_marked gs ks cs n p first e

  module _ (d' o' : List ℕ) (at : ℕ) (w : Written d o bytes count tables d' o' at) where
    row_is : count + length tables ≡ count + 4 * length cs
    row_is = omega (arith, tables_many)

    pub last_room : ObjectsRoom d' o' at (count + 4 * length cs) parts
    last_room = subst (λ (k : ℕ). ObjectsRoom d' o' at k parts) row_is (room_rest tables parts whole w)

    pub all_done : (d'' o'' : List ℕ) (r : ℕ) → Written d' o' at (count + 4 * length cs) parts d'' o'' r
        → Written d o bytes count (objects_of gs ks bases n cs) d'' o'' r
    all_done d'' o'' r v =
        subst (λ (new : List (List ℕ)). Written d o bytes count new d'' o'' r) (sym all-objects)
        (written_more tables parts whole w (subst (λ (k : ℕ). Written d' o' at k parts d'' o'' r) (sym row_is) v))

-- Writing the new tables one behind another, and all new objects of a split. Assumes nothing.
use Prim.Native.Nat.{ℕ, ◌+◌, ◌*◌, ◌<◌, ◌≤◌}
use mathlib.Core.Path.{◌≡◌, sym, subst, ap, ap₂, ◌∙◌}
use mathlib.Core.List.{List, ◌∷◌, ◌++◌}
use native.Mathlib.Omega.{arith}
use lib.ListN.{length, get_or}
use Rattle.folds.specs.Folds.{flat}
use Rattle.folds.specs.Lists.{part}
use Rattle.folds.proofs.FromTheFront.{flat-same, length_even}
use Rattle.ot_layouts.specs.Coverage.{Entry}
use Rattle.ot_layouts.specs.PairPos.{shape_of}
use Rattle.glyph_rules.specs.Entries.{within}
use Rattle.cut_rules.specs.Ranges.{from, to}
use Rattle.pair_rules.specs.Written.{new_table, new_parts, new_objects}
use Rattle.ot_pairpos.specs.declared.Layout.{Layout}
use Rattle.cut_parts.specs.Tables.{paired, high_at, PartEnd, Halved}
use Rattle.cut_parts.proofs.TableParts.{same_part, kept_half, kept_entries, new_rises, new_inside, new_half, new_entries, new_same}
use Rattle.store_object_rows.specs.Objects.{ObjectsRoom, Written}
use Rattle.store_object_rows.proofs.Writing.{room_first, room_rest, written_more}
use Rattle.store_object_rows.proofs.Rounds.{Rounds, rounds_start, rounds_stop, written_room, next_room, row_fits, rounds_turn}
use Rattle.pair_new_objects.specs.Planned.{Beside, PlannedParts}
use Rattle.pair_new_objects.specs.Objects.{parts_of, old_table, Old, table_of, table_objects, tables_of, objects_of}
use Rattle.pair_new_objects.proofs.Beside.{parts_same, parts_many}
use Rattle.ot_pairpos.specs.Layout.{Numbered}
use Rattle.ot_pairpos.proofs.Layouts.{layout_numbered, few_heads}
use Rattle.pair_new_objects.proofs.Planning.{kept_beside, new_beside}
use Rattle.pair_new_objects.proofs.OldTable.{old_kept, old_after}
use Rattle.pair_new_objects.proofs.Tables.{shaped}

module _ (d : List ℕ) (head : ℕ) (l : Layout) (at : ℕ) (old : Old d head l at) where
  numbered : Numbered l
  numbered = subst Numbered (sym old.layout_is) (layout_numbered (old_table d head l))

  pub own_few : l.own ≤ 2
  own_few = (few_heads l numbered).0

  -- the objects of a new table
  pub objects_many : (es : List Entry) (cs : List ℕ) (j : ℕ) → length (table_objects d head l es cs j) ≡ l.own + 1
  objects_many es cs j = omega (arith, numbered.own_is, parts_many l.format (within (from cs j) (get_or cs (j + 1) l.count) es) (from cs j))

-- the objects of the first j new tables are written, and the glyphs of the next one start at `start`
pub record Tables (d o gs ks cs : List ℕ) (l : Layout) (head bytes count : ℕ) (d' o' : List ℕ) (start at row j : ℕ) : Type 0 where
  pub known : PlannedParts gs ks cs l
  pub old : Old d head l bytes
  pub halved : Halved ks (high_at l.count cs j) start
  pub rounds : Rounds d o bytes count (table_objects d head l (paired gs ks) cs) (length cs) (l.own + 1) d' o' at row j

module _ (d o gs ks cs : List ℕ) (l : Layout) (head bytes count : ℕ) where
  abbrev objects : ℕ → List (List ℕ)
  objects j = table_objects d head l (paired gs ks) cs j

  pub tables_start : (start : ℕ) → PlannedParts gs ks cs l → PartEnd ks 0 (from cs 0) start → Old d head l bytes
      → ObjectsRoom d o bytes count (tables_of d head l (paired gs ks) cs)
      → Tables d o gs ks cs l head bytes count d o start bytes count 0
  tables_start start p e old room =
      record {
        known = p;
        old = old;
        halved = kept_half gs ks cs l.count p.parts start e;
        rounds = rounds_start d o bytes count objects (length cs) (l.own + 1) room (objects_many d head l bytes old (paired gs ks) cs);
      }

  module _ (d' o' : List ℕ) (start at row j : ℕ) (t : Tables d o gs ks cs l head bytes count d' o' start at row j) where
    pub tables_stop : length cs ≤ j → Written d o bytes count (tables_of d head l (paired gs ks) cs) d' o' at
    tables_stop h = rounds_stop d o bytes count objects (length cs) (l.own + 1) d' o' at row j t.rounds h

    module _ (h : j < length cs) where
      so_far : ObjectsRoom d o bytes count (flat objects j)
      so_far = written_room d o bytes count objects (length cs) (l.own + 1) d' o' at row j t.rounds h

      pub row_small : row + (l.own + 1) ≤ length o
      row_small = row_fits d o bytes count objects (length cs) (l.own + 1) d' o' at row j t.rounds h

      pub old_now : Old d' head l at
      old_now = old_after t.old so_far t.rounds.written

      module _ (lo hi end : ℕ) (a : lo ≡ from cs j) (b : hi ≡ get_or cs (j + 1) l.count) (e : PartEnd ks start hi end) where
        e' : PartEnd ks start (get_or cs (j + 1) l.count) end
        e' = subst (λ (n : ℕ). PartEnd ks start n end) b e

        -- what the table's part of the glyphs gives
        objects_are : objects j ≡ table_of d' head l lo hi ∷ parts_of l.format (paired (part gs start end) (part ks start end)) lo
        objects_are =
            ap₂ (λ (x : List ℕ) (y : List (List ℕ)). x ∷ y)
            (ap (λ (x : List ℕ). new_table (shape_of x) x (from cs j) (get_or cs (j + 1) l.count)) (sym (old_kept t.old so_far t.rounds.written))
            ∙ ap₂ (λ (m n : ℕ). table_of d' head l m n) (sym a) (sym b))
            (ap (λ (es : List Entry). parts_of l.format es (from cs j)) (new_entries gs ks cs l.count t.known.parts j start end h t.halved e')
            ∙ ap (parts_of l.format (paired (part gs start end) (part ks start end))) (sym a))

        pub turn_same : length (part ks start end) ≡ length (part gs start end)
        turn_same = new_same gs ks cs l.count t.known.parts j start end h t.halved e'

        pub turn_beside : Beside l.format lo (paired (part gs start end) (part ks start end))
        turn_beside =
            subst (λ (n : ℕ). Beside l.format n (paired (part gs start end) (part ks start end))) (sym a)
            (new_beside gs ks cs l t.known j start end h t.halved e')

        pub turn_items : (lo ≤ hi) × (hi ≤ l.count)
        turn_items =
            let p = t.known.parts in
            (omega (arith, new_rises gs ks cs l.count p j start end h t.halved e'), omega (arith, new_inside gs ks cs l.count p j start end h t.halved e'))

        pub turn_room : ObjectsRoom d' o' at row (table_of d' head l lo hi ∷ parts_of l.format (paired (part gs start end) (part ks start end)) lo)
        turn_room =
            subst (λ (new : List (List ℕ)). ObjectsRoom d' o' at row new) objects_are
            (next_room d o bytes count objects (length cs) (l.own + 1) d' o' at row j t.rounds h)

        pub tables_turn : (d'' o'' : List ℕ) (r : ℕ)
            → Written d' o' at row (table_of d' head l lo hi ∷ parts_of l.format (paired (part gs start end) (part ks start end)) lo) d'' o'' r
            → Tables d o gs ks cs l head bytes count d'' o'' end r (row + (l.own + 1)) (j + 1)
        tables_turn d'' o'' r w =
            record {
              known = t.known;
              old = t.old;
              halved = new_half gs ks cs l.count t.known.parts j start end h t.halved e';
              rounds =
                  rounds_turn d o bytes count objects (length cs) (l.own + 1) d' o' at row j t.rounds h d'' o'' r
                  (subst (λ (new : List (List ℕ)). Written d' o' at row new d'' o'' r) (sym objects_are) w);
            }

-- ---- all new objects

module _ (d o gs ks cs : List ℕ) (l : Layout) (head bytes count first : ℕ) (p : PlannedParts gs ks cs l) (old : Old d head l bytes)
    (e : PartEnd ks 0 (from cs 0) first)
    (room : ObjectsRoom d o bytes count (objects_of d head l (paired gs ks) cs)) where
  abbrev tables : List (List ℕ)
  tables = tables_of d head l (paired gs ks) cs

  -- the kept table's parts
  abbrev parts : List (List ℕ)
  parts = parts_of l.format (paired (part gs 0 first) (part ks 0 first)) 0

  all-objects : objects_of d head l (paired gs ks) cs ≡ tables ++ parts
  unfolding new_objects
  all-objects =
      let b = old_table d head l in
      let sh = shape_of b in
      let es = paired gs ks in
      let s = shaped b l old.layout_is in
      ap₂ (λ (x y : List (List ℕ)). x ++ y)
      (flat-same (λ j. new_table sh b (from cs j) (to sh.count cs j) ∷ new_parts sh es (from cs j) (to sh.count cs j)) (table_objects d head l es cs)
      (length cs)
      (λ j m.
      ap (λ (y : List (List ℕ)). new_table sh b (from cs j) (to sh.count cs j) ∷ y) (parts_same b es (from cs j) (to sh.count cs j))
      ∙ ap₂ (λ (n f : ℕ). new_table sh b (from cs j) (get_or cs (j + 1) n) ∷ parts_of f (within (from cs j) (get_or cs (j + 1) n) es) (from cs j))
      (sym s.count_is_lem) (sym s.format_is)))
      (parts_same b es 0 (from cs 0)
      ∙ ap₂ (λ (f : ℕ) (x : List Entry). parts_of f x 0) (sym s.format_is) (kept_entries gs ks cs l.count p.parts first e))

  whole : ObjectsRoom d o bytes count (tables ++ parts)
  whole = subst (λ (new : List (List ℕ)). ObjectsRoom d o bytes count new) all-objects room

  pub tables_room : ObjectsRoom d o bytes count tables
  tables_room = room_first tables parts whole

  pub tables_many : length tables ≡ (l.own + 1) * length cs
  tables_many =
      length_even (table_objects d head l (paired gs ks) cs) (l.own + 1) (objects_many d head l bytes old (paired gs ks) cs) (length cs)

  pub tables_small : count + (l.own + 1) * length cs ≤ length o
  tables_small = let m = tables_room.rows in omega (arith, tables_many)

  pub first_same : length (part ks 0 first) ≡ length (part gs 0 first)
  first_same = same_part gs ks cs l.count p.parts 0 first (omega arith) e.inside

  pub first_beside : Beside l.format 0 (paired (part gs 0 first) (part ks 0 first))
  first_beside = kept_beside gs ks cs l p first e

  module _ (row : ℕ) (q : row ≡ count + (l.own + 1) * length cs) (d' o' : List ℕ) (at : ℕ) (w : Written d o bytes count tables d' o' at) where
    row_is : row ≡ count + length tables
    row_is = omega (arith, tables_many)

    pub last_room : ObjectsRoom d' o' at row parts
    last_room = subst (λ (n : ℕ). ObjectsRoom d' o' at n parts) (sym row_is) (room_rest tables parts whole w)

    pub all_done : (d'' o'' : List ℕ) (r : ℕ) → Written d' o' at row parts d'' o'' r → Written d o bytes count (objects_of d head l (paired gs ks) cs) d'' o'' r
    all_done d'' o'' r v =
        subst (λ (new : List (List ℕ)). Written d o bytes count new d'' o'' r) (sym all-objects)
        (written_more tables parts whole w (subst (λ (n : ℕ). Written d' o' at n parts d'' o'' r) row_is v))

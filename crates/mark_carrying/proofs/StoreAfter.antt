-- A split for which there is room: what its steps ask, and that they leave the store after it. Assumes nothing.
use Prim.Native.Nat.{ℕ, ◌+◌, ◌*◌, ◌<◌, ◌≤◌}
use mathlib.Core.Path.{◌≡◌, sym, ap, ap₂, subst, ◌∙◌}
use mathlib.Core.Bool.{false}
use mathlib.Core.List.{List, [], ◌∷◌}
use native.Mathlib.Omega.{arith}
use lib.ListN.{length, get_or}
use Rattle.folds.specs.Folds.{upto}
use Rattle.folds.specs.Lists.{put, Bytes}
use Rattle.folds.proofs.Moved.{length-map}
use Rattle.ot_layouts.specs.Numbers.{be16}
use Rattle.ot_layouts.specs.MarkBasePos.{class_count_at}
use Rattle.ot_layouts.proofs.Numbers.{length-be16}
use Rattle.store_rules.specs.Store.{Store, lent, head_of}
use Rattle.store_rules.specs.Appended.{appended, with_bytes}
use Rattle.store_rules.proofs.Sound.{Fits, sound_fits, size_bytes}
use Rattle.store_object_rows.specs.Objects.{ObjectsRoom, Written, Behind}
use Rattle.store_object_rows.proofs.Behind.{written_behind, change_first, same_head}
use Rattle.call_rules.specs.declared.Needs.{Needs}
use Rattle.call_rules.specs.Needs.{room_short}
use Rattle.call_rules.proofs.Room.{Enough, enough}
use Rattle.cut_rules.specs.Ranges.{from}
use Rattle.mark_rules.specs.Table.{bases_in, classes_of, marks_of}
use Rattle.mark_rules.specs.Written.{per_table, need_objects, needs_of, needed, new_of, kept_table, split_store, new_tables}
use Rattle.mark_rules.proofs.Marks.{marks_many}
use Rattle.mark_rules.proofs.NewCounts.{new_many}
use Rattle.mark_checks.specs.declared.MarkTable.{MarkTable}
use Rattle.mark_checks.proofs.Opened.{marks_are, bases_are}
use Rattle.mark_links.specs.Splitting.{LinksSplit}
use Rattle.mark_new_objects.specs.Marks.{entry_from}
use Rattle.mark_new_objects.specs.Planned.{PlannedParts}
use Rattle.mark_new_objects.specs.Objects.{objects_of}
use Rattle.mark_new_objects.proofs.Stored.{stored_objects, stored_plan}
use Rattle.mark_carrying.specs.Carrying.{Relinking, Carrying, CutAt}

module _ {s : Store} {t : ℕ} {p : MarkTable} {n : Needs} {gs ks set cs list : List ℕ} (k : Carrying s t p n gs ks set cs list) where
  abbrev new : List (List ℕ)
  new = new_of s t cs

  fits : Fits s
  fits = sound_fits s k.opens.reads.sounds

  room : Enough s list (needed s t cs)
  room = enough s list (needed s t cs) (subst (λ (x : Needs). room_short s list x ≡ false) k.measured.needs k.room)

  -- what is in use is within its most
  pub in_use_lem : (s.byte_count ≤ 16777216) × (s.object_count ≤ 65536)
  in_use_lem = (fits.bytes_most, fits.objects_most)

  -- ---- the new objects

  new_room : ObjectsRoom s.bytes s.objects s.byte_count s.object_count new
  unfolding needed needs_of
  new_room =
      let many = new_many (marks_of s t) (bases_in s t) (classes_of s t) cs in
      record { bytes = room.bytes_in; rows = omega (arith, room.objects_in); small = omega (arith, room.bytes_most) }

  -- as the code has them
  abbrev coded : List (List ℕ)
  coded = objects_of gs ks p.bases.count p.classes cs

  same_new : coded ≡ new
  same_new =
      ap₂ (λ (bases classes : ℕ). objects_of gs ks bases classes cs) (bases_are k.opens) k.opens.classes
      ∙ stored_objects s t gs ks cs k.measured.arranged k.some

  pub objects_asked : Bytes s.bytes → PlannedParts gs ks cs p.classes × ObjectsRoom s.bytes s.objects s.byte_count s.object_count coded
  objects_asked octets = (
    subst (PlannedParts gs ks cs) (sym k.opens.classes) (stored_plan s t k.opens.reads octets gs ks cs k.measured.arranged k.places k.some),
    subst (ObjectsRoom s.bytes s.objects s.byte_count s.object_count) (sym same_new) new_room,
  )

  -- ---- what the next steps ask

  tables_few : s.object_count + per_table * length cs + 3 ≤ 65536
  unfolding needed needs_of need_objects
  tables_few = omega (arith, room.objects_most)

  many_marks : length gs ≡ p.marks.count
  many_marks = k.measured.arranged.long ∙ length-map entry_from (marks_of s t) ∙ marks_many s t ∙ sym (marks_are k.opens)

  pub list_asked : (length cs ≤ length list) × (s.object_count + 4 * length cs < 4294967296)
  unfolding needed needs_of
  list_asked = (room.listed, omega (arith, tables_few))

  -- the class count lies within the table
  count_inside : head_of s t + class_count_at + 2 ≤ s.byte_count
  count_inside =
      let table = fits.object t k.opens.reads.used in
      omega (arith, size_bytes s fits t k.opens.reads.used, k.opens.reads.exactly, table.ordered, table.inside)

  module _ {d o : List ℕ} {r : ℕ} (told : Written s.bytes s.objects s.byte_count s.object_count coded d o r) where
    wrote : Written s.bytes s.objects s.byte_count s.object_count new d o r
    wrote = subst (λ (x : List (List ℕ)). Written s.bytes s.objects s.byte_count s.object_count x d o r) same_new told

    behind : Behind s d o
    behind = written_behind fits new_room wrote

    pub links_asked : Relinking s t p d o gs ks set cs
    unfolding needed needs_of
    links_asked =
        record {
          behind = behind;
          arranging =
              record {
                opens = k.opens;
                places = k.places;
                some = k.some;
                numbers = many_marks;
                classes = k.measured.arranged.same ∙ many_marks;
                scratch = k.scratch;
              };
          slots = k.slots;
          link_room = room.links_in;
          numbers = omega (arith, tables_few);
        }

    head_then_lem : get_or o (2 * t) 0 ≡ head_of s t
    head_then_lem = same_head fits behind t k.opens.reads.used

    pub count_asked : (2 * t < length o) × (get_or o (2 * t) 0 + class_count_at + 1 < length d)
    count_asked = (
      omega (arith, k.opens.reads.used, fits.objects_in, behind.rows_long),
      omega (arith, head_then_lem, count_inside, behind.bytes_long, fits.bytes_in),
    )

    -- ---- the counts fit

    pub bytes_fit : r < 4294967296
    bytes_fit = omega (arith, wrote.ends, new_room.small)

    -- ---- what is then

    pub carried : {d' ls list' : List ℕ} {rows : ℕ} → LinksSplit s t cs ls rows → d' ≡ put d (get_or o (2 * t) 0 + class_count_at) (be16 (from cs 0))
        → list' ≡ put list 0 (upto (λ j. s.object_count + 4 * j) (length cs))
        → CutAt s t cs list (lent d' o ls (r ∷ (s.object_count + n.objects) ∷ rows ∷ [])) list'
    unfolding needed needs_of split_store appended kept_table with_bytes new_tables
    carried split kept numbered =
        let many = ap (λ (x : Needs). x.objects) k.measured.needs ∙ sym (new_many (marks_of s t) (bases_in s t) (classes_of s t) cs) in
        let count = be16 (from cs 0) in
        let bytes =
        kept
        ∙ ap (λ (h : ℕ). put d (h + class_count_at) count) head_then_lem
        ∙ change_first fits new_room wrote (head_of s t + class_count_at) count (omega (arith, length-be16 (from cs 0), count_inside)) in
        record {
          store = λ i. record {
            bytes = bytes i;
            objects = wrote.rows i;
            links = split.rows_are i;
            byte_count = wrote.ends i;
            object_count = s.object_count + many i;
            link_count = split.count_is_lem i;
          };
          list_is = numbered;
        }

  objects_needed : n.objects ≡ (needed s t cs).objects
  objects_needed = ap (λ (x : Needs). x.objects) k.measured.needs

  pub objects_fit_lem : s.object_count + n.objects < 4294967296
  objects_fit_lem = omega (arith, objects_needed, room.objects_most)

  pub rows_fit : {ls : List ℕ} {r : ℕ} → LinksSplit s t cs ls r → r < 4294967296
  unfolding needed needs_of
  rows_fit split = omega (arith, split.added, room.links_most)

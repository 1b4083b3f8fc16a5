-- New objects written behind those in use, and the table's count and tail set before them. Assumes nothing.
use Prim.Native.Nat.{ℕ, ◌+◌, ◌*◌, ◌<◌, ◌≤◌}
use mathlib.Core.Path.{◌≡◌, sym, subst, ap, ◌∙◌}
use mathlib.Core.List.{List}
use native.Mathlib.Omega.{arith}
use lib.ListN.{get_or, set}
use Rattle.folds.specs.Lists.{put}
use Rattle.ot_layouts.specs.Numbers.{be16}
use Rattle.ot_layouts.specs.PairPos.{Shape, item_at}
use Rattle.ot_layouts.proofs.Numbers.{length-be16}
use Rattle.ot_layouts.proofs.Shapes.{count_in_header, items_rise}
use Rattle.store_rules.specs.Store.{Store, head_of, bytes_of}
use Rattle.pair_rules.specs.Table.{shape}
use Rattle.cut_rules.specs.Ranges.{from}
use Rattle.pair_rules.specs.Written.{new_of, store_after, split_store, kept_table}
use Rattle.store_rules.specs.Appended.{appended, with_bytes, with_tail}
use Rattle.store_rules.proofs.Sound.{Fits, ObjectFits, sound_fits, size_bytes}
use Rattle.ot_pairpos.specs.declared.Layout.{Layout}
use Rattle.ot_pairpos.specs.Layout.{layout_of}
use Rattle.cut_parts.specs.Tables.{paired}
use Rattle.pair_new_objects.specs.Planned.{PlannedParts}
use Rattle.store_object_rows.specs.Objects.{ObjectsRoom, Written, Behind}
use Rattle.store_object_rows.proofs.Behind.{written_behind, change_first, set_first, same_head}
use Rattle.pair_new_objects.specs.Objects.{Old, objects_of}
use Rattle.pair_new_objects.proofs.Stored.{stored_plan, stored_old, stored_room, stored_written}
use Rattle.pair_carrying.specs.Carrying.{Keeping, Writing, Wrote}

module _ (s : Store) (t : ℕ) (gs ks cs : List ℕ) where
  -- what `write_objects` asks
  abbrev Asked : Layout → Type 0
  Asked l =
      PlannedParts gs ks cs l
      × (Old s.bytes (head_of s t) l s.byte_count
      × ObjectsRoom s.bytes s.objects s.byte_count s.object_count (objects_of s.bytes (head_of s t) l (paired gs ks) cs))

  -- and what it tells
  abbrev Told : List ℕ → List ℕ → ℕ → Layout → Type 0
  Told d o r l = Written s.bytes s.objects s.byte_count s.object_count (objects_of s.bytes (head_of s t) l (paired gs ks) cs) d o r

-- ---- of the layout of the table's bytes

module _ (s : Store) (t : ℕ) (gs ks cs : List ℕ) (w : Writing s t (layout_of (bytes_of s t)) gs ks cs) where
  abbrev sh : Shape
  sh = shape s t

  abbrev l : Layout
  l = layout_of (bytes_of s t)

  abbrev new : List (List ℕ)
  new = new_of s t cs

  fits : Fits s
  fits = sound_fits s w.reads.sounds

  table_fits_lem : ObjectFits s t
  table_fits_lem = fits.object t w.reads.used

  asked : Asked s t gs ks cs l
  asked = (
    stored_plan s t w.reads w.octets gs ks cs w.arranged w.places w.some,
    (stored_old s t w.reads w.octets, stored_room s t w.reads w.octets gs ks cs w.arranged w.some w.room),
  )

  -- the items that are kept end within the table
  kept_inside : head_of s t + item_at sh (from cs 0) ≤ s.byte_count
  kept_inside =
      let p : from cs 0 < sh.count = w.places.below 0 w.some in
      omega (
        arith,
        items_rise sh (from cs 0) sh.count (omega arith),
        w.reads.exactly,
        size_bytes s fits t w.reads.used,
        table_fits_lem.ordered,
        table_fits_lem.inside,
      )

  count_inside : head_of s t + sh.count_at + 2 ≤ s.byte_count
  count_inside = omega (arith, count_in_header (bytes_of s t), kept_inside)

  module _ (d o : List ℕ) (r : ℕ) (told : Told s t gs ks cs d o r l) where
    told_new : Written s.bytes s.objects s.byte_count s.object_count new d o r
    told_new = stored_written s t w.reads w.octets gs ks cs w.arranged w.some d o r told

    behind : Behind s d o
    behind = written_behind fits w.room told_new

    head_then_lem : get_or o (2 * t) 0 ≡ head_of s t
    head_then_lem = same_head fits behind t w.reads.used

    keep_asked : Keeping d o t l (from cs 0)
    unfolding layout_of
    keep_asked =
        record {
          row = omega (arith, w.reads.used, fits.objects_in, behind.rows_long);
          within = omega (arith, head_then_lem, kept_inside, fits.bytes_most);
          count = omega (arith, head_then_lem, count_inside, behind.bytes_long, fits.bytes_in);
        }

    kept : (d' o' : List ℕ) → d' ≡ put d (get_or o (2 * t) 0 + l.count_at) (be16 (from cs 0))
        → o' ≡ set o (2 * t + 1) (get_or o (2 * t) 0 + item_at sh (from cs 0)) → Wrote s t cs d' o' r
    unfolding layout_of split_store store_after appended kept_table with_bytes with_tail
    kept d' o' x y =
        let at : ℕ = head_of s t + sh.count_at in
        let tail : ℕ = head_of s t + item_at sh (from cs 0) in
        record {
          bytes =
              x
              ∙ ap (λ (h : ℕ). put d (h + sh.count_at) (be16 (from cs 0))) head_then_lem
              ∙ change_first fits w.room told_new at (be16 (from cs 0)) (omega (arith, length-be16 (from cs 0), count_inside));
          rows =
              y
              ∙ ap (λ (h : ℕ). set o (2 * t + 1) (h + item_at sh (from cs 0))) head_then_lem
              ∙ set_first fits w.room told_new (2 * t + 1) tail (omega (arith, w.reads.used));
          ends = told_new.ends;
        }

-- ---- of a layout that is equal to it

module _ {s : Store} {t : ℕ} {l : Layout} {gs ks cs : List ℕ} (w : Writing s t l gs ks cs) where
  own : Writing s t (layout_of (bytes_of s t)) gs ks cs
  own = subst (λ (x : Layout). Writing s t x gs ks cs) w.layout_is w

  pub write_asked : Asked s t gs ks cs l
  write_asked = subst (Asked s t gs ks cs) (sym w.layout_is) (asked s t gs ks cs own)

  module _ {d o : List ℕ} {r : ℕ} (told : Told s t gs ks cs d o r l) where
    told_own : Told s t gs ks cs d o r (layout_of (bytes_of s t))
    told_own = subst (Told s t gs ks cs d o r) w.layout_is told

    pub keep_ready : Keeping d o t l (from cs 0)
    keep_ready = subst (λ (x : Layout). Keeping d o t x (from cs 0)) (sym w.layout_is) (keep_asked s t gs ks cs own d o r told_own)

    pub keep_wrote : {d' o' : List ℕ} → d' ≡ put d (get_or o (2 * t) 0 + l.count_at) (be16 (from cs 0))
        → o' ≡ set o (2 * t + 1) (get_or o (2 * t) 0 + (l.header + l.item * from cs 0)) → Wrote s t cs d' o' r
    unfolding layout_of
    keep_wrote {d'} {o'} x y =
        kept s t gs ks cs own d o r told_own d' o'
        (subst (λ (k : Layout). d' ≡ put d (get_or o (2 * t) 0 + k.count_at) (be16 (from cs 0))) w.layout_is x)
        (subst (λ (k : Layout). o' ≡ set o (2 * t + 1) (get_or o (2 * t) 0 + (k.header + k.item * from cs 0))) w.layout_is y)

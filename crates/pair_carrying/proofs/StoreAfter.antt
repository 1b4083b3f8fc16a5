-- A split for which there is room: what its steps ask, and that they leave the store after it. Assumes nothing.
use Prim.Native.Nat.{ℕ, ◌+◌, ◌*◌, ◌<◌, ◌≤◌}
use mathlib.Core.Path.{◌≡◌, sym, ap, subst, ◌∙◌}
use mathlib.Core.Bool.{false}
use mathlib.Core.List.{List, [], ◌∷◌}
use native.Mathlib.Omega.{arith}
use lib.ListN.{length}
use Rattle.folds.specs.Folds.{upto}
use Rattle.folds.specs.Lists.{put, Bytes}
use Rattle.ot_layouts.specs.PairPos.{Shape}
use Rattle.store_rules.specs.Store.{Store, lent, bytes_of}
use Rattle.pair_rules.specs.Table.{shape, entries_of}
use Rattle.pair_rules.specs.Written.{per_table, need_links, need_objects, needs_of, needed, store_after, split_store, new_tables, kept_table}
use Rattle.call_rules.specs.declared.Needs.{Needs}
use Rattle.call_rules.specs.Needs.{room_short}
use Rattle.call_rules.proofs.Room.{Enough, enough}
use Rattle.store_rules.proofs.Sound.{Fits, sound_fits, size_bytes}
use Rattle.store_rules.specs.Appended.{appended, with_bytes, with_tail}
use Rattle.cut_rules.proofs.CutPlaces.{cuts_rise}
use Rattle.pair_rules.proofs.NewCounts.{new_many, per_two}
use Rattle.ot_pairpos.specs.declared.Layout.{Layout}
use Rattle.ot_pairpos.specs.Layout.{layout_of, shape_with}
use Rattle.pair_checks.specs.declared.PairTable.{PairTable}
use Rattle.pair_links.specs.Parting.{Parting, LinksSplit}
use Rattle.pair_links.proofs.Callers.{Decided, part-asked, part-answered}
use Rattle.pair_carrying.specs.Carrying.{Writing, Wrote, Carrying, CutAt}
use Rattle.pair_carrying.proofs.Counting.{header_few}

module _ {s : Store} {t : ℕ} {p : PairTable} {n : Needs} {gs ks cs list : List ℕ} (k : Carrying s t p n gs ks cs list) where
  abbrev sh : Shape
  sh = shape s t

  fits : Fits s
  fits = sound_fits s k.opens.reads.sounds

  room : Enough s list (needed s t cs)
  room = enough s list (needed s t cs) (subst (λ (x : Needs). room_short s list x ≡ false) k.measured.needs k.room)

  same_own : p.layout.own ≡ length sh.own
  unfolding layout_of
  same_own = ap (λ (x : Layout). x.own) k.opens.layout

  pub own_few : p.layout.own ≤ 2
  own_few = subst (λ (x : Layout). x.own ≤ 2) (sym k.opens.layout) (header_few (bytes_of s t)).0

  tables_few : s.object_count + per_table sh * length cs + 1 ≤ 65536
  unfolding needed needs_of need_objects
  tables_few = omega (arith, room.objects_most, per_two (bytes_of s t))

  -- ---- what the steps ask

  pub bytes_asked : Bytes s.bytes → Writing s t p.layout gs ks cs
  unfolding needed needs_of
  bytes_asked octets =
      let many = new_many sh (bytes_of s t) (entries_of s t) cs in
      record {
        reads = k.opens.reads;
        layout_is = k.opens.layout;
        octets = octets;
        places = k.places;
        some = k.some;
        arranged = k.measured.arranged;
        room = record { bytes = room.bytes_in; rows = omega (arith, room.objects_in); small = omega (arith, room.bytes_most) };
      }

  decided : Decided s t sh cs p.class2.object
  unfolding needed needs_of need_links
  decided =
      record {
        fits = fits;
        used = k.opens.reads.used;
        exactly = sym (size_bytes s fits t k.opens.reads.used) ∙ k.opens.reads.exactly;
        some = k.some;
        rising = cuts_rise sh.count cs k.places;
        within = λ j l. omega (arith, k.places.below j l);
        shared = λ two. (k.opens.class2 two).linked;
        link_room = room.links_in;
        object_room = omega (arith, tables_few);
      }

  pub list_asked : (length cs ≤ length list) × (s.object_count + (p.layout.own + 1) * length cs < 4294967296)
  unfolding needed needs_of
  list_asked = (room.listed, rw same_own (omega (arith, tables_few)))

  -- ---- the counts fit

  pub bytes_fit : {d o : List ℕ} {r : ℕ} → Wrote s t cs d o r → r < 4294967296
  unfolding needed needs_of split_store store_after appended kept_table with_bytes with_tail
  bytes_fit w = omega (arith, w.ends, room.bytes_most)

  objects_needed : n.objects ≡ (needed s t cs).objects
  objects_needed = ap (λ (x : Needs). x.objects) k.measured.needs

  pub objects_fit_lem : s.object_count + n.objects < 4294967296
  objects_fit_lem = omega (arith, objects_needed, room.objects_most)

  pub links_fit_lem : {ls : List ℕ} {r : ℕ} → LinksSplit s t sh cs ls r → r < 4294967296
  unfolding needed needs_of need_links
  links_fit_lem parted = omega (arith, parted.added, room.links_most)

  -- ---- what is then

  pub carried : {d o ls list' : List ℕ} {bytes rows : ℕ} → Wrote s t cs d o bytes → LinksSplit s t sh cs ls rows
      → list' ≡ put list 0 (upto (λ j. s.object_count + (p.layout.own + 1) * j) (length cs))
      → CutAt s t cs list (lent d o ls (bytes ∷ (s.object_count + n.objects) ∷ rows ∷ [])) list'
  unfolding needed needs_of split_store store_after appended kept_table with_bytes with_tail new_tables
  carried w parted numbered =
      let many = objects_needed ∙ sym (new_many sh (bytes_of s t) (entries_of s t) cs) in
      record {
        store = λ i. record {
          bytes = w.bytes i;
          objects = w.rows i;
          links = parted.rows_are i;
          byte_count = w.ends i;
          object_count = s.object_count + many i;
          link_count = parted.count_is_lem i;
        };
        list_is = numbered ∙ ap (λ (own : ℕ). put list 0 (upto (λ j. s.object_count + (own + 1) * j) (length cs))) same_own;
      }

-- ---- the links, of which a call is handed the rows and the counts

module _ {d o ls : List ℕ} (c : List ℕ) {t : ℕ} {p : PairTable} {n : Needs} {gs ks cs list : List ℕ} (k : Carrying (lent d o ls c) t p n gs ks cs list) where
  pub links_asked : Parting (lent [] [] ls c) t p.layout cs p.class2.object
  links_asked = part-asked d o ls c t p.layout k.opens.layout cs p.class2.object (decided k)

  pub links_then : {ls' : List ℕ} {r : ℕ} → ((x y : List ℕ) → LinksSplit (lent x y ls c) t (shape_with p.layout) cs ls' r)
      → LinksSplit (lent d o ls c) t (shape (lent d o ls c) t) cs ls' r
  links_then {ls'} {r} told = part-answered d o ls c t p.layout k.opens.layout cs ls' r told

-- The data stay bytes: every number that is written fits its two bytes. Assumes nothing.
use Prim.Native.Nat.{ℕ, ◌<◌}
use mathlib.Core.Path.{◌≡◌}
use mathlib.Core.Bool.{false}
use mathlib.Core.List.{List, map}
use mathlib.Core.Logic.{⊎_elim}
use native.Mathlib.Omega.{arith}
use lib.ListN.{length}
use lib.Dec.{eqb}
use Rattle.folds.specs.Folds.{flat}
use Rattle.folds.specs.Lists.{Bytes}
use Rattle.folds.proofs.Each.{Each, each_then, each_append, each_flat}
use Rattle.ot_layouts.specs.Numbers.{be16}
use Rattle.ot_layouts.specs.Coverage.{Entry, Ascends, Under}
use Rattle.ot_layouts.specs.ClassDef.{class_def_bytes, class_of}
use Rattle.ot_layouts.specs.PairPos.{Shape}
use Rattle.ot_layouts.proofs.Shapes.{formats}
use Rattle.ot_layouts.proofs.Octets.{bytes_u16, bytes_be16}
use Rattle.ot_layouts.proofs.Entries.{ascends_plain, under_plain}
use Rattle.ot_layouts.proofs.BytesWritten.{bytes_class_def, class_of_bits, bytes_coverage}
use Rattle.store_rules.specs.Store.{Store, bytes_of, linked_bytes, linked_at}
use Rattle.glyph_rules.specs.Entries.{within, reduced}
use Rattle.pair_rules.specs.Table.{shape, entries_of, cut_places}
use Rattle.pair_rules.specs.Written.{part_of, new_parts, new_of, new_objects, new_links, split_store, store_after, kept_table}
use Rattle.cut_rules.specs.Ranges.{from, to}
use Rattle.cut_rules.proofs.CutPlaces.{range_high}
use Rattle.glyph_rules.proofs.Entries.{within_ascends, within_under, ascends_reduced, under_reduced}
use Rattle.store_rules.proofs.Bytes.{object_bytes_lem}
use Rattle.store_rules.specs.Appended.{with_tail}
use Rattle.store_rules.proofs.AppendedFits.{appended_bytes}
use Rattle.store_rules.proofs.Changed.{other_octets}
use Rattle.pair_rules.proofs.Checks.{count_bits, entries_ascend, entries_under}
use Rattle.pair_rules.proofs.NamedRuns.{GivenBy, range_given, range_runs_few}
use Rattle.pair_rules.proofs.NewTable.{bytes_new_table}
use Rattle.promise_calls.specs.Unchanged.{Octets}
use Rattle.promise_pairs.specs.Demands.{StaysOctets}
use Rattle.pair_after.proofs.Ready.{Ready, first_cut}
use Rattle.promise_pairs.proofs.GoesAhead.{splits_ready, store_written}
use Rattle.pair_after.proofs.NewBytes.{objects_of, shortened, room, count_inside}

module _ (s : Store) (t : ℕ) (cs : List ℕ) (g : Ready s t cs) (octets : Octets s) where
  abbrev sh : Shape
  sh = shape s t

  -- the entries of a range
  module _ (lo hi : ℕ) where
    abbrev es : List Entry
    es = within lo hi (entries_of s t)

    up : Ascends 0 es
    up = within_ascends lo hi (entries_of s t) 0 (entries_ascend s t g.reads)

    under : Under 65536 es
    under = within_under lo hi (entries_of s t) 65536 (entries_under s t g.reads octets)

    -- the class definition that is written for them
    class_def_fits : eqb sh.format 1 ≡ false → Bytes (class_def_bytes (reduced lo es))
    class_def_fits two =
        let b = linked_bytes s t 8 in
        let rs = reduced lo es in
        bytes_class_def rs (ascends_reduced lo es 0 up) (under_reduced lo es 65536 under)
        (each_then (GivenBy (class_of b) lo) (λ e. e.class < 65536) (λ e z. omega (arith, class_of_bits b (bytes_u16 b (object_bytes_lem s octets (linked_at s t 8))) e.glyph)) rs (range_given s t g.reads two lo hi))
        (range_runs_few s t g.reads two lo hi octets)

    parts_fit : Each Bytes (new_parts sh (entries_of s t) lo hi)
    unfolding new_parts part_of
    parts_fit =
        let cover = bytes_coverage (map (λ e. e.glyph) es) (ascends_plain es 0 up) (under_plain es 65536 under) in
        ⊎_elim (λ f. rw f.own_is (cover, tt)) (λ f. rw f.own_is (cover, (class_def_fits f.two, tt))) (formats (bytes_of s t))

  objects_fit_lem : Each Bytes (new_of s t cs)
  unfolding new_objects
  objects_fit_lem =
      each_append Bytes (flat (objects_of s t cs g) (length cs)) (new_parts sh (entries_of s t) 0 (from cs 0))
      (each_flat Bytes (objects_of s t cs g) (length cs)
      (λ j l. let (x, y) = range_high sh.count cs g.cuts j l in
      (bytes_new_table sh (bytes_of s t) (from cs j) (to sh.count cs j) (object_bytes_lem s octets t) (omega (arith, count_bits s t octets)), parts_fit (from cs j) (to sh.count cs j))))
      (parts_fit 0 (from cs 0))

  octets_then : Bytes (split_store s t cs).bytes
  unfolding split_store store_after kept_table be16 with_tail
  octets_then =
      let c = first_cut s t cs g in
      appended_bytes (shortened s t cs g) (new_of s t cs) (new_links s t sh cs) (room s t cs g)
      (other_octets s g.fit t sh.count_at (be16 (from cs 0)) g.reads.used (count_inside s t cs g) octets
      (bytes_be16 (from cs 0) (omega (arith, count_bits s t octets))))
      objects_fit_lem

-- the data at exit are bytes
pub stays_octets : StaysOctets
stays_octets how s t w list octets p =
    let (g, e) = splits_ready how s t w list p in
    rw (store_written how s t w list p) (octets_then s t (cut_places how s t) g octets)

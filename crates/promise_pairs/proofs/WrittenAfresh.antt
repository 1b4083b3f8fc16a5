-- Each table is written afresh, from the old table alone. Assumes nothing.
use Rattle.std.specs.Prelude.{Option, Some, unwrap_or}
use Prim.Native.Nat.{ℕ, ◌+◌, ◌-◌, ◌<◌, ◌≤◌}
use mathlib.Core.Path.{◌≡◌, sym, ap, ◌∙◌}
use mathlib.Core.Bool.{true, false}
use mathlib.Core.List.{List, [], ◌∷◌, map}
use native.Mathlib.Omega.{arith}
use native.Mathlib.Nat.{mul-le-mul_left, mul-add}
use lib.Dec.{eqb}
use borrow.Author.Tests.{ne_eqb}
use Rattle.folds.specs.Lists.{among, Bytes}
use Rattle.folds.proofs.Each.{Each, each_among, each_then}
use Rattle.ot_layouts.specs.Coverage.{Entry, Ascends}
use Rattle.ot_layouts.specs.ClassDef.{class_of, class_in}
use Rattle.ot_layouts.specs.PairPos.{item_at}
use Rattle.ot_layouts.proofs.Entries.{Agrees, agrees_self}
use Rattle.store_rules.specs.Store.{Store, sound, child_at, bytes_of, linked_bytes, linked_at}
use Rattle.glyph_rules.specs.Entries.{within, reduced}
use Rattle.pair_rules.specs.Table.{entries_of, shape, glyphs_of, sets_sorted, cut_places}
use Rattle.pair_rules.specs.Written.{split_store}
use Rattle.glyph_rules.proofs.Entries.{within_low, within_agrees}
use Rattle.pair_rules.proofs.Entries.{entries_agree}
use Rattle.pair_rules.specs.Reads.{Reads}
use Rattle.pair_rules.proofs.Checks.{entries_ascend}
use Rattle.pair_rules.proofs.SortedSets.{pairs_no_case}
use Rattle.pair_rules.proofs.NewCounts.{per_two}
use Rattle.promise_calls.specs.Unchanged.{Octets}
use Rattle.promise_pairs.specs.Demands.{Afresh, AllAfresh, WrittenAfresh}
use Rattle.pair_after.proofs.Ready.{Ready, objects_then, new_used}
use Rattle.promise_pairs.proofs.GoesAhead.{splits_may, splits_ready, store_written}
use Rattle.pair_after.proofs.NewBytes.{kept_bytes_lem}
use Rattle.pair_after.proofs.View.{View, renumbered_up, view_glyphs, view_class}
use Rattle.pair_after.proofs.KeptAndNew.{view_kept, view_new, bytes_new}
use Rattle.pair_after.proofs.ViewReads.{view_cover, view_class1, view_reads}
use Rattle.pair_after.proofs.SoundThen.{sound_then}
use Rattle.pair_after.proofs.SortedThen.{kept_sorted, new_sorted}

-- ---- a view is a table written afresh

module _ {s : Store} {t : ℕ} {s' : Store} {u lo hi : ℕ} (v : View s t s' u lo hi) (old : Reads s t) (sounds : sound s' ≡ true) (used : u < s'.object_count)
    (octets : Bytes s.bytes) where
  abbrev es : List Entry
  es = within lo hi (entries_of s t)

  up : Ascends 0 (entries_of s t)
  up = entries_ascend s t old

  -- classes by the new class definition, and by the old one
  abbrev new_class : ℕ → ℕ
  new_class g = class_of (linked_bytes s' u 8) g

  abbrev old_class : ℕ → ℕ
  old_class g = class_of (linked_bytes s t 8) g

  -- the new one is the old one, less the range's first
  all-reduced : (es : List Entry) → Each (λ e. lo ≤ e.class) es → Agrees new_class (reduced lo es) → Agrees old_class es → Each (λ g. new_class g + lo ≡ old_class g) (map (λ e. e.glyph) es)
  all-reduced [] a b c = tt
  all-reduced (e ∷ es) a b c =
      let l : lo ≤ e.class = a.0 in
      let x : new_class e.glyph ≡ e.class - lo = b.0 in
      let y : old_class e.glyph ≡ e.class = c.0 in
      (omega arith, all-reduced es a.1 b.1 c.1)

  view_classes : eqb (shape s t).format 1 ≡ false → (g : ℕ) → among g (glyphs_of s' u) ≡ true → new_class g + lo ≡ old_class g
  view_classes z g h =
      each_among (λ g. new_class g + lo ≡ old_class g) (map (λ e. e.glyph) es) g
      (all-reduced es (within_low lo hi (entries_of s t)) own_class (within_agrees old_class lo hi (entries_of s t) (entries_agree s t z)))
      (sym (ap (among g) (view_glyphs v up)) ∙ h)
    where
      own_class : Agrees new_class (reduced lo es)
      own_class =
          each_then (λ (e : Entry). class_in (reduced lo es) e.glyph ≡ e.class) (λ (e : Entry). new_class e.glyph ≡ e.class)
          (λ e p. view_class v up z e.glyph ∙ p) (reduced lo es) (agrees_self (reduced lo es) 0 (renumbered_up v up))

  -- the number of a linked object
  linked_at_lem : (q c : ℕ) → child_at s' u q ≡ Some c → s.object_count ≤ c → s.object_count ≤ linked_at s' u q
  linked_at_lem q c e h = let f : linked_at s' u q ≡ c = ap (λ (o : Option ℕ). unwrap_or o 0) e in omega arith

  afresh : sets_sorted s' u ≡ true → Afresh s t s' u lo hi
  afresh sorted =
      record {
        readable = pairs_no_case s' u (record { reads = view_reads v old sounds used octets; sorted = sorted });
        covers = view_glyphs v up;
        cover_bytes = view_cover v old sounds used octets;
        cover_new = let (c, n, e, f) = v.cover in linked_at_lem 2 c e n;
        class_new = λ e. let (c, n, x, f) = v.class1 (two e) in linked_at_lem 8 c x n;
        classes = λ e g h. view_classes (two e) g h;
        class_bytes = λ e. view_class1 v old sounds used octets (two e);
        shared = λ e. let (d, x, y, w) = v.class2 (two e) in x ∙ sym y;
        items = item;
      }
    where
      two : (shape s t).format ≡ 2 → eqb (shape s t).format 1 ≡ false
      two e = ne_eqb (shape s t).format 1 (λ z. omega arith)

      item : (i q : ℕ) → i + lo < hi → q < (shape s t).item → child_at s' u (item_at (shape s t) i + q) ≡ child_at s t (item_at (shape s t) (i + lo) + q)
      item i q h k =
          let m = mul-le-mul_left {m = i + lo + 1} {n = hi} (shape s t).item (omega arith) in
          let a = mul-add (shape s t).item (i + lo) 1 in
          let b = mul-add (shape s t).item i lo in
          v.links (item_at (shape s t) i + q) (omega arith) (omega arith) ∙ ap (child_at s t) (omega arith)

-- ---- the tables of a split

module _ (s : Store) (t : ℕ) (cs : List ℕ) (g : Ready s t cs) (octets : Octets s) where
  kept_used : t < (split_store s t cs).object_count
  kept_used = omega (arith, g.reads.used, objects_then s t cs g)

  pub kept_reads : Reads (split_store s t cs) t
  kept_reads = view_reads (view_kept s t cs g) g.reads (sound_then s t cs g) kept_used octets

  all-afresh : sets_sorted s t ≡ true → AllAfresh s t (split_store s t cs) cs
  all-afresh sorted =
      record {
        kept = afresh (view_kept s t cs g) g.reads (sound_then s t cs g) kept_used octets (kept_sorted s t cs g sorted);
        kept_bytes = kept_bytes_lem s t cs g;
        fresh = λ j l. afresh (view_new s t cs g j l) g.reads (sound_then s t cs g) (omega (arith, new_used s t cs g j 0 l (omega (arith, per_two (bytes_of s t))))) octets (new_sorted s t cs g sorted j l);
        fresh_bytes = λ j l. bytes_new s t cs g j l;
      }

-- "Each table with its own parts is what writing its range afresh would give", "by this section from the old table alone"
pub written_afresh : WrittenAfresh
written_afresh how s t w list octets p =
    let (g, e) = splits_ready how s t w list p in
    rw (store_written how s t w list p) (all-afresh s t (cut_places how s t) g octets (splits_may how s t w list p).checked.sorted)

-- What is known of a table once the checks of a reading are passed. Assumes nothing.
use Rattle.std.specs.Prelude.{Some, None}
use Prim.Native.Nat.{ℕ, ◌<◌}
use mathlib.Core.Path.{◌≡◌}
use mathlib.Core.Bool.{true, false, ◌&&◌}
use lib.ListN.{length}
use lib.Dec.{eqb}
use borrow.Author.Tests.{not-false, leb-false, ltb-false, eqb-true, lt-leb, le-ltb, eq-eqb}
use Rattle.folds.specs.Lists.{is_some, Bytes}
use Rattle.folds.proofs.Tests.{and_both}
use Rattle.folds.proofs.Joined.{and_three}
use Rattle.ot_layouts.specs.Coverage.{cover_readable, Ascends, Under}
use Rattle.ot_layouts.specs.ClassDef.{class_readable}
use Rattle.ot_layouts.specs.PairPos.{shape1, shape2, item_at, exact, is_slot}
use Rattle.ot_layouts.proofs.CoverageGlyphs.{cover_sorted, sorted_ascends, sorted_under}
use Rattle.ot_layouts.proofs.Octets.{bytes_u16}
use Rattle.ot_layouts.proofs.Shapes.{by_format}
use Rattle.store_rules.specs.Store.{Store, sound, bytes_of, link_at, offset_of, child_at, position_of, linked_bytes, linked_at}
use Rattle.store_rules.proofs.Bytes.{object_bytes_lem}
use Rattle.store_rules.proofs.Lookups.{child_there}
use Rattle.store_rules.proofs.Slots.{all_stand, one_stands}
use Rattle.call_rules.specs.Answers.{first_case}
use Rattle.call_rules.proofs.Cases.{first_head}
use Rattle.pair_rules.specs.Table.{shape, parts_readable, entries_of, all_at_slots}
use Rattle.pair_rules.specs.Calls.{read_cases}
use Rattle.pair_rules.proofs.Entries.{entries_glyphs}
use Rattle.pair_rules.specs.Reads.{Reads}

-- ---- 1 to 5

pub no_case_reads : (s : Store) (t : ℕ) → first_case (read_cases s t) ≡ None → Reads s t
unfolding read_cases exact
no_case_reads s t h =
    let (a1, h1) = first_head _ _ h in
    let (a2, h2) = first_head _ _ h1 in
    let (a3, h3) = first_head _ _ h2 in
    let (a4, h4) = first_head _ _ h3 in
    let (a5, h5) = first_head _ _ h4 in
    let (a6, h6) = first_head _ _ h5 in
    let (a7, h7) = first_head _ _ h6 in
    record {
      sounds = not-false (sound s) a1;
      used = leb-false s.object_count t a2;
      two = ltb-false (length (bytes_of s t)) 2 a3;
      known = not-false _ a4;
      exactly = eqb-true (length (bytes_of s t)) (item_at (shape s t) (shape s t).count) (not-false _ a5);
      parts = not-false (parts_readable s t) a6;
      enough = a7;
    }

pub reads_no_case : (s : Store) (t : ℕ) → Reads s t → first_case (read_cases s t) ≡ None
unfolding read_cases first_case exact
reads_no_case s t r =
    rw (
      r.sounds,
      lt-leb s.object_count t r.used,
      le-ltb (length (bytes_of s t)) 2 r.two,
      r.known,
      eq-eqb (length (bytes_of s t)) (item_at (shape s t) (shape s t).count) r.exactly,
      r.parts,
      r.enough,
    )

-- ---- 4: coverage and class definitions

-- they are there
pub record Parts (s : Store) (t : ℕ) : Type 0 where
  pub cover : (c : ℕ) × (child_at s t 2 ≡ Some c)
  pub class1 : eqb (shape s t).format 1 ≡ false → (c : ℕ) × (child_at s t 8 ≡ Some c)
  pub class2 : eqb (shape s t).format 1 ≡ false → (c : ℕ) × (child_at s t 10 ≡ Some c)

pub cover_read : (s : Store) (t : ℕ) → parts_readable s t ≡ true → cover_readable (linked_bytes s t 2) ≡ true
unfolding parts_readable
cover_read s t h =
    let (p, q) = and_both (is_some (child_at s t 2) && cover_readable (linked_bytes s t 2)) _ h in
    (and_both (is_some (child_at s t 2)) (cover_readable (linked_bytes s t 2)) p).1

pub class_read : (s : Store) (t : ℕ) → parts_readable s t ≡ true → eqb (shape s t).format 1 ≡ false
    → (is_some (child_at s t 8) ≡ true) × (class_readable (linked_bytes s t 8) ≡ true) × (is_some (child_at s t 10) ≡ true) × (class_readable (linked_bytes s t 10) ≡ true)
unfolding parts_readable
class_read s t h e =
    let (p, q) = and_both (is_some (child_at s t 2) && cover_readable (linked_bytes s t 2)) _ h in
    let r : (is_some (child_at s t 8) && class_readable (linked_bytes s t 8) && is_some (child_at s t 10) && class_readable (linked_bytes s t 10)) ≡ true = rw e at q in
    let (x, d) = and_both (is_some (child_at s t 8) && class_readable (linked_bytes s t 8) && is_some (child_at s t 10)) (class_readable (linked_bytes s t 10)) r in
    let (a, b, c) = and_three (is_some (child_at s t 8)) (class_readable (linked_bytes s t 8)) (is_some (child_at s t 10)) x in
    (a, b, c, d)

pub parts_read : (s : Store) (t : ℕ) → parts_readable s t ≡ true → Parts s t
unfolding parts_readable
parts_read s t h =
    let (p, q) = and_both (is_some (child_at s t 2) && cover_readable (linked_bytes s t 2)) _ h in
    record {
      cover = child_there s t 2 (and_both (is_some (child_at s t 2)) (cover_readable (linked_bytes s t 2)) p).0;
      class1 = λ e. child_there s t 8 (class_read s t h e).0;
      class2 = λ e. child_there s t 10 (class_read s t h e).2;
    }

-- ---- the covered glyphs
pub entries_ascend : (s : Store) (t : ℕ) → Reads s t → Ascends 0 (entries_of s t)
entries_ascend s t r =
    let (hi, u, x) = cover_sorted (linked_bytes s t 2) (cover_read s t r.parts) in
    sorted_ascends (entries_of s t) 0 hi (rw (entries_glyphs s t) x)

-- a count has two bytes
pub count_bits : (s : Store) (t : ℕ) → Bytes s.bytes → (shape s t).count < 65536
unfolding shape1 shape2
count_bits s t octets =
    let b = bytes_u16 (bytes_of s t) (object_bytes_lem s octets t) in
    by_format (λ sh. sh.count < 65536) (bytes_of s t) (λ e. b 8) (λ e. b 12)

pub entries_under : (s : Store) (t : ℕ) → Reads s t → Bytes s.bytes → Under 65536 (entries_of s t)
entries_under s t r h =
    let (hi, u, x) = cover_sorted (linked_bytes s t 2) (cover_read s t r.parts) in
    sorted_under (entries_of s t) 0 hi 65536 (u (bytes_u16 (linked_bytes s t 2) (object_bytes_lem s h (linked_at s t 2)))) (rw (entries_glyphs s t) x)

-- ---- 7: the links of the table stand at slots
pub all_at_slots_lem : (s : Store) (t : ℕ) → ((k : ℕ) → k < s.link_count → offset_of t (link_at s k) ≡ true → is_slot (shape s t) (position_of s k) ≡ true) → all_at_slots s t ≡ true
unfolding all_at_slots
all_at_slots_lem s t = all_stand s t (is_slot (shape s t))

pub at_slot : (s : Store) (t : ℕ) → all_at_slots s t ≡ true → (k : ℕ) → k < s.link_count → offset_of t (link_at s k) ≡ true → is_slot (shape s t) (position_of s k) ≡ true
unfolding all_at_slots
at_slot s t = one_stands s t (is_slot (shape s t))

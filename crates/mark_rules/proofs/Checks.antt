-- What is known of a table once the checks of a reading are passed. Assumes nothing.
use Rattle.std.specs.Prelude.{Some, None}
use Prim.Native.Nat.{ℕ, ◌+◌, ◌*◌, ◌<◌}
use mathlib.Core.Path.{◌≡◌, ap}
use mathlib.Core.Bool.{Bool, true, ◌&&◌}
use native.Mathlib.Omega.{arith}
use lib.ListN.{length}
use lib.Dec.{eqb, ltb}
use borrow.Author.Tests.{ltb-true, ltb-false, leb-false, lt-ltb, le-ltb, lt-leb, eqb-true, eq-eqb, not-false}
use Rattle.folds.specs.Folds.{all}
use Rattle.folds.specs.Lists.{is_some}
use Rattle.folds.proofs.Tests.{and_both, and_intro}
use Rattle.folds.proofs.Folds.{all_at_lem, all_intro}
use Rattle.ot_layouts.specs.Coverage.{cover_readable}
use Rattle.ot_layouts.specs.MarkBasePos.{
  cover_at,
  base_cover_at,
  mark_array_at,
  base_array_at,
  format_of,
  table_size,
  is_table_slot,
  mark_class,
  is_mark_slot,
  marks_readable,
  is_base_slot,
  bases_readable,
}
use Rattle.store_rules.specs.Store.{Store, sound, bytes_of, child_at, linked_bytes, link_at, offset_of, position_of, all_at}
use Rattle.store_rules.proofs.Lookups.{child_there}
use Rattle.store_rules.proofs.Slots.{all_stand, one_stands}
use Rattle.call_rules.specs.Answers.{first_case}
use Rattle.call_rules.proofs.Cases.{first_head}
use Rattle.mark_rules.specs.Table.{classes_of, marks_in, bases_in, mark_bytes, base_bytes, mark_array, base_array, glyphs_of, parts_readable, all_at_slots}
use Rattle.mark_rules.specs.Calls.{read_cases}
use Rattle.mark_rules.specs.Reads.{Reads}

-- ---- 1 to 5

pub no_case_reads : (s : Store) (t : ℕ) → first_case (read_cases s t) ≡ None → Reads s t
unfolding read_cases
no_case_reads s t h =
    let (a1, h1) = first_head _ _ h in
    let (a2, h2) = first_head _ _ h1 in
    let (a3, h3) = first_head _ _ h2 in
    let (a4, h4) = first_head _ _ h3 in
    let (a5, h5) = first_head _ _ h4 in
    let (a6, h6) = first_head _ _ h5 in
    let (a7, h7) = first_head _ _ h6 in
    record {
      sounds = not-false (sound s) a1;
      used = leb-false s.object_count t a2;
      known = eqb-true (format_of (bytes_of s t)) 1 (not-false _ a4);
      exactly = eqb-true (length (bytes_of s t)) table_size (not-false _ a5);
      parts = not-false (parts_readable s t) a6;
      enough = ltb-false (length (glyphs_of s t)) (marks_in s t) a7;
    }

pub reads_no_case : (s : Store) (t : ℕ) → Reads s t → first_case (read_cases s t) ≡ None
unfolding read_cases first_case
reads_no_case s t r =
    rw (
      r.sounds,
      lt-leb s.object_count t r.used,
      le-ltb (length (bytes_of s t)) 2 (omega (arith, r.exactly)),
      eq-eqb (format_of (bytes_of s t)) 1 r.known,
      eq-eqb (length (bytes_of s t)) table_size r.exactly,
      r.parts,
      le-ltb (length (glyphs_of s t)) (marks_in s t) r.enough,
    )

-- ---- 4: the parts are there, and readable

pub record Parts (s : Store) (t : ℕ) : Type 0 where
  pub cover : (c : ℕ) × (child_at s t cover_at ≡ Some c)
  pub cover_reads : cover_readable (linked_bytes s t cover_at) ≡ true
  pub base_cover : (c : ℕ) × (child_at s t base_cover_at ≡ Some c)
  pub base_cover_reads : cover_readable (linked_bytes s t base_cover_at) ≡ true
  pub marks : (c : ℕ) × (child_at s t mark_array_at ≡ Some c)
  pub marks_long : length (mark_bytes s t) ≡ 2 + 4 * marks_in s t
  pub classes_low : (i : ℕ) → i < marks_in s t → mark_class (mark_bytes s t) i < classes_of s t
  pub bases : (c : ℕ) × (child_at s t base_array_at ≡ Some c)
  pub bases_long : length (base_bytes s t) ≡ 2 + 2 * (bases_in s t * classes_of s t)

module _ (s : Store) (t : ℕ) where
  -- a link is there, and what it leads to reads
  abbrev has : ℕ → Bool → Bool
  has q reads = is_some (child_at s t q) && reads

  abbrev covers : ℕ → Bool
  covers q = has q (cover_readable (linked_bytes s t q))

  abbrev marks_read : Bool
  marks_read = marks_readable (classes_of s t) (mark_bytes s t)

  abbrev bases_read : Bool
  bases_read = bases_readable (classes_of s t) (base_bytes s t)

  -- the class of mark i is one of the table's
  abbrev low : ℕ → Bool
  low i = ltb (mark_class (mark_bytes s t) i) (classes_of s t)

  pub parts_read : parts_readable s t ≡ true → Parts s t
  unfolding parts_readable marks_readable bases_readable
  parts_read h =
      let (three, bases) = and_both _ (has base_array_at bases_read) h in
      let (two, marks) = and_both _ (has mark_array_at marks_read) three in
      let (cover, base_cover) = and_both (covers cover_at) (covers base_cover_at) two in
      let (cover_there, cover_reads_lem) = and_both (is_some (child_at s t cover_at)) (cover_readable (linked_bytes s t cover_at)) cover in
      let (base_there, base-reads) = and_both (is_some (child_at s t base_cover_at)) (cover_readable (linked_bytes s t base_cover_at)) base_cover in
      let (marks-there, marks_read_lem) = and_both (is_some (child_at s t mark_array_at)) marks_read marks in
      let (bases-there, bases-read) = and_both (is_some (child_at s t base_array_at)) bases_read bases in
      let (long, classes) = and_both (eqb (length (mark_bytes s t)) (2 + 4 * marks_in s t)) (all low (marks_in s t)) marks_read_lem in
      record {
        cover = child_there s t cover_at cover_there;
        cover_reads = cover_reads_lem;
        base_cover = child_there s t base_cover_at base_there;
        base_cover_reads = base-reads;
        marks = child_there s t mark_array_at marks-there;
        marks_long = eqb-true (length (mark_bytes s t)) (2 + 4 * marks_in s t) long;
        classes_low = λ i l. ltb-true (mark_class (mark_bytes s t) i) (classes_of s t) (all_at_lem low (marks_in s t) classes i l);
        bases = child_there s t base_array_at bases-there;
        bases_long = eqb-true (length (base_bytes s t)) (2 + 2 * (bases_in s t * classes_of s t)) bases-read;
      }

  pub read_parts : Parts s t → parts_readable s t ≡ true
  unfolding parts_readable marks_readable bases_readable
  read_parts p =
      let cover : covers cover_at ≡ true = and_intro (is_some (child_at s t cover_at)) _ (ap is_some p.cover.1) p.cover_reads in
      let base_cover : covers base_cover_at ≡ true = and_intro (is_some (child_at s t base_cover_at)) _ (ap is_some p.base_cover.1) p.base_cover_reads in
      let long = eq-eqb (length (mark_bytes s t)) (2 + 4 * marks_in s t) p.marks_long in
      let classes = all_intro low (marks_in s t) (λ i l. lt-ltb (mark_class (mark_bytes s t) i) (classes_of s t) (p.classes_low i l)) in
      let marks : has mark_array_at marks_read ≡ true
      = and_intro (is_some (child_at s t mark_array_at)) marks_read (ap is_some p.marks.1)
      (and_intro (eqb (length (mark_bytes s t)) (2 + 4 * marks_in s t)) _ long classes) in
      let bases : has base_array_at bases_read ≡ true
      = and_intro (is_some (child_at s t base_array_at)) bases_read (ap is_some p.bases.1)
      (eq-eqb (length (base_bytes s t)) (2 + 2 * (bases_in s t * classes_of s t)) p.bases_long) in
      and_intro _ _ (and_intro _ _ (and_intro (covers cover_at) (covers base_cover_at) cover base_cover) marks) bases

-- ---- 7: the offsets of the table and of its arrays stand at slots

pub record AtSlots (s : Store) (t : ℕ) : Type 0 where
  pub table : (k : ℕ) → k < s.link_count → offset_of t (link_at s k) ≡ true → is_table_slot (position_of s k) ≡ true
  pub marks : (k : ℕ) → k < s.link_count → offset_of (mark_array s t) (link_at s k) ≡ true → is_mark_slot (position_of s k) ≡ true
  pub bases : (k : ℕ) → k < s.link_count → offset_of (base_array s t) (link_at s k) ≡ true → is_base_slot (position_of s k) ≡ true

pub at_slots_lem : (s : Store) (t : ℕ) → all_at_slots s t ≡ true → AtSlots s t
unfolding all_at_slots
at_slots_lem s t h =
    let (two, bases) = and_both _ (all_at s (base_array s t) is_base_slot) h in
    let (table, marks) = and_both (all_at s t is_table_slot) (all_at s (mark_array s t) is_mark_slot) two in
    record {
      table = one_stands s t is_table_slot table;
      marks = one_stands s (mark_array s t) is_mark_slot marks;
      bases = one_stands s (base_array s t) is_base_slot bases;
    }

pub slots_at_lem : (s : Store) (t : ℕ) → AtSlots s t → all_at_slots s t ≡ true
unfolding all_at_slots
slots_at_lem s t a =
    and_intro _ _ (and_intro _ _ (all_stand s t is_table_slot a.table) (all_stand s (mark_array s t) is_mark_slot a.marks))
    (all_stand s (base_array s t) is_base_slot a.bases)

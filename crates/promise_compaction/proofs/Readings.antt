-- Readings of kept tables stay, with what they name under new numbers. Assumes nothing.
use Rattle.std.specs.Prelude.{Option, Some, None}
use Prim.Native.Nat.{ℕ, ◌+◌, ◌*◌}
use mathlib.Core.Path.{◌≡◌, refl, sym, ap, ◌∙◌}
use mathlib.Core.Bool.{Bool, true}
use mathlib.Core.List.{List, map}
use native.Mathlib.Omega.{arith}
use borrow.Author.Tests.{lt-leb}
use Rattle.folds.specs.Lists.{is_some}
use Rattle.folds.proofs.Agree.{both_ways}
use Rattle.folds.proofs.Folds.{upto-same}
use Rattle.folds.proofs.Moved.{map-upto}
use Rattle.folds.proofs.Each.{Each, each_then}
use Rattle.ot_layouts.specs.Lookup.{subtable_count, lookup_header}
use Rattle.store_rules.specs.Store.{Store, link_at, bytes_of, child_at, all_at}
use Rattle.store_rules.proofs.Sound.{Fits, fits_sound}
use Rattle.store_rules.proofs.Shaped.{of_offset, of_parent}
use Rattle.store_rules.proofs.Slots.{child_stands, children_stand}
use Rattle.store_rules.proofs.Lookups.{mapped, child_row, child_there}
use Rattle.store_rules.proofs.Renumbered.{SameUnder}
use Rattle.compact_rules.specs.Kept.{kept, renumber}
use Rattle.compact_rules.specs.Compacted.{compacted}
use Rattle.compact_rules.specs.Calls.{roots_used}
use Rattle.compact_rules.proofs.Numbers.{number_less}
use Rattle.compact_rules.proofs.Kept.{Keeps, keeps}
use Rattle.compact_rules.proofs.Objects.{objects_left_lem, bytes_kept}
use Rattle.compact_rules.proofs.Links.{compacted_fits, compacted_sound, child_kept}
use Rattle.pair_rules.specs.Calls.{read_in_order}
use Rattle.pair_rules.specs.Renumbered.{outcome_then}
use Rattle.pair_rules.proofs.RenumberedReading as pairs
use Rattle.mark_rules.proofs.RenumberedReading as marks
use Rattle.lookup_rules.specs.Listed.{slots_at, linked_in, subtable_slots}
use Rattle.lookup_rules.specs.Applied.{subtables, applied}
use Rattle.lookup_rules.proofs.Slots.{linked_mapped, each_linked}
use Rattle.promise_compaction.specs.Readings.{ReadingsKept}

module _ (s : Store) (f : Fits s) (keep : ℕ → Bool) (k : Keeps s keep) where
  -- what a kept object leads to is kept
  pub child_keeps : (u q c : ℕ) → keep u ≡ true → child_at s u q ≡ Some c → keep c ≡ true
  child_keeps u q c h e =
      let (j, l, a, b, x) = child_row s u q c e in
      sym (ap keep x) ∙ k.closed j l (of_offset u (link_at s j) a) (ap keep (of_parent u (link_at s j) a) ∙ h)

  pub same_under : (u : ℕ) → keep u ≡ true → SameUnder (renumber keep) s (compacted s keep) u
  same_under u h =
      record {
        sounds = compacted_sound s f keep k ∙ sym (fits_sound s f);
        used =
            lt-leb (compacted s keep).object_count (renumber keep u) (omega (arith, objects_left_lem s keep, number_less keep u s.object_count h (k.used u h)))
            ∙ sym (lt-leb s.object_count u (k.used u h));
        bytes = bytes_kept s f keep k u h;
        links = λ q. child_kept s f keep k u h q;
        child_bytes = λ q c e. bytes_kept s f keep k c (child_keeps u q c h e);
        child_links = λ q c e r. child_kept s f keep k c (child_keeps u q c h e) r;
      }

  -- its links stand at slots as they stood
  pub all-at_kept : (u : ℕ) (slot : ℕ → Bool) → keep u ≡ true → all_at (compacted s keep) (renumber keep u) slot ≡ all_at s u slot
  all-at_kept u slot h =
      both_ways _ _
      (λ e. children_stand s u slot f (λ q c x. child_stands (compacted s keep) (renumber keep u) slot e q (renumber keep c) (child_kept s f keep k u h q ∙ ap (mapped (renumber keep)) x)))
      (λ e. children_stand (compacted s keep) (renumber keep u) slot (compacted_fits s f keep k)
      (λ q c x. let (d, y) = child_there s u q (there (child_at s u q) (sym (child_kept s f keep k u h q) ∙ x)) in child_stands s u slot e q d y))
    where
      there : {c : ℕ} (o : Option ℕ) → mapped (renumber keep) o ≡ Some c → is_some o ≡ true
      there (Some d) e = refl
      there None e = let z : ◌≡◌ {A = ℕ} 0 1 = cc in absurd (omega arith)

  -- ---- lookups

  -- slots of a kept object lead where they led, and that is kept
  pub slots_then : (p a n : ℕ) → keep p ≡ true → slots_at (compacted s keep) (renumber keep p) a n ≡ map (mapped (renumber keep)) (slots_at s p a n)
  unfolding slots_at
  slots_then p a n h =
      upto-same (λ i. child_at (compacted s keep) (renumber keep p) (a + 2 * i)) (λ i. mapped (renumber keep) (child_at s p (a + 2 * i))) n
      (λ i l. child_kept s f keep k p h (a + 2 * i))
      ∙ sym (map-upto (mapped (renumber keep)) (λ i. child_at s p (a + 2 * i)) n)

  pub linked_kept : (p a n : ℕ) → keep p ≡ true → Each (λ c. keep c ≡ true) (linked_in (slots_at s p a n))
  unfolding slots_at
  linked_kept p a n h = each_linked (λ c. keep c ≡ true) (λ i. child_at s p (a + 2 * i)) n (λ i c l e. child_keeps p (a + 2 * i) c h e)

  -- those of a lookup
  pub subtables_then : (p : ℕ) → keep p ≡ true → subtable_slots (compacted s keep) (renumber keep p) ≡ map (mapped (renumber keep)) (subtable_slots s p)
  unfolding subtable_slots
  subtables_then p h =
      ap (λ (b : List ℕ). slots_at (compacted s keep) (renumber keep p) lookup_header (subtable_count b)) (bytes_kept s f keep k p h)
      ∙ slots_then p lookup_header (subtable_count (bytes_of s p)) h

  subtables_under : (p : ℕ) → keep p ≡ true → Each (SameUnder (renumber keep) s (compacted s keep)) (subtables s p)
  unfolding subtable_slots
  subtables_under p h =
      each_then (λ c. keep c ≡ true) (SameUnder (renumber keep) s (compacted s keep)) same_under (subtables s p)
      (linked_kept p lookup_header (subtable_count (bytes_of s p)) h)

  pub applied_then : (p : ℕ) → keep p ≡ true → (a b : ℕ) → applied (compacted s keep) (renumber keep p) a b ≡ outcome_then (renumber keep) (applied s p a b)
  unfolding applied
  applied_then p h a b =
      ap (λ (os : List (Option ℕ)). read_in_order (compacted s keep) (linked_in os) a b) (subtables_then p h)
      ∙ ap (λ (us : List ℕ). read_in_order (compacted s keep) us a b) (linked_mapped (renumber keep) (subtable_slots s p))
      ∙ pairs.in_order_then (renumber keep) s (compacted s keep) (subtables s p) (subtables_under p h) a b

pub readings_kept : (s : Store) → Fits s → (roots : List ℕ) → roots_used s.object_count roots ≡ true → ReadingsKept s roots (compacted s (kept s roots))
readings_kept s f roots used =
    let k = keeps s f roots used in
    record {
      pairs = λ t h a b. pairs.reading_then (same_under s f (kept s roots) k t h) a b;
      lookups = λ p h a b. applied_then s f (kept s roots) k p h a b;
      marks = λ t h m b. marks.reading_then (same_under s f (kept s roots) k t h) m b;
    }

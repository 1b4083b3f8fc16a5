-- Tables whose pair sets are sorted: each linked one is, and so the pair reading takes the table. Assumes nothing.
use Rattle.std.specs.Prelude.{Option, Some, None}
use Prim.Native.Nat.{ℕ, ◌<◌}
use mathlib.Core.Path.{◌≡◌, refl, ◌∙◌}
use mathlib.Core.Bool.{Bool, true, false}
use lib.Dec.{eqb}
use borrow.Author.Tests.{not-false}
use Rattle.folds.specs.Folds.{all}
use Rattle.folds.proofs.Tests.{by_test}
use Rattle.folds.proofs.Folds.{all_at_lem, all_intro}
use Rattle.ot_layouts.specs.PairPos.{item_at, record_size, set_sorted}
use Rattle.store_rules.specs.Store.{Store, bytes_of, child_at}
use Rattle.call_rules.specs.Answers.{first_case}
use Rattle.call_rules.proofs.Cases.{first_head, first_append, first_skip}
use Rattle.pair_rules.specs.Table.{shape, sorted_in, sets_sorted}
use Rattle.pair_rules.specs.Reads.{ReadsPairs}
use Rattle.pair_rules.specs.Calls.{read_cases, pair_cases}
use Rattle.pair_rules.proofs.Checks.{no_case_reads, reads_no_case}

-- ---- a slot

pub sorted_some : (s : Store) (size : ℕ) (o : Option ℕ) (c : ℕ) → o ≡ Some c → sorted_in s size o ≡ set_sorted (bytes_of s c) size
sorted_some s size o c e = rw e

pub sorted_where : (s : Store) (size : ℕ) (o : Option ℕ) → ((c : ℕ) → o ≡ Some c → set_sorted (bytes_of s c) size ≡ true) → sorted_in s size o ≡ true
sorted_where s size None h = refl
sorted_where s size (Some c) h = h c refl

-- ---- all of them

module _ (s : Store) (t : ℕ) where
  -- the set at slot k
  abbrev slot_sorted : ℕ → Bool
  slot_sorted k = sorted_in s (record_size (bytes_of s t)) (child_at s t (item_at (shape s t) k))

  pub sets_by_slots : eqb (shape s t).format 1 ≡ true → sets_sorted s t ≡ all slot_sorted (shape s t).count
  unfolding sets_sorted
  sets_by_slots e = rw e

  pub no_sets : eqb (shape s t).format 1 ≡ false → sets_sorted s t ≡ true
  unfolding sets_sorted
  no_sets e = rw e

  pub set_sorted_lem : sets_sorted s t ≡ true → eqb (shape s t).format 1 ≡ true
      → (k c : ℕ) → k < (shape s t).count → child_at s t (item_at (shape s t) k) ≡ Some c → set_sorted (bytes_of s c) (record_size (bytes_of s t)) ≡ true
  unfolding sets_sorted
  set_sorted_lem h e k c l child =
      rw (← sorted_some s (record_size (bytes_of s t)) (child_at s t (item_at (shape s t) k)) c child) (all_at_lem slot_sorted (shape s t).count (rw e at h) k l)

  pub sets_sorted_lem :
      (eqb (shape s t).format 1 ≡ true → (k c : ℕ) → k < (shape s t).count → child_at s t (item_at (shape s t) k) ≡ Some c
      → set_sorted (bytes_of s c) (record_size (bytes_of s t)) ≡ true)
      → sets_sorted s t ≡ true
  sets_sorted_lem h =
      by_test (eqb (shape s t).format 1)
      (λ e. rw (sets_by_slots e)
      (all_intro slot_sorted (shape s t).count
      (λ k l. sorted_where s (record_size (bytes_of s t)) (child_at s t (item_at (shape s t) k)) (λ c child. h e k c l child))))
      no_sets

-- ---- 1 to 5 and 11

pub no_case_pairs : (s : Store) (t : ℕ) → first_case (pair_cases s t) ≡ None → ReadsPairs s t
unfolding pair_cases
no_case_pairs s t h =
    let (reading, eleven) = first_append (read_cases s t) _ h in
    record { reads = no_case_reads s t reading; sorted = not-false (sets_sorted s t) (first_head _ _ eleven).0 }

pub pairs_no_case : (s : Store) (t : ℕ) → ReadsPairs s t → first_case (pair_cases s t) ≡ None
unfolding pair_cases first_case
pairs_no_case s t r = first_skip (read_cases s t) _ (reads_no_case s t r.reads) ∙ rw r.sorted

-- Every compaction keeps what is promised of it. Assumes nothing.
use Rattle.std.specs.Prelude.{Option, Some, None}
use Prim.Native.Nat.{ℕ, ◌*◌, ◌≤◌}
use mathlib.Core.Path.{◌≡◌, refl, sym, ap, subst, ◌∙◌}
use mathlib.Core.Bool.{Bool, true, false, cond, not}
use mathlib.Core.List.{List}
use native.Mathlib.Omega.{arith}
use lib.ListN.{length}
use lib.Dec.{ltb}
use Rattle.store_rules.specs.Store.{Store, sound}
use Rattle.store_rules.proofs.Sound.{Fits, sound_fits}
use Rattle.call_rules.specs.Answers.{first_case}
use Rattle.compact_rules.specs.Kept.{kept}
use Rattle.compact_rules.specs.Compacted.{compacted, roots_then}
use Rattle.compact_rules.specs.Calls.{CompactOutcome, compact_outcome, walk_left, compact_cases, compact_done, settle_compact, compaction_call, roots_used}
use Rattle.compact_rules.proofs.Cases.{first_none, none_refuses}
use Rattle.compact_rules.proofs.Kept.{keeps}
use Rattle.compact_rules.proofs.Links.{compacted_sound}
use Rattle.compact_rules.proofs.Rests.{stays_bytes}
use Rattle.compact_rules.proofs.Moved.{moved_by_heads, moved_most}
use Rattle.compact_rules.proofs.Again.{new_used, store_again, moved_again, roots_again}
use Rattle.promise_calls.specs.Given.{Gives}
use Rattle.promise_calls.proofs.Given.{answer_of, gives_first, exactly}
use Rattle.promise_compaction.specs.Calls.{MayCompact, CompactLeaves, CompactKeeps, CompactionPromised, CompactsExactly}
use Rattle.promise_compaction.proofs.Kept.{all-kept}
use Rattle.promise_compaction.proofs.Rests.{no_gaps, all-wiped, room_freed}
use Rattle.promise_compaction.proofs.Readings.{readings_kept}
use Rattle.promise_compaction.proofs.Cuts.{cuts_kept}
use Rattle.promise_compaction.proofs.MarkCuts.{mark_cuts_kept}
use Rattle.promise_compaction.proofs.NextSplits.{next_split, next_mark_split}
use Rattle.promise_compaction.proofs.Entries.{next_entry}

module _ (s : Store) (roots walk : List ℕ) where
  pub no_case_may : first_case (compact_cases s roots walk) ≡ None → MayCompact s roots walk
  no_case_may h = let (a, b, c) = none_refuses s roots walk h in record { sounds = a; used = b; enough = c }

  pub may_no_case : MayCompact s roots walk → first_case (compact_cases s roots walk) ≡ None
  may_no_case m = first_none s roots walk m.sounds m.used m.enough

  -- it goes ahead
  pub goes_ahead : MayCompact s roots walk → compaction_call s roots walk ≡ compact_done s (kept s roots) roots walk
  unfolding compaction_call settle_compact
  goes_ahead m = ap (λ (c : Option ℕ). settle_compact c s roots walk (compact_done s (kept s roots) roots walk)) (may_no_case m)

-- "close all gaps" is done once
module _ (s : Store) (f : Fits s) (roots : List ℕ) (used : roots_used s.object_count roots ≡ true) where
  abbrev left : Store
  left = compacted s (kept s roots)

  abbrev new : List ℕ
  new = roots_then (kept s roots) roots

  nothing_again : (walk : List ℕ) → 2 * left.object_count ≤ length walk → compaction_call left new walk ≡ compact_outcome 0 0 left new (walk_left walk)
  unfolding compact_done
  nothing_again walk h =
      let m : MayCompact left new walk
      = record { sounds = compacted_sound s f (kept s roots) (keeps s f roots used); used = new_used s f roots used; enough = h } in
      goes_ahead left new walk m
      ∙ (λ i. compact_outcome 0 (moved_again s f roots used i) (store_again s f roots used i) (roots_again s f roots used i) (walk_left walk))

  leaves : (walk : List ℕ) → CompactLeaves s roots (compact_done s (kept s roots) roots walk)
  unfolding compact_done
  leaves walk =
      record {
        answers = refl;
        sounds = compacted_sound s f (kept s roots) (keeps s f roots used);
        octets = stays_bytes s f (kept s roots);
        keeps = all-kept s f roots used;
        gaps = no_gaps s f (kept s roots);
        moved = moved_by_heads s f (kept s roots) (keeps s f roots used);
        most = moved_most s f (kept s roots) (keeps s f roots used);
        readings = readings_kept s f roots used;
        rewritten = refl;
        wiped = all-wiped s f (kept s roots);
        freed = room_freed s f (kept s roots);
        cuts =
            record {
              pairs = λ how t h r. cuts_kept s f (kept s roots) (keeps s f roots used) how t h r;
              marks = λ how t h r. mark_cuts_kept s f (kept s roots) (keeps s f roots used) how t h r;
            };
        next =
            record {
              pairs = λ how t h w list. next_split s f (kept s roots) (keeps s f roots used) how t h w list;
              marks = λ how t h w list. next_mark_split s f (kept s roots) (keeps s f roots used) how t h w list;
              lookups = λ how l t g h w list. next_entry s f (kept s roots) (keeps s f roots used) how l t g h w list;
            };
        again = nothing_again;
      }

pub compaction_promised : CompactionPromised
unfolding compaction_call settle_compact compact_done
compaction_promised s roots walk =
    record {
      answers = number (first_case (compact_cases s roots walk)) (gives_first (compact_cases s roots walk));
      ahead = λ m. subst (CompactLeaves s roots) (sym (goes_ahead s roots walk m)) (leaves s (sound_fits s m.sounds) roots m.used walk);
      nothing = λ ne. refused (first_case (compact_cases s roots walk)) (λ e. ne (no_case_may s roots walk e));
      zero = wiped (first_case (compact_cases s roots walk));
    }
  where
    done : CompactOutcome
    done = compact_done s (kept s roots) roots walk

    number : (c : Option ℕ) → Gives (compact_cases s roots walk) (answer_of c) → Gives (compact_cases s roots walk) (settle_compact c s roots walk done).answer
    number (Some n) g = g
    number None g = g

    refused : (c : Option ℕ) → (c ≡ None → ⊥)
        → ((settle_compact c s roots walk done).moved ≡ 0) × ((settle_compact c s roots walk done).store ≡ s) × ((settle_compact c s roots walk done).roots ≡ roots)
    refused (Some n) ne = (refl, refl, refl)
    refused None ne = absurd (ne refl)

    wiped : (c : Option ℕ) → (settle_compact c s roots walk done).walk ≡ walk_left walk
    wiped (Some n) = refl
    wiped None = refl

-- whatever has the call's outcome does
pub compact_keeps : (s : Store) (roots walk : List ℕ) (o : CompactOutcome) → o ≡ compaction_call s roots walk → CompactKeeps s roots walk o
compact_keeps s roots walk o e = subst (CompactKeeps s roots walk) (sym e) (compaction_promised s roots walk)

-- no case answers 0
no_zero : (s : Store) (roots walk : List ℕ) → first_case (compact_cases s roots walk) ≡ Some 0 → ⊥
unfolding compact_cases first_case
no_zero s roots walk = go (not (sound s)) (not (roots_used s.object_count roots)) (ltb (length walk) (2 * s.object_count))
  where
    go : (a b c : Bool) → cond {A = Option ℕ} a (Some 1) (cond b (Some 2) (cond c (Some 6) None)) ≡ Some 0 → ⊥
    go true b c e = let z : ◌≡◌ {A = ℕ} 1 0 = cc in omega arith
    go false true c e = let z : ◌≡◌ {A = ℕ} 2 0 = cc in omega arith
    go false false true e = let z : ◌≡◌ {A = ℕ} 6 0 = cc in omega arith
    go false false false e = let z : ◌≡◌ {A = ℕ} 0 1 = cc in omega arith

-- each number is answered exactly if its case is the first that applies, and 0 exactly if none does
pub compacts_exactly : CompactsExactly
unfolding compaction_call settle_compact compact_done
compacts_exactly s roots walk = (
  exactly (compact_cases s roots walk) (compaction_call s roots walk).answer (compaction_promised s roots walk).answers,
  (λ e. no_case_may s roots walk (went (first_case (compact_cases s roots walk)) (no_zero s roots walk) e)),
  (λ m. ap (λ (o : CompactOutcome). o.answer) (goes_ahead s roots walk m)),
)
  where
    went : (c : Option ℕ) → (c ≡ Some 0 → ⊥) → (settle_compact c s roots walk (compact_done s (kept s roots) roots walk)).answer ≡ 0 → c ≡ None
    went (Some n) ne e = absurd (ne (ap Some e))
    went None ne e = refl

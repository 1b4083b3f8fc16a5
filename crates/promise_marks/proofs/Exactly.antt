-- When a call goes ahead: exactly if what the documents ask for holds. Assumes nothing.
use Rattle.std.specs.Prelude.{None}
use Prim.Native.Nat.{ℕ}
use mathlib.Core.Path.{◌≡◌, refl, ◌∙◌}
use mathlib.Core.List.{List, []}
use lib.ListN.{length}
use borrow.Author.Tests.{ltb-false, le-ltb}
use Rattle.store_rules.specs.Store.{Store}
use Rattle.store_rules.specs.Reach.{on_cycle}
use Rattle.call_rules.specs.declared.Settings.{Settings}
use Rattle.call_rules.specs.Scratch.{Scratch}
use Rattle.call_rules.specs.Answers.{first_case}
use Rattle.call_rules.proofs.Cases.{first_append, first_head, first_skip}
use Rattle.mark_rules.specs.Table.{all_at_slots, cut_places}
use Rattle.mark_rules.specs.Written.{needs_of, needed}
use Rattle.mark_rules.specs.Calls.{read_cases, cut_cases, last_cases, split_cases, plan_cases, scratch_short}
use Rattle.mark_rules.proofs.Checks.{no_case_reads, reads_no_case}
use Rattle.promise_calls.proofs.Asked.{no_case_checks, checks_no_case, no_case_room, room_no_case}
use Rattle.promise_marks.specs.Exactly.{Checked, MaySplit, MayPlan}

module _ (how : Settings) (s : Store) (t : ℕ) (w : Scratch) where
  -- ---- 12, and 1 to 7

  no_case_checked : first_case (cut_cases how s t w) ≡ None → Checked how s t w
  unfolding cut_cases
  no_case_checked h =
      let (known, read, scratch, slots, loop, rest) = no_case_checks how (read_cases s t) (scratch_short s t w) (all_at_slots s t) (on_cycle s t) [] h in
      record { known = known; reads = no_case_reads s t read; scratch = scratch; at_slots = slots; acyclic = loop }

  pub checked_no_case : Checked how s t w → first_case (cut_cases how s t w) ≡ None
  unfolding cut_cases first_case
  checked_no_case c =
      checks_no_case how (read_cases s t) (scratch_short s t w) (all_at_slots s t) (on_cycle s t) []
      c.known (reads_no_case s t c.reads) c.scratch c.at_slots c.acyclic refl

  module _ (list : List ℕ) where
    abbrev cs : List ℕ
    cs = cut_places how s t

    -- ---- and 8: a split

    pub no_case_splits : first_case (split_cases how s t w list) ≡ None → MaySplit how s t w list
    unfolding split_cases last_cases needed needs_of
    no_case_splits h =
        let (cut, some, room) = no_case_room (cut_cases how s t w) cs s list (needed s t cs) h in
        record { checked = no_case_checked cut; cuts = some; objects = room.objects; links = room.links; bytes = room.bytes; entries = room.entries }

    pub splits_no_case : MaySplit how s t w list → first_case (split_cases how s t w list) ≡ None
    unfolding split_cases last_cases needed needs_of
    splits_no_case m =
        room_no_case (cut_cases how s t w) cs s list (needed s t cs) (checked_no_case m.checked) m.cuts
        (record { objects = m.objects; links = m.links; bytes = m.bytes; entries = m.entries })

    -- ---- a plan

    pub no_case_plans : first_case (plan_cases how s t w list) ≡ None → MayPlan how s t w list
    unfolding plan_cases
    no_case_plans h =
        let (cut, rest) = first_append (cut_cases how s t w) _ h in
        record { checked = no_case_checked cut; entries = ltb-false (length list) (length cs) (first_head _ _ rest).0 }

    pub plans_no_case : MayPlan how s t w list → first_case (plan_cases how s t w list) ≡ None
    unfolding plan_cases first_case
    plans_no_case m = first_skip (cut_cases how s t w) _ (checked_no_case m.checked) ∙ rw (le-ltb (length list) (length cs) m.entries)

-- The next split of a kept table: it is asked what it was asked before, but for 6 and 8. Assumes nothing.
use Rattle.std.specs.Prelude.{None}
use Prim.Native.Nat.{ℕ}
use mathlib.Core.Path.{◌≡◌, refl, sym, ap, ◌∙◌}
use mathlib.Core.Bool.{Bool, true, not}
use mathlib.Core.List.{List, [], ◌∷◌, ◌++◌, append_assoc}
use lib.ListN.{length}
use Rattle.folds.specs.Folds.{or_else}
use Rattle.folds.proofs.Folds.{length-upto}
use Rattle.store_rules.specs.Store.{Store}
use Rattle.store_rules.specs.Appended.{new_number}
use Rattle.store_rules.specs.Reach.{on_cycle}
use Rattle.store_rules.proofs.Sound.{Fits}
use Rattle.store_rules.proofs.Renumbered.{SameUnder}
use Rattle.call_rules.specs.declared.Settings.{Settings}
use Rattle.call_rules.specs.declared.Answer.TheVariants.{UnsortedSets}
use Rattle.call_rules.specs.Answers.{Case, case, first_case}
use Rattle.call_rules.specs.Settings.{settings_cases}
use Rattle.call_rules.specs.Scratch.{Scratch}
use Rattle.call_rules.proofs.Cases.{first_append, first_either}
use Rattle.compact_rules.specs.Kept.{renumber}
use Rattle.compact_rules.specs.Compacted.{compacted}
use Rattle.compact_rules.proofs.Kept.{Keeps}
use Rattle.compact_rules.proofs.SameReach.{cycle_kept}
use Rattle.pair_rules.specs.Table as pair_tables
use Rattle.pair_rules.specs.Written as pair_written
use Rattle.pair_rules.specs.Calls as pair_calls
use Rattle.pair_rules.proofs.Checks as pair_checks
use Rattle.pair_rules.proofs.RenumberedReading as pair_readings
use Rattle.mark_rules.specs.Table as mark_tables
use Rattle.mark_rules.specs.Written as mark_written
use Rattle.mark_rules.specs.Calls as mark_calls
use Rattle.mark_rules.proofs.Checks as mark_checks
use Rattle.mark_rules.proofs.RenumberedReading as mark_readings
use Rattle.promise_compaction.specs.Rests.{freed, short_having}
use Rattle.promise_compaction.specs.NextSplits.{NextCall}
use Rattle.promise_compaction.proofs.Readings.{same_under}
use Rattle.promise_compaction.proofs.Rests.{room_freed}
use Rattle.promise_compaction.proofs.Cuts.{cuts_kept, slots_kept, scratch_kept, needs_kept}
use Rattle.promise_compaction.proofs.MarkCuts.{mark_cuts_kept, mark_slots_kept, mark_scratch_kept, mark_needs_kept}
use Rattle.promise_compaction.proofs.NextCall.{no_eight, Asking, cases_of, AskedAlike, OneEight, next_call}

-- 12 in front of what a reading asks
pub settings_first : (how : Settings) (xs ys : List Case) → first_case xs ≡ first_case ys → first_case (settings_cases how ++ xs) ≡ first_case (settings_cases how ++ ys)
settings_first how xs ys e =
    first_either (settings_cases how) xs ∙ ap (or_else (first_case (settings_cases how))) e ∙ sym (first_either (settings_cases how) ys)

-- ---- a pair table

-- what a split of it asks
abbrev pub pair_asking : Settings → Store → ℕ → Scratch → Asking
pair_asking how s t w =
    record {
      front = settings_cases how ++ pair_calls.read_cases s t;
      six = pair_calls.scratch_short s t w;
      slots = pair_tables.all_at_slots s t;
      loop = on_cycle s t;
      others = pair_calls.unsorted_case s t ∷ [];
      cuts = pair_tables.cut_places how s t;
      last = [];
      needs = pair_written.needed s t (pair_tables.cut_places how s t);
    }

pair_asks : (how : Settings) (s : Store) (t : ℕ) (w : Scratch) (list : List ℕ) → pair_calls.split_cases how s t w list ≡ cases_of s list (pair_asking how s t w)
unfolding pair_calls.split_cases pair_calls.cut_cases pair_calls.last_cases
pair_asks how s t w list = append_assoc (settings_cases how ++ pair_calls.read_cases s t) _ _

pub pair_eights : (how : Settings) (s : Store) (t : ℕ) (w : Scratch) → OneEight (pair_asking how s t w)
unfolding no_eight settings_cases pair_calls.read_cases
pair_eights how s t w = record { front = refl; middle = refl }

pub pair_tables_lem : (s : Store) (t : ℕ) (cs : List ℕ) → length (pair_written.new_tables s t cs) ≡ length cs
unfolding pair_written.new_tables
pair_tables_lem s t cs = length-upto (new_number s (pair_written.per_table (pair_tables.shape s t))) (length cs)

module _ (s : Store) (f : Fits s) (keep : ℕ → Bool) (k : Keeps s keep) (how : Settings) (t : ℕ) (h : keep t ≡ true) (w : Scratch) where
  abbrev left : Store
  left = compacted s keep

  abbrev u : ℕ
  u = renumber keep t

  same : SameUnder (renumber keep) s left t
  same = same_under s f keep k t h

  pub pair_alike : first_case (pair_calls.read_cases s t) ≡ None → AskedAlike (pair_asking how s t w) (pair_asking how left u w)
  pair_alike reads =
      let r = pair_checks.no_case_reads s t reads in
      let cuts = cuts_kept s f keep k how t h r in
      record {
        fewer = scratch_kept s f keep k how t h r w;
        slots = slots_kept s f keep k how t h r;
        loop = cycle_kept s f keep k t h;
        others = λ i. case UnsortedSets (not (pair_readings.sorted_same same i)) ∷ [];
        cuts = cuts;
        last = refl;
        needs = ap (pair_written.needed left u) cuts ∙ needs_kept s f keep k how t h r (pair_tables.cut_places how s t);
      }

  pub next_split : (list : List ℕ)
      → NextCall (pair_calls.split_call how s t w list) (pair_calls.split_call how left u w list)
      (short_having (freed s left) s list (pair_written.needed s t (pair_tables.cut_places how s t)))
  unfolding pair_calls.split_call
  next_split list =
      rw (pair_asks how s t w list, pair_asks how left u w list)
      (next_call s _ (pair_written.new_tables s t (pair_tables.cut_places how s t)) left _ (pair_written.new_tables left u (pair_tables.cut_places how left u)) w list
      (room_freed s f keep) (pair_asking how s t w) (pair_asking how left u w)
      (settings_first how (pair_calls.read_cases left u) (pair_calls.read_cases s t) (pair_readings.checks_same same))
      (λ e. pair_alike (first_append (settings_cases how) (pair_calls.read_cases s t) e).1) (pair_eights how s t w)
      (pair_tables_lem s t (pair_tables.cut_places how s t)) (pair_tables_lem left u (pair_tables.cut_places how left u)))

-- ---- a mark-to-base table

abbrev mark_asking : Settings → Store → ℕ → Scratch → Asking
mark_asking how s t w =
    record {
      front = settings_cases how ++ mark_calls.read_cases s t;
      six = mark_calls.scratch_short s t w;
      slots = mark_tables.all_at_slots s t;
      loop = on_cycle s t;
      others = [];
      cuts = mark_tables.cut_places how s t;
      last = [];
      needs = mark_written.needed s t (mark_tables.cut_places how s t);
    }

mark_asks : (how : Settings) (s : Store) (t : ℕ) (w : Scratch) (list : List ℕ) → mark_calls.split_cases how s t w list ≡ cases_of s list (mark_asking how s t w)
unfolding mark_calls.split_cases mark_calls.cut_cases mark_calls.last_cases
mark_asks how s t w list = append_assoc (settings_cases how ++ mark_calls.read_cases s t) _ _

mark_eights : (how : Settings) (s : Store) (t : ℕ) (w : Scratch) → OneEight (mark_asking how s t w)
unfolding no_eight settings_cases mark_calls.read_cases
mark_eights how s t w = record { front = refl; middle = refl }

mark_tables_lem : (s : Store) (t : ℕ) (cs : List ℕ) → length (mark_written.new_tables s t cs) ≡ length cs
unfolding mark_written.new_tables
mark_tables_lem s t cs = length-upto (new_number s mark_written.per_table) (length cs)

module _ (s : Store) (f : Fits s) (keep : ℕ → Bool) (k : Keeps s keep) (how : Settings) (t : ℕ) (h : keep t ≡ true) (w : Scratch) where
  abbrev mark_left : Store
  mark_left = compacted s keep

  abbrev v : ℕ
  v = renumber keep t

  mark_alike : first_case (mark_calls.read_cases s t) ≡ None → AskedAlike (mark_asking how s t w) (mark_asking how mark_left v w)
  mark_alike reads =
      let r = mark_checks.no_case_reads s t reads in
      let cuts = mark_cuts_kept s f keep k how t h r in
      record {
        fewer = mark_scratch_kept s f keep k how t h r w;
        slots = mark_slots_kept s f keep k how t h r;
        loop = cycle_kept s f keep k t h;
        others = refl;
        cuts = cuts;
        last = refl;
        needs = ap (mark_written.needed mark_left v) cuts ∙ mark_needs_kept s f keep k how t h r (mark_tables.cut_places how s t);
      }

  pub next_mark_split : (list : List ℕ)
      → NextCall (mark_calls.mark_split_call how s t w list) (mark_calls.mark_split_call how mark_left v w list)
      (short_having (freed s mark_left) s list (mark_written.needed s t (mark_tables.cut_places how s t)))
  unfolding mark_calls.mark_split_call
  next_mark_split list =
      rw (mark_asks how s t w list, mark_asks how mark_left v w list)
      (next_call s _ (mark_written.new_tables s t (mark_tables.cut_places how s t)) mark_left _ (mark_written.new_tables mark_left v (mark_tables.cut_places how mark_left v)) w list
      (room_freed s f keep) (mark_asking how s t w) (mark_asking how mark_left v w)
      (settings_first how (mark_calls.read_cases mark_left v) (mark_calls.read_cases s t) (mark_readings.checks_same (same_under s f keep k t h)))
      (λ e. mark_alike (first_append (settings_cases how) (mark_calls.read_cases s t) e).1) (mark_eights how s t w)
      (mark_tables_lem s t (mark_tables.cut_places how s t)) (mark_tables_lem mark_left v (mark_tables.cut_places how mark_left v)))

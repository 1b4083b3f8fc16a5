-- When a call enters new tables: exactly if what documents 01 and 02 ask for holds. Assumes nothing.
use Rattle.std.specs.Prelude.{None}
use Prim.Native.Nat.{ℕ, ◌<◌, ◌≤◌}
use mathlib.Core.Path.{◌≡◌, ◌∙◌}
use mathlib.Core.Bool.{true}
use mathlib.Core.List.{List, ◌++◌}
use native.Mathlib.Omega.{arith}
use lib.ListN.{length, get_or}
use lib.Dec.{leb}
use borrow.Author.Tests.{leb-true, le-leb, leb-false, lt-leb, not-false}
use Rattle.folds.proofs.Folds.{all_at_lem, all_intro}
use Rattle.store_rules.specs.Store.{Store}
use Rattle.call_rules.specs.declared.Settings.{Settings}
use Rattle.call_rules.specs.Scratch.{Scratch}
use Rattle.call_rules.specs.Answers.{first_case}
use Rattle.call_rules.specs.Settings.{settings_cases}
use Rattle.call_rules.proofs.Cases.{first_append, first_head, first_skip}
use Rattle.call_rules.proofs.KnownSettings.{known_pass}
use Rattle.pair_rules.specs.Table.{cut_places}
use Rattle.pair_rules.specs.Written.{needs_of, needed}
use Rattle.pair_rules.specs.Calls.{cut_cases}
use Rattle.lookup_rules.specs.Listed.{rewritten}
use Rattle.lookup_rules.specs.Written.{new_slots, counts_fit, lookups_need, needed_in_all}
use Rattle.lookup_rules.specs.Calls.{list_cases, enter_cases, lookup_cases}
use Rattle.promise_calls.proofs.Asked.{not_empty, some_cut_lem, not_short, room_enough}
use Rattle.promise_pairs.proofs.Exactly.{no_case_checked, checked_no_case}
use Rattle.promise_lookups.specs.Demands.{tables_new}
use Rattle.promise_lookups.specs.Exactly.{MayEnter}

module _ (how : Settings) (s : Store) (l t : ℕ) (w : Scratch) (list : List ℕ) where
  abbrev cs : List ℕ
  cs = cut_places how s t

  abbrev ps : List ℕ
  ps = rewritten s l t

  -- how many subtables new lookup m has
  abbrev many : ℕ → ℕ
  many m = length (new_slots s t (tables_new how s t) (get_or (rewritten s l t) m 0))

  counts_fit_lem : counts_fit s t (tables_new how s t) ps ≡ true → (m : ℕ) → m < length ps → many m ≤ 65535
  unfolding counts_fit
  counts_fit_lem h m k = leb-true (many m) 65535 (all_at_lem (λ m. leb (many m) 65535) (length ps) h m k)

  fit_counts : ((m : ℕ) → m < length ps → many m ≤ 65535) → counts_fit s t (tables_new how s t) ps ≡ true
  unfolding counts_fit
  fit_counts h = all_intro (λ m. leb (many m) 65535) (length ps) (λ m k. le-leb (many m) 65535 (h m k))

  pub no_case_enters : first_case (lookup_cases how s l t w list) ≡ None → MayEnter how s l t w list
  unfolding lookup_cases list_cases settings_cases enter_cases needed_in_all needed needs_of lookups_need
  no_case_enters h =
      let (checks, b) = first_append (list_cases how s l t ++ cut_cases how s t w) (enter_cases s l t cs list) h in
      let (a, cut) = first_append (list_cases how s l t) (cut_cases how s t w) checks in
      let (twelve, a0) = first_head _ _ a in
      let (one, a1) = first_head _ _ a0 in
      let (two, a2) = first_head _ _ a1 in
      let (list_used, a3) = first_head _ _ a2 in
      let (nine, a4) = first_head _ _ a3 in
      let (some, b1) = first_head _ _ b in
      let (ten, b2) = first_head _ _ b1 in
      let room = not_short s list (needed_in_all s l t cs) (first_head _ _ b2).0 in
      let entries = room.entries in
      record {
        checked = no_case_checked how s t w cut;
        used = leb-false s.object_count l list_used;
        listed = nine;
        cuts = not_empty cs some;
        counts = counts_fit_lem (not-false _ ten);
        objects = room.objects;
        links = room.links;
        bytes = room.bytes;
        entries = omega arith;
      }

  asked : MayEnter how s l t w list → first_case (list_cases how s l t) ≡ None
  unfolding list_cases first_case
  asked m =
      let r = m.checked.reads in
      first_skip (settings_cases how) _ (known_pass how m.checked.known)
      ∙ rw (r.sounds, lt-leb s.object_count t r.used, lt-leb s.object_count l m.used, m.listed)

  last : MayEnter how s l t w list → first_case (enter_cases s l t cs list) ≡ None
  unfolding enter_cases first_case needed_in_all needed needs_of lookups_need
  last m =
      let entries = m.entries in
      rw (
        some_cut_lem cs m.cuts,
        fit_counts m.counts,
        room_enough s list (needed_in_all s l t cs) (record { objects = m.objects; links = m.links; bytes = m.bytes; entries = omega arith }),
      )

  pub enters_no_case : MayEnter how s l t w list → first_case (lookup_cases how s l t w list) ≡ None
  unfolding lookup_cases
  enters_no_case m =
      let cut : first_case (list_cases how s l t ++ cut_cases how s t w) ≡ None
      = first_skip (list_cases how s l t) (cut_cases how s t w) (asked m) ∙ checked_no_case how s t w m.checked in
      first_skip (list_cases how s l t ++ cut_cases how s t w) (enter_cases s l t cs list) cut ∙ last m

-- Splitting the kept table again under the same settings, scratch being enough, adds and changes nothing. Assumes nothing.
use Prim.Native.Nat.{ℕ}
use mathlib.Core.Path.{◌≡◌, refl}
use mathlib.Core.List.{List, []}
use Rattle.store_rules.specs.Store.{Store}
use Rattle.pair_rules.specs.Table.{cut_places}
use Rattle.pair_rules.specs.Written.{split_store, needed}
use Rattle.call_rules.specs.declared.Settings.{Settings}
use Rattle.call_rules.specs.Answers.{first_case}
use Rattle.call_rules.specs.Scratch.{Scratch}
use Rattle.pair_rules.specs.Calls.{split_call, split_cases, cut_cases, last_cases}
use Rattle.promise_calls.specs.Unchanged.{Unchanged}
use Rattle.promise_calls.proofs.Settled.{stopped}
use Rattle.promise_calls.proofs.Asked.{no_cut_case}
use Rattle.promise_pairs.specs.Demands.{AgainNothing}
use Rattle.promise_pairs.specs.Exactly.{Checked}
use Rattle.promise_pairs.proofs.Exactly.{checked_no_case}
use Rattle.promise_pairs.proofs.GoesAhead.{split_ahead, splits_may, splits_ready, store_written}
use Rattle.pair_after.proofs.SortedThen.{kept_sorted}
use Rattle.promise_pairs.proofs.WrittenAfresh.{kept_reads}
use Rattle.pair_after.proofs.SameReach.{at_slots_lem, still_acyclic}
use Rattle.pair_after.proofs.KeptUncut.{kept_uncut}

-- a call that finds nothing to split
pub nothing_to_split : (how : Settings) (s : Store) (t : ℕ) (w : Scratch) (list : List ℕ) → Checked how s t w → cut_places how s t ≡ []
    → ((split_call how s t w list).answer ≡ 0) × Unchanged s w list (split_call how s t w list)
unfolding split_call split_cases last_cases
nothing_to_split how s t w list checked none_cut =
    let cs = cut_places how s t in
    stopped s w list (split_ahead how s t w list) (first_case (split_cases how s t w list))
    (no_cut_case (cut_cases how s t w) cs s list (needed s t cs) (checked_no_case how s t w checked) none_cut)

-- "Splitting the kept table again adds and changes nothing", scratch being enough
pub again_nothing : AgainNothing
again_nothing how s t w list octets p v list' =
    let cs = cut_places how s t in
    let (g, e) = splits_ready how s t w list p in
    let before = (splits_may how s t w list p).checked in
    rw (store_written how s t w list p)
    (λ h.
    let checked : Checked how (split_store s t cs) t v
    = record {
      known = before.known;
      reads = kept_reads s t cs g octets;
      scratch = h;
      at_slots = at_slots_lem s t cs g;
      acyclic = still_acyclic s t cs g;
      sorted = kept_sorted s t cs g before.sorted;
    } in
    nothing_to_split how (split_store s t cs) t v list' checked (kept_uncut how s t cs g refl))

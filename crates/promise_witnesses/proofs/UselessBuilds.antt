-- None of the four useless builds keeps what is promised under either edition: each is held to a call that splits. Assumes nothing.
use mathlib.Core.Path.{◌≡◌}
use mathlib.Core.Bool.{true}
use mathlib.Core.List.{[], ◌∷◌}
use native.Mathlib.Omega.{arith}
use Rattle.call_rules.specs.declared.Settings.{Settings}
use Rattle.call_rules.specs.Settings.{known}
use Rattle.promise_pairs.proofs.Unique.{split_only}
use Rattle.promise_witnesses.specs.Builds.{Build, Keeps, RefusesEverything, NeverCuts, DoesNothing, NumbersTheRest}
use Rattle.promise_witnesses.proofs.HeldToACall.{seen_of, refuses_not, cuts_once, does_something, writes_the_rest}
use Rattle.promise_witnesses.proofs.CallsThatSplit.{three_slots, slots_scratch, two_list, slots_octets, left, slots_seen}

-- the build leaves what the call leaves, so it is none of the four
module _ (how : Settings) (is_known : known how ≡ true) (build : Build) (keeps : Keeps how build) where
  seen : seen_of three_slots (left how) ≡ 0 ∷ 2 ∷ 11 ∷ 1 ∷ 0 ∷ []
  seen = slots_seen how is_known

  -- the build leaves what `split_call` leaves
  built : build three_slots 0 slots_scratch two_list ≡ left how
  built = split_only how three_slots 0 slots_scratch two_list _ slots_octets (keeps three_slots 0 slots_scratch two_list slots_octets)

  pub no_build_refuses_everything : RefusesEverything build → ⊥
  no_build_refuses_everything = refuses_not three_slots 0 slots_scratch two_list (left how) 11 seen build built

  pub no_build_never_cuts : NeverCuts build → ⊥
  no_build_never_cuts = cuts_once three_slots 0 slots_scratch two_list (left how) 11 seen build built

  pub no_build_does_nothing : DoesNothing build → ⊥
  unfolding three_slots
  no_build_does_nothing = does_something three_slots 0 slots_scratch two_list (left how) 11 seen build built (omega arith)

  pub no_build_only_numbers_the_rest : NumbersTheRest build → ⊥
  no_build_only_numbers_the_rest = writes_the_rest three_slots 0 slots_scratch two_list (left how) 11 seen build built

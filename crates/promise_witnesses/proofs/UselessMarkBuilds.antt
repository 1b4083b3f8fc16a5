-- None of the four useless builds keeps what is promised of mark-to-base tables under either edition: each is held to a call that splits. Assumes nothing.
use Prim.Native.Nat.{ℕ, ◌*◌}
use mathlib.Core.Path.{◌≡◌, refl}
use mathlib.Core.Bool.{true}
use mathlib.Core.List.{List, [], ◌∷◌, ◌++◌}
use native.Mathlib.Omega.{arith}
use lib.ListN.{replicate}
use Rattle.ot_layouts.specs.Numbers.{words}
use Rattle.store_rules.specs.Appended.{link, row_numbers}
use Rattle.store_rules.specs.Store.{Store, per_link}
use Rattle.call_rules.specs.declared.Settings.{Settings}
use Rattle.call_rules.specs.Settings.{first_edition, second_edition, known}
use Rattle.call_rules.specs.Scratch.{Scratch, scratch_of}
use Rattle.call_rules.specs.Outcomes.{Outcome}
use Rattle.mark_rules.specs.Calls.{mark_split_call}
use Rattle.mark_rules.specs.Computing.{computes}
use Rattle.promise_marks.specs.Demands.{Splits}
use Rattle.promise_marks.proofs.Unique.{split_only}
use Rattle.promise_witnesses.specs.Builds.{Build, KeepsMarks, RefusesEverything, NeverCuts, DoesNothing, NumbersTheRest}
use Rattle.call_rules.proofs.KnownSettings.{in_either}
use Rattle.promise_witnesses.proofs.HeldToACall.{seen_of, answers, counts, refuses_not, cuts_once, does_something, writes_the_rest}

-- ---- a call that splits in two, by either edition: three classes of one mark each, with anchors of 40,000 bytes, the first and the last the same one; one base
-- without anchors, with room

-- table 12, coverage 10, base coverage 6, mark array 14, base array 8
unfoldable pub classes_front : List ℕ
classes_front =
    words (1 ∷ 0 ∷ 0 ∷ 3 ∷ 0 ∷ 0 ∷ []) ++ words (1 ∷ 3 ∷ 10 ∷ 20 ∷ 30 ∷ []) ++ words (1 ∷ 1 ∷ 100 ∷ []) ++ words (3 ∷ 0 ∷ 0 ∷ 1 ∷ 0 ∷ 2 ∷ 0 ∷ [])
    ++ words (1 ∷ 0 ∷ 0 ∷ 0 ∷ [])

unfoldable pub three_classes : Store
three_classes =
    record {
      bytes = classes_front ++ replicate 80072 0;
      objects = 0 ∷ 12 ∷ 12 ∷ 22 ∷ 22 ∷ 28 ∷ 28 ∷ 42 ∷ 42 ∷ 50 ∷ 50 ∷ 40050 ∷ 40050 ∷ 80050 ∷ replicate 22 0;
      links = row_numbers (link 0 2 1 ∷ link 0 4 2 ∷ link 0 8 3 ∷ link 0 10 4 ∷ link 3 4 5 ∷ link 3 8 6 ∷ link 3 12 5 ∷ []) ++ replicate (per_link * 11) 0;
      byte_count = 80050;
      object_count = 7;
      link_count = 7;
    }

unfoldable pub classes_scratch : Scratch
classes_scratch = scratch_of (replicate 14 0) (replicate 8192 0) (replicate 3 0) (replicate 3 0) (replicate 3 0)

abbrev two_entries : List ℕ
two_entries = 0 ∷ 0 ∷ []

-- the call
abbrev left : Settings → Outcome
left how = mark_split_call how three_classes 0 classes_scratch two_entries

first_seen : seen_of three_classes (left first_edition) ≡ 0 ∷ 2 ∷ 18 ∷ 1 ∷ 0 ∷ []
unfolding three_classes classes_front classes_scratch computes seen_of
first_seen = refl

second_seen : seen_of three_classes (left second_edition) ≡ 0 ∷ 2 ∷ 18 ∷ 1 ∷ 0 ∷ []
unfolding three_classes classes_front classes_scratch computes seen_of
second_seen = refl

known_seen : (how : Settings) → known how ≡ true → seen_of three_classes (left how) ≡ 0 ∷ 2 ∷ 18 ∷ 1 ∷ 0 ∷ []
known_seen how = in_either how (λ how. seen_of three_classes (left how) ≡ 0 ∷ 2 ∷ 18 ∷ 1 ∷ 0 ∷ []) first_seen second_seen

-- ---- so none of the four does it

module _ (how : Settings) (is_known : known how ≡ true) where
  seen : seen_of three_classes (left how) ≡ 0 ∷ 2 ∷ 18 ∷ 1 ∷ 0 ∷ []
  seen = known_seen how is_known

  -- the demands speak of something
  pub three_split : Splits how three_classes 0 classes_scratch two_entries
  three_split =
      let count = counts three_classes 0 classes_scratch two_entries (left how) 18 seen in
      record { answers = answers three_classes 0 classes_scratch two_entries (left how) 18 seen; cuts = omega arith }

  module _ (build : Build) (keeps : KeepsMarks how build) where
    -- the build leaves what `mark_split_call` leaves
    built : build three_classes 0 classes_scratch two_entries ≡ left how
    built = split_only how three_classes 0 classes_scratch two_entries _ (keeps three_classes 0 classes_scratch two_entries)

    pub no_mark_build_refuses_everything : RefusesEverything build → ⊥
    no_mark_build_refuses_everything = refuses_not three_classes 0 classes_scratch two_entries (left how) 18 seen build built

    pub no_mark_build_never_cuts : NeverCuts build → ⊥
    no_mark_build_never_cuts = cuts_once three_classes 0 classes_scratch two_entries (left how) 18 seen build built

    pub no_mark_build_does_nothing : DoesNothing build → ⊥
    unfolding three_classes
    no_mark_build_does_nothing = does_something three_classes 0 classes_scratch two_entries (left how) 18 seen build built (omega arith)

    pub no_mark_build_only_numbers_the_rest : NumbersTheRest build → ⊥
    no_mark_build_only_numbers_the_rest = writes_the_rest three_classes 0 classes_scratch two_entries (left how) 18 seen build built

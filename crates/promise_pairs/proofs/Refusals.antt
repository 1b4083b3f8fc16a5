-- What a call leaves that refuses, or finds nothing to split. Assumes nothing.
use Rattle.std.specs.Prelude.{Option, Some, None}
use Prim.Native.Nat.{ℕ, ◌<◌, ◌≤◌}
use mathlib.Core.Path.{◌≡◌, refl, sym, ap, subst, ◌∙◌}
use mathlib.Core.Bool.{true}
use mathlib.Core.List.{List, ◌++◌}
use native.Mathlib.Omega.{arith}
use lib.ListN.{length, replicate}
use lib.IntN.{pos}
use borrow.Author.Tests.{lt-leb, le-ltb, ne_eqb}
use Rattle.folds.proofs.Folds.{length-upto}
use Rattle.ot_layouts.specs.PairPos.{format_of}
use Rattle.store_rules.specs.Store.{Store, sound, bytes_of}
use Rattle.store_rules.specs.Appended.{new_number}
use Rattle.pair_rules.specs.Table.{cut_places, shape}
use Rattle.pair_rules.specs.Written.{new_tables, per_table}
use Rattle.pair_rules.specs.Pairs.{pair_of, no_pair}
use Rattle.call_rules.specs.declared.Settings.{Settings}
use Rattle.call_rules.specs.Scratch.{Scratch}
use Rattle.call_rules.specs.Outcomes.{Outcome, settle, done}
use Rattle.pair_rules.specs.Calls.{split_call, plan_call, split_cases, plan_cases, cut_cases, read_cases, pair_cases, pair_call, settle_pair}
use Rattle.call_rules.specs.Answers.{first_case}
use Rattle.call_rules.specs.Settings.{settings_cases}
use Rattle.call_rules.proofs.Cases.{first_skip, first_stands}
use Rattle.call_rules.proofs.KnownSettings.{known_pass}
use Rattle.promise_calls.specs.Unchanged.{Unchanged}
use Rattle.promise_pairs.specs.Demands.{Refusals, NoCutNothing, OtherFormats, ScratchZero, PlanReads, PairRefusals, AsManyAsCuts}
use Rattle.promise_calls.proofs.Settled.{stopped, stands, refuses, zeroed, plan_none, plan_keeps}
use Rattle.promise_pairs.specs.Exactly.{MaySplit}
use Rattle.promise_pairs.proofs.Exactly.{no_case_splits}
use Rattle.promise_pairs.proofs.GoesAhead.{splits_ready, split_ahead}

-- ---- a split or a plan

-- what a plan leaves that goes ahead
abbrev pub plan_ahead : Settings → Store → ℕ → Scratch → List ℕ → Outcome
plan_ahead how s t w list = done s (cut_places how s t) list w

-- "Each number but 0 .. returns a count of 0 new tables and keeps store, counts and result list."
pub refusals : Refusals
unfolding split_call plan_call done
refusals how s t w list = (
  refuses s w list (split_ahead how s t w list) (first_case (split_cases how s t w list)) refl,
  refuses s w list (plan_ahead how s t w list) (first_case (plan_cases how s t w list)) refl,
)

-- ---- no cut

-- "With no cut, 0 also changes nothing."
pub no_cut_nothing : NoCutNothing
unfolding split_call plan_call
no_cut_nothing how s t w list e =
    let no-split : MaySplit how s t w list → ⊥ = λ m. omega (arith, m.cuts, ap length e) in
    let asked = first_case (plan_cases how s t w list) in (
      stands s w list (split_ahead how s t w list) (first_case (split_cases how s t w list)) (λ c. no-split (no_case_splits how s t w list c)),
      subst (λ (places : List ℕ). Unchanged s w list (settle asked s list w (done s places list w))) (sym e) (plan_none s w list asked),
    )

-- ---- another format

other_format : (s : Store) (t : ℕ) → sound s ≡ true → t < s.object_count → 2 ≤ length (bytes_of s t)
    → (format_of (bytes_of s t) ≡ 1 → ⊥) → (format_of (bytes_of s t) ≡ 2 → ⊥) → first_case (read_cases s t) ≡ Some 0
unfolding read_cases first_case
other_format s t a b c d e =
    rw (a, lt-leb s.object_count t b, le-ltb (length (bytes_of s t)) 2 c, ne_eqb (format_of (bytes_of s t)) 1 d, ne_eqb (format_of (bytes_of s t)) 2 e)

-- "A format other than 1 or 2 answers 0 with no new tables straight after check 3's first clause"
pub other_formats : OtherFormats
unfolding split_call plan_call pair_call settle_pair split_cases plan_cases cut_cases pair_cases
other_formats how s t w list k a b c d e =
    let f = other_format s t a b c d e in
    let asked : first_case (settings_cases how ++ read_cases s t) ≡ Some 0 = first_skip (settings_cases how) (read_cases s t) (known_pass how k) ∙ f in
    let cut : first_case (cut_cases how s t w) ≡ Some 0 = first_stands (settings_cases how ++ read_cases s t) _ 0 asked in
    let (zero-split, no-split) = stopped s w list (split_ahead how s t w list) (first_case (split_cases how s t w list)) (first_stands (cut_cases how s t w) _ 0 cut) in
    let (zero-plan, no-plan) = stopped s w list (plan_ahead how s t w list) (first_case (plan_cases how s t w list)) (first_stands (cut_cases how s t w) _ 0 cut) in
    (zero-split, no-split, zero-plan, no-plan, λ x y. ap (λ (c : Option ℕ). settle_pair c (pair_of s t x y)) (first_stands (read_cases s t) _ 0 f))

-- ---- in every case

-- "All lent scratch is zero after every call."
pub scratch_zero : ScratchZero
unfolding split_call plan_call done
scratch_zero how s t w list = (
  zeroed s w list (split_ahead how s t w list) (first_case (split_cases how s t w list)) refl,
  zeroed s w list (plan_ahead how s t w list) (first_case (plan_cases how s t w list)) refl,
)

pub plan_reads : PlanReads
unfolding plan_call
plan_reads how s t w list = plan_keeps s w list (first_case (plan_cases how s t w list)) (cut_places how s t)

-- ---- the pair reading

-- "refuses by 1 to 5 in this order with no pair and sixteen zeros", and so by 11
pub pair_refusals : PairRefusals
unfolding pair_call settle_pair no_pair
pair_refusals s t a b = go (first_case (pair_cases s t))
  where
    go : (c : Option ℕ) → ((settle_pair c (pair_of s t a b)).answer ≡ 0 → ⊥)
        → ((settle_pair c (pair_of s t a b)).found ≡ 0) × ((settle_pair c (pair_of s t a b)).values ≡ replicate 16 (pos 0))
    go (Some n) ne = (refl, refl)
    go None ne = absurd (ne refl)

-- ---- a split

-- "The new-table count equals the cuts of the rule"
pub as_many_as_cuts : AsManyAsCuts
unfolding done new_tables
as_many_as_cuts how s t w list p =
    let (g, e) = splits_ready how s t w list p in
    (ap (λ (o : Outcome). o.count) e ∙ length-upto (new_number s (per_table (shape s t))) (length (cut_places how s t)), ap (λ (o : Outcome). o.list) e)

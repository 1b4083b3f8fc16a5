-- What a call leaves that refuses, or finds nothing to split. Assumes nothing.
use Rattle.std.specs.Prelude.{Option, Some, None}
use Prim.Native.Nat.{ℕ, ◌<◌, ◌≤◌}
use mathlib.Core.Path.{◌≡◌, refl, sym, ap, subst, ◌∙◌}
use mathlib.Core.Bool.{true}
use mathlib.Core.List.{List, [], ◌∷◌, ◌++◌}
use native.Mathlib.Omega.{arith}
use lib.ListN.{length}
use borrow.Author.Tests.{lt-leb, le-ltb, ne_eqb}
use Rattle.ot_layouts.specs.MarkBasePos.{format_of}
use Rattle.store_rules.specs.Store.{Store, sound, bytes_of}
use Rattle.call_rules.specs.declared.Settings.{Settings}
use Rattle.call_rules.specs.Answers.{first_case}
use Rattle.call_rules.specs.Settings.{settings_cases}
use Rattle.call_rules.specs.Scratch.{Scratch}
use Rattle.call_rules.specs.Outcomes.{Outcome, settle, done}
use Rattle.call_rules.proofs.Cases.{first_skip, first_stands}
use Rattle.call_rules.proofs.KnownSettings.{known_pass}
use Rattle.mark_rules.specs.Table.{cut_places}
use Rattle.mark_rules.specs.Attachments.{Anchors, attach_of}
use Rattle.mark_rules.specs.Calls.{read_cases, cut_cases, split_cases, plan_cases, mark_split_call, mark_plan_call, mark_call, settle_mark, reported}
use Rattle.mark_rules.proofs.NewCounts.{tables_many}
use Rattle.promise_calls.specs.Unchanged.{Unchanged}
use Rattle.promise_calls.proofs.Settled.{stopped, stands, refuses, zeroed, plan_none, plan_keeps}
use Rattle.promise_marks.specs.Demands.{Refusals, NoCutNothing, OtherFormats, ScratchZero, PlanReads, MarkRefusals, AsManyAsCuts}
use Rattle.promise_marks.specs.Exactly.{MaySplit}
use Rattle.promise_marks.proofs.Exactly.{no_case_splits}
use Rattle.promise_marks.proofs.Ready.{splits_ready, split_ahead}

-- ---- a split or a plan

-- what a plan leaves that goes ahead
abbrev pub plan_ahead : Settings → Store → ℕ → Scratch → List ℕ → Outcome
plan_ahead how s t w list = done s (cut_places how s t) list w

-- "Each number but 0 .. returns a count of 0 new tables and keeps store, counts and result list."
pub refusals : Refusals
unfolding mark_split_call mark_plan_call done
refusals how s t w list = (
  refuses s w list (split_ahead how s t w list) (first_case (split_cases how s t w list)) refl,
  refuses s w list (plan_ahead how s t w list) (first_case (plan_cases how s t w list)) refl,
)

-- ---- no cut

-- "With no cut, 0 also changes nothing."
pub no_cut_nothing : NoCutNothing
unfolding mark_split_call mark_plan_call
no_cut_nothing how s t w list e =
    let no-split : MaySplit how s t w list → ⊥ = λ m. omega (arith, m.cuts, ap length e) in
    let asked = first_case (plan_cases how s t w list) in (
      stands s w list (split_ahead how s t w list) (first_case (split_cases how s t w list)) (λ c. no-split (no_case_splits how s t w list c)),
      subst (λ (places : List ℕ). Unchanged s w list (settle asked s list w (done s places list w))) (sym e) (plan_none s w list asked),
    )

-- ---- another format

other_format : (s : Store) (t : ℕ) → sound s ≡ true → t < s.object_count → 2 ≤ length (bytes_of s t) → (format_of (bytes_of s t) ≡ 1 → ⊥)
    → first_case (read_cases s t) ≡ Some 0
unfolding read_cases first_case
other_format s t a b c d = rw (a, lt-leb s.object_count t b, le-ltb (length (bytes_of s t)) 2 c, ne_eqb (format_of (bytes_of s t)) 1 d)

-- "a format other than 1 is 0"
pub other_formats : OtherFormats
unfolding mark_split_call mark_plan_call mark_call settle_mark split_cases plan_cases cut_cases
other_formats how s t w list k a b c d =
    let f = other_format s t a b c d in
    let asked : first_case (settings_cases how ++ read_cases s t) ≡ Some 0 = first_skip (settings_cases how) (read_cases s t) (known_pass how k) ∙ f in
    let cut : first_case (cut_cases how s t w) ≡ Some 0 = first_stands (settings_cases how ++ read_cases s t) _ 0 asked in
    let (zero-split, no-split) = stopped s w list (split_ahead how s t w list) (first_case (split_cases how s t w list)) (first_stands (cut_cases how s t w) _ 0 cut) in
    let (zero-plan, no-plan) = stopped s w list (plan_ahead how s t w list) (first_case (plan_cases how s t w list)) (first_stands (cut_cases how s t w) _ 0 cut) in
    (zero-split, no-split, zero-plan, no-plan, λ m b. ap (λ (c : Option ℕ). settle_mark c (attach_of s t m b)) f)

-- ---- in every case

-- "All lent scratch is zero after every call."
pub scratch_zero : ScratchZero
unfolding mark_split_call mark_plan_call done
scratch_zero how s t w list = (
  zeroed s w list (split_ahead how s t w list) (first_case (split_cases how s t w list)) refl,
  zeroed s w list (plan_ahead how s t w list) (first_case (plan_cases how s t w list)) refl,
)

pub plan_reads : PlanReads
unfolding mark_plan_call
plan_reads how s t w list = plan_keeps s w list (first_case (plan_cases how s t w list)) (cut_places how s t)

-- ---- the attachment reading

-- one that refuses has none
pub mark_refusals : MarkRefusals
unfolding mark_call settle_mark reported
mark_refusals s t m b = go (first_case (read_cases s t)) (attach_of s t m b)
  where
    go : (c : Option ℕ) (a : Option Anchors) → ((settle_mark c a).answer ≡ 0 → ⊥) → ((settle_mark c a).found ≡ 0) × ((settle_mark c a).anchors ≡ 0 ∷ 0 ∷ [])
    go (Some n) a ne = (refl, refl)
    go None None ne = absurd (ne refl)
    go None (Some a) ne = absurd (ne refl)

-- ---- a split

-- "The new-table count equals the cuts of the rule"
pub as_many_as_cuts : AsManyAsCuts
unfolding done
as_many_as_cuts how s t w list p =
    let (g, e) = splits_ready how s t w list p in
    (ap (λ (o : Outcome). o.count) e ∙ tables_many s t (cut_places how s t), ap (λ (o : Outcome). o.list) e)

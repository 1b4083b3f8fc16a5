-- The demands hold of what a call leaves whose outcome is that of `mark_rules`. Assumes nothing.
use Rattle.std.specs.Prelude.{Option, Some, None}
use Prim.Native.Nat.{ℕ, suc, ◌+◌, ◌<◌}
use mathlib.Core.Path.{◌≡◌, refl, sym, ap, subst, ◌∙◌}
use mathlib.Core.Bool.{cond}
use mathlib.Core.List.{List, [], ◌∷◌}
use native.Mathlib.Omega.{arith}
use lib.ListN.{length, get_or}
use lib.Dec.{eqb}
use Rattle.folds.specs.Lists.{put, part}
use Rattle.folds.proofs.WrittenPart.{part-written}
use Rattle.store_rules.specs.Store.{Store}
use Rattle.call_rules.specs.declared.Settings.{Settings}
use Rattle.call_rules.specs.Answers.{first_case}
use Rattle.call_rules.specs.Scratch.{Scratch}
use Rattle.call_rules.specs.Outcomes.{Outcome, done}
use Rattle.mark_rules.specs.Table.{cut_places}
use Rattle.mark_rules.specs.Written.{new_tables}
use Rattle.mark_rules.specs.Reads.{Reads}
use Rattle.mark_rules.specs.Attachments.{Anchors, attach_of, attach_among, or_attach}
use Rattle.mark_rules.specs.Calls.{MarkOutcome, settle_mark, read_cases, split_cases, plan_cases, mark_split_call, mark_plan_call, mark_call, reported}
use Rattle.mark_rules.proofs.Checks.{no_case_reads}
use Rattle.mark_rules.proofs.NewCounts.{tables_many}
use Rattle.promise_calls.proofs.Keeps.{call_keeps}
use Rattle.promise_marks.specs.Demands.{Splits, resulting}
use Rattle.promise_marks.specs.Exactly.{MaySplit, MayPlan}
use Rattle.promise_calls.specs.Resulting.{kept_then_new}
use Rattle.promise_marks.specs.Calls.{read_in_order, SplitLeaves, SplitKeeps, PlanLeaves, PlanKeeps, MarkKeeps}
use Rattle.promise_marks.proofs.Exactly.{no_case_splits, splits_no_case, no_case_plans, plans_no_case}
use Rattle.promise_marks.proofs.Ready.{split_ahead, store_written}
use Rattle.promise_marks.proofs.Refusals.{plan_ahead, as_many_as_cuts}
use Rattle.promise_marks.proofs.Answered.{may_splits, may_plans, may_mark, mark_gives}
use Rattle.promise_marks.proofs.AttachmentsKept.{attachments_kept, readings_kept}
use Rattle.promise_marks.proofs.WrittenAfresh.{written_afresh}
use Rattle.promise_marks.proofs.OthersKept.{others_kept, orders_kept}
use Rattle.promise_marks.proofs.AgainNothing.{again_nothing}
use Rattle.promise_marks.proofs.StaysSound.{stays_sound}
use Rattle.promise_marks.proofs.StaysOctets.{stays_octets}

-- ---- readings in order

-- where each table is read, the readings give what the tables have
read_among : (s : Store) (m b : ℕ) (us : List ℕ) → ((i : ℕ) → i < length us → mark_call s (get_or us i 0) m b ≡ reported 0 (attach_of s (get_or us i 0) m b))
    → read_in_order s us m b ≡ reported 0 (attach_among s us m b)
unfolding read_in_order attach_among or_attach reported
read_among s m b [] h = refl
read_among s m b (u ∷ us) h =
    let first = reported 0 (attach_of s u m b) in
    ap (λ (x : MarkOutcome). cond (eqb x.found 1) x (read_in_order s us m b)) (h 0 (omega arith))
    ∙ ap (λ (x : MarkOutcome). cond (eqb first.found 1) first x) (read_among s m b us (λ i l. h (suc i) (omega arith)))
    ∙ chosen (attach_of s u m b) (attach_among s us m b)
  where
    chosen : (x y : Option Anchors) → cond (eqb (reported 0 x).found 1) (reported 0 x) (reported 0 y) ≡ reported 0 (or_attach x y)
    chosen (Some a) y = refl
    chosen None y = refl

-- ---- a split

module _ (how : Settings) (s : Store) (t : ℕ) (w : Scratch) (list : List ℕ) where
  abbrev o : Outcome
  o = mark_split_call how s t w list

  -- the list has the new tables in front
  pub in_order_lem : Splits how s t w list → kept_then_new t o ≡ resulting how s t
  in_order_lem p =
      let (many, listed) = as_many_as_cuts how s t w list p in
      let new = new_tables s t (cut_places how s t) in
      let long : o.count ≡ 0 + length new = omega (arith, many, tables_many s t (cut_places how s t)) in
      let front : part o.list 0 o.count ≡ new
      = ap (λ (xs : List ℕ). part xs 0 o.count) listed ∙ ap (part (put list 0 new) 0) long ∙ part-written list 0 new (omega arith) in
      ap (λ (xs : List ℕ). t ∷ xs) front

  module _ (p : Splits how s t w list) where
    marks_read_lem : (m b : ℕ) → read_in_order o.store (kept_then_new t o) m b ≡ mark_call s t m b
    marks_read_lem m b =
        let (old, each) = readings_kept how s t w list p m b in
        ap (λ (us : List ℕ). read_in_order o.store us m b) (in_order_lem p)
        ∙ read_among o.store m b (resulting how s t) each
        ∙ ap (reported 0) (attachments_kept how s t w list p m b).0
        ∙ sym old

    split_leaves : SplitLeaves how s t list o
    split_leaves =
        record {
          answers = p.answers;
          count = (as_many_as_cuts how s t w list p).0;
          tables = (as_many_as_cuts how s t w list p).1;
          written = store_written how s t w list p;
          attachments = marks_read_lem;
          afresh = written_afresh how s t w list p;
          others = others_kept how s t w list p;
          orders = orders_kept how s t w list p;
          again = again_nothing how s t w list p;
          sounds = stays_sound how s t w list p;
          octets = λ bytes. stays_octets how s t w list bytes p;
        }

  -- what is promised of a split
  split_kept : SplitKeeps how s t w list o
  unfolding mark_split_call done
  split_kept =
      call_keeps (split_cases how s t w list) (MaySplit how s t w list) (no_case_splits how s t w list) (splits_no_case how s t w list) (SplitLeaves how s t list) s w list
      (split_ahead how s t w list) refl refl (λ m. split_leaves (may_splits how s t w list m))

-- a split whose outcome is that of `mark_rules` keeps what is promised
pub split_keeps : (how : Settings) (s : Store) (t : ℕ) (w : Scratch) (list : List ℕ) (o : Outcome) → o ≡ mark_split_call how s t w list → SplitKeeps how s t w list o
split_keeps how s t w list o e = subst (SplitKeeps how s t w list) (sym e) (split_kept how s t w list)

-- ---- a cut plan

plan_leaves : (how : Settings) (s : Store) (t : ℕ) (w : Scratch) (list : List ℕ) → MayPlan how s t w list → PlanLeaves how s t list (mark_plan_call how s t w list)
unfolding done
plan_leaves how s t w list m =
    let ahead = may_plans how s t w list m in
    record {
      answers = ap (λ (o : Outcome). o.answer) ahead;
      count = ap (λ (o : Outcome). o.count) ahead;
      places = ap (λ (o : Outcome). o.list) ahead;
      reads = ap (λ (o : Outcome). o.store) ahead;
    }

plan_kept : (how : Settings) (s : Store) (t : ℕ) (w : Scratch) (list : List ℕ) → PlanKeeps how s t w list (mark_plan_call how s t w list)
unfolding mark_plan_call done
plan_kept how s t w list =
    call_keeps (plan_cases how s t w list) (MayPlan how s t w list) (no_case_plans how s t w list) (plans_no_case how s t w list) (PlanLeaves how s t list) s w list
    (plan_ahead how s t w list) refl refl (plan_leaves how s t w list)

-- a cut plan whose outcome is that of `mark_rules` keeps what is promised
pub plan_keeps : (how : Settings) (s : Store) (t : ℕ) (w : Scratch) (list : List ℕ) (o : Outcome) → o ≡ mark_plan_call how s t w list → PlanKeeps how s t w list o
plan_keeps how s t w list o e = subst (PlanKeeps how s t w list) (sym e) (plan_kept how s t w list)

-- ---- an attachment reading

-- a refusal, and a table of another format, have no attachment
no_attachment : (s : Store) (t m b : ℕ) → (Reads s t → ⊥) → ((mark_call s t m b).found ≡ 0) × ((mark_call s t m b).anchors ≡ 0 ∷ 0 ∷ [])
unfolding mark_call settle_mark reported
no_attachment s t m b n = go (first_case (read_cases s t)) refl
  where
    go : (c : Option ℕ) → first_case (read_cases s t) ≡ c → ((settle_mark c (attach_of s t m b)).found ≡ 0) × ((settle_mark c (attach_of s t m b)).anchors ≡ 0 ∷ 0 ∷ [])
    go (Some k) e = (refl, refl)
    go None e = absurd (n (no_case_reads s t e))

-- a reading whose outcome is that of `mark_rules` keeps what is promised
pub mark_keeps : (s : Store) (t m b : ℕ) (o : MarkOutcome) → o ≡ mark_call s t m b → MarkKeeps s t m b o
mark_keeps s t m b o e =
    subst (MarkKeeps s t m b) (sym e) (record { answers = mark_gives s t m b; attachments = may_mark s t m b; none = no_attachment s t m b })

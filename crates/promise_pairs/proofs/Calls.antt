-- The demands hold of what a call leaves whose outcome is that of `pair_rules`. Assumes nothing.
use Rattle.std.specs.Prelude.{Option, Some, None}
use Prim.Native.Nat.{ℕ, suc, ◌+◌, ◌<◌}
use mathlib.Core.Path.{◌≡◌, refl, sym, ap, subst, ◌∙◌}
use mathlib.Core.Bool.{Bool, true, false, cond}
use mathlib.Core.List.{List, [], ◌∷◌}
use native.Mathlib.Omega.{arith}
use lib.ListN.{length, get_or, replicate}
use lib.IntN.{pos}
use lib.Dec.{eqb}
use Rattle.folds.specs.Lists.{put, part}
use Rattle.folds.proofs.Folds.{length-upto}
use Rattle.folds.proofs.WrittenPart.{part-written}
use Rattle.store_rules.specs.Store.{Store}
use Rattle.store_rules.specs.Appended.{new_number}
use Rattle.pair_rules.specs.Table.{cut_places, shape}
use Rattle.pair_rules.specs.Written.{new_tables, per_table}
use Rattle.pair_rules.specs.Pairs.{Pair, no_pair, pair_of, pair_among}
use Rattle.call_rules.specs.declared.Settings.{Settings}
use Rattle.call_rules.specs.Scratch.{Scratch}
use Rattle.call_rules.specs.Outcomes.{Outcome, done}
use Rattle.pair_rules.specs.Calls.{PairOutcome, settle_pair, pair_cases, split_cases, plan_cases, split_call, plan_call, pair_call, reported, read_in_order}
use Rattle.call_rules.specs.Answers.{first_case}
use Rattle.promise_calls.specs.Unchanged.{Octets}
use Rattle.promise_pairs.specs.Demands.{Splits, resulting}
use Rattle.promise_calls.specs.Resulting.{kept_then_new}
use Rattle.promise_pairs.specs.Calls.{SplitLeaves, SplitKeeps, PlanLeaves, PlanKeeps, PairKeeps}
use Rattle.promise_pairs.proofs.Refusals.{as_many_as_cuts}
use Rattle.promise_calls.proofs.Keeps.{call_keeps}
use Rattle.promise_pairs.specs.Exactly.{MaySplit, MayPlan}
use Rattle.promise_pairs.proofs.Exactly.{no_case_splits, splits_no_case, no_case_plans, plans_no_case}
use Rattle.promise_pairs.proofs.GoesAhead.{split_ahead, store_written}
use Rattle.promise_pairs.proofs.Refusals.{plan_ahead}
use Rattle.promise_pairs.proofs.Answered.{may_splits, may_plans, may_pair, pair_gives}
use Rattle.pair_rules.specs.Reads.{ReadsPairs}
use Rattle.pair_rules.proofs.SortedSets.{no_case_pairs}
use Rattle.promise_pairs.proofs.PairsKept.{pairs_kept}
use Rattle.promise_pairs.proofs.WrittenAfresh.{written_afresh}
use Rattle.promise_pairs.proofs.ReadingsKept.{readings_kept}
use Rattle.promise_pairs.proofs.OthersKept.{others_kept, orders_kept}
use Rattle.promise_pairs.proofs.AgainNothing.{again_nothing}
use Rattle.promise_pairs.proofs.StaysSound.{stays_sound}
use Rattle.promise_pairs.proofs.StaysOctets.{stays_octets}

-- ---- readings in order

-- where each table is read, the readings give what the tables have
pub read_among : (s : Store) (a b : ℕ) (us : List ℕ) → ((i : ℕ) → i < length us → pair_call s (get_or us i 0) a b ≡ reported 0 (pair_of s (get_or us i 0) a b))
    → read_in_order s us a b ≡ reported 0 (pair_among s us a b)
unfolding read_in_order pair_among
read_among s a b [] h = refl
read_among s a b (u ∷ us) h =
    ap (λ (x : PairOutcome). cond (eqb x.found 1) x (read_in_order s us a b)) (h 0 (omega arith))
    ∙ ap (λ (x : PairOutcome). cond (eqb (reported 0 (pair_of s u a b)).found 1) (reported 0 (pair_of s u a b)) x)
    (read_among s a b us (λ i l. h (suc i) (omega arith)))
    ∙ chosen (pair_of s u a b) (pair_among s us a b)
  where
    by_found : (f : Bool) (p q : Pair) → cond (eqb (cond f 1 0) 1) (reported 0 p) (reported 0 q) ≡ reported 0 (cond f p q)
    by_found true p q = refl
    by_found false p q = refl

    chosen : (p q : Pair) → cond (eqb (reported 0 p).found 1) (reported 0 p) (reported 0 q) ≡ reported 0 (cond p.found p q)
    chosen p q = by_found p.found p q

-- ---- a split

module _ (how : Settings) (s : Store) (t : ℕ) (w : Scratch) (list : List ℕ) where
  abbrev o : Outcome
  o = split_call how s t w list

  -- the list has the new tables in front
  pub in_order_lem : Splits how s t w list → kept_then_new t o ≡ resulting how s t
  unfolding new_tables
  in_order_lem p =
      let (many, listed) = as_many_as_cuts how s t w list p in
      let new = new_tables s t (cut_places how s t) in
      let long : o.count ≡ 0 + length new = omega (arith, many, length-upto (new_number s (per_table (shape s t))) (length (cut_places how s t))) in
      let front : part o.list 0 o.count ≡ new
      = ap (λ (xs : List ℕ). part xs 0 o.count) listed ∙ ap (part (put list 0 new) 0) long ∙ part-written list 0 new (omega arith) in
      ap (λ (xs : List ℕ). t ∷ xs) front

  module _ (bytes : Octets s) (p : Splits how s t w list) where
    pairs_read : (a b : ℕ) → read_in_order o.store (kept_then_new t o) a b ≡ pair_call s t a b
    pairs_read a b =
        let (old, each) = readings_kept how s t w list bytes p a b in
        ap (λ (us : List ℕ). read_in_order o.store us a b) (in_order_lem p)
        ∙ read_among o.store a b (resulting how s t) each
        ∙ ap (reported 0) (pairs_kept how s t w list p a b).0
        ∙ sym old

    split_leaves : SplitLeaves how s t list o
    split_leaves =
        record {
          answers = p.answers;
          count = (as_many_as_cuts how s t w list p).0;
          tables = (as_many_as_cuts how s t w list p).1;
          written = store_written how s t w list p;
          pairs = pairs_read;
          afresh = written_afresh how s t w list bytes p;
          others = others_kept how s t w list p;
          orders = orders_kept how s t w list p;
          again = again_nothing how s t w list bytes p;
          sounds = stays_sound how s t w list p;
          octets = stays_octets how s t w list bytes p;
        }

  -- what is promised of a split
  split_kept : Octets s → SplitKeeps how s t w list o
  unfolding split_call done
  split_kept bytes =
      call_keeps (split_cases how s t w list) (MaySplit how s t w list) (no_case_splits how s t w list) (splits_no_case how s t w list) (SplitLeaves how s t list) s w list
      (split_ahead how s t w list) refl refl (λ m. split_leaves bytes (may_splits how s t w list m))

-- a split whose outcome is that of `pair_rules` keeps what is promised
pub split_keeps : (how : Settings) (s : Store) (t : ℕ) (w : Scratch) (list : List ℕ) (o : Outcome) → Octets s → o ≡ split_call how s t w list → SplitKeeps how s t w list o
split_keeps how s t w list o bytes e = subst (SplitKeeps how s t w list) (sym e) (split_kept how s t w list bytes)

-- ---- a cut plan

plan_leaves : (how : Settings) (s : Store) (t : ℕ) (w : Scratch) (list : List ℕ) → MayPlan how s t w list → PlanLeaves how s t list (plan_call how s t w list)
unfolding done
plan_leaves how s t w list m =
    let ahead = may_plans how s t w list m in
    record {
      answers = ap (λ (o : Outcome). o.answer) ahead;
      count = ap (λ (o : Outcome). o.count) ahead;
      places = ap (λ (o : Outcome). o.list) ahead;
      reads = ap (λ (o : Outcome). o.store) ahead;
    }

plan_kept : (how : Settings) (s : Store) (t : ℕ) (w : Scratch) (list : List ℕ) → PlanKeeps how s t w list (plan_call how s t w list)
unfolding plan_call done
plan_kept how s t w list =
    call_keeps (plan_cases how s t w list) (MayPlan how s t w list) (no_case_plans how s t w list) (plans_no_case how s t w list) (PlanLeaves how s t list) s w list
    (plan_ahead how s t w list) refl refl (plan_leaves how s t w list)

-- a cut plan whose outcome is that of `pair_rules` keeps what is promised
pub plan_keeps : (how : Settings) (s : Store) (t : ℕ) (w : Scratch) (list : List ℕ) (o : Outcome) → o ≡ plan_call how s t w list → PlanKeeps how s t w list o
plan_keeps how s t w list o e = subst (PlanKeeps how s t w list) (sym e) (plan_kept how s t w list)

-- ---- a pair reading

-- a refusal, and a table of another format, have no pair
no_pair_lem : (s : Store) (t a b : ℕ) → (ReadsPairs s t → ⊥) → ((pair_call s t a b).found ≡ 0) × ((pair_call s t a b).values ≡ replicate 16 (pos 0))
unfolding pair_call settle_pair no_pair
no_pair_lem s t a b n = go (first_case (pair_cases s t)) refl
  where
    go : (c : Option ℕ) → first_case (pair_cases s t) ≡ c
        → ((settle_pair c (pair_of s t a b)).found ≡ 0) × ((settle_pair c (pair_of s t a b)).values ≡ replicate 16 (pos 0))
    go (Some n) e = (refl, refl)
    go None e = absurd (n (no_case_pairs s t e))

-- a pair reading whose outcome is that of `pair_rules` keeps what is promised
pub pair_keeps : (s : Store) (t a b : ℕ) (o : PairOutcome) → o ≡ pair_call s t a b → PairKeeps s t a b o
pair_keeps s t a b o e = subst (PairKeeps s t a b) (sym e) (record { answers = pair_gives s t a b; pairs = may_pair s t a b; none = no_pair_lem s t a b })

-- Splitting the kept table again under the same settings, scratch being enough, adds and changes nothing. Assumes nothing.
use Prim.Native.Nat.{ℕ, ◌+◌, ◌-◌, ◌<◌, ◌≤◌}
use mathlib.Core.Path.{◌≡◌, refl, sym, ap, subst, ◌∙◌}
use mathlib.Core.Bool.{cond}
use mathlib.Core.List.{List, []}
use native.Mathlib.Omega.{arith}
use lib.ListN.{length}
use lib.Dec.{leb}
use Rattle.folds.proofs.FromTheFront.{sum_same}
use Rattle.ot_layouts.specs.MarkBasePos.{base_cover_at}
use Rattle.store_rules.specs.Store.{Store, size_of, linked_at}
use Rattle.store_rules.proofs.Lookups.{child_used_lem, linked_is}
use Rattle.cut_rules.specs.Ranges.{from}
use Rattle.cut_rules.proofs.FirstCut.{none_before_lem, cuts_none}
use Rattle.call_rules.specs.declared.Settings.{Settings}
use Rattle.call_rules.specs.Answers.{first_case}
use Rattle.call_rules.specs.Scratch.{Scratch}
use Rattle.mark_rules.specs.Rules.{mark_rule, partial_cover}
use Rattle.mark_rules.specs.Table.{Mark, marks_of, marks_of_class, marks_within, rule_of, cut_places}
use Rattle.mark_rules.specs.Written.{needed, split_store}
use Rattle.mark_rules.specs.Calls.{cut_cases, last_cases, split_cases, mark_split_call}
use Rattle.mark_rules.proofs.Checks.{slots_at_lem}
use Rattle.mark_rules.proofs.Marks.{reduced_none, within_within}
use Rattle.promise_calls.specs.Unchanged.{Unchanged}
use Rattle.promise_calls.proofs.Settled.{stopped}
use Rattle.promise_calls.proofs.Asked.{no_cut_case}
use Rattle.promise_marks.specs.Demands.{AgainNothing}
use Rattle.promise_marks.specs.Exactly.{Checked}
use Rattle.promise_marks.proofs.Exactly.{checked_no_case}
use Rattle.promise_marks.proofs.Ready.{Ready, first_cut, split_ahead, splits_may, splits_ready, store_written}
use Rattle.promise_marks.proofs.NewBytes.{old_size}
use Rattle.promise_marks.proofs.View.{View, view_marks, view_bases}
use Rattle.promise_marks.proofs.KeptAndNew.{view_kept, count_kept}
use Rattle.promise_marks.proofs.WrittenAfresh.{kept_reads}
use Rattle.promise_marks.proofs.KeptChecked.{slots_then, still_acyclic}
use Rattle.promise_marks.proofs.SameReach.{size_same}

-- ---- a call that finds nothing to split

pub nothing_to_split : (how : Settings) (s : Store) (t : ℕ) (w : Scratch) (list : List ℕ) → Checked how s t w → cut_places how s t ≡ []
    → ((mark_split_call how s t w list).answer ≡ 0) × Unchanged s w list (mark_split_call how s t w list)
unfolding mark_split_call split_cases last_cases
nothing_to_split how s t w list checked none_cut =
    let cs = cut_places how s t in
    stopped s w list (split_ahead how s t w list) (first_case (split_cases how s t w list))
    (no_cut_case (cut_cases how s t w) cs s list (needed s t cs) (checked_no_case how s t w checked) none_cut)

-- ---- the kept table as the rule sees it

module _ (s : Store) (t : ℕ) (cs : List ℕ) (g : Ready s t cs) where
  abbrev s' : Store
  s' = split_store s t cs

  abbrev p0 : ℕ
  p0 = from cs 0

  view : View s t s' t 0 p0
  view = view_kept s t cs g

  -- its marks are the first classes'
  marks_then : marks_of s' t ≡ marks_within 0 p0 (marks_of s t)
  marks_then = view_marks view g.reads ∙ reduced_none (marks_within 0 p0 (marks_of s t))

  few_same : (i : ℕ) → i < p0 → marks_of_class s' t i ≡ marks_of_class s t i
  few_same i h = ap (λ (ms : List Mark). length (marks_within i (i + 1) ms)) marks_then ∙ ap length (within_within i (i + 1) p0 (marks_of s t) (omega arith))

  partial_same : (i : ℕ) → i < p0 → partial_cover (marks_of_class s' t) 0 i ≡ partial_cover (marks_of_class s t) 0 i
  unfolding partial_cover
  partial_same i h =
      let same = sum_same (λ k. cond (leb 0 k) (marks_of_class s' t k) 0) (λ k. cond (leb 0 k) (marks_of_class s t k) 0) (i + 1)
      (λ k l. ap (λ (n : ℕ). cond (leb 0 k) n 0) (few_same k (omega arith))) in
      omega arith

  -- the base coverage is the old one
  base_same : size_of s' (linked_at s' t base_cover_at) ≡ size_of s (linked_at s t base_cover_at)
  base_same =
      let (c, e, f, h) = view.base_cover in
      ap (size_of s') (linked_is s' t base_cover_at c e)
      ∙ old_size s t cs g c (child_used_lem s t g.fit base_cover_at c f)
      ∙ ap (size_of s) (sym (linked_is s t base_cover_at c f))

  -- so a rule that cuts the table at cs cuts it no more
  no_cut : (how : Settings) → cs ≡ cut_places how s t → cut_places how s' t ≡ []
  unfolding cut_places rule_of mark_rule
  no_cut how is_cut =
      cuts_none (rule_of how s t) (rule_of how s' t) p0
      (λ k h. none_before_lem (rule_of how s t) k (omega (arith, first_cut s t cs g)) (subst (λ (x : List ℕ). k ≤ from x 0) is_cut h))
      refl
      (ap (λ (n : ℕ). 16 + n) base_same)
      (λ i h. refl)
      (λ i h. omega (arith, view_bases view g.reads, few_same i h, size_same s t cs g i h))
      (λ i h. omega (arith, partial_same i h))
      (count_kept s t cs g ∙ omega arith)

-- "Splitting the kept table again adds and changes nothing", scratch being enough
pub again_nothing : AgainNothing
again_nothing how s t w list p v list' =
    let cs = cut_places how s t in
    let (g, e) = splits_ready how s t w list p in
    rw (store_written how s t w list p)
    (λ h.
    let checked : Checked how (split_store s t cs) t v
    = record {
      known = (splits_may how s t w list p).checked.known;
      reads = kept_reads s t cs g;
      scratch = h;
      at_slots = slots_at_lem (split_store s t cs) t (slots_then s t cs g);
      acyclic = still_acyclic s t cs g;
    } in
    nothing_to_split how (split_store s t cs) t v list' checked (no_cut s t cs g how refl))

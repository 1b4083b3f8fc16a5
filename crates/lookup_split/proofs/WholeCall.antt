-- The whole call: what is decided, and then what is left of it. Assumes nothing.
use Rattle.std.specs.Prelude.{Option, Some, None, Ok, Result}
use Prim.Native.Nat.{ℕ}
use mathlib.Core.Path.{◌≡◌, sym, ap, ◌∙◌}
use mathlib.Core.Bool.{not}
use mathlib.Core.List.{List, ◌++◌}
use native.Mathlib.Omega.{arith}
use lib.ListN.{length}
use borrow.Author.Tests.{leb-false, not-false}
use Rattle.folds.specs.Lists.{part, Bytes}
use Rattle.folds.proofs.Tests.{or_none}
use Rattle.store_rules.specs.Store.{Store}
use Rattle.store_rules.specs.Reach.{on_cycle}
use Rattle.call_rules.specs.declared.Settings.{Settings}
use Rattle.call_rules.specs.Answers.{first_case, refusal}
use Rattle.call_rules.specs.Settings.{settings_cases}
use Rattle.call_rules.specs.Scratch.{Scratch, cleared}
use Rattle.call_rules.specs.Outcomes.{settle, outcome}
use Rattle.call_rules.proofs.Cases.{first_append, first_head, first_skip, first_stands}
use Rattle.call_rules.specs.declared.Answer.{Answer}
use Rattle.call_lists.specs.declared.Plan.{Plan}
use Rattle.pair_rules.specs.Table.{all_at_slots, cut_places}
use Rattle.pair_rules.specs.Calls.{read_cases, cut_cases}
use Rattle.pair_checks.specs.declared.PairTable.{PairTable}
use Rattle.pair_split.proofs.Fronts.{scratch_long, none_applies, at_places, ready}
use Rattle.lookup_rules.specs.Calls.{list_cases, enter_cases, lookup_cases, lookup_call, enter_ahead}
use Rattle.lookup_plan.specs.Deciding.{ListDecided}
use Rattle.lookup_carrying.specs.Carrying.{WellLinked, GoodList}
use Rattle.lookup_split.specs.Entering.{entered_then, EnterReady}

-- ---- a plan is ready to be carried out

module _ {how : Settings} {s : Store} {l t : ℕ} {w : Scratch} {d : Result (Plan PairTable) Answer} {gs ks cuts : List ℕ} (x : ListDecided how s l t w d gs ks cuts) {p : Plan PairTable} (y : d ≡ Ok p) where
  none_decided : first_case (list_cases how s l t ++ cut_cases how s t w) ≡ None
  none_decided = x.answers ∙ ap refusal y

  none_cut : first_case (cut_cases how s t w) ≡ None
  none_cut = none_applies (x.decided p y) y

  -- 2 and 9 of the list
  good_list_lem : GoodList s l t
  unfolding list_cases
  good_list_lem =
      let none_listed = (first_append (list_cases how s l t) (cut_cases how s t w) none_decided).0 in
      let (one, a) = first_head _ _ (first_append (settings_cases how) _ none_listed).1 in
      let (two, b) = first_head _ _ a in
      let (list, c) = first_head _ _ b in
      record { used = leb-false s.object_count l list; fine = (first_head _ _ c).0 }

  -- 7
  well_linked : WellLinked s t
  unfolding cut_cases
  well_linked =
      let (six, a) = first_head _ _ (first_append (settings_cases how ++ read_cases s t) _ none_cut).1 in
      let (at, round) = or_none (not (all_at_slots s t)) (on_cycle s t) (first_head _ _ a).0 in
      record { slots = not-false (all_at_slots s t) at; acyclic = round }

  pub enter_ready : Bytes s.bytes → length gs ≡ length w.glyphs → length ks ≡ length w.classes → {walk : List ℕ} → length walk ≡ length w.walk
      → EnterReady s l t p gs ks cuts walk
  enter_ready octets a b e =
      record {
        plan = ready (x.decided p y) y octets a b;
        linked = well_linked;
        good = good_list_lem;
        long = omega (arith, (scratch_long how s t w none_cut).walk);
      }

  -- what is left of it at the plan's places, which are those of the cut rule
  pub call_goes : (list : List ℕ) → entered_then s l t (part cuts 0 p.cuts) w list ≡ lookup_call how s l t w list
  unfolding lookup_call lookup_cases
  call_goes list =
      let cs : List ℕ = cut_places how s t in
      ap (λ (places : List ℕ). entered_then s l t places w list) (at_places (x.decided p y) y)
      ∙ sym
      (ap (λ (o : Option ℕ). settle o s list w (enter_ahead s l t cs w list))
      (first_skip (list_cases how s l t ++ cut_cases how s t w) (enter_cases s l t cs list) none_decided))

-- ---- the call has its answer

pub call_settled : (how : Settings) (s : Store) (l t : ℕ) (w : Scratch) (list : List ℕ) {a : ℕ} → first_case (list_cases how s l t ++ cut_cases how s t w) ≡ Some a → outcome a 0 s list (cleared w) ≡ lookup_call how s l t w list
unfolding lookup_call lookup_cases settle
call_settled how s l t w list {a} e =
    let cs : List ℕ = cut_places how s t in
    sym
    (ap (λ (o : Option ℕ). settle o s list w (enter_ahead s l t cs w list))
    (first_stands (list_cases how s l t ++ cut_cases how s t w) (enter_cases s l t cs list) a e))

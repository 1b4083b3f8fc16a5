-- What edition 2 guarantees holds of what a split of a mark-to-base table leaves. Assumes nothing.
use Prim.Native.Nat.{ℕ}
use mathlib.Core.Path.{◌≡◌, sym, subst}
use mathlib.Core.Bool.{true}
use mathlib.Core.List.{List}
use native.Mathlib.Omega.{arith}
use Rattle.folds.specs.Lists.{among}
use Rattle.store_rules.specs.Store.{Store}
use Rattle.call_rules.specs.Settings.{second_edition}
use Rattle.call_rules.specs.Scratch.{Scratch}
use Rattle.call_rules.specs.Outcomes.{Outcome}
use Rattle.mark_rules.specs.Table.{cut_places}
use Rattle.mark_rules.specs.Written.{split_store}
use Rattle.mark_rules.specs.Calls.{mark_split_call}
use Rattle.mark_rules.proofs.Checks.{slots_at_lem}
use Rattle.mark_fits.specs.Guaranteed.{OfResulting, MarksFitIn}
use Rattle.mark_fits.proofs.Resulting.{resulting_table}
use Rattle.mark_fits.proofs.MarksFit.{marks_fit}
use Rattle.mark_fits.proofs.FewestCuts.{own_within, fewest_cuts}
use Rattle.mark_fits.proofs.AgainUncut.{again_uncut}
use Rattle.promise_marks.specs.Demands.{Splits}
use Rattle.promise_marks.specs.Exactly.{MaySplit}
use Rattle.promise_marks.proofs.Refusals.{as_many_as_cuts}
use Rattle.promise_marks.proofs.Ready.{Ready, splits_may, splits_ready, store_written}
use Rattle.promise_marks.proofs.AgainNothing.{nothing_to_split}
use Rattle.promise_marks.proofs.Calls.{in_order_lem}
use Rattle.promise_calls.specs.Resulting.{OfTables}
use Rattle.promise_editions.specs.OfMarks.{MarkUncut, MarksGuaranteed, MarksGuaranteedThen}

module _ (s : Store) (t : ℕ) (w : Scratch) (list : List ℕ) (splits : Splits second_edition s t w list) where
  abbrev o : Outcome
  o = mark_split_call second_edition s t w list

  abbrev cs : List ℕ
  cs = cut_places second_edition s t

  may : MaySplit second_edition s t w list
  may = splits_may second_edition s t w list splits

  ready : Ready s t cs
  ready = (splits_ready second_edition s t w list splits).0

  -- what holds in the store that is written holds in the one that is left
  of_left : (P : Store → ℕ → Type 0) → OfResulting s t cs P → OfTables t o P
  of_left P h u a =
      subst (λ (x : Store). P x u) (sym (store_written second_edition s t w list splits))
      (h u (subst (λ (us : List ℕ). among u us ≡ true) (in_order_lem second_edition s t w list splits) a))

  uncut : OfResulting s t cs MarkUncut
  uncut u h v list' enough =
      let table = resulting_table s t cs ready u h in
      nothing_to_split second_edition (split_store s t cs) u v list'
      (record { known = may.checked.known; reads = table.reads; scratch = enough; at_slots = slots_at_lem (split_store s t cs) u table.slots; acyclic = table.acyclic })
      (again_uncut s t cs ready (own_within s t) u h)

  guaranteed : MarksGuaranteed s t o
  guaranteed =
      record {
        fits = of_left MarksFitIn (marks_fit s t cs ready (own_within s t));
        fewest = λ cs' rises fits. omega (arith, (as_many_as_cuts second_edition s t w list splits).0, fewest_cuts s t ready.fit cs' rises fits);
        again = of_left MarkUncut uncut;
      }

-- a split under edition 2 whose outcome is that of `mark_rules`, where there is a cut
pub marks_guaranteed : (s : Store) (t : ℕ) (w : Scratch) (list : List ℕ) (o : Outcome) → o ≡ mark_split_call second_edition s t w list
    → MarksGuaranteedThen s t o
marks_guaranteed s t w list o e =
    subst (MarksGuaranteedThen s t) (sym e) (λ zero some. guaranteed s t w list (record { answers = zero; cuts = some }))

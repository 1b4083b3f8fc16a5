-- The outcome of an attachment reading, by what the checks say. Assumes nothing.
use Rattle.std.specs.Prelude.{Option, None, Err, Ok, Result}
use Prim.Native.Nat.{ℕ}
use mathlib.Core.Path.{◌≡◌, sym, ap, ◌∙◌}
use Rattle.store_rules.specs.Store.{Store}
use Rattle.call_rules.specs.declared.Answer.{Answer}
use Rattle.call_rules.specs.Answers.{number, refusal}
use Rattle.mark_rules.specs.Attachments.{attach_of}
use Rattle.mark_rules.specs.Calls.{MarkOutcome, reported, settle_mark, mark_call}
use Rattle.mark_checks.specs.declared.MarkTable.{MarkTable}
use Rattle.mark_checks.specs.Checked.{Checks}
use Rattle.mark_reading.specs.declared.anchors.Anchors.{Anchors}
use Rattle.mark_reading.specs.Reading.{attached_as}

module _ (s : Store) (t m b : ℕ) (r : Result MarkTable Answer) (v : Checks s t r) where
  by_checks : {q : Result MarkTable Answer} → r ≡ q → mark_call s t m b ≡ settle_mark (refusal q) (attach_of s t m b)
  unfolding mark_call
  by_checks y = ap (λ (o : Option ℕ). settle_mark o (attach_of s t m b)) (sym v.answers ∙ ap refusal y)

  pub refused : {x : MarkOutcome} {a : Answer} → r ≡ Err a → {n : ℕ} → n ≡ number a → x ≡ reported n (attached_as None) → x ≡ mark_call s t m b
  unfolding settle_mark
  refused y e h = h ∙ ap (λ (k : ℕ). reported k (attached_as None)) e ∙ sym (by_checks y)

  pub told : {x : MarkOutcome} {p : MarkTable} → r ≡ Ok p → (q : Option Anchors) → attached_as q ≡ attach_of s t m b
      → x ≡ reported 0 (attached_as q) → x ≡ mark_call s t m b
  unfolding settle_mark
  told y q e h = h ∙ ap (reported 0) e ∙ sym (by_checks y)

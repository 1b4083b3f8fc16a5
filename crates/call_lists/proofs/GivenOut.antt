-- The outcome of a call, by what is given out of it. Assumes nothing.
use Rattle.std.specs.Prelude.{Result}
use Prim.Native.Nat.{ℕ}
use mathlib.Core.Path.{◌≡◌, ap₂, ◌∙◌}
use mathlib.Core.List.{List}
use Rattle.store_rules.specs.Store.{Store}
use Rattle.call_rules.specs.declared.Answer.{Answer}
use Rattle.call_rules.specs.Answers.{answer_of, count_of}
use Rattle.call_rules.specs.Scratch.{Scratch}
use Rattle.call_rules.specs.Outcomes.{Outcome, outcome}

pub given_out : (r : Result ℕ Answer) {n k : ℕ} {s : Store} {list : List ℕ} {w : Scratch} {x : Outcome} → n ≡ answer_of r → k ≡ count_of r
    → outcome (answer_of r) (count_of r) s list w ≡ x → outcome n k s list w ≡ x
given_out r {s = s} {list = list} {w = w} e f h = ap₂ (λ (n k : ℕ). outcome n k s list w) e f ∙ h

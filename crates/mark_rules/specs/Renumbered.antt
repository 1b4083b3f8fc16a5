-- An attachment answer with its anchors under their new numbers, as devices are in a pair answer. Assumes nothing.
use Rattle.std.specs.Prelude.{ℕ, zero, suc, ◌+◌, map}
use Rattle.mark_rules.specs.Calls.{MarkOutcome}

-- an object's number plus one, or 0
unfoldable pub anchor_then : (ℕ → ℕ) → ℕ → ℕ
anchor_then new zero = 0
anchor_then new (suc c) = new c + 1

-- both anchors
unfoldable pub outcome_then : (ℕ → ℕ) → MarkOutcome → MarkOutcome
outcome_then new o = record { answer = o.answer; found = o.found; anchors = map (anchor_then new) o.anchors }

-- all of this file's definitions, for checks that compute
unfoldable pub computes : Unit {0}
unfolding anchor_then outcome_then
computes = tt

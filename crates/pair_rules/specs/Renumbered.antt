-- A pair answer "with devices under their new numbers". Assumes nothing.
use Rattle.std.specs.Prelude.{ℕ, zero, suc, ◌+◌, cond, List, ◌++◌, get_or, take, drop, ℤ, pos, negsuc}
use Rattle.folds.specs.Folds.{upto}
use Rattle.ot_layouts.specs.Values.{field_at}
use Rattle.pair_rules.specs.Calls.{PairOutcome}

-- "for a device the linked object's number plus one, or 0"
unfoldable pub device_then : (ℕ → ℕ) → ℤ → ℤ
device_then new (pos zero) = pos 0
device_then new (pos (suc c)) = pos (new c + 1)
device_then new (negsuc n) = negsuc n

-- number j of eight
unfoldable pub field_then : (ℕ → ℕ) → List ℤ → ℕ → ℤ
field_then new vs j = cond (field_at j).device (device_then new (get_or vs j (pos 0))) (get_or vs j (pos 0))

-- all eight
unfoldable pub eight_then : (ℕ → ℕ) → List ℤ → List ℤ
eight_then new vs = upto (field_then new vs) 8

-- "eight numbers for the first glyph and eight for the second"
unfoldable pub outcome_then : (ℕ → ℕ) → PairOutcome → PairOutcome
outcome_then new o =
    record { answer = o.answer; found = o.found; values = eight_then new (take 8 o.values) ++ eight_then new (drop 8 o.values) }

-- all of this file's definitions, for checks that compute
unfoldable pub computes : Unit {0}
unfolding device_then field_then eight_then outcome_then
computes = tt

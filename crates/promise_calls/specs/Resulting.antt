-- The tables that a split leaves, in the caller's buffers. Assumes nothing.
use Rattle.std.specs.Prelude.{ℕ, ◌≡◌, true, List, ◌∷◌}
use Rattle.folds.specs.Lists.{part, among}
use Rattle.store_rules.specs.Store.{Store}
use Rattle.call_rules.specs.Outcomes.{Outcome}

-- "the kept table and then the new ones in order", as the list has them
abbrev pub kept_then_new : ℕ → Outcome → List ℕ
kept_then_new t o = t ∷ part o.list 0 o.count

-- this holds of each of them, in the store that the call leaves
abbrev pub OfTables : ℕ → Outcome → (Store → ℕ → Type 0) → Type 0
OfTables t o P = (u : ℕ) → among u (kept_then_new t o) ≡ true → P o.store u

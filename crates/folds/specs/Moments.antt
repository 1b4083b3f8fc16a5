-- What a caller lends, at a function's two moments, so that a contract names the moment. Assumes nothing.
use Rattle.std.specs.Prelude.{ℕ, List}
use Rattle.std.specs.Borrow.{Bor, MutBor}
use denote.Triple.Both.{Both}

module _ {A : Type 0} where
  -- as it came
  abbrev pub came : Both (MutBor A) (MutBor A) → A
  came x = x.entry.now

  -- as it is left
  abbrev pub left : Both (MutBor A) (MutBor A) → A
  left x = x.exit.now

-- a list of numbers that may be written, at both moments
abbrev pub Buffer : Type 0
Buffer = Both (MutBor (List ℕ)) (MutBor (List ℕ))

-- a list of numbers that is only read, at both moments
abbrev pub Shared : Type 0
Shared = Both (Bor (List ℕ)) (Bor (List ℕ))

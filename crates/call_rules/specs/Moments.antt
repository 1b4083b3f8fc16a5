-- The lent scratch at a function's two moments. Assumes nothing.
use Rattle.std.specs.Prelude.{ℕ, List}
use Rattle.std.specs.Borrow.{MutBor}
use Rattle.folds.specs.Moments.{Buffer, came, left}
use Rattle.call_rules.specs.Scratch.{Scratch, scratch_of}

-- as it came
abbrev pub scratch_came : Buffer → Buffer → Buffer → Buffer → Buffer → Scratch
scratch_came w b g c k = scratch_of (came w) (came b) (came g) (came c) (came k)

-- as it is left
abbrev pub scratch_left : Buffer → Buffer → Buffer → Buffer → Buffer → Scratch
scratch_left w b g c k = scratch_of (left w) (left b) (left g) (left c) (left k)

-- at a call, of which a function's needs speak
abbrev pub scratch_now : MutBor (List ℕ) → MutBor (List ℕ) → MutBor (List ℕ) → MutBor (List ℕ) → MutBor (List ℕ) → Scratch
scratch_now w b g c k = scratch_of w.now b.now g.now c.now k.now

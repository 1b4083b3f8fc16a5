-- The lent store at a function's two moments. Assumes nothing.
use Rattle.std.specs.Prelude.{ℕ, List}
use Rattle.std.specs.Borrow.{Bor, MutBor}
use Rattle.folds.specs.Moments.{Buffer, Shared, came, left}
use Rattle.store_rules.specs.Store.{Store, lent}

-- the store as it came
abbrev pub store_came : Buffer → Buffer → Buffer → Buffer → Store
store_came d o l c = lent (came d) (came o) (came l) (came c)

-- the same, where it is only read
abbrev pub store_read : Shared → Shared → Shared → Shared → Store
store_read d o l c = lent d.entry.now o.entry.now l.entry.now c.entry.now

-- the same, where the counts are handed over by value
abbrev pub store_came_with : Shared → Shared → Shared → List ℕ → Store
store_came_with d o l c = lent d.entry.now o.entry.now l.entry.now c

-- the store as it is left
abbrev pub store_left : Buffer → Buffer → Buffer → Buffer → Store
store_left d o l c = lent (left d) (left o) (left l) (left c)

-- the store at a call, of which a function's needs speak
abbrev pub store_now : MutBor (List ℕ) → MutBor (List ℕ) → MutBor (List ℕ) → MutBor (List ℕ) → Store
store_now d o l c = lent d.now o.now l.now c.now

-- the same, where it is only read and the counts are handed over by value
abbrev pub store_now_with : Bor (List ℕ) → Bor (List ℕ) → Bor (List ℕ) → List ℕ → Store
store_now_with d o l c = lent d.now o.now l.now c

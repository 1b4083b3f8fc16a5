-- "Try four useless builds": what each of them does, of any build. Assumes nothing.
use Rattle.std.specs.Prelude.{ℕ, ◌<◌, ◌≡◌, List, get_or}
use Rattle.folds.specs.Lists.{part}
use Rattle.store_rules.specs.Store.{Store, bytes_of, head_of, tail_of}
use Rattle.call_rules.specs.declared.Settings.{Settings}
use Rattle.call_rules.specs.Scratch.{Scratch}
use Rattle.call_rules.specs.Outcomes.{Outcome}
use Rattle.promise_calls.specs.Unchanged.{Octets}
use Rattle.promise_pairs.specs.Calls.{SplitKeeps}
use Rattle.promise_marks.specs.Calls as marks

-- a build of the split under some settings: what a call leaves, from what it is lent
abbrev pub Build : Type 0
Build = Store → ℕ → Scratch → List ℕ → Outcome

-- it keeps what is promised of every split under these settings
abbrev pub Keeps : Settings → Build → Type 0
Keeps how build = (s : Store) (t : ℕ) (w : Scratch) (list : List ℕ) → Octets s → SplitKeeps how s t w list (build s t w list)

-- the same, of a build of the split of mark-to-base tables
abbrev pub KeepsMarks : Settings → Build → Type 0
KeepsMarks how build = (s : Store) (t : ℕ) (w : Scratch) (list : List ℕ) → marks.SplitKeeps how s t w list (build s t w list)

-- "One that refuses everything"
abbrev pub RefusesEverything : Build → Type 0
RefusesEverything build = (s : Store) (t : ℕ) (w : Scratch) (list : List ℕ) → (build s t w list).answer ≡ 0 → ⊥

-- "one that never cuts"
abbrev pub NeverCuts : Build → Type 0
NeverCuts build = (s : Store) (t : ℕ) (w : Scratch) (list : List ℕ) → (build s t w list).count ≡ 0

-- "One that does nothing"
abbrev pub DoesNothing : Build → Type 0
DoesNothing build = (s : Store) (t : ℕ) (w : Scratch) (list : List ℕ) → (build s t w list).store ≡ s

-- object u of the store at exit has the bytes that stood in the data before the call: none were written for it
abbrev pub OnlyNumbered : Store → Outcome → ℕ → Type 0
OnlyNumbered s o u = bytes_of o.store u ≡ part s.bytes (head_of o.store u) (tail_of o.store u)

-- "One that writes the first new table and only numbers the rest"
abbrev pub NumbersTheRest : Build → Type 0
NumbersTheRest build =
    (s : Store) (t : ℕ) (w : Scratch) (list : List ℕ) (j : ℕ) → 0 < j → j < (build s t w list).count
    → OnlyNumbered s (build s t w list) (get_or (build s t w list).list j 0)

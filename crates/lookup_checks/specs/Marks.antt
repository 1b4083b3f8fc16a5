-- Marks of objects that have been met. Assumes nothing.
use Rattle.std.specs.Prelude.{ℕ, ◌≡◌, Bool, true, false, not, List, get_or, set, eqb}

-- object c had a mark, or gets one if it has a place
pub record MarkedOnce (came : List ℕ) (c : ℕ) (left : List ℕ) (r : Bool) : Type 0 where
  pub told : r ≡ not (eqb (get_or came c 0) 0)
  pub kept : r ≡ true → left ≡ came
  pub put : r ≡ false → left ≡ set came c 1

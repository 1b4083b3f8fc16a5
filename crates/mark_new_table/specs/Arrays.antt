-- The two arrays of a new table, from the classes of its marks. Assumes nothing.
use Rattle.std.specs.Prelude.{ℕ, ◌-◌, ◌≤◌, ◌<◌, List, [], ◌∷◌, length, get_or}
use Rattle.folds.specs.Folds.{flat}
use Rattle.ot_layouts.specs.Numbers.{words}
use Rattle.mark_rules.specs.Written.{new_base_array}

-- the classes of the marks of a table of the classes lo up to hi
pub record Classes (ks : List ℕ) (lo hi : ℕ) : Type 0 where
  pub few : length ks < 65536
  pub above : (i : ℕ) → i < length ks → lo ≤ get_or ks i 0
  pub rises : lo ≤ hi

-- mark k of a mark array of these classes: its class, reduced by lo, and no offset
abbrev pub mark_of : ℕ → List ℕ → ℕ → List ℕ
mark_of lo ks k = (get_or ks k 0 - lo) ∷ 0 ∷ []

-- that mark array
unfoldable pub mark_array_of : ℕ → List ℕ → List ℕ
mark_array_of lo ks = words (length ks ∷ flat (mark_of lo ks) (length ks))

-- the arrays of a table of the classes lo up to hi, whose marks have these classes
abbrev pub arrays_of : List ℕ → ℕ → ℕ → ℕ → List (List ℕ)
arrays_of ks bases lo hi = mark_array_of lo ks ∷ new_base_array bases (hi - lo) ∷ []

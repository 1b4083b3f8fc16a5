-- The ranges of items between the cuts. Assumes nothing.
use Rattle.std.specs.Prelude.{ℕ, ◌+◌, List, get_or}

-- new table j: "Each new table runs from one cut to the next or to the end."
abbrev pub from : List ℕ → ℕ → ℕ
from cs j = get_or cs j 0

-- and the item that it runs up to, of n items
abbrev pub to : ℕ → List ℕ → ℕ → ℕ
to n cs j = get_or cs (j + 1) n

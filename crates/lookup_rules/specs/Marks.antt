-- Which objects are to be rewritten, as marks of objects: a pass over the link rows redirects by them alone. Assumes nothing.
use Rattle.std.specs.Prelude.{ℕ, ◌+◌, ◌-◌, ◌<◌, ◌≤◌, ◌≡◌, List, get_or}
use Rattle.lookup_rules.specs.Written.{redirect}

-- one number for each object: m + 2 for lookup m of ps, 0 or 1 for any other; an object that has no mark is none of ps
pub record Marked (ps marks : List ℕ) : Type 0 where
  pub moves : (n c : ℕ) → 2 ≤ get_or marks c 0 → redirect n ps c ≡ n + (get_or marks c 0 - 2)
  pub stays : (n c : ℕ) → get_or marks c 0 < 2 → redirect n ps c ≡ c

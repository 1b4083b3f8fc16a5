-- A store that can be walked from object 0. Assumes nothing.
use Rattle.std.specs.Prelude.{ℕ, ◌*◌, ◌≤◌, ◌<◌, ◌≡◌, true, List, length, get_or}
use Rattle.store_rules.specs.Store.{lent, sound}

-- the rows are a sound store's, it has an object, and the scratch is long enough
pub record Looks (o l c w : List ℕ) : Type 0 where
  pub bytes : List ℕ
  pub is_sound : sound (lent bytes o l c) ≡ true
  pub some : 0 < get_or c 1 0
  pub room : 2 * get_or c 1 0 ≤ length w

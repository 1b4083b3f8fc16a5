-- Objects of a store that a check looks at. Assumes nothing.
use Rattle.std.specs.Prelude.{ℕ, ◌<◌, ◌≡◌, true}
use Rattle.store_rules.specs.Store.{Store, sound}

-- object p of a sound store is in use
pub record ObjectInUse (s : Store) (p : ℕ) : Type 0 where
  pub sounds : sound s ≡ true
  pub used : p < s.object_count

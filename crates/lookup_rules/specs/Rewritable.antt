-- What is known of a lookup that is to be written anew. Assumes nothing.
use Rattle.std.specs.Prelude.{ℕ, ◌<◌, ◌≡◌, true, List, length, get_or}
use Rattle.store_rules.specs.Store.{Store}
use Rattle.lookup_rules.specs.Listed.{good_lookup}

-- it is in use, and 9 does not refuse it
pub record Rewritable (s : Store) (p : ℕ) : Type 0 where
  pub used : p < s.object_count
  pub good : good_lookup s p ≡ true

-- each of these
abbrev pub EachRewritable : Store → List ℕ → Type 0
EachRewritable s ps = (m : ℕ) → m < length ps → Rewritable s (get_or ps m 0)

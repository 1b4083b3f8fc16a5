-- The links of all new lookups: what a caller knows before they are written. Assumes nothing.
use Rattle.std.specs.Prelude.{ℕ, ◌+◌, ◌*◌, ◌≤◌, ◌≡◌, true, List, length}
use Rattle.store_rules.specs.Store.{Store, lent, per_link, sound}
use Rattle.lookup_rules.specs.Written.{new_lookup_links}
use Rattle.lookup_rules.specs.Rewritable.{EachRewritable}

-- the new tables us are to be entered in the lookups ps of s, whose new ones have the numbers from n on, and there is room
pub record Entering (s : Store) (t : ℕ) (us ps : List ℕ) (n : ℕ) : Type 0 where
  pub sound_is : sound s ≡ true
  pub lookups : EachRewritable s ps
  pub few : length us ≤ 65536
  pub numbers : n + length ps ≤ 4294967296
  pub room : per_link * (s.link_count + length (new_lookup_links s t us ps n)) ≤ length s.links
  pub most : s.link_count + length (new_lookup_links s t us ps n) ≤ 262144

-- it is known of a store with these link rows and counts
pub record EnteringLent (ls counts : List ℕ) (t : ℕ) (us ps : List ℕ) (n : ℕ) : Type 0 where
  pub bytes : List ℕ
  pub objects : List ℕ
  pub known : Entering (lent bytes objects ls counts) t us ps n

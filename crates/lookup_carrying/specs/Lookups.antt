-- New tables entered in the lookups of any sound store: what is known before it. Assumes nothing.
use Rattle.std.specs.Prelude.{ℕ, ◌+◌, ◌*◌, ◌<◌, ◌≤◌, ◌≡◌, true, List, length, get_or}
use Rattle.folds.specs.Lists.{join}
use Rattle.store_rules.specs.Store.{Store, per_link, sound}
use Rattle.lookup_rules.specs.Marks.{Marked}
use Rattle.lookup_rules.specs.Rewritable.{EachRewritable}
use Rattle.lookup_rules.specs.Written.{counts_fit, new_lookups, new_lookup_links}

-- the tables us can be entered in the lookups ps of s, and the marks are theirs: 10 does not apply, and there is room
pub record LookupsReady (s : Store) (t : ℕ) (us marks ps : List ℕ) : Type 0 where
  pub sounds : sound s ≡ true
  pub lookups : EachRewritable s ps
  pub marked : Marked ps marks
  pub few : length us ≤ 65536
  pub used : (j : ℕ) → j < length us → get_or us j 0 < s.object_count
  pub fits : counts_fit s t us ps ≡ true
  pub objects_in : 2 * (s.object_count + length ps) ≤ length s.objects
  pub objects_most : s.object_count + length ps ≤ 65536
  pub bytes_in : s.byte_count + length (join (new_lookups s t us ps)) ≤ length s.bytes
  pub bytes_most : s.byte_count + length (join (new_lookups s t us ps)) ≤ 16777216
  pub links_in : per_link * (s.link_count + length (new_lookup_links s t us ps s.object_count)) ≤ length s.links
  pub links_most : s.link_count + length (new_lookup_links s t us ps s.object_count) ≤ 262144

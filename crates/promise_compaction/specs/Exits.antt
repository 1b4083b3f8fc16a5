-- What a compaction leaves, number by number, so that two outcomes can be held beside each other. Assumes nothing.
use Rattle.std.specs.Prelude.{ℕ, ◌≡◌, List, length}
use Rattle.store_rules.specs.Store.{lent}
use Rattle.compact_rules.specs.Calls.{CompactOutcome, compact_outcome}

-- answer and bytes moved, and every buffer at exit; the counts are three numbers
pub record Exit : Type 0 where
  pub answer : ℕ
  pub moved : ℕ
  pub «data» : List ℕ
  pub objects : List ℕ
  pub links : List ℕ
  pub counts : List ℕ
  pub roots : List ℕ
  pub walk : List ℕ
  pub three : length counts ≡ 3

-- the outcome of which the contract speaks
abbrev pub outcome_of : Exit → CompactOutcome
outcome_of x = compact_outcome x.answer x.moved (lent x.«data» x.objects x.links x.counts) x.roots x.walk

-- two exits have the same answer, the same bytes moved and the same buffers
pub record Same (x y : Exit) : Type 0 where
  pub answer : x.answer ≡ y.answer
  pub moved : x.moved ≡ y.moved
  pub «data» : x.«data» ≡ y.«data»
  pub objects : x.objects ≡ y.objects
  pub links : x.links ≡ y.links
  pub counts : x.counts ≡ y.counts
  pub roots : x.roots ≡ y.roots
  pub walk : x.walk ≡ y.walk

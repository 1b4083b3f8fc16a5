-- Four useless builds of the compaction: what each of them does. Assumes nothing.
use Rattle.std.specs.Prelude.{ℕ, ◌≡◌, List}
use Rattle.folds.specs.Lists.{sift}
use Rattle.store_rules.specs.Store.{Store, links_of}
use Rattle.compact_rules.specs.Kept.{kept}
use Rattle.compact_rules.specs.Compacted.{keeps_ends}
use Rattle.compact_rules.specs.Calls.{CompactOutcome}
use Rattle.promise_compaction.specs.Calls.{CompactKeeps}

-- a build of the compaction: what a call leaves, from what it is lent
abbrev pub CompactBuild : Type 0
CompactBuild = Store → List ℕ → List ℕ → CompactOutcome

-- it keeps what is promised of every compaction
abbrev pub KeepsCompactions : CompactBuild → Type 0
KeepsCompactions build = (s : Store) (roots walk : List ℕ) → CompactKeeps s roots walk (build s roots walk)

-- one that keeps everything
abbrev pub KeepsEverything : CompactBuild → Type 0
KeepsEverything build = (s : Store) (roots walk : List ℕ) → (build s roots walk).store.object_count ≡ s.object_count

-- one that keeps nothing
abbrev pub KeepsNothing : CompactBuild → Type 0
KeepsNothing build = (s : Store) (roots walk : List ℕ) → (build s roots walk).store.object_count ≡ 0

-- one that moves and does not renumber: the links that stay name their ends by the old numbers
abbrev pub DoesNotRenumber : CompactBuild → Type 0
DoesNotRenumber build = (s : Store) (roots walk : List ℕ) → links_of (build s roots walk).store ≡ sift (keeps_ends (kept s roots)) (links_of s)

-- one that reports 0 moved
abbrev pub ReportsNothing : CompactBuild → Type 0
ReportsNothing build = (s : Store) (roots walk : List ℕ) → (build s roots walk).moved ≡ 0

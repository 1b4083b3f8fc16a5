-- None of four useless builds keeps what is promised of a compaction: each is held to a call that drops an object and moves the others. Assumes nothing.
use Prim.Native.Nat.{ℕ}
use mathlib.Core.Path.{◌≡◌, refl, ap, ◌∙◌}
use mathlib.Core.List.{List, [], ◌∷◌, map}
use native.Mathlib.Omega.{arith}
use lib.ListN.{replicate, get_or}
use Rattle.folds.specs.Folds as Folds
use Rattle.folds.specs.Lists as Lists
use Rattle.folds.specs.Lists.{sift}
use Rattle.store_rules.specs.Store as Stores
use Rattle.store_rules.specs.Store.{Store, Link, links_of}
use Rattle.store_rules.specs.Reach as Reach
use Rattle.store_rules.specs.Appended as Appended
use Rattle.store_rules.specs.Appended.{link, row_numbers}
use Rattle.call_rules.specs.Answers as Answers
use Rattle.compact_rules.specs.Kept as Kept
use Rattle.compact_rules.specs.Kept.{kept}
use Rattle.compact_rules.specs.Compacted as Compacted
use Rattle.compact_rules.specs.Compacted.{keeps_ends}
use Rattle.compact_rules.specs.Calls as Calls
use Rattle.compact_rules.specs.Calls.{CompactOutcome, compaction_call}
use Rattle.promise_compaction.proofs.Unique.{compact_only}
use Rattle.promise_witnesses.specs.CompactBuilds.{CompactBuild, KeepsCompactions, KeepsEverything, KeepsNothing, DoesNotRenumber, ReportsNothing}

-- ---- a call that drops the first of three objects: the second, its root, leads to the third

unfoldable pub one_dead : Store
one_dead =
    record {
      bytes = 1 ∷ 2 ∷ 3 ∷ 4 ∷ 5 ∷ 6 ∷ 7 ∷ 8 ∷ [];
      objects = 0 ∷ 2 ∷ 2 ∷ 6 ∷ 6 ∷ 8 ∷ [];
      links = row_numbers (link 1 0 2 ∷ []);
      byte_count = 8;
      object_count = 3;
      link_count = 1;
    }

abbrev root : List ℕ
root = 1 ∷ []

abbrev walk : List ℕ
walk = replicate 6 0

-- the call
abbrev left : CompactOutcome
left = compaction_call one_dead root walk

-- where the first of these links leads
abbrev first_child : List Link → ℕ
first_child ls = get_or (map (λ l. l.child) ls) 0 0

-- objects and bytes moved, where the first link leads, and where it led: in one list, so that the call is computed once
unfoldable pub seen_of : Store → List ℕ → CompactOutcome → List ℕ
seen_of s roots o =
    o.store.object_count ∷ o.moved ∷ first_child (links_of o.store) ∷ first_child (sift (keeps_ends (kept s roots)) (links_of s)) ∷ []

seen : seen_of one_dead root left ≡ 2 ∷ 6 ∷ 1 ∷ 2 ∷ []
unfolding Folds.computes Lists.computes Stores.computes Reach.computes Appended.computes Answers.computes Kept.computes Compacted.computes Calls.computes one_dead seen_of
seen = refl

-- ---- so none of the four does it

module _ (build : CompactBuild) (keeps : KeepsCompactions build) where
  -- the build leaves what `compaction_call` leaves
  built : build one_dead root walk ≡ left
  built = compact_only one_dead root walk (build one_dead root walk) (keeps one_dead root walk)

  objects : (build one_dead root walk).store.object_count ≡ 2
  unfolding seen_of
  objects = ap (λ (o : CompactOutcome). o.store.object_count) built ∙ (let e : left.store.object_count ≡ 2 = cc seen in e)

  pub no_build_keeps_everything : KeepsEverything build → ⊥
  unfolding one_dead
  no_build_keeps_everything every = omega (arith, objects, every one_dead root walk)

  pub no_build_keeps_nothing : KeepsNothing build → ⊥
  no_build_keeps_nothing nothing = omega (arith, objects, nothing one_dead root walk)

  pub no_build_keeps_old_numbers : DoesNotRenumber build → ⊥
  unfolding seen_of
  no_build_keeps_old_numbers old =
      let leads : first_child (links_of left.store) ≡ 1 = cc seen in
      let led : first_child (sift (keeps_ends (kept one_dead root)) (links_of one_dead)) ≡ 2 = cc seen in
      omega (arith, leads, led, ap first_child (old one_dead root walk), ap (λ (o : CompactOutcome). first_child (links_of o.store)) built)

  pub no_build_reports_nothing : ReportsNothing build → ⊥
  unfolding seen_of
  no_build_reports_nothing never =
      let moved : left.moved ≡ 6 = cc seen in
      omega (arith, moved, never one_dead root walk, ap (λ (o : CompactOutcome). o.moved) built)

-- Which of 1, 2 and 6 is the first that applies. Assumes nothing.
use Rattle.std.specs.Prelude.{Some, None}
use Prim.Native.Nat.{ℕ, ◌*◌, ◌<◌, ◌≤◌}
use mathlib.Core.Path.{◌≡◌}
use mathlib.Core.Bool.{true, false}
use mathlib.Core.List.{List}
use lib.ListN.{length}
use borrow.Author.Tests.{lt-ltb, le-ltb, ltb-false, not-false}
use Rattle.store_rules.specs.Store.{Store, sound}
use Rattle.call_rules.specs.Answers.{first_case}
use Rattle.call_rules.proofs.Cases.{first_head}
use Rattle.compact_rules.specs.Calls.{roots_used, compact_cases}

module _ (s : Store) (roots walk : List ℕ) where
  pub first_unsound : sound s ≡ false → first_case (compact_cases s roots walk) ≡ Some 1
  unfolding compact_cases first_case
  first_unsound a = rw a

  pub first_no_root : sound s ≡ true → roots_used s.object_count roots ≡ false → first_case (compact_cases s roots walk) ≡ Some 2
  unfolding compact_cases first_case
  first_no_root a b = rw (a, b)

  module _ (a : sound s ≡ true) (b : roots_used s.object_count roots ≡ true) where
    pub first_short : length walk < 2 * s.object_count → first_case (compact_cases s roots walk) ≡ Some 6
    unfolding compact_cases first_case
    first_short c = rw (a, b, lt-ltb (length walk) (2 * s.object_count) c)

    pub first_none : 2 * s.object_count ≤ length walk → first_case (compact_cases s roots walk) ≡ None
    unfolding compact_cases first_case
    first_none c = rw (a, b, le-ltb (length walk) (2 * s.object_count) c)

  -- none applies
  pub none_refuses : first_case (compact_cases s roots walk) ≡ None
      → (sound s ≡ true) × (roots_used s.object_count roots ≡ true) × (2 * s.object_count ≤ length walk)
  unfolding compact_cases
  none_refuses h =
      let (a, x) = first_head _ _ h in
      let (b, y) = first_head _ _ x in
      let (c, z) = first_head _ _ y in
      (not-false (sound s) a, not-false (roots_used s.object_count roots) b, ltb-false (length walk) (2 * s.object_count) c)

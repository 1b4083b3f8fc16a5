-- Check 4, part by part. Assumes nothing.
use Prim.Native.Nat.{ℕ}
use mathlib.Core.Path.{◌≡◌}
use mathlib.Core.Bool.{Bool, true, false, ◌&&◌}
use Rattle.folds.specs.Lists.{is_some}
use Rattle.folds.proofs.Tests.{and_first, and_second, and_intro}
use Rattle.ot_layouts.specs.Coverage.{cover_readable}
use Rattle.ot_layouts.specs.MarkBasePos.{cover_at, base_cover_at}
use Rattle.ot_markbasepos.specs.declared.ArrayKind.{ArrayKind}
use Rattle.ot_markbasepos.specs.declared.ArrayKind.TheVariants.{Marks, Bases}
use Rattle.ot_markbasepos.specs.Kinds.{array_at, readable_as}
use Rattle.store_rules.specs.Store.{Store, child_at, linked_bytes}
use Rattle.mark_rules.specs.Table.{classes_of, parts_readable}

module _ (s : Store) (t : ℕ) where
  -- a coverage is linked at q, and can be read
  abbrev pub cover_test : ℕ → Bool
  cover_test q = is_some (child_at s t q) && cover_readable (linked_bytes s t q)

  -- so is an array
  abbrev pub array_test : ArrayKind → Bool
  array_test kind = is_some (child_at s t (array_at kind)) && readable_as kind (classes_of s t) (linked_bytes s t (array_at kind))

  pub no_cover : cover_test cover_at ≡ false → parts_readable s t ≡ false
  unfolding parts_readable
  no_cover e = and_first _ _ (and_first _ _ (and_first _ _ e))

  pub no_base_cover : cover_test base_cover_at ≡ false → parts_readable s t ≡ false
  unfolding parts_readable
  no_base_cover e = and_first _ _ (and_first _ _ (and_second (cover_test cover_at) _ e))

  pub no_marks : array_test Marks ≡ false → parts_readable s t ≡ false
  unfolding parts_readable
  no_marks e = and_first _ _ (and_second (cover_test cover_at && cover_test base_cover_at) _ e)

  pub no_bases : array_test Bases ≡ false → parts_readable s t ≡ false
  unfolding parts_readable
  no_bases e = and_second (cover_test cover_at && cover_test base_cover_at && array_test Marks) _ e

  pub all-parts : cover_test cover_at ≡ true → cover_test base_cover_at ≡ true → array_test Marks ≡ true → array_test Bases ≡ true → parts_readable s t ≡ true
  unfolding parts_readable
  all-parts a b c d =
      and_intro (cover_test cover_at && cover_test base_cover_at && array_test Marks) (array_test Bases)
      (and_intro (cover_test cover_at && cover_test base_cover_at) (array_test Marks) (and_intro (cover_test cover_at) (cover_test base_cover_at) a b) c)
      d

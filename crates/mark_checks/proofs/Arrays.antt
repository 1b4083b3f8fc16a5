-- What holds of an array that is looked for, by the link and by its bytes. Assumes nothing.
use Rattle.std.specs.Prelude.{Option, Some}
use Prim.Native.Nat.{ℕ, ◌≤◌}
use mathlib.Core.Path.{◌≡◌, sym, ap, ◌∙◌}
use mathlib.Core.Bool.{true}
use mathlib.Core.List.{List}
use native.Mathlib.Omega.{arith}
use lib.ListN.{length}
use borrow.Author.Tests.{eqb-true}
use Rattle.folds.proofs.Tests.{and_both}
use Rattle.ot_layouts.specs.MarkBasePos.{marks_readable, bases_readable}
use Rattle.ot_markbasepos.specs.declared.ArrayKind.{ArrayKind}
use Rattle.ot_markbasepos.specs.declared.ArrayKind.TheVariants.{Marks, Bases}
use Rattle.ot_markbasepos.specs.Kinds.{array_at, readable_as}
use Rattle.store_rules.specs.Store.{Store, sound, child_at}
use Rattle.store_rules.proofs.Sound.{sound_fits}
use Rattle.store_rules.proofs.Lookups.{child_used_lem}
use Rattle.store_reader.specs.Rows.{Inside}
use Rattle.store_reader.proofs.Bytes.{inside}

-- a readable array has its count
pub readable_long : (kind : ArrayKind) (classes : ℕ) (b : List ℕ) → readable_as kind classes b ≡ true → 2 ≤ length b
unfolding marks_readable bases_readable
readable_long Marks classes b e = let n = eqb-true (length b) _ (and_both _ _ e).0 in omega arith
readable_long Bases classes b e = let n = eqb-true (length b) _ e in omega arith

-- the array that is linked stands inside the store
pub array_inside : (kind : ArrayKind) (s : Store) (t : ℕ) {q : ℕ} → q ≡ array_at kind → {r : Option ℕ} → r ≡ child_at s t q → {c : ℕ} → r ≡ Some c
    → sound s ≡ true → Inside (length s.bytes) s.objects c
array_inside kind s t here e {c} y h =
    inside s (sound_fits s h) c (child_used_lem s t (sound_fits s h) (array_at kind) c (sym (ap (child_at s t) here) ∙ sym e ∙ y))

-- The links of a range of classes are those of its parts. Assumes nothing.
use Prim.Native.Nat.{ℕ, ◌≤◌}
use mathlib.Core.Path.{◌≡◌, refl, ap₂, ◌∙◌}
use mathlib.Core.Bool.{Bool, true, false, ◌&&◌, ◌||◌}
use Rattle.folds.proofs.InRange.{between_meet}
use Rattle.ot_layouts.specs.MarkBasePos.{class_before, column_at}
use Rattle.store_rules.specs.Store.{Store, Link, offset_of}
use Rattle.mark_rules.specs.Table.{classes_of, mark_array, base_array, mark_bytes, of_classes}

-- of the marks, and of the bases, each in one part or the other
parted : (p q a b c d : Bool) → (p && (a || b) || q && (c || d)) ≡ ((p && a || q && c) || (p && b || q && d))
parted false false a b c d = refl
parted false true a b c d = refl
parted true false false b c d = go b
  where
    go : (b : Bool) → (b || false) ≡ (false || (b || false))
    go true = refl
    go false = refl
parted true false true b c d = refl
parted true true true b c d = refl
parted true true false true true d = refl
parted true true false true false d = refl
parted true true false false true d = refl
parted true true false false false true = refl
parted true true false false false false = refl

pub classes_grow : (s : Store) (t lo mid hi : ℕ) → lo ≤ mid → mid ≤ hi → (l : Link) → of_classes s t lo hi l ≡ (of_classes s t lo mid l || of_classes s t mid hi l)
unfolding of_classes
classes_grow s t lo mid hi x y l =
    let class = class_before (mark_bytes s t) l.position in
    let column = column_at (classes_of s t) l.position in
    let marks = offset_of (mark_array s t) l in
    let bases = offset_of (base_array s t) l in
    ap₂ (λ (a b : Bool). marks && a || bases && b) (between_meet lo mid hi class x y) (between_meet lo mid hi column x y) ∙ parted marks bases _ _ _ _

-- The old table, which lies before the new objects, stays. Assumes nothing.
use Prim.Native.Nat.{ℕ, ◌+◌, ◌*◌}
use mathlib.Core.Path.{◌≡◌, sym, ap, ◌∙◌}
use mathlib.Core.List.{List}
use native.Mathlib.Omega.{arith}
use Rattle.folds.specs.Lists.{join}
use Rattle.folds.proofs.Behind.{behind_one, behind_part}
use Rattle.store_object_rows.specs.Objects.{ObjectsRoom, Written}
use Rattle.store_object_rows.proofs.Writing.{data_long}
use Rattle.ot_pairpos.specs.declared.Layout.{Layout}
use Rattle.ot_pairpos.specs.Layout.{layout_of}
use Rattle.pair_new_objects.specs.Objects.{old_table, Old}

module _ {d o : List ℕ} {head at row : ℕ} {l : Layout} {new : List (List ℕ)} {d' o' : List ℕ} {r : ℕ}
    (old : Old d head l at) (room : ObjectsRoom d o at row new) (w : Written d o at row new d' o' r) where
  pub old_kept : old_table d' head l ≡ old_table d head l
  old_kept = behind_part (behind_one d at (join new) w.bytes room.bytes) head (head + (l.header + l.item * l.count)) (omega arith) old.before

  pub old_after : Old d' head l r
  old_after =
      let b = old.before in
      let e = w.ends in
      record {
        layout_is = old.layout_is ∙ ap layout_of (sym old_kept);
        before = omega arith;
        inside = omega (arith, data_long room w, room.bytes);
      }

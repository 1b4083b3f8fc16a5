-- The layout of a table and its shape. Assumes nothing.
use Prim.Native.Nat.{ℕ, ◌≤◌}
use mathlib.Core.Path.{◌≡◌, refl}
use mathlib.Core.Bool.{cond}
use mathlib.Core.List.{List}
use native.Mathlib.Omega.{arith}
use lib.ListN.{length}
use lib.Dec.{eqb}
use Rattle.folds.proofs.Tests.{by_test}
use Rattle.ot_layouts.specs.PairPos.{Shape, heads, format_of, value1, value2, columns, shape1, shape2, shape_of, device_slots}
use Rattle.ot_layouts.proofs.Shapes.{by_format}
use Rattle.ot_pairpos.specs.declared.Layout.{Layout}
use Rattle.ot_pairpos.specs.Layout.{layout_of, shape_with, Numbered}

-- the layout of a shape of the bytes b
abbrev layout_with : List ℕ → Shape → Layout
layout_with b sh =
    record {
      format = sh.format;
      header = sh.header;
      own = length sh.own;
      heads = length (heads sh);
      count_at = sh.count_at;
      count = sh.count;
      item = sh.item;
      unit = sh.unit;
      value1 = value1 b;
      value2 = value2 b;
      columns = cond (eqb (format_of b) 1) 0 (columns b);
    }

pub shape_with_lem : (b : List ℕ) → shape_with (layout_of b) ≡ shape_of b
unfolding layout_of shape1 shape2 device_slots
shape_with_lem b = by_format (λ sh. shape_with (layout_with b sh) ≡ sh) b (λ e. refl) (λ e. refl)

pub few_heads : (l : Layout) → Numbered l → (l.own ≤ 2) × (l.heads ≤ 3)
few_heads l n =
    by_test (eqb l.format 1)
    (λ e. let a = rw e at n.own_is in let b = rw e at n.heads_is in (omega arith, omega arith))
    (λ e. let a = rw e at n.own_is in let b = rw e at n.heads_is in (omega arith, omega arith))

pub layout_numbered : (b : List ℕ) → Numbered (layout_of b)
unfolding layout_of shape1 shape2
layout_numbered b =
    by_format (λ sh. Numbered (layout_with b sh)) b
    (λ e. record { own_is = refl; heads_is = refl })
    (λ e. record { own_is = refl; heads_is = refl })

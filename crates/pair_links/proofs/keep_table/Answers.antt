-- `pair_links::keep_table` meets its contract: the positions of a table's own parts are the first of two. Assumes nothing.
use mathlib.Core.Path.{ap, ◌∙◌}
use mathlib.Core.List.{List}
use Prim.Native.Nat.{ℕ}
use native.Mathlib.Omega.{arith}
use lib.ListN.{length}
use Rattle.folds.specs.Lists.{put}
use Rattle.ot_pairpos.proofs.Layouts.{few_heads}
use Rattle.store_link_rows.specs.Rows.{segment, kept_row}
use Rattle.pair_new_rows.proofs.Spreading.{own_positions}
use Rattle.pair_links.proofs.keep_table.Goals as goal

pub slice_bounds-keep_rows-end : goal.slice_bounds-keep_rows-end
slice_bounds-keep_rows-end c = omega (arith, few_heads _ c.requires.0)

pub keep_rows-requires : goal.keep_rows-requires
keep_rows-requires c = (c.requires.1, omega (arith, ap length (own_positions _ c.requires.0), few_heads _ c.requires.0, c.requires.0.own_is))

pub returns : goal.returns
returns c =
    let a = c.args in
    c.keep_rows.ensures
    ∙ ap (λ (own : List ℕ). put a.links.now 0 (segment (kept_row a.links.now own a.table a.first) 0 a.count)) (own_positions _ c.requires.0)

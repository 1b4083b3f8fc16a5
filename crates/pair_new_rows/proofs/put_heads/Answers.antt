-- `pair_new_rows::put_heads` meets its contract: the positions of a header's links are the first of three. Assumes nothing.
use mathlib.Core.Path.{ap, ap₂, ◌∙◌}
use mathlib.Core.List.{List}
use Prim.Native.Nat.{ℕ, ◌*◌}
use native.Mathlib.Omega.{arith}
use lib.ListN.{length}
use Rattle.folds.specs.Lists.{put}
use Rattle.store_rules.specs.Store.{per_link}
use Rattle.store_rules.specs.Appended.{row_numbers}
use Rattle.store_rules.specs.Header.{header_links}
use Rattle.ot_pairpos.proofs.Layouts.{few_heads}
use Rattle.pair_new_rows.specs.Blocks.{head_rows}
use Rattle.pair_new_rows.proofs.Spreading.{own_positions, head_positions, some_own}
use Rattle.pair_new_rows.proofs.put_heads.Goals as goal

pub slice_bounds-put_header-end : goal.slice_bounds-put_header-end
slice_bounds-put_header-end c = omega (arith, few_heads _ c.requires.0)

pub slice_bounds-put_header-end-2 : goal.slice_bounds-put_header-end-2
slice_bounds-put_header-end-2 c = omega (arith, few_heads _ c.requires.0)

pub put_header-requires : goal.put_header-requires
put_header-requires c =
    let numbered = c.requires.0 in
    let own = ap length (own_positions _ numbered) in
    let heads = ap length (head_positions _ numbered) in
    record {
      heads_in_bounds = omega (arith, heads, numbered.heads_is);
      own_nonzero = (omega (arith, own, some_own _ numbered), omega (arith, own, numbered.own_is));
    }

pub returns : goal.returns
unfolding head_rows
returns c =
    let a = c.args in
    c.put_header.ensures
    ∙ ap₂ (λ (own heads : List ℕ). put a.links.now (per_link * a.k) (row_numbers (header_links own heads a.table (λ q. a.class2))))
    (own_positions _ c.requires.0) (head_positions _ c.requires.0)

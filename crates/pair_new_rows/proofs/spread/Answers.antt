-- `pair_new_rows::spread` meets its contract: from the last table on, the rows from `at` on are those of the tables from j on. Assumes nothing.
use mathlib.Core.Path.{◌∙◌}
use Prim.Native.Nat.{◌-◌}
use native.Mathlib.Omega.{arith}
use Rattle.pair_new_rows.proofs.Spreading.{at_start, at_done, at_turn, numbers}
use Rattle.pair_new_rows.proofs.spread.Goals as goal

pub loop-j-init : goal.loop-j-init
loop-j-init c =
    let r = c.requires in
    at_start _ _ _ _
    (record { fit = r.fit; some = r.q_le_m.0; room = r.q_le_m.1; ordered = r.positions_rise; floor = r.by_index })
    (λ i. omega (arith, c.type_inv.links i))

pub move_up-rest-requires : goal.move_up-rest-requires
move_up-rest-requires c = let turn = numbers _ _ _ _ _ _ _ _ c.loop-j.invariant (c.loop-j.j - 1) (omega arith) in omega (arith, turn)

pub put_heads-requires : goal.put_heads-requires
put_heads-requires c =
    let turn = numbers _ _ _ _ _ _ _ _ c.loop-j.invariant (c.loop-j.j - 1) (omega arith) in
    (turn.numbered, omega (arith, turn, c.move_up-rest.ensures.few), omega (arith, turn))

pub loop-j-preserved : goal.loop-j-preserved
loop-j-preserved c =
    at_turn _ _ _ _ _ _ _ _ c.loop-j.invariant (c.loop-j.j - 1) (omega arith) _ _ _ c.move_up-rest.ensures
    (c.put_heads.auto.links ∙ c.move_up-rest.auto.links) c.put_heads.ensures

pub returns : goal.returns
returns c = at_done _ _ _ _ _ _ _ _ c.loop-j.invariant (omega arith)

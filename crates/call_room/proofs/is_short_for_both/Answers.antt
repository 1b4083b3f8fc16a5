-- `call_room::is_short_for_both` meets its contract: short for the first, or by what the second finds once the first is written. Assumes nothing.
use mathlib.Core.Path.{◌≡◌, sym, ◌∙◌}
use mathlib.Core.Bool.{Bool, false}
use mathlib.Core.List.{List}
use Prim.Native.Nat.{ℕ}
use native.Mathlib.Omega.{arith}
use Rattle.store_rules.specs.Store.{byte_room, object_room, link_room}
use Rattle.call_rules.specs.declared.Lent.{Lent}
use Rattle.call_rules.specs.declared.Needs.{Needs}
use Rattle.call_rules.specs.Needs.{short_by}
use Rattle.call_room.proofs.Together.{Holds, holds, first_short, then_in_use, then_second}
use Rattle.call_room.proofs.is_short_for_both.Goals as goal

-- the first is found not to be short
held : {lent : Lent} {counts : List ℕ} {n : Needs} {b : Bool} → b ≡ short_by lent counts n → b ≡ false → Holds lent counts n
held e f = holds _ _ _ (sym e ∙ f)

pub returns-then-is_short : goal.returns-then-is_short
returns-then-is_short c =
    let a = c.args in
    first_short a.lent a.counts a.first a.second (sym c.is_short.ensures ∙ c.if-is_short.true)

pub overflow_cast-used : goal.overflow_cast-used
unfolding byte_room
overflow_cast-used c = omega (arith, (held c.is_short.ensures c.if-is_short.false).bytes)

pub overflow_add-used : goal.overflow_add-used
unfolding byte_room
overflow_add-used c = omega (arith, (held c.is_short.ensures c.if-is_short.false).bytes)

pub overflow_cast-used-2 : goal.overflow_cast-used-2
unfolding object_room
overflow_cast-used-2 c = omega (arith, (held c.is_short.ensures c.if-is_short.false).objects)

pub overflow_add-used-2 : goal.overflow_add-used-2
unfolding object_room
overflow_add-used-2 c = omega (arith, (held c.is_short.ensures c.if-is_short.false).objects)

pub overflow_cast-used-3 : goal.overflow_cast-used-3
unfolding link_room
overflow_cast-used-3 c = omega (arith, (held c.is_short.ensures c.if-is_short.false).links)

pub overflow_add-used-3 : goal.overflow_add-used-3
unfolding link_room
overflow_add-used-3 c = omega (arith, (held c.is_short.ensures c.if-is_short.false).links)

pub overflow_sub-left : goal.overflow_sub-left
overflow_sub-left c = (held c.is_short.ensures c.if-is_short.false).entries

pub is_short-requires-2 : goal.is_short-requires-2
is_short-requires-2 c =
    let a = c.args in
    then_in_use a.lent a.counts a.first a.second (sym c.is_short.ensures ∙ c.if-is_short.false)

pub returns : goal.returns
returns c =
    let a = c.args in
    c.is_short-2.ensures ∙ then_second a.lent a.counts a.first a.second (sym c.is_short.ensures ∙ c.if-is_short.false)

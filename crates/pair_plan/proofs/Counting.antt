-- The cuts of a plan are below 65,536, and stand in the scratch. Assumes nothing.
use Rattle.std.specs.Prelude.{Result}
use Prim.Native.Nat.{ℕ, ◌≤◌, ◌<◌}
use mathlib.Core.List.{List}
use native.Mathlib.Omega.{arith}
use lib.ListN.{length}
use Rattle.folds.specs.Lists.{Bytes}
use Rattle.store_rules.specs.Store.{Store}
use Rattle.call_rules.specs.declared.Answer.{Answer}
use Rattle.call_lists.specs.Handed.{HandingOut}
use Rattle.call_lists.specs.declared.Plan.{Plan}
use Rattle.pair_rules.specs.Table.{shape, cut_places}
use Rattle.call_rules.specs.declared.Settings.{Settings}
use Rattle.call_rules.specs.Scratch.{Scratch}
use Rattle.pair_rules.proofs.Checks.{count_bits}
use Rattle.cut_filling.proofs.Turns.{placed_inside}
use Rattle.cut_rules.proofs.CutPlaces.{few_places}
use Rattle.pair_rules.proofs.TableCuts.{table_cuts}
use Rattle.pair_checks.specs.declared.PairTable.{PairTable}
use Rattle.pair_plan.specs.Decided.{Planned, Decided}

pub planned_few : {how : Settings} {s : Store} {t : ℕ} {w : Scratch} {p : Plan PairTable} {gs ks cuts : List ℕ} → Bytes s.bytes
    → Planned how s t w p gs ks cuts → (p.cuts ≤ length cuts) × (p.cuts < 65536)
planned_few {how} {s} {t} octets x =
    let z = x.cut.placed in (
      placed_inside z,
      omega (arith, z.count, few_places (shape s t).count (cut_places how s t) (table_cuts how s t), count_bits s t octets),
    )

pub can_hand_out : {how : Settings} {s : Store} {t : ℕ} {w : Scratch} {d : Result (Plan PairTable) Answer} {gs ks cuts : List ℕ} → Bytes s.bytes
    → Decided how s t w d gs ks cuts → HandingOut d cuts
can_hand_out octets x p y = planned_few octets (x.plans p y)

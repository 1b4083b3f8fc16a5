-- What a caller shows before it asks for cut places, from the checks that it has made. Assumes nothing.
use Prim.Native.Nat.{◌+◌, ◌<◌}
use mathlib.Core.Path.{◌≡◌}
use Rattle.store_rules.specs.Store.{Store}
use Rattle.pair_rules.specs.Table.{shape}
use Rattle.pair_rules.specs.Reads.{Reads}
use Rattle.pair_items.specs.declared.table_info.TableInfo.{TableInfo}
use Rattle.pair_items.specs.Filled.{Described}

-- the checks up to 5
pub described : {s : Store} {x : TableInfo} → Reads s x.table → x.header ≡ (shape s x.table).header → x.item ≡ (shape s x.table).item
    → x.count ≡ (shape s x.table).count → x.epoch + x.count < 2147483648 → Described s x
described r h i n e = record { is_sound = r.sounds; used = r.used; exactly = r.exactly; header = h; item = i; count = n; epochs = e }

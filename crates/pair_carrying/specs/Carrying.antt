-- A split carried out: what has been decided, and what is then written. Assumes nothing.
use Rattle.std.specs.Prelude.{ℕ, ◌+◌, ◌*◌, ◌<◌, ◌≡◌, false, List, length, get_or}
use Rattle.folds.specs.Lists.{Bytes}
use Rattle.store_rules.specs.Store.{Store, bytes_of}
use Rattle.call_rules.specs.declared.Needs.{Needs}
use Rattle.call_rules.specs.Needs.{room_short}
use Rattle.call_lists.specs.Split.{Carried}
use Rattle.cut_rules.specs.Places.{Places}
use Rattle.pair_rules.specs.Table.{shape, entries_of}
use Rattle.pair_rules.specs.Written.{new_of, split_store, new_tables}
use Rattle.pair_rules.specs.Reads.{Reads}
use Rattle.ot_pairpos.specs.declared.Layout.{Layout}
use Rattle.ot_pairpos.specs.Layout.{layout_of}
use Rattle.pair_checks.specs.declared.PairTable.{PairTable}
use Rattle.pair_checks.specs.Opens.{Opens}
use Rattle.cut_parts.specs.Order.{Arranged}
use Rattle.store_object_rows.specs.Objects.{ObjectsRoom}
use Rattle.pair_carrying.specs.Measuring.{Measured}

-- the table has a row and so many items, and lies within the data
pub record Keeping (d o : List ℕ) (t : ℕ) (l : Layout) (n : ℕ) : Type 0 where
  pub row : 2 * t + 1 < length o
  pub within : get_or o (2 * t) 0 + (l.header + l.item * n) < 4294967296
  pub count : get_or o (2 * t) 0 + l.count_at + 1 < length d

-- the table passes the checks, can be cut at cs, its covered glyphs are arranged by these cuts, and there is room
pub record Writing (s : Store) (t : ℕ) (l : Layout) (gs ks cs : List ℕ) : Type 0 where
  pub reads : Reads s t
  pub layout_is : l ≡ layout_of (bytes_of s t)
  pub octets : Bytes s.bytes
  pub places : Places (shape s t).count cs
  pub some : 0 < length cs
  pub arranged : Arranged gs ks cs (shape s t).count (entries_of s t)
  pub room : ObjectsRoom s.bytes s.objects s.byte_count s.object_count (new_of s t cs)

-- the bytes and the object rows are those after the split, and r is where the data end
pub record Wrote (s : Store) (t : ℕ) (cs d o : List ℕ) (r : ℕ) : Type 0 where
  pub bytes : d ≡ (split_store s t cs).bytes
  pub rows : o ≡ (split_store s t cs).objects
  pub ends : r ≡ (split_store s t cs).byte_count

-- the same with the links: what is needed has been measured, and there is room for it
pub record Carrying (s : Store) (t : ℕ) (p : PairTable) (n : Needs) (gs ks cs list : List ℕ) : Type 0 where
  pub opens : Opens s t p
  pub places : Places (shape s t).count cs
  pub some : 0 < length cs
  pub measured : Measured s t gs ks cs n
  pub room : room_short s list n ≡ false

-- it is carried out
abbrev pub CutAt : Store → ℕ → List ℕ → List ℕ → Store → List ℕ → Type 0
CutAt s t cs list s' list' = Carried (split_store s t cs) (new_tables s t cs) list s' list'

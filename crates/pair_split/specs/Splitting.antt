-- A split with its places in hand, whatever they come from: in a list of their own, or at the front of the scratch. Assumes nothing.
use Rattle.std.specs.Prelude.{ℕ, ◌<◌, ◌≤◌, ◌≡◌, true, false, List, length, Ok, Err, Result, ⊤}
use Rattle.folds.specs.Lists.{part}
use Rattle.store_rules.specs.Store.{Store}
use Rattle.cut_rules.specs.Places.{Places}
use Rattle.call_lists.specs.declared.Plan.{Plan}
use Rattle.pair_rules.specs.Table.{shape, entries_of}
use Rattle.pair_rules.specs.Written.{needed, split_store, new_tables}
use Rattle.call_rules.specs.declared.Answer.{Answer}
use Rattle.call_rules.specs.declared.Answer.TheVariants.{NoRoom}
use Rattle.call_rules.specs.Needs.{room_short}
use Rattle.call_lists.specs.Split.{Carried}
use Rattle.pair_checks.specs.Opens.{Opens}
use Rattle.glyph_sort.specs.ByClass.{ByClass}
use Rattle.pair_checks.specs.declared.PairTable.{PairTable}

-- ---- at any places

-- carried out, if there is room; where there is none, it is refused, and nothing has changed
pub record CutIfRoom (s : Store) (t : ℕ) (cs list : List ℕ) (r : Result ⊤ Answer) (s' : Store) (list' : List ℕ) : Type 0 where
  pub short : room_short s list (needed s t cs) ≡ true → (r ≡ Err NoRoom) × (s' ≡ s) × (list' ≡ list)
  pub enough : room_short s list (needed s t cs) ≡ false → (r ≡ Ok tt) × Carried (split_store s t cs) (new_tables s t cs) list s' list'

-- ---- as planned

-- the plan's cuts, any places that ascend within the table and can be counted, stand at the front of the scratch, and in format 2 the covered glyphs by class
pub record PlanReady (s : Store) (t : ℕ) (p : Plan PairTable) (gs ks cuts : List ℕ) : Type 0 where
  pub opens : Opens s t p.table
  pub places : Places (shape s t).count (part cuts 0 p.cuts)
  pub few : p.cuts < 65536
  pub cut_room : p.cuts ≤ length cuts
  pub glyph_room : p.table.glyphs ≤ length gs
  pub class_room : p.table.glyphs ≤ length ks
  pub by_class : (p.table.layout.format ≡ 1 → ⊥) → ByClass (entries_of s t) (part gs 0 p.table.glyphs) (part ks 0 p.table.glyphs)

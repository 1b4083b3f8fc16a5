-- A split with its places in hand, whatever they come from: in a list of their own, or at the front of the scratch. Assumes nothing.
use Rattle.std.specs.Prelude.{ℕ, ◌<◌, ◌≤◌, ◌≡◌, Bool, true, List, length}
use Rattle.folds.specs.Lists.{part}
use Rattle.store_rules.specs.Store.{Store}
use Rattle.cut_rules.specs.Places.{Places}
use Rattle.call_lists.specs.declared.Plan.{Plan}
use Rattle.mark_rules.specs.Table.{classes_of, all_at_slots}
use Rattle.mark_rules.specs.Written.{needed, split_store, new_tables}
use Rattle.call_lists.specs.Split.{CarriedIfRoom}
use Rattle.mark_checks.specs.declared.MarkTable.{MarkTable}
use Rattle.mark_checks.specs.Opens.{Opens}
use Rattle.mark_carrying.specs.Arranging.{Arranging}

-- at any places: there is room for all covered glyphs, and the links stand at slots
pub record Cuttable (s : Store) (t : ℕ) (p : MarkTable) (gs ks set cs : List ℕ) : Type 0 where
  pub arranging : Arranging s t p p.glyphs gs ks set cs
  pub slots : all_at_slots s t ≡ true

-- carried out, if there is room
abbrev pub CutIfRoom : Store → ℕ → List ℕ → List ℕ → Bool → Store → List ℕ → Type 0
CutIfRoom s t cs list r s' list' = CarriedIfRoom s (needed s t cs) (split_store s t cs) (new_tables s t cs) list r s' list'

-- as planned: the plan's cuts, any places that ascend within the table and can be counted, stand at the front of the scratch, and no scratch is too short
pub record PlanReady (s : Store) (t : ℕ) (p : Plan MarkTable) (gs ks set cuts : List ℕ) : Type 0 where
  pub opens : Opens s t p.table
  pub slots : all_at_slots s t ≡ true
  pub few : p.cuts < 65536
  pub cut_room : p.cuts ≤ length cuts
  pub places : Places (classes_of s t) (part cuts 0 p.cuts)
  pub glyph_room : p.table.glyphs ≤ length gs
  pub class_room : p.table.glyphs ≤ length ks
  pub scratch : 8192 ≤ length set

-- A split carried out: what has been decided, and what is then written. Assumes nothing.
use Rattle.std.specs.Prelude.{ℕ, ◌+◌, ◌*◌, ◌<◌, ◌≤◌, ◌≡◌, true, false, List, length}
use Rattle.store_rules.specs.Store.{Store, per_link}
use Rattle.store_rules.specs.Appended.{new_number}
use Rattle.store_object_rows.specs.Objects.{Behind}
use Rattle.call_rules.specs.declared.Needs.{Needs}
use Rattle.call_rules.specs.Needs.{room_short}
use Rattle.call_lists.specs.Split.{Carried}
use Rattle.cut_rules.specs.Places.{Places}
use Rattle.mark_rules.specs.Table.{classes_of, all_at_slots}
use Rattle.mark_rules.specs.Written.{per_table, need_links, split_store, new_tables}
use Rattle.mark_checks.specs.declared.MarkTable.{MarkTable}
use Rattle.mark_checks.specs.Opens.{Opens}
use Rattle.mark_carrying.specs.Arranging.{Arranging}
use Rattle.mark_carrying.specs.Measuring.{Measured}

-- of s, whose bytes and object rows are now d and o, the links are to be rewritten: there is room for them, and for the marks' places
pub record Relinking (s : Store) (t : ℕ) (p : MarkTable) (d o ps ks set cs : List ℕ) : Type 0 where
  pub behind : Behind s d o
  pub arranging : Arranging s t p p.marks.count ps ks set cs
  pub slots : all_at_slots s t ≡ true
  pub link_room : per_link * (s.link_count + need_links s t (length cs)) ≤ length s.links
  pub numbers : new_number s per_table (length cs) + 2 < 4294967296

-- the table passes the checks and can be cut at cs; its marks are arranged by these cuts, what is needed has been measured, and there is room for it
pub record Carrying (s : Store) (t : ℕ) (p : MarkTable) (n : Needs) (gs ks set cs list : List ℕ) : Type 0 where
  pub opens : Opens s t p
  pub slots : all_at_slots s t ≡ true
  pub places : Places (classes_of s t) cs
  pub some : 0 < length cs
  pub measured : Measured s t gs ks cs n
  pub scratch : 8192 ≤ length set
  pub room : room_short s list n ≡ false

-- it is carried out
abbrev pub CutAt : Store → ℕ → List ℕ → List ℕ → Store → List ℕ → Type 0
CutAt s t cs list s' list' = Carried (split_store s t cs) (new_tables s t cs) list s' list'

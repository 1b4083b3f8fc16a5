-- What is known of a table when its cut places are asked, and what is known then. Assumes nothing.
use Rattle.std.specs.Prelude.{ℕ, ◌+◌, ◌-◌, ◌*◌, ◌<◌, ◌≤◌, ◌≡◌, true, List, length, get_or}
use Rattle.folds.specs.Lists.{put, Bytes}
use Rattle.store_rules.specs.Store.{Store, lent}
use Rattle.call_rules.specs.declared.Settings.{Settings}
use Rattle.pair_rules.specs.Table.{entries_of, all_at_slots, cut_places}
use Rattle.glyph_sort.specs.Pairs.{keys_of, beside_of}
use Rattle.store_walk.specs.Marks.{Begun}
use Rattle.pair_checks.specs.declared.PairTable.{PairTable}
use Rattle.pair_checks.specs.Opens.{Opens}
use Rattle.pair_items.specs.declared.table_info.TableInfo.{TableInfo}
use Rattle.glyph_sort.specs.ByClass.{class_pairs}
use Rattle.glyph_class_parts.specs.ClassParts.{OrderedByClass}
use Rattle.pair_items.specs.Filled.{TellsCycle}
use Rattle.cut_filling.specs.Filling.{Placed}

-- ---- the object beside the items

-- object c has a row, and its length can be told
abbrev pub HasLength : List ℕ → ℕ → Type 0
HasLength o c = (2 * c + 1 < length o) × (get_or o (2 * c) 0 ≤ get_or o (2 * c + 1) 0)

-- the table's own numbers, the length of object c, and the marks from 2 on
abbrev pub info_of : List ℕ → ℕ → PairTable → ℕ → TableInfo
info_of o t p c =
    record {
      table = t;
      header = p.layout.header;
      item = p.layout.item;
      count = p.layout.count;
      beside = get_or o (2 * c + 1) 0 - get_or o (2 * c) 0;
      epoch = 2;
    }

-- ---- format 1

-- the table has passed the checks but for the look for a cycle, which the walk of its header's links has begun, and there is an entry for each cut
pub record TableWalked (s : Store) (t : ℕ) (p : PairTable) (w cuts : List ℕ) : Type 0 where
  pub opens : Opens s t p
  pub slots : all_at_slots s t ≡ true
  pub begun : Begun s t p.layout.header w
  pub room : p.layout.count ≤ length cuts

-- of a table of format 1
pub record Looked1 (s : Store) (t : ℕ) (p : PairTable) (w cuts : List ℕ) : Type 0 where
  pub walked : TableWalked s t p w cuts
  pub one : p.layout.format ≡ 1

-- its places are found, whatever the bytes of the store
abbrev pub CutsSets : Settings → List ℕ → List ℕ → List ℕ → ℕ → PairTable → List ℕ → List ℕ → List ℕ → ℕ → Type 0
CutsSets how o l c t p w cuts cuts' r = (b : List ℕ) → Looked1 (lent b o l c) t p w cuts → Placed (cut_places how (lent b o l c) t) cuts cuts' r

-- and the walk tells of a cycle
abbrev pub SetsTell : List ℕ → List ℕ → List ℕ → ℕ → PairTable → List ℕ → List ℕ → List ℕ → Type 0
SetsTell o l c t p w cuts w' = (b : List ℕ) → Looked1 (lent b o l c) t p w cuts → TellsCycle (lent b o l c) t w'

-- ---- format 2

-- a table of format 2, and lists of the exact length
pub record Gathering (s : Store) (t : ℕ) (p : PairTable) (gs ks : List ℕ) : Type 0 where
  pub opens : Opens s t p
  pub two : p.layout.format ≡ 1 → ⊥
  pub glyphs : length gs ≡ p.glyphs
  pub classes : length ks ≡ p.glyphs

-- its covered glyphs by class, whatever the links of the store
abbrev pub Gathers : List ℕ → List ℕ → PairTable → List ℕ → List ℕ → List ℕ → List ℕ → Type 0
Gathers b o p gs ks gs' ks' = (l c : List ℕ) (t : ℕ) → Gathering (lent b o l c) t p gs ks → OrderedByClass (entries_of (lent b o l c) t) gs' ks'

-- of a table of format 2 with its covered glyphs by class; the set may hold anything
pub record Looked2 (s : Store) (t : ℕ) (p : PairTable) (gs ks w set cuts : List ℕ) : Type 0 where
  pub walked : TableWalked s t p w cuts
  pub two : p.layout.format ≡ 1 → ⊥
  pub octets : Bytes s.bytes
  pub ordered : OrderedByClass (entries_of s t) gs ks
  pub long : 8192 ≤ length set

-- its places are found, whatever the bytes of the store
abbrev pub CutsRows : Settings → List ℕ → List ℕ → List ℕ → ℕ → PairTable → List ℕ → List ℕ → List ℕ → List ℕ → List ℕ → List ℕ → ℕ → Type 0
CutsRows how o l c t p gs ks w set cuts cuts' r =
    (b : List ℕ) → Looked2 (lent b o l c) t p gs ks w set cuts → Placed (cut_places how (lent b o l c) t) cuts cuts' r

-- and the walk tells of a cycle
abbrev pub RowsTell : List ℕ → List ℕ → List ℕ → ℕ → PairTable → List ℕ → List ℕ → List ℕ → List ℕ → List ℕ → List ℕ → Type 0
RowsTell o l c t p gs ks w set cuts w' = (b : List ℕ) → Looked2 (lent b o l c) t p gs ks w set cuts → TellsCycle (lent b o l c) t w'

-- ---- both

-- the table has passed the checks but for the look for a cycle, and no scratch is too short
pub record Looked (s : Store) (t : ℕ) (p : PairTable) (w set gs ks cuts : List ℕ) : Type 0 where
  pub walked : TableWalked s t p w cuts
  pub long : 8192 ≤ length set
  pub glyphs : p.glyphs ≤ length gs
  pub classes : p.glyphs ≤ length ks

-- the covered glyphs by class stand at the front of the lent lists
pub record Fronted (s : Store) (t : ℕ) (gs ks gs' ks' : List ℕ) : Type 0 where
  pub glyphs : gs' ≡ put gs 0 (beside_of (class_pairs (entries_of s t)))
  pub classes : ks' ≡ put ks 0 (keys_of (class_pairs (entries_of s t)))

-- format 2: places and glyphs
pub record CutsByClass (how : Settings) (s : Store) (t : ℕ) (gs ks cuts gs' ks' cuts' : List ℕ) (r : ℕ) : Type 0 where
  pub placed : Placed (cut_places how s t) cuts cuts' r
  pub fronted : Fronted s t gs ks gs' ks'

-- both formats
pub record CutsTable (how : Settings) (s : Store) (t : ℕ) (p : PairTable) (gs ks cuts gs' ks' cuts' : List ℕ) (r : ℕ) : Type 0 where
  pub placed : Placed (cut_places how s t) cuts cuts' r
  pub fronted : (p.layout.format ≡ 1 → ⊥) → Fronted s t gs ks gs' ks'

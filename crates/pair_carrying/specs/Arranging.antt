-- Covered glyphs put together by table. Assumes nothing.
use Rattle.std.specs.Prelude.{ℕ, ◌<◌, ◌≡◌, List, length}
use Rattle.store_rules.specs.Store.{Store, lent}
use Rattle.cut_rules.specs.Places.{Places}
use Rattle.pair_rules.specs.Table.{shape, entries_of}
use Rattle.pair_checks.specs.declared.PairTable.{PairTable}
use Rattle.pair_checks.specs.Opens.{Opens}
use Rattle.glyph_sort.specs.ByClass.{ByClass}
use Rattle.cut_parts.specs.Order.{Arranged}

-- a table that is open, places at which it can be cut, and lists of the exact length; in format 2 these are its covered glyphs by class
pub record Arranging (s : Store) (t : ℕ) (p : PairTable) (gs ks cs : List ℕ) : Type 0 where
  pub opens : Opens s t p
  pub places : Places (shape s t).count cs
  pub some : 0 < length cs
  pub glyphs : length gs ≡ p.glyphs
  pub classes : length ks ≡ p.glyphs
  pub by_class : (p.layout.format ≡ 1 → ⊥) → ByClass (entries_of s t) gs ks

-- each table has its entries, whatever the links of the store
abbrev pub Arranges : List ℕ → List ℕ → PairTable → List ℕ → List ℕ → List ℕ → List ℕ → List ℕ → Type 0
Arranges b o p gs ks cs gs' ks' =
    (l c : List ℕ) (t : ℕ) → Arranging (lent b o l c) t p gs ks cs → Arranged gs' ks' cs (shape (lent b o l c) t).count (entries_of (lent b o l c) t)

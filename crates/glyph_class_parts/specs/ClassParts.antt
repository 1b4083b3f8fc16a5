-- Glyphs in the order of their classes, and where those of a class start and end. Assumes nothing.
use Rattle.std.specs.Prelude.{ℕ, ◌<◌, ◌≤◌, ◌≡◌, List, length, get_or}
use Rattle.ot_layouts.specs.Coverage.{Entry, Ascends, Under}
use Rattle.glyph_rules.specs.Entries.{within}
use Rattle.glyph_sort.specs.ByClass.{ByClass}

-- the glyphs are those of the entries, each once, in the order of their classes
pub record OrderedByClass (es : List Entry) (gs cs : List ℕ) : Type 0 where
  pub up : Ascends 0 es
  pub under : Under 65536 es
  pub by_class : ByClass es gs cs

-- where the glyphs of class i start
abbrev pub start_of : List Entry → ℕ → ℕ
start_of es i = length (within 0 i es)

-- the class's entries from `from` on end at r
pub record ClassEnd (cs : List ℕ) (from class r : ℕ) : Type 0 where
  pub after : from ≤ r
  pub inside : r ≤ length cs
  pub same : (k : ℕ) → from ≤ k → k < r → get_or cs k 0 ≡ class
  pub other : r < length cs → get_or cs r 0 ≡ class → ⊥

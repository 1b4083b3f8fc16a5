-- What an exported function leaves, number by number, so that two outcomes can be held beside each other. Assumes nothing.
use Rattle.std.specs.Prelude.{ℕ, ◌≡◌, List, length}
use Rattle.store_rules.specs.Store.{lent}
use Rattle.call_rules.specs.Outcomes.{Outcome, outcome}
use Rattle.call_rules.specs.Scratch.{scratch_of}

-- answer and count, and every buffer at exit; the counts are three numbers
pub record Exit : Type 0 where
  pub answer : ℕ
  pub count : ℕ
  pub «data» : List ℕ
  pub objects : List ℕ
  pub links : List ℕ
  pub counts : List ℕ
  pub list : List ℕ
  pub walk : List ℕ
  pub glyph_set : List ℕ
  pub glyphs : List ℕ
  pub classes : List ℕ
  pub cuts : List ℕ
  pub three : length counts ≡ 3

-- the outcome of which the contracts speak
abbrev pub outcome_of : Exit → Outcome
outcome_of x =
    outcome x.answer x.count (lent x.«data» x.objects x.links x.counts) x.list
    (scratch_of x.walk x.glyph_set x.glyphs x.classes x.cuts)

-- two exits have the same answer, the same count and the same buffers
pub record Same (x y : Exit) : Type 0 where
  pub answer : x.answer ≡ y.answer
  pub count : x.count ≡ y.count
  pub «data» : x.«data» ≡ y.«data»
  pub objects : x.objects ≡ y.objects
  pub links : x.links ≡ y.links
  pub counts : x.counts ≡ y.counts
  pub list : x.list ≡ y.list
  pub walk : x.walk ≡ y.walk
  pub glyph_set : x.glyph_set ≡ y.glyph_set
  pub glyphs : x.glyphs ≡ y.glyphs
  pub classes : x.classes ≡ y.classes
  pub cuts : x.cuts ≡ y.cuts

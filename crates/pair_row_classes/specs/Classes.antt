-- The classes of the rows in the table that is being filled, in the estimator and in the set. Assumes nothing.
use Rattle.std.specs.Prelude.{ℕ, ◌+◌, ◌≤◌, ◌≡◌, List, length}
use Rattle.folds.specs.Lists.{part}
use Rattle.ot_layouts.specs.Coverage.{Entry}
use Rattle.glyph_rules.specs.Entries.{within}
use Rattle.glyph_set.specs.GlyphSet.{mark_all, Empty}
use Rattle.glyph_estimator.specs.States.{Estimates}
use Rattle.glyph_class_parts.specs.ClassParts.{OrderedByClass, start_of}
use Rattle.pair_row_classes.specs.declared.Classes.{Classes}

-- the classes from a up to i, i left out, have been added since the set was empty
pub record Holds (es : List Entry) (gs : List ℕ) (a i : ℕ) (k : Classes) (set : List ℕ) : Type 0 where
  pub estimates : Estimates k.estimator set (within a i es)
  pub first : k.first ≡ start_of es a
  pub to : k.to ≡ start_of es i
  pub long : 8192 ≤ length set
  pub empty : List ℕ
  pub emptied : Empty empty
  pub marked : set ≡ mark_all empty (part gs (start_of es a) (start_of es i))

-- no class is held, and the set is empty
abbrev pub Begins : Classes → Type 0
Begins k = (es : List Entry) (gs cs set : List ℕ) → OrderedByClass es gs cs → Empty set → 8192 ≤ length set → Holds es gs 0 0 k set

-- class i was added to those that are held, and its glyphs start at `from`
abbrev pub AddsClass : List ℕ → List ℕ → ℕ → Classes → List ℕ → Classes → List ℕ → Type 0
AddsClass gs cs i k set k' set' =
    (es : List Entry) (a : ℕ) → a ≤ i → OrderedByClass es gs cs → Holds es gs a i k set → Holds es gs a (i + 1) k' set' × (k'.from ≡ start_of es i)

-- class i alone is held
abbrev pub RestartsClasses : List ℕ → ℕ → Classes → List ℕ → Classes → List ℕ → Type 0
RestartsClasses gs i k set k' set' =
    (es : List Entry) (cs : List ℕ) (a : ℕ) → a ≤ i → OrderedByClass es gs cs → Holds es gs a (i + 1) k set → k.from ≡ start_of es i → Holds es gs i (i + 1) k' set'

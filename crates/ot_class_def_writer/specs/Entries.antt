-- What is written, from two lists: glyphs, and their classes with the first class of a table taken off. Assumes nothing.
use Rattle.std.specs.Prelude.{ℕ, ◌+◌, ◌-◌, ◌≤◌, ◌<◌, ◌≡◌, Bool, true, false, ◌&&◌, List, [], ◌∷◌, length, get_or, eqb, ltb}
use Rattle.ot_layouts.specs.Coverage.{Entry, runs}
use Rattle.ot_layouts.specs.ClassDef.{first_glyph, span, named}
use Rattle.ot_class_def_writer.specs.declared.covered.Entries.{Entries}
use Rattle.ot_class_def_writer.specs.declared.named.Outline.{Outline}

-- each glyph with its class, "classes reduced by its first"
unfoldable pub reduced_entries : List ℕ → List ℕ → ℕ → List Entry
reduced_entries [] cs first = []
reduced_entries (g ∷ gs) [] first = []
reduced_entries (g ∷ gs) (c ∷ cs) first = record { glyph = g; class = c - first } ∷ reduced_entries gs cs first

-- the entries of a value that has the two lists
abbrev pub entries_of : Entries → List Entry
entries_of e = reduced_entries e.glyphs.now e.classes.now e.first

-- the entry behind k has the next glyph, and the same class
unfoldable pub joins_at : List ℕ → List ℕ → ℕ → Bool
joins_at gs cs k = ltb (k + 1) (length gs) && eqb (get_or cs k 0) (get_or cs (k + 1) 0) && eqb (get_or gs k 0 + 1) (get_or gs (k + 1) 0)

-- entries k to r are in one run, and the next is not
pub record RunTo (gs cs : List ℕ) (k r : ℕ) : Type 0 where
  pub from : k ≤ r
  pub within : r < length gs
  pub joined : (j : ℕ) → k ≤ j → j < r → joins_at gs cs j ≡ true
  pub parted : joins_at gs cs r ≡ false

-- the first class above `first` is at r, or there is none below the end
pub record FirstNamed (cs : List ℕ) (first r : ℕ) : Type 0 where
  pub within : r ≤ length cs
  pub unnamed : (j : ℕ) → j < r → get_or cs j 0 ≤ first
  pub is_named : r < length cs → first < get_or cs r 0

-- the last class above `first` is right before r, or there is none
pub record LastNamed (cs : List ℕ) (first r : ℕ) : Type 0 where
  pub within : r ≤ length cs
  pub unnamed : (j : ℕ) → r ≤ j → j < length cs → get_or cs j 0 ≤ first
  pub is_named : (k : ℕ) → r ≡ k + 1 → first < get_or cs k 0

-- what decides the format: runs and span of the named entries, and where they start
pub record Outlines (gs cs : List ℕ) (first : ℕ) (o : Outline) : Type 0 where
  pub runs_are : o.runs ≡ length (runs (named (reduced_entries gs cs first)))
  pub few : o.runs ≤ 65536
  pub from_is : FirstNamed cs first o.from
  pub start_is : o.start ≡ first_glyph (named (reduced_entries gs cs first))
  pub low : o.start < 65536
  pub span_is : o.span ≡ span (named (reduced_entries gs cs first))
  pub spans : o.span ≤ 65536

-- the outline of the entries of a value that has the two lists
abbrev pub OutlineOf : Entries → Outline → Type 0
OutlineOf e o = Outlines e.glyphs.now e.classes.now e.first o

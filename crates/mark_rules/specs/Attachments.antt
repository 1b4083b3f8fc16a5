-- The attachment of a mark glyph and a base glyph: "mark and base anchor objects". Assumes nothing.
use Rattle.std.specs.Prelude.{ℕ, List, [], ◌∷◌, ltb, Option, Some, None}
use Rattle.folds.specs.Lists.{given, and_then}
use Rattle.ot_layouts.specs.Coverage.{cover_place}
use Rattle.ot_layouts.specs.MarkBasePos.{cover_at, base_cover_at, mark_class}
use Rattle.store_rules.specs.Store.{Store, linked_bytes}
use Rattle.mark_rules.specs.Table.{mark_bytes, marks_in, bases_in, mark_anchor, base_anchor}

-- the two anchor objects
pub record Anchors : Type 0 where
  pub mark : ℕ
  pub base : ℕ

-- these two
abbrev pub anchors : ℕ → ℕ → Anchors
anchors a c = record { mark = a; base = c }

-- the place of a mark glyph in the mark coverage, below the mark count
unfoldable pub mark_place : Store → ℕ → ℕ → Option ℕ
mark_place s t g = and_then (cover_place (linked_bytes s t cover_at) g) λ i. given (ltb i (marks_in s t)) i

-- the place of a base glyph in the base coverage, below the base count
unfoldable pub base_place : Store → ℕ → ℕ → Option ℕ
base_place s t g = and_then (cover_place (linked_bytes s t base_cover_at) g) λ j. given (ltb j (bases_in s t)) j

-- the attachment of mark glyph m to base glyph b by a readable table t: where mark i and base j have links at their slots for the class of mark i, what these
-- lead to; "No link at either slot means no attachment."
unfoldable pub attach_of : Store → ℕ → ℕ → ℕ → Option Anchors
attach_of s t m b =
    and_then (mark_place s t m) λ i.
    and_then (base_place s t b) λ j.
    and_then (mark_anchor s t i) λ a.
    and_then (base_anchor s t j (mark_class (mark_bytes s t) i)) λ c.
    Some (anchors a c)

-- an attachment, and where there is none another
unfoldable pub or_attach : Option Anchors → Option Anchors → Option Anchors
or_attach (Some a) o = Some a
or_attach None o = o

-- "reading the kept table and then the new ones in order": the first of the tables with an attachment decides
unfoldable pub attach_among : Store → List ℕ → ℕ → ℕ → Option Anchors
attach_among s [] m b = None
attach_among s (u ∷ us) m b = or_attach (attach_of s u m b) (attach_among s us m b)

-- all of this file's definitions, for checks that compute
unfoldable pub computes : Unit {0}
unfolding mark_place base_place attach_of or_attach attach_among
computes = tt

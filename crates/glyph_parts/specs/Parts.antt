-- A coverage or class definition that a table links, as the code holds it. Assumes nothing.
use Rattle.ot_layouts.specs.declared.Header.{Header}
use Rattle.std.specs.Prelude.{ℕ, ◌≡◌, List, length, Option, Some, None}
use Rattle.ot_layouts.specs.Coverage.{coverage_of}
use Rattle.ot_layouts.specs.ClassDef.{class_def_of}
use Rattle.store_reader.specs.Rows.{Inside}
use Rattle.store_rules.specs.Store.{Store, lent, bytes_of, child_at, linked_at}
use Rattle.glyph_parts.specs.declared.PartKind.{PartKind}
use Rattle.glyph_parts.specs.declared.PartKind.TheVariants.{Coverage, ClassDef}
use Rattle.glyph_parts.specs.declared.Part.{Part}

-- the reading of each kind
abbrev pub read_as : PartKind → List ℕ → Option Header
read_as Coverage = coverage_of
read_as ClassDef = class_def_of

-- an object that was read
abbrev pub read_by : ℕ → Option Header → Option Part
read_by c (Some h) = Some (record { object = c; header = h })
read_by c None = None

-- the object that a link leads to, read
abbrev pub linked_by : (List ℕ → Option Header) → Store → Option ℕ → Option Part
linked_by read s (Some c) = read_by c (read (bytes_of s c))
linked_by read s None = None

-- "link to coverage or a class definition absent, or that object unreadable": none
unfoldable pub linked_of : (List ℕ → Option Header) → Store → ℕ → ℕ → Option Part
linked_of read s t q = linked_by read s (child_at s t q)

-- the part is the object that is linked at q, and what that was read into
pub record LinkedPart (read : List ℕ → Option Header) (s : Store) (t q : ℕ) (p : Part) : Type 0 where
  pub child : child_at s t q ≡ Some p.object
  pub linked : p.object ≡ linked_at s t q
  pub header : read (bytes_of s p.object) ≡ Some p.header

-- the part lies within the data, and is what it was read into
pub record ReadPart (read : List ℕ → Option Header) (d o : List ℕ) (p : Part) : Type 0 where
  pub inside : Inside (length d) o p.object
  pub header : (l c : List ℕ) → read (bytes_of (lent d o l c) p.object) ≡ Some p.header

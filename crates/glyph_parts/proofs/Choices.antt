-- A linked part, by the tests that document 01 makes of it: a link, and a readable object. Assumes nothing.
use Rattle.std.specs.Prelude.{Option, Some, None, unwrap_or}
use Prim.Native.Nat.{ℕ}
use mathlib.Core.Path.{◌≡◌, refl, ap, ◌∙◌}
use mathlib.Core.Bool.{Bool, true, false, cond, ◌&&◌}
use mathlib.Core.List.{List}
use lib.Dec.{eqb}
use Rattle.folds.specs.Lists.{is_some}
use Rattle.ot_layouts.specs.Numbers.{u16_at}
use Rattle.ot_layouts.specs.Coverage.{cover_readable, coverage_of, kind_of}
use Rattle.ot_layouts.specs.ClassDef.{class_readable, class_def_of}
use Rattle.ot_layouts.specs.declared.Header.{Header}
use Rattle.store_rules.specs.Store.{Store, bytes_of, child_at, linked_at}
use Rattle.glyph_parts.specs.declared.Part.{Part}
use Rattle.glyph_parts.specs.Parts.{read_by, linked_by, linked_of}

-- what a readable coverage is read into
abbrev pub cover_header : List ℕ → Header
cover_header b = record { kind = kind_of (u16_at b 0); count = u16_at b 2 }

-- and a readable class definition
abbrev pub class_header : List ℕ → Header
class_header b = record { kind = kind_of (u16_at b 0); count = cond (eqb (u16_at b 0) 1) (u16_at b 4) (u16_at b 2) }

-- an object with what it is read into
abbrev pub part_of : (List ℕ → Header) → Store → ℕ → Part
part_of header s c = record { object = c; header = header (bytes_of s c) }

-- it is linked, and readable
abbrev pub linked_test : (List ℕ → Bool) → Store → Option ℕ → Bool
linked_test ok s o = is_some o && ok (bytes_of s (unwrap_or o 0))

module _ (read : List ℕ → Option Header) (ok : List ℕ → Bool) (header : List ℕ → Header) (law : (b : List ℕ) → read b ≡ cond (ok b) (Some (header b)) None) (s : Store) where
  linked_choice : (o : Option ℕ) → linked_by read s o ≡ cond (linked_test ok s o) (Some (part_of header s (unwrap_or o 0))) None
  linked_choice None = refl
  linked_choice (Some c) = ap (read_by c) (law (bytes_of s c)) ∙ go (ok (bytes_of s c))
    where
      go : (x : Bool) → read_by c (cond x (Some (header (bytes_of s c))) None) ≡ cond x (Some (part_of header s c)) None
      go true = refl
      go false = refl

pub coverage_choice : (s : Store) (t q : ℕ) → linked_of coverage_of s t q ≡ cond (linked_test cover_readable s (child_at s t q)) (Some (part_of cover_header s (linked_at s t q))) None
unfolding linked_of coverage_of
coverage_choice s t q = linked_choice coverage_of cover_readable cover_header (λ b. refl) s (child_at s t q)

pub class_choice : (s : Store) (t q : ℕ) → linked_of class_def_of s t q ≡ cond (linked_test class_readable s (child_at s t q)) (Some (part_of class_header s (linked_at s t q))) None
unfolding linked_of class_def_of
class_choice s t q = linked_choice class_def_of class_readable class_header (λ b. refl) s (child_at s t q)

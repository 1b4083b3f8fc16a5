-- A MarkBasePos table in a store: its parts, its marks and its bases' anchors, and its cuts. Assumes nothing.
use Rattle.std.specs.Prelude.{ℕ, ◌+◌, ◌*◌, Bool, ◌&&◌, ◌||◌, List, length, get_or, leb, ltb, Option}
use Rattle.folds.specs.Folds.{upto}
use Rattle.folds.specs.Lists.{is_some, sift}
use Rattle.ot_layouts.specs.Coverage.{cover_readable, cover_glyphs}
use Rattle.ot_layouts.specs.MarkBasePos.{
  cover_at,
  base_cover_at,
  mark_array_at,
  base_array_at,
  class_count,
  is_table_slot,
  mark_count,
  mark_class,
  mark_slot,
  is_mark_slot,
  class_before,
  marks_readable,
  base_count,
  base_slot,
  is_base_slot,
  column_at,
  bases_readable,
}
use Rattle.store_rules.specs.Store.{Store, Link, bytes_of, size_of, child_at, linked_at, linked_bytes, offset_of, all_at}
use Rattle.store_rules.specs.Reach.{item_size}
use Rattle.cut_rules.specs.Cuts.{Rule, cuts_of}
use Rattle.call_rules.specs.declared.Settings.{Settings}
use Rattle.mark_rules.specs.Rules.{mark_rule}

-- ---- its parts; only asked where check 4 has seen the links

-- how many mark classes it has
abbrev pub classes_of : Store → ℕ → ℕ
classes_of s t = class_count (bytes_of s t)

-- the covered marks, in order: "a covered glyph one of the mark coverage"
abbrev pub glyphs_of : Store → ℕ → List ℕ
glyphs_of s t = cover_glyphs (linked_bytes s t cover_at)

-- the mark array, as number and as bytes
abbrev pub mark_array : Store → ℕ → ℕ
mark_array s t = linked_at s t mark_array_at

abbrev pub mark_bytes : Store → ℕ → List ℕ
mark_bytes s t = linked_bytes s t mark_array_at

-- how many marks it has
abbrev pub marks_in : Store → ℕ → ℕ
marks_in s t = mark_count (mark_bytes s t)

-- the base array, as number and as bytes
abbrev pub base_array : Store → ℕ → ℕ
base_array s t = linked_at s t base_array_at

abbrev pub base_bytes : Store → ℕ → List ℕ
base_bytes s t = linked_bytes s t base_array_at

-- how many bases it has
abbrev pub bases_in : Store → ℕ → ℕ
bases_in s t = base_count (base_bytes s t)

-- 4 does not apply: "both coverages, both arrays (lengths exactly 2 + 4·marks, 2 + 2·bases·classes) and a mark class at or above the class count"
unfoldable pub parts_readable : Store → ℕ → Bool
parts_readable s t =
    (is_some (child_at s t cover_at) && cover_readable (linked_bytes s t cover_at))
    && (is_some (child_at s t base_cover_at) && cover_readable (linked_bytes s t base_cover_at))
    && (is_some (child_at s t mark_array_at) && marks_readable (classes_of s t) (mark_bytes s t))
    && (is_some (child_at s t base_array_at) && bases_readable (classes_of s t) (base_bytes s t))

-- ---- marks and anchors

-- a mark: its glyph, its class, and its anchor object where its slot has a link
pub record Mark : Type 0 where
  pub glyph : ℕ
  pub class : ℕ
  pub anchor : Option ℕ

-- the anchor object of mark i
unfoldable pub mark_anchor : Store → ℕ → ℕ → Option ℕ
mark_anchor s t i = child_at s (mark_array s t) (mark_slot i)

-- mark i: the covered glyph at its place, and what the mark array has for it
unfoldable pub mark_at : Store → ℕ → ℕ → Mark
mark_at s t i = record { glyph = get_or (glyphs_of s t) i 0; class = mark_class (mark_bytes s t) i; anchor = mark_anchor s t i }

-- the marks in order; a covered glyph past the mark count is none
unfoldable pub marks_of : Store → ℕ → List Mark
marks_of s t = upto (mark_at s t) (marks_in s t)

-- c lies from lo up to hi, hi left out
abbrev pub in_classes : ℕ → ℕ → ℕ → Bool
in_classes lo hi c = leb lo c && ltb c hi

-- the marks of the classes lo up to hi, in order
unfoldable pub marks_within : ℕ → ℕ → List Mark → List Mark
marks_within lo hi ms = sift (λ m. in_classes lo hi m.class) ms

-- how many marks class i has
abbrev pub marks_of_class : Store → ℕ → ℕ → ℕ
marks_of_class s t i = length (marks_within i (i + 1) (marks_of s t))

-- the anchor object of base j for class c, where that slot has a link
unfoldable pub base_anchor : Store → ℕ → ℕ → ℕ → Option ℕ
base_anchor s t j c = child_at s (base_array s t) (base_slot (j * classes_of s t + c))

-- ---- its links

-- "a link of the table stands at no slot" does not hold, and "links of the arrays at no slot" do not; an object that is both arrays is judged as either
unfoldable pub all_at_slots : Store → ℕ → Bool
all_at_slots s t = all_at s t is_table_slot && all_at s (mark_array s t) is_mark_slot && all_at s (base_array s t) is_base_slot

-- a link of the classes lo up to hi of table t, hi left out: of their marks, or of their columns of the base array
unfoldable pub of_classes : Store → ℕ → ℕ → ℕ → Link → Bool
of_classes s t lo hi l =
    offset_of (mark_array s t) l && in_classes lo hi (class_before (mark_bytes s t) l.position)
    || offset_of (base_array s t) l && in_classes lo hi (column_at (classes_of s t) l.position)

-- ---- its cuts

-- the rule for table t
unfoldable pub rule_of : Settings → Store → ℕ → Rule
rule_of how s t = mark_rule how (classes_of s t) (size_of s (linked_at s t base_cover_at)) (bases_in s t) (marks_of_class s t) (item_size s (of_classes s t))

-- the classes at which table t is cut by these settings
unfoldable pub cut_places : Settings → Store → ℕ → List ℕ
cut_places how s t = cuts_of (rule_of how s t)

-- all of this file's definitions, for checks that compute
unfoldable pub computes : Unit {0}
unfolding parts_readable mark_anchor mark_at marks_of marks_within base_anchor all_at_slots of_classes rule_of cut_places
computes = tt

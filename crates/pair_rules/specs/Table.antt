-- A PairPos table in a store: its parts, its covered glyphs with their items, and its cuts. Assumes nothing.
use Rattle.std.specs.Prelude.{ℕ, Bool, true, cond, ◌&&◌, List, map, length, get_or, eqb, Option, Some, None}
use Rattle.folds.specs.Folds.{all, upto}
use Rattle.folds.specs.Lists.{is_some}
use Rattle.ot_layouts.specs.Coverage.{Entry, cover_readable, cover_glyphs}
use Rattle.ot_layouts.specs.ClassDef.{class_readable, class_of}
use Rattle.ot_layouts.specs.PairPos.{Shape, cover_at, class1_at, class2_at, record_size, shape_of, item_at, is_slot, set_sorted}
use Rattle.store_rules.specs.Store.{Store, Link, bytes_of, size_of, child_at, linked_at, linked_bytes, of_span, all_at}
use Rattle.store_rules.specs.Reach.{item_size}
use Rattle.cut_rules.specs.Cuts.{Rule, cuts_of}
use Rattle.call_rules.specs.declared.Settings.{Settings}
use Rattle.pair_rules.specs.Rules.{rule1, rule2}

-- the shape of table t
abbrev pub shape : Store → ℕ → Shape
shape s t = shape_of (bytes_of s t)

-- 4 does not apply: "link to coverage or a class definition absent, or that object unreadable"
unfoldable pub parts_readable : Store → ℕ → Bool
parts_readable s t =
    is_some (child_at s t cover_at) && cover_readable (linked_bytes s t cover_at)
    && cond (eqb (shape s t).format 1) true
    (is_some (child_at s t class1_at) && class_readable (linked_bytes s t class1_at) && is_some (child_at s t class2_at) && class_readable (linked_bytes s t class2_at))

-- the covered glyphs, in order
abbrev pub glyphs_of : Store → ℕ → List ℕ
glyphs_of s t = cover_glyphs (linked_bytes s t cover_at)

-- each covered glyph with its item: in format 1 the pair set at its place, in format 2 the row of its class
unfoldable pub entries_of : Store → ℕ → List Entry
entries_of s t =
    cond (eqb (shape s t).format 1)
    (upto (λ k. record { glyph = get_or (glyphs_of s t) k 0; class = k }) (length (glyphs_of s t)))
    (map (λ g. record { glyph = g; class = class_of (linked_bytes s t class1_at) g }) (glyphs_of s t))

-- "a link of the table stands at no slot" does not hold
unfoldable pub all_at_slots : Store → ℕ → Bool
all_at_slots s t = all_at s t (is_slot (shape s t))

-- where a slot leads to a pair set, that set is sorted; records have so many bytes behind their glyph
abbrev pub sorted_in : Store → ℕ → Option ℕ → Bool
sorted_in s size None = true
sorted_in s size (Some c) = set_sorted (bytes_of s c) size

-- 11 does not apply: "a linked pair set unsorted or of wrong length"; a table of format 2 has no pair sets
unfoldable pub sets_sorted : Store → ℕ → Bool
sets_sorted s t =
    cond (eqb (shape s t).format 1)
    (all (λ k. sorted_in s (record_size (bytes_of s t)) (child_at s t (item_at (shape s t) k))) (shape s t).count)
    true

-- a link of the items lo up to hi of table t, hi left out: check 7 has seen that it stands at a slot
abbrev pub of_items : ℕ → Shape → ℕ → ℕ → Link → Bool
of_items t sh lo hi = of_span t (item_at sh lo) (item_at sh hi)

-- the rule for table t
unfoldable pub rule_of : Settings → Store → ℕ → Rule
rule_of how s t =
    cond (eqb (shape s t).format 1)
    (rule1 how (shape s t).count (λ i. is_some (child_at s t (item_at (shape s t) i))) (item_size s (of_items t (shape s t))) (size_of s (linked_at s t cover_at)))
    (rule2 how (shape s t).count (shape s t).item (item_size s (of_items t (shape s t))) (entries_of s t) (size_of s (linked_at s t class2_at)))

-- the places at which table t is cut by these settings
unfoldable pub cut_places : Settings → Store → ℕ → List ℕ
cut_places how s t = cuts_of (rule_of how s t)

-- all of this file's definitions, for checks that compute
unfoldable pub computes : Unit {0}
unfolding parts_readable entries_of all_at_slots sets_sorted rule_of cut_places
computes = tt

-- "What is written" for MarkBasePos, from the old store, the table and its cuts. Assumes nothing.
use Rattle.std.specs.Prelude.{ℕ, ◌+◌, ◌-◌, ◌*◌, ◌/◌, ◌%◌, List, [], ◌∷◌, ◌++◌, map, length, get_or, replicate, Option, None}
use Rattle.folds.specs.Folds.{flat, upto}
use Rattle.folds.specs.Lists.{join}
use Rattle.ot_layouts.specs.Numbers.{be16, words}
use Rattle.ot_layouts.specs.Coverage.{coverage_bytes}
use Rattle.ot_layouts.specs.MarkBasePos.{class_count_at, own, heads, mark_slot, base_slot}
use Rattle.store_rules.specs.Store.{Store, Link, links_of, head_of, linked_at}
use Rattle.store_rules.specs.Appended.{new_number, appended, with_bytes}
use Rattle.store_rules.specs.Header.{header_links, kept}
use Rattle.store_rules.specs.SlotLinks.{links_from, slot_links}
use Rattle.cut_rules.specs.Ranges.{from, to}
use Rattle.call_rules.specs.declared.Needs.{Needs}
use Rattle.mark_rules.specs.Table.{Mark, classes_of, mark_array, base_array, bases_in, marks_of, marks_within, base_anchor}

-- ---- bytes

-- a table of the classes lo up to hi: format 1, "its own count set .. all other new bytes are zero"
unfoldable pub new_table : ℕ → ℕ → List ℕ
new_table lo hi = words (1 ∷ 0 ∷ 0 ∷ (hi - lo) ∷ 0 ∷ 0 ∷ [])

-- what a list of marks has past its end
abbrev pub no_mark : Mark
no_mark = record { glyph = 0; class = 0; anchor = None }

-- its coverage, of its marks
unfoldable pub new_coverage : List Mark → List ℕ
new_coverage ms = coverage_bytes (map (λ m. m.glyph) ms)

-- its mark array: the count, then for each mark in the old order its class, "classes reduced by its first", and no offset
unfoldable pub new_mark_array : ℕ → List Mark → List ℕ
new_mark_array lo ms = words (length ms ∷ flat (λ k. ((get_or ms k no_mark).class - lo) ∷ 0 ∷ []) (length ms))

-- its base array: the count of bases, and no offsets
unfoldable pub new_base_array : ℕ → ℕ → List ℕ
new_base_array bases classes = be16 bases ++ replicate (2 * (bases * classes)) 0

-- the own parts of a table of the classes lo up to hi, of these marks and so many bases: "coverage, mark array, base array"
unfoldable pub new_parts : List Mark → ℕ → ℕ → ℕ → List (List ℕ)
new_parts ms bases lo hi = new_coverage (marks_within lo hi ms) ∷ new_mark_array lo (marks_within lo hi ms) ∷ new_base_array bases (hi - lo) ∷ []

-- "order: table, coverage, mark array, base array; kept ones last": of a table of n classes, cut at cs
unfoldable pub new_objects : List Mark → ℕ → ℕ → List ℕ → List (List ℕ)
new_objects ms bases n cs =
    flat (λ j. new_table (from cs j) (to n cs j) ∷ new_parts ms bases (from cs j) (to n cs j)) (length cs)
    ++ new_parts ms bases 0 (from cs 0)

-- ---- numbers of the new objects

-- objects of a new table: itself and its own parts
abbrev pub per_table : ℕ
per_table = 4

-- ---- links

-- the child at slot k of a new mark array: the anchor of the mark that now stands there
abbrev pub mark_child : List Mark → ℕ → Option ℕ
mark_child ms k = (get_or ms k no_mark).anchor

-- the child at slot k of a new base array of n classes from lo on: that of its base and class in the old one
abbrev pub base_child : Store → ℕ → ℕ → ℕ → ℕ → Option ℕ
base_child s t lo n k = base_anchor s t (k / n) (lo + k % n)

-- of the mark array p of the classes lo up to hi: "same children"
unfoldable pub mark_links : Store → ℕ → ℕ → ℕ → ℕ → List Link
mark_links s t p lo hi = slot_links p (mark_slot 0) 4 (mark_child (marks_within lo hi (marks_of s t))) (length (marks_within lo hi (marks_of s t)))

-- of the base array p of the classes lo up to hi
unfoldable pub base_links : Store → ℕ → ℕ → ℕ → ℕ → List Link
base_links s t p lo hi = slot_links p (base_slot 0) 2 (base_child s t lo (hi - lo)) (bases_in s t * (hi - lo))

-- of the mark array p and the base array behind it
unfoldable pub array_links : Store → ℕ → ℕ → ℕ → ℕ → List Link
array_links s t p lo hi = mark_links s t p lo hi ++ base_links s t (p + 1) lo hi

-- of the new table u of the classes lo up to hi: to its own parts and to the old base coverage; then those of its arrays
unfoldable pub table_links : Store → ℕ → ℕ → ℕ → ℕ → List Link
table_links s t u lo hi = header_links own heads u (linked_at s t) ++ array_links s t (u + 2) lo hi

-- of all new objects: "kept ones last"
unfoldable pub fresh_links : Store → ℕ → List ℕ → List Link
fresh_links s t cs =
    flat (λ j. table_links s t (new_number s per_table j) (from cs j) (to (classes_of s t) cs j)) (length cs)
    ++ array_links s t (new_number s per_table (length cs) + 1) 0 (from cs 0)

-- all links after the split: the old ones, of which "The kept table's two arrays are new objects like its coverage" changes three children, then the new ones
unfoldable pub new_links : Store → ℕ → List ℕ → List Link
new_links s t cs = map (kept own t (new_number s per_table (length cs))) (links_of s) ++ fresh_links s t cs

-- ---- what K cuts need

-- "4K+3 objects"
unfoldable pub need_objects : ℕ → ℕ
need_objects k = per_table * k + 3

-- "4K links plus those of the mark array and of the base array", also where one object is both
unfoldable pub need_links : Store → ℕ → ℕ → ℕ
need_links s t k = 4 * k + links_from s (mark_array s t) + links_from s (base_array s t)

-- K cuts of table t, whose new objects take so many bytes; K result entries
unfoldable pub needs_of : Store → ℕ → ℕ → ℕ → Needs
needs_of s t k bytes = record { objects = need_objects k; links = need_links s t k; bytes = bytes; entries = k }

-- ---- the store after a split with at least one cut

-- the kept table has its count set; "the kept table's other bytes stay"
unfoldable pub kept_table : Store → ℕ → ℕ → Store
kept_table s t n = with_bytes s (head_of s t + class_count_at) (be16 n)

-- the new objects of a split of t at cs
abbrev pub new_of : Store → ℕ → List ℕ → List (List ℕ)
new_of s t cs = new_objects (marks_of s t) (bases_in s t) (classes_of s t) cs

-- what a split of t at cs needs beside what is in use: "and the exact bytes of all new objects"
unfoldable pub needed : Store → ℕ → List ℕ → Needs
needed s t cs = needs_of s t (length cs) (length (join (new_of s t cs)))

-- the store after t is split at cs, with the new objects behind those in use; the kept table's coverage comes where table K would
unfoldable pub split_store : Store → ℕ → List ℕ → Store
split_store s t cs = appended (kept_table s t (from cs 0)) (new_of s t cs) (new_links s t cs)

-- the result list's numbers
unfoldable pub new_tables : Store → ℕ → List ℕ → List ℕ
new_tables s t cs = upto (new_number s per_table) (length cs)

-- all of this file's definitions, for checks that compute
unfoldable pub computes : Unit {0}
unfolding new_table new_coverage new_mark_array new_base_array new_parts new_objects mark_links base_links array_links table_links fresh_links new_links need_objects need_links needs_of kept_table needed split_store new_tables
computes = tt

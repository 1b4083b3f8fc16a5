-- "What is written", from the old store, the table and its cuts. Assumes nothing.
use Rattle.std.specs.Prelude.{ℕ, ◌+◌, ◌-◌, ◌*◌, cond, not, List, ◌∷◌, ◌++◌, map, length, replicate, eqb}
use Rattle.folds.specs.Folds.{flat, upto}
use Rattle.folds.specs.Lists.{part, sift, join}
use Rattle.ot_layouts.specs.Numbers.{be16}
use Rattle.ot_layouts.specs.Coverage.{Entry, coverage_bytes}
use Rattle.ot_layouts.specs.ClassDef.{class_def_bytes}
use Rattle.ot_layouts.specs.PairPos.{Shape, cover_at, heads, item_at}
use Rattle.glyph_rules.specs.Entries.{within, reduced}
use Rattle.store_rules.specs.Store.{Store, Link, placed_at, links_of, head_of, bytes_of, linked_at}
use Rattle.store_rules.specs.Header.{header_links, kept}
use Rattle.store_rules.specs.Appended.{new_number, appended, with_bytes, with_tail}
use Rattle.cut_rules.specs.Ranges.{from, to}
use Rattle.call_rules.specs.declared.Needs.{Needs}
use Rattle.pair_rules.specs.Table.{of_items, shape, entries_of}

-- ---- bytes

-- "Format, value formats and class2Count are copied and its own count set; format 2 rows are copied whole; all other new bytes are zero."
unfoldable pub new_table : Shape → List ℕ → ℕ → ℕ → List ℕ
new_table sh b lo hi =
    part b 0 2 ++ be16 0 ++ part b 4 8
    ++ cond (eqb sh.format 1)
    (be16 (hi - lo) ++ replicate (2 * (hi - lo)) 0)
    (be16 0 ++ be16 0 ++ be16 (hi - lo) ++ part b 14 16 ++ part b (item_at sh lo) (item_at sh hi))

-- the part that a table links at q: its coverage or its class definition 1, of the glyphs es, where lo is its first item
unfoldable pub part_of : List Entry → ℕ → ℕ → List ℕ
part_of es lo q = cond (eqb q cover_at) (coverage_bytes (map (λ e. e.glyph) es)) (class_def_bytes (reduced lo es))

-- the own parts of a table of items lo up to hi, which "covers the glyphs whose class lies in its range"
unfoldable pub new_parts : Shape → List Entry → ℕ → ℕ → List (List ℕ)
new_parts sh es lo hi = map (part_of (within lo hi es) lo) sh.own

-- "New objects come in the order table, coverage, class definition 1 (format 2) for each new table, then the kept table's coverage and class definition 1"
unfoldable pub new_objects : Shape → List ℕ → List Entry → List ℕ → List (List ℕ)
new_objects sh b es cs =
    flat (λ j. new_table sh b (from cs j) (to sh.count cs j) ∷ new_parts sh es (from cs j) (to sh.count cs j)) (length cs)
    ++ new_parts sh es 0 (from cs 0)

-- ---- numbers of the new objects

-- objects of a new table: its own parts and itself
abbrev pub per_table : Shape → ℕ
per_table sh = length sh.own + 1

-- ---- links

-- of the header of the new table u: to its own parts, and to the shared ones, where the old table has them
abbrev pub head_links : Shape → ℕ → (ℕ → ℕ) → List Link
head_links sh = header_links sh.own (heads sh)

-- a link of an item of the new table u, whose first item is lo: "Links of its items move to it, same children."
unfoldable pub moved : Shape → ℕ → ℕ → Link → Link
moved sh u lo l = placed_at u (l.position - sh.item * lo) l

-- the links of new table u of the items lo up to hi
unfoldable pub table_links : Store → ℕ → Shape → ℕ → ℕ → ℕ → List Link
table_links s t sh u lo hi = head_links sh u (linked_at s t) ++ map (moved sh u lo) (sift (of_items t sh lo hi) (links_of s))

-- all links after the split: those that stay, then those of each new table; object numbers ascend, so the rows do
unfoldable pub new_links : Store → ℕ → Shape → List ℕ → List Link
new_links s t sh cs =
    map (kept sh.own t (new_number s (per_table sh) (length cs))) (sift (λ l. not (of_items t sh (from cs 0) sh.count l)) (links_of s))
    ++ flat (λ j. table_links s t sh (new_number s (per_table sh) j) (from cs j) (to sh.count cs j)) (length cs)

-- ---- what K cuts need

-- "format 1 needs 2K+1 objects .. format 2 needs 3K+2 objects"
unfoldable pub need_objects : Shape → ℕ → ℕ
need_objects sh k = per_table sh * k + length sh.own

-- "and K links; .. and 3K links": one for each link slot of a header
unfoldable pub need_links : Shape → ℕ → ℕ
need_links sh k = length (heads sh) * k

-- K cuts of a table of this shape, whose new objects take so many bytes; "both need K result entries"
unfoldable pub needs_of : Shape → ℕ → ℕ → Needs
needs_of sh k bytes = record { objects = need_objects sh k; links = need_links sh k; bytes = bytes; entries = k }

-- ---- the store after a split with at least one cut

-- "The kept table has items below p0, and is shortened in place with its count set": of n items; "the kept table's other bytes stay"
unfoldable pub kept_table : Store → ℕ → Shape → ℕ → Store
kept_table s t sh n = with_tail (with_bytes s (head_of s t + sh.count_at) (be16 n)) t (head_of s t + item_at sh n)

-- with the new objects behind those in use; the kept table's coverage comes where table K would
unfoldable pub store_after : Store → ℕ → Shape → List ℕ → List (List ℕ) → Store
store_after s t sh cs new = appended (kept_table s t sh (from cs 0)) new (new_links s t sh cs)

-- the new objects of a split of t at cs
abbrev pub new_of : Store → ℕ → List ℕ → List (List ℕ)
new_of s t cs = new_objects (shape s t) (bytes_of s t) (entries_of s t) cs

-- what a split of t at cs needs beside what is in use: "and the exact bytes of all new objects"
unfoldable pub needed : Store → ℕ → List ℕ → Needs
needed s t cs = needs_of (shape s t) (length cs) (length (join (new_of s t cs)))

-- the store after t is split at cs
unfoldable pub split_store : Store → ℕ → List ℕ → Store
split_store s t cs = store_after s t (shape s t) cs (new_of s t cs)

-- the result list's numbers
unfoldable pub new_tables : Store → ℕ → List ℕ → List ℕ
new_tables s t cs = upto (new_number s (per_table (shape s t))) (length cs)

-- all of this file's definitions, for checks that compute
unfoldable pub computes : Unit {0}
unfolding new_table part_of new_parts new_objects moved table_links new_links need_objects need_links needs_of kept_table store_after needed split_store new_tables
computes = tt

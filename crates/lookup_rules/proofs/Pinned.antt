-- Lookups held against small whole stores, as checks over lists; each list pins what its comment says. Assumes nothing.
use Rattle.std.specs.Prelude.{Option, Some, None}
use Prim.Native.Nat.{ℕ, ◌+◌, ◌*◌}
use mathlib.Core.Path.{◌≡◌, refl}
use mathlib.Core.Bool.{Bool, true, not, ◌&&◌}
use mathlib.Core.List.{List, [], ◌∷◌, ◌++◌, map}
use lib.ListN.{length, take, drop, replicate}
use lib.Dec.{eqb}
use Rattle.folds.specs.Lists.{join}
use Rattle.folds.proofs.Compared as compared
use Rattle.folds.proofs.Compared.{same, every}
use Rattle.ot_layouts.specs.Numbers.{words}
use Rattle.store_rules.specs.Store.{Store, per_link, sound, bytes_of}
use Rattle.store_rules.proofs.Pinned.{link_row, packed, store_of, roomy}
use Rattle.call_rules.specs.declared.Needs.{Needs}
use Rattle.call_rules.specs.Answers.{Case}
use Rattle.call_rules.specs.Settings.{settings_of, first_edition}
use Rattle.call_rules.specs.Scratch.{Scratch}
use Rattle.call_rules.specs.Outcomes.{Outcome}
use Rattle.call_rules.proofs.Pinned.{fives}
use Rattle.pair_rules.specs.Pairs.{pair_of}
use Rattle.pair_rules.specs.Calls.{PairOutcome}
use Rattle.pair_rules.proofs.Pinned.{sameℤs}
use Rattle.lookup_rules.specs.Listed.{list_slots, subtable_slots, lookups_of, rewritten}
use Rattle.lookup_rules.specs.Written.{lookup_store, counts_fit, lookups_need, needed_in_all}
use Rattle.lookup_rules.specs.Applied.{applied, reaches}
use Rattle.lookup_rules.specs.Calls.{lookup_cases, lookup_call}
use Rattle.lookup_rules.specs.Computing as definitions

-- ---- stores

-- 0, a format 1 table of two sets; 1, its coverage of glyphs 10 and 20; 2 and 3, its sets: glyph 5 with 7, and with 8; 4, a table of another format; then
-- 5, a list, and what follows it, of these words
unfoldable pub bare_lookups : List (List ℕ) → List ℕ → Store
bare_lookups more links =
    store_of
    (words (1 ∷ 0 ∷ 4 ∷ 0 ∷ 2 ∷ 0 ∷ 0 ∷ []) ++ words (1 ∷ 2 ∷ 10 ∷ 20 ∷ []) ++ words (1 ∷ 5 ∷ 7 ∷ []) ++ words (1 ∷ 5 ∷ 8 ∷ []) ++ words (9 ∷ [])
    ++ join (map words more))
    (14 ∷ 8 ∷ 6 ∷ 6 ∷ 2 ∷ map (λ x. 2 * length x) more)
    (link_row 0 2 1 ++ link_row 0 10 2 ++ link_row 0 12 3 ++ links)

-- with room
unfoldable pub lookups_in : List (List ℕ) → List ℕ → Store
lookups_in more links = roomy 100 10 20 (bare_lookups more links)

-- lookups 6, 7, 6 again, no link, and 8; 6 lists the table twice with 4 between, 7 is of another type, 8 has an empty slot and a mark filtering set; 9 leads
-- to 6 from elsewhere
unfoldable pub many : Store
many =
    lookups_in
    ((5 ∷ 0 ∷ 0 ∷ 0 ∷ 0 ∷ 0 ∷ []) ∷ (2 ∷ 3 ∷ 3 ∷ 9 ∷ 9 ∷ 9 ∷ []) ∷ (4 ∷ 0 ∷ 1 ∷ 0 ∷ []) ∷ (2 ∷ 0x10 ∷ 2 ∷ 9 ∷ 9 ∷ 777 ∷ []) ∷ (0 ∷ []) ∷ [])
    (link_row 5 2 6 ++ link_row 5 4 7 ++ link_row 5 6 6 ++ link_row 5 10 8
    ++ link_row 6 6 0 ++ link_row 6 8 4 ++ link_row 6 10 0 ++ link_row 7 6 0 ++ link_row 8 8 0 ++ link_row 9 0 6)

-- and after a cut at 1: 10 is the new table, 11 and 12 the coverages, 13 and 14 the new lookups
unfoldable pub many_then : Store
many_then = lookup_store many 5 0 (1 ∷ [])

-- two lookups that name the table and each other: 6 lists the table and 7, 7 lists 6 and the table
unfoldable pub knot : Store
knot =
    lookups_in ((2 ∷ 0 ∷ 0 ∷ []) ∷ (2 ∷ 0 ∷ 2 ∷ 0 ∷ 0 ∷ []) ∷ (2 ∷ 0 ∷ 2 ∷ 0 ∷ 0 ∷ []) ∷ [])
    (link_row 5 2 7 ++ link_row 5 4 6 ++ link_row 6 6 0 ++ link_row 6 8 7 ++ link_row 7 6 6 ++ link_row 7 8 0)

-- in list order 7 becomes 13 and 6 becomes 14, in the old lookups and in the copies alike; 8 and 10 are the new tables
unfoldable pub knot_then : Store
knot_then = lookup_store knot 5 0 (0 ∷ 1 ∷ [])

-- one list and one lookup, of these words and links
unfoldable pub one_in : List ℕ → List ℕ → List ℕ → Store
one_in list lookup links = lookups_in (list ∷ lookup ∷ []) links

-- a list of one, a lookup of one, which is the table
unfoldable pub plain : Store
plain = one_in (1 ∷ 0 ∷ []) (2 ∷ 0 ∷ 1 ∷ 0 ∷ []) (link_row 5 2 6 ++ link_row 6 6 0)

-- ---- what is written

-- slots as numbers: 0 for none, else one more than the object's
unfoldable pub shown : List (Option ℕ) → List ℕ
shown [] = []
shown (None ∷ os) = 0 ∷ shown os
shown (Some c ∷ os) = (c + 1) ∷ shown os

-- the link rows in use
unfoldable pub rows_in : Store → List ℕ
rows_in s = take (per_link * s.link_count) s.links

-- objects, links, bytes and entries
unfoldable pub needs : Needs → List ℕ
needs n = n.objects ∷ n.links ∷ n.bytes ∷ n.entries ∷ []

-- `slots_at`, `linked_in`, `each_once`, `lookups_of`, `names`, `rewritten`: in list order, each once, of type 2 alone, that name the table
-- `entered`, `new_lookup`, `new_lookups`, `new_lookup_links`: behind each listing, the count set, offsets zero, the flag and the filtering set copied
-- `redirect`, `redirected`, `entered_store`: in the list, elsewhere, in old lookups and in the copies; `lookups_need`, `needed_in_all`
unfoldable pub writing : List Bool
writing =
    same (rewritten knot 5 0) (7 ∷ 6 ∷ []) ∷ sound knot_then ∷ same (shown (list_slots knot_then 5)) (14 ∷ 15 ∷ [])
    ∷ same (shown (subtable_slots knot_then 6)) (1 ∷ 14 ∷ []) ∷ same (shown (subtable_slots knot_then 7)) (15 ∷ 1 ∷ [])
    ∷ same (shown (subtable_slots knot_then 13)) (15 ∷ 1 ∷ 9 ∷ 11 ∷ []) ∷ same (shown (subtable_slots knot_then 14)) (1 ∷ 9 ∷ 11 ∷ 14 ∷ [])
    ∷ sound many ∷ same (lookups_of many 5) (6 ∷ 7 ∷ 8 ∷ []) ∷ same (rewritten many 5 0) (6 ∷ 8 ∷ []) ∷ same (rewritten many 5 4) (6 ∷ [])
    ∷ same (shown (list_slots many 5)) (7 ∷ 8 ∷ 7 ∷ 0 ∷ 9 ∷ []) ∷ same (shown (subtable_slots many 8)) (0 ∷ 1 ∷ [])
    ∷ sound many_then ∷ eqb many_then.object_count 15
    ∷ same (shown (list_slots many_then 5)) (14 ∷ 8 ∷ 14 ∷ 0 ∷ 15 ∷ [])
    ∷ same (bytes_of many_then 13) (words (2 ∷ 3 ∷ 5 ∷ 0 ∷ 0 ∷ 0 ∷ 0 ∷ 0 ∷ [])) ∷ same (bytes_of many_then 14) (words (2 ∷ 0x10 ∷ 3 ∷ 0 ∷ 0 ∷ 0 ∷ 777 ∷ []))
    ∷ same (bytes_of many_then 6) (bytes_of many 6) ∷ same (bytes_of many_then 5) (bytes_of many 5)
    ∷ same (rows_in many_then)
    (link_row 0 2 12 ++ link_row 0 10 2 ++ link_row 5 2 13 ++ link_row 5 4 7 ++ link_row 5 6 13 ++ link_row 5 10 14
    ++ link_row 6 6 0 ++ link_row 6 8 4 ++ link_row 6 10 0 ++ link_row 7 6 0 ++ link_row 8 8 0 ++ link_row 9 0 13 ++ link_row 10 2 11 ++ link_row 10 10 3
    ++ link_row 13 6 0 ++ link_row 13 8 10 ++ link_row 13 10 4 ++ link_row 13 12 0 ++ link_row 13 14 10 ++ link_row 14 8 0 ++ link_row 14 10 10)
    ∷ same (drop (per_link * 21) many_then.links) (replicate (per_link * 12) 77)
    ∷ same (needs (lookups_need many 0 (10 ∷ []) (6 ∷ 8 ∷ []))) (2 ∷ 7 ∷ 30 ∷ 0 ∷ []) ∷ same (needs (lookups_need many 0 (10 ∷ 12 ∷ []) (6 ∷ []))) (1 ∷ 7 ∷ 20 ∷ 0 ∷ [])
    ∷ same (needs (needed_in_all many 5 0 (1 ∷ []))) (5 ∷ 8 ∷ 54 ∷ 1 ∷ [])
    ∷ []

-- ---- what lookups give

-- the same answer, the same pair or none
unfoldable pub same_reading : PairOutcome → PairOutcome → Bool
same_reading x y = eqb x.answer y.answer && eqb x.found y.found && sameℤs x.values y.values

-- before and after, by the lookup's old number and by its new one
unfoldable pub gives : ℕ → ℕ → ℕ → ℕ → Bool
gives p p' a b = same_reading (applied many p a b) (applied many_then p' a b)

-- a lookup of the table, in format 2, and of 4, of another format and with no link: `pair_of` takes object 0 for its coverage, where the pair reading asks nothing
-- more of it
unfoldable pub others : Store
others =
    roomy 100 10 20
    (store_of
    (words (2 ∷ 2 ∷ 0 ∷ 0 ∷ 0 ∷ 0 ∷ 3 ∷ 1 ∷ []) ++ words (1 ∷ 1 ∷ 10 ∷ []) ++ words (2 ∷ 0 ∷ []) ++ words (2 ∷ 0 ∷ [])
    ++ words (9 ∷ 0 ∷ 0 ∷ 0 ∷ 0 ∷ 0 ∷ 100 ∷ 100 ∷ []) ++ words (1 ∷ 0 ∷ []) ++ words (2 ∷ 0 ∷ 2 ∷ 0 ∷ 0 ∷ []))
    (16 ∷ 6 ∷ 4 ∷ 4 ∷ 16 ∷ 4 ∷ 10 ∷ [])
    (link_row 0 2 1 ++ link_row 0 8 2 ++ link_row 0 10 3 ++ link_row 5 2 6 ++ link_row 6 6 0 ++ link_row 6 8 4))

-- the new lookup is 12
unfoldable pub others_then : Store
others_then = lookup_store others 5 0 (1 ∷ [])

-- `applied`: glyphs 10 and 20 have a pair with 5, of which the second now stands in the new table; the old lookup no longer has it; an empty slot is passed over
-- `reaches`: along links, and not back
unfoldable pub giving : List Bool
giving =
    gives 6 13 10 5 ∷ gives 6 13 20 5 ∷ gives 6 13 10 6 ∷ gives 6 13 11 5 ∷ gives 8 14 10 5 ∷ gives 8 14 20 5
    ∷ eqb (applied many 6 20 5).found 1 ∷ eqb (applied many_then 6 20 5).found 0
    ∷ eqb (applied others 6 3 3).found 0 ∷ eqb (applied others_then 12 3 3).found 0 ∷ (pair_of others 4 3 3).found ∷ not (pair_of others_then 4 3 3).found
    ∷ not (reaches many 4 0) ∷ reaches many 9 0 ∷ reaches many 5 0 ∷ not (reaches many 0 0) ∷ not (reaches many 0 6)
    ∷ []

-- ---- answers

-- just enough
unfoldable pub scratch : Scratch
scratch = fives 20 8192 2 2 2

-- the answer, with no new table
unfoldable pub answers : Store → ℕ → ℕ → ℕ → Bool
answers s l t n = let o = lookup_call first_edition s l t scratch (0 ∷ []) in eqb o.answer n && eqb o.count 0

-- the list [1] with a link to a lookup of these words and links
unfoldable pub looked : List ℕ → List ℕ → Store
looked lookup links = one_in (1 ∷ 0 ∷ []) lookup (link_row 5 2 6 ++ links)

-- `lookup_cases`: the numbers in the order in which they are asked
unfoldable pub numbers : List Case → List ℕ
numbers cs = map (λ c. c.answer) cs

-- `good_list`, `good_lookup`, `good_lookups`, `bad_list`, `list_cases`: each refusal at its edge
unfoldable pub answering : List Bool
answering =
    -- no cut
    answers plain 5 0 0 ∷ answers many 5 0 0 ∷ answers many 5 4 0
    -- 1, also before 2; 2 for the table and for the list, also before 9
    ∷ answers (one_in (1 ∷ 0 ∷ []) (2 ∷ 0 ∷ 1 ∷ 0 ∷ []) (link_row 6 6 0 ++ link_row 5 2 6)) 9 9 1
    ∷ answers plain 9 9 2 ∷ answers plain 5 9 2 ∷ answers plain 9 0 2 ∷ answers plain 7 0 2 ∷ answers plain 5 7 2
    -- 9: the list too long, or with a link at no slot
    ∷ answers (one_in (1 ∷ 0 ∷ 0 ∷ []) (2 ∷ 0 ∷ 1 ∷ 0 ∷ []) (link_row 5 2 6 ++ link_row 6 6 0)) 5 0 9
    ∷ answers (one_in (2 ∷ 0 ∷ 0 ∷ []) (2 ∷ 0 ∷ 1 ∷ 0 ∷ []) (link_row 5 2 6 ++ link_row 5 3 6 ++ link_row 6 6 0)) 5 0 9
    -- no lookup of type 2, or none that names the table
    ∷ answers (looked (4 ∷ 0 ∷ 1 ∷ 0 ∷ []) (link_row 6 6 0)) 5 0 9 ∷ answers (looked (2 ∷ 0 ∷ 1 ∷ 0 ∷ []) (link_row 6 6 4)) 5 0 9
    -- a lookup too long, too short for its mark filtering set, and just right
    ∷ answers (looked (2 ∷ 0 ∷ 1 ∷ 0 ∷ 0 ∷ []) (link_row 6 6 0)) 5 0 9 ∷ answers (looked (2 ∷ 0x10 ∷ 1 ∷ 0 ∷ []) (link_row 6 6 0)) 5 0 9
    ∷ answers (looked (2 ∷ 0x10 ∷ 1 ∷ 0 ∷ 9 ∷ []) (link_row 6 6 0)) 5 0 0
    -- a link at no slot of a lookup, and where its mark filtering set stands
    ∷ answers (looked (2 ∷ 0 ∷ 1 ∷ 0 ∷ []) (link_row 6 4 4 ++ link_row 6 6 0)) 5 0 9
    ∷ answers (looked (2 ∷ 0x10 ∷ 1 ∷ 0 ∷ 9 ∷ []) (link_row 6 6 0 ++ link_row 6 8 0)) 5 0 9
    -- a lookup of another type that is too long, behind one that is right
    ∷ answers (lookups_in ((2 ∷ 0 ∷ 0 ∷ []) ∷ (2 ∷ 0 ∷ 1 ∷ 0 ∷ []) ∷ (4 ∷ 0 ∷ 0 ∷ 0 ∷ []) ∷ []) (link_row 5 2 6 ++ link_row 5 4 7 ++ link_row 6 6 0)) 5 0 9
    -- 9 before 3, and 3 where the list is right; the list as the table; a list that leads to itself
    ∷ answers plain 5 1 9 ∷ answers (looked (2 ∷ 0 ∷ 1 ∷ 0 ∷ []) (link_row 6 6 1)) 5 1 3
    ∷ answers plain 5 5 9 ∷ answers plain 6 6 9
    ∷ answers (one_in (4 ∷ 0 ∷ 2 ∷ 0 ∷ 0 ∷ []) (2 ∷ 0 ∷ 1 ∷ 0 ∷ []) (link_row 5 6 5 ++ link_row 5 8 6 ++ link_row 6 6 0)) 5 0 0
    -- 6; 7: a set of the table leads to the lookup
    ∷ eqb (lookup_call first_edition plain 5 0 (fives 14 8192 2 2 2) []).answer 0 ∷ eqb (lookup_call first_edition plain 5 0 (fives 13 8192 2 2 2) []).answer 6
    ∷ answers (one_in (1 ∷ 0 ∷ []) (2 ∷ 0 ∷ 1 ∷ 0 ∷ []) (link_row 2 4 6 ++ link_row 5 2 6 ++ link_row 6 6 0)) 5 0 7
    -- no cut before 8: there is no room at all
    ∷ eqb (lookup_call first_edition (bare_lookups ((1 ∷ 0 ∷ []) ∷ (2 ∷ 0 ∷ 1 ∷ 0 ∷ []) ∷ []) (link_row 5 2 6 ++ link_row 6 6 0)) 5 0 scratch []).answer 0
    -- all of them, in their order
    ∷ eqb (lookup_call (settings_of 3) (bare_lookups [] (link_row 0 9 9)) 5 0 scratch []).answer 12
    ∷ same (numbers (lookup_cases first_edition plain 5 0 scratch [])) (12 ∷ 1 ∷ 2 ∷ 2 ∷ 9 ∷ 12 ∷ 1 ∷ 2 ∷ 3 ∷ 0 ∷ 3 ∷ 4 ∷ 5 ∷ 6 ∷ 7 ∷ 11 ∷ 0 ∷ 10 ∷ 8 ∷ [])
    ∷ []

-- ---- 10

-- so many new tables
unfoldable pub fits : ℕ → List ℕ → Bool
fits k ps = counts_fit many 0 (replicate k 1) ps

-- `count_fits`, `counts_fit`: lookup 6 has three slots and lists the table twice, so 65,535 with 32,766 new tables and too many with one more; lookup 8 has two, and
-- lists it once
unfoldable pub counting : List Bool
counting =
    fits 32766 (6 ∷ []) ∷ not (fits 32767 (6 ∷ [])) ∷ not (fits 32767 (6 ∷ 8 ∷ [])) ∷ not (fits 32767 (8 ∷ 6 ∷ [])) ∷ fits 65533 (8 ∷ []) ∷ not (fits 65534 (8 ∷ []))
    ∷ []

-- ---- a call that goes ahead, with room for it and nothing more: W9's table, a list and a lookup; the table's set has no records, and leads to an object
-- with which it is as long as W9's

unfoldable pub tight : ℕ → ℕ → ℕ → Store
tight bytes objects links =
    record {
      bytes = words (1 ∷ 0 ∷ 0 ∷ 0 ∷ 1 ∷ 0 ∷ []) ++ words (1 ∷ 1 ∷ 10 ∷ []) ++ words (1 ∷ 0 ∷ []) ++ words (2 ∷ 0 ∷ 1 ∷ 0 ∷ []) ++ replicate (65518 + bytes) 0;
      objects = packed 0 (12 ∷ 6 ∷ 4 ∷ 8 ∷ 2 ∷ 65516 ∷ []) ++ replicate (2 * objects) 77;
      links = link_row 0 2 1 ++ link_row 0 10 4 ++ link_row 2 2 3 ++ link_row 3 6 0 ++ link_row 4 0 5 ++ replicate (per_link * links) 77;
      byte_count = 65548;
      object_count = 6;
      link_count = 5;
    }

-- the answer, the count, what the result list starts with and the lookup list's slots
unfoldable pub ends : ℕ → ℕ → List ℕ → List ℕ → Outcome → Bool
ends n k entries slots o = eqb o.answer n && eqb o.count k && same o.list entries && same (shown (list_slots o.store 2)) slots

unfoldable pub called : ℕ → ℕ → ℕ → List ℕ → Outcome
called bytes objects links list = lookup_call first_edition (tight bytes objects links) 2 0 (fives 12 8192 1 1 1) list

-- `lookup_call`, `enter_cases`: the new table, two coverages and the lookup are 12 + 6 + 4 and 10 bytes; each of 8 one short
unfoldable pub calling : List Bool
calling =
    ends 0 1 (6 ∷ []) (10 ∷ []) (called 32 4 3 (0 ∷ [])) ∷ ends 8 0 (0 ∷ []) (4 ∷ []) (called 31 4 3 (0 ∷ [])) ∷ ends 8 0 (0 ∷ []) (4 ∷ []) (called 32 3 3 (0 ∷ []))
    ∷ ends 8 0 (0 ∷ []) (4 ∷ []) (called 32 4 2 (0 ∷ [])) ∷ ends 8 0 [] (4 ∷ []) (called 32 4 3 [])
    ∷ []

pub pinned : every (writing ++ giving ++ answering ++ counting ++ calling) ≡ true
unfolding definitions.computes compared.computes packed store_of roomy fives sameℤs bare_lookups lookups_in many many_then knot knot_then one_in plain shown rows_in needs writing same_reading gives others others_then giving scratch answers looked numbers answering fits counting tight ends called calling
pinned = refl

-- Pair tables held against small whole stores, as one check; each list pins what its comment says. Assumes nothing.
use Prim.Native.Nat.{ℕ, ◌+◌, ◌*◌}
use mathlib.Core.Path.{◌≡◌, refl}
use mathlib.Core.Bool.{Bool, true, false, cond, ◌&&◌}
use mathlib.Core.List.{List, [], ◌∷◌, ◌++◌}
use lib.ListN.{length, get_or, replicate}
use lib.IntN.{ℤ, pos, negsuc}
use lib.Dec.{eqb}
use Rattle.folds.specs.Folds.{all, run}
use Rattle.folds.specs.Lists.{is_empty}
use Rattle.folds.proofs.Compared as compared
use Rattle.folds.proofs.Compared.{same, every, agree}
use Rattle.ot_layouts.specs.Numbers.{words}
use Rattle.ot_layouts.specs.Coverage.{Entry}
use Rattle.ot_layouts.specs.PairPos.{shape_of}
use Rattle.store_rules.specs.Store.{Store, per_link, sound, bytes_of}
use Rattle.store_rules.specs.Appended.{row_numbers}
use Rattle.store_rules.proofs.Pinned.{link_row, packed, store_of, roomy}
use Rattle.cut_rules.specs.Cuts.{cuts_of}
use Rattle.call_rules.specs.declared.Settings.{Settings}
use Rattle.call_rules.specs.Settings.{settings_of, first_edition, second_edition}
use Rattle.call_rules.specs.Scratch.{Scratch}
use Rattle.call_rules.proofs.Pinned.{fives}
use Rattle.pair_rules.specs.Rules.{bare_rule, rule2}
use Rattle.pair_rules.specs.Table.{cut_places}
use Rattle.pair_rules.specs.Written.{new_table, new_links, split_store, new_tables}
use Rattle.pair_rules.specs.Pairs.{Pair, pair_of, pair_among}
use Rattle.pair_rules.specs.Calls.{split_call, plan_call, pair_call, read_in_order}
use Rattle.pair_rules.specs.Computing as definitions

-- ---- comparing

abbrev sameℤ : ℤ → ℤ → Bool
sameℤ (pos a) (pos b) = eqb a b
sameℤ (negsuc a) (negsuc b) = eqb a b
sameℤ (pos a) (negsuc b) = false
sameℤ (negsuc a) (pos b) = false

unfoldable pub sameℤs : List ℤ → List ℤ → Bool
sameℤs [] [] = true
sameℤs [] (y ∷ ys) = false
sameℤs (x ∷ xs) [] = false
sameℤs (x ∷ xs) (y ∷ ys) = sameℤ x y && sameℤs xs ys

unfoldable pub same_pair : Pair → Pair → Bool
same_pair p q = agree p.found q.found && sameℤs p.first q.first && sameℤs p.second q.second

-- ---- stores

-- format 1, value formats 0011 and 0004, under a coverage: object 0, with three slots; two pair sets, 2 and 3, and a device, 4
unfoldable pub with_sets : List ℕ → List ℕ → List ℕ → List ℕ → Store
with_sets first last cover links =
    store_of (words (1 ∷ 0 ∷ 0x11 ∷ 0x04 ∷ 3 ∷ 0 ∷ 0 ∷ 0 ∷ []) ++ words cover ++ first ++ last ++ words (12 ∷ 13 ∷ 1 ∷ []))
    (16 ∷ 2 * length cover ∷ length first ∷ length last ∷ 6 ∷ []) links

unfoldable pub two_records : List ℕ
two_records = words (2 ∷ 5 ∷ 65535 ∷ 999 ∷ 7 ∷ 6 ∷ 1 ∷ 0 ∷ 2 ∷ [])

unfoldable pub one_record : List ℕ
one_record = words (1 ∷ 5 ∷ 3 ∷ 0 ∷ 65534 ∷ [])

-- sets 2 and 3 stand at the first and the last slot, and the device belongs to set 2
unfoldable pub bare1 : List ℕ → List ℕ → Store
bare1 cover links = with_sets two_records one_record cover links

unfoldable pub under1 : List ℕ → List ℕ → Store
under1 cover links = roomy 400 20 20 (bare1 cover links)

unfoldable pub tens : List ℕ
tens = 1 ∷ 3 ∷ 10 ∷ 20 ∷ 30 ∷ []

unfoldable pub slots1 : List ℕ
slots1 = link_row 0 10 2 ++ link_row 0 14 3 ++ link_row 2 6 4

unfoldable pub store1 : Store
store1 = under1 tens (link_row 0 2 1 ++ slots1)

-- format 2, value formats 0044 and 0: glyphs 10 to 14 of classes 0, 1, 1, 2, 3; rows as counted, 2 columns; glyphs 50 to 60 in column 1; a device, 4, or objects of more sizes
unfoldable pub bare2 : ℕ → List ℕ → List ℕ → List ℕ → Store
bare2 rows class2 more links =
    store_of
    (words (2 ∷ 0 ∷ 0x44 ∷ 0 ∷ 0 ∷ 0 ∷ rows ∷ 2 ∷ 1 ∷ 0 ∷ 2 ∷ 0 ∷ 3 ∷ 0 ∷ 4 ∷ 0 ∷ 5 ∷ 0 ∷ 6 ∷ 0 ∷ [])
    ++ words (2 ∷ 1 ∷ 10 ∷ 14 ∷ 0 ∷ []) ++ words (1 ∷ 11 ∷ 4 ∷ 1 ∷ 1 ∷ 2 ∷ 3 ∷ []) ++ words class2 ++ words (12 ∷ 13 ∷ 1 ∷ []))
    (40 ∷ 10 ∷ 14 ∷ 2 * length class2 ∷ more) links

unfoldable pub rows2 : ℕ → List ℕ → List ℕ → Store
rows2 rows class2 links = roomy 400 20 20 (bare2 rows class2 (6 ∷ []) links)

unfoldable pub fifties : List ℕ
fifties = 2 ∷ 1 ∷ 50 ∷ 60 ∷ 1 ∷ []

unfoldable pub heads2 : List ℕ
heads2 = link_row 0 2 1 ++ link_row 0 8 2 ++ link_row 0 10 3

unfoldable pub store2 : Store
store2 = rows2 3 fifties (heads2 ++ link_row 0 30 4 ++ link_row 0 38 4)

-- format 1, value formats 0007 and 0004: one set of one record, of three fields and one
unfoldable pub store_fields : Store
store_fields =
    store_of (words (1 ∷ 0 ∷ 0x07 ∷ 0x04 ∷ 1 ∷ 0 ∷ []) ++ words (1 ∷ 1 ∷ 10 ∷ []) ++ words (1 ∷ 5 ∷ 3 ∷ 8 ∷ 9 ∷ 7 ∷ [])) (12 ∷ 6 ∷ 12 ∷ [])
    (link_row 0 2 1 ++ link_row 0 10 2)

-- format 2 without rows, table 1; object 0 is readable as a coverage and as a class definition, object 2 as neither
unfoldable pub parts : List ℕ → Store
parts links = store_of (words (2 ∷ 0 ∷ []) ++ words (2 ∷ 0 ∷ 0 ∷ 0 ∷ 0 ∷ 0 ∷ 0 ∷ 0 ∷ []) ++ words (9 ∷ [])) (4 ∷ 16 ∷ 2 ∷ []) links

-- one set of 65,518 bytes under a coverage of 6: with room for its cut, at 0, and as many bytes, objects, links as are to spare
unfoldable pub large_set : List ℕ → ℕ → ℕ → ℕ → Store
large_set set bytes objects links =
    record {
      bytes = words (1 ∷ 0 ∷ 4 ∷ 0 ∷ 1 ∷ 0 ∷ 1 ∷ 1 ∷ 10 ∷ []) ++ set ++ replicate bytes 0;
      objects = packed 0 (12 ∷ 6 ∷ 65518 ∷ []) ++ replicate (2 * objects) 77;
      links = link_row 0 2 1 ++ link_row 0 10 2 ++ replicate (per_link * links) 77;
      byte_count = 65536;
      object_count = 3;
      link_count = 2;
    }

-- just enough for store1 and store2
unfoldable pub enough : Scratch
enough = fives 10 8192 5 5 3

-- ---- readings

-- the answer of a reading, with a pair or none
unfoldable pub reads : Store → ℕ → ℕ → ℕ → ℕ → Pair → Bool
reads s t a b n p = eqb (pair_call s t a b).answer n && eqb (pair_call s t a b).found (cond p.found 1 0) && sameℤs (pair_call s t a b).values (p.first ++ p.second)

-- a pair
unfoldable pub found : List ℤ → List ℤ → Pair
found xs ys = record { found = true; first = xs; second = ys }

abbrev zero8 : List ℤ
zero8 = replicate 8 (pos 0)

-- no pair, and sixteen zeros
unfoldable pub nothing : Pair
nothing = record { found = false; first = zero8; second = zero8 }

-- `spot1`, `spot2`, `number_of`, `pair_at`, `pair_call`: signed values, devices, absent fields, no record, no set, no class, not covered
unfoldable pub readings : List Bool
readings =
    reads store1 0 10 5 0 (found (negsuc 0 ∷ pos 0 ∷ pos 0 ∷ pos 0 ∷ pos 5 ∷ pos 0 ∷ pos 0 ∷ pos 0 ∷ []) (pos 0 ∷ pos 0 ∷ pos 7 ∷ pos 0 ∷ pos 0 ∷ pos 0 ∷ pos 0 ∷ pos 0 ∷ []))
    ∷ reads store1 0 30 5 0 (found (pos 3 ∷ pos 0 ∷ pos 0 ∷ pos 0 ∷ pos 0 ∷ pos 0 ∷ pos 0 ∷ pos 0 ∷ []) (pos 0 ∷ pos 0 ∷ negsuc 1 ∷ pos 0 ∷ pos 0 ∷ pos 0 ∷ pos 0 ∷ pos 0 ∷ []))
    ∷ reads (under1 (1 ∷ 3 ∷ 1 ∷ 2 ∷ 10 ∷ []) (link_row 0 2 1 ++ link_row 0 14 2)) 0 10 6 0
    (found (pos 1 ∷ pos 0 ∷ pos 0 ∷ pos 0 ∷ pos 0 ∷ pos 0 ∷ pos 0 ∷ pos 0 ∷ []) (pos 0 ∷ pos 0 ∷ pos 2 ∷ pos 0 ∷ pos 0 ∷ pos 0 ∷ pos 0 ∷ pos 0 ∷ []))
    ∷ reads store1 0 20 5 0 nothing ∷ reads store1 0 10 7 0 nothing ∷ reads store1 0 11 5 0 nothing
    ∷ reads store2 0 12 50 0 (found (pos 0 ∷ pos 0 ∷ pos 4 ∷ pos 0 ∷ pos 0 ∷ pos 0 ∷ pos 5 ∷ pos 0 ∷ []) zero8)
    ∷ reads store2 0 10 49 0 (found (pos 0 ∷ pos 0 ∷ pos 1 ∷ pos 0 ∷ pos 0 ∷ pos 0 ∷ pos 0 ∷ pos 0 ∷ []) zero8)
    ∷ reads store2 0 10 2 0 (found (pos 0 ∷ pos 0 ∷ pos 1 ∷ pos 0 ∷ pos 0 ∷ pos 0 ∷ pos 0 ∷ pos 0 ∷ []) zero8)
    ∷ reads store2 0 14 50 0 nothing ∷ reads store2 0 9 50 0 nothing
    -- `spot1`, `spot2`: a place at the set count, a second class at the column count
    ∷ same_pair (pair_of (under1 (1 ∷ 4 ∷ 10 ∷ 20 ∷ 30 ∷ 40 ∷ []) (link_row 0 2 1 ++ slots1 ++ link_row 0 16 3)) 0 40 5) nothing
    ∷ reads (rows2 3 (2 ∷ 1 ∷ 50 ∷ 60 ∷ 2 ∷ []) heads2) 0 10 50 0 nothing
    -- `number_of`, `pair_at`: fields behind the first, and three of them before the second glyph's
    ∷ reads store_fields 0 10 5 0
    (found (pos 3 ∷ pos 8 ∷ pos 9 ∷ pos 0 ∷ pos 0 ∷ pos 0 ∷ pos 0 ∷ pos 0 ∷ []) (pos 0 ∷ pos 0 ∷ pos 7 ∷ pos 0 ∷ pos 0 ∷ pos 0 ∷ pos 0 ∷ pos 0 ∷ []))
    ∷ []

-- ---- cuts

abbrev pub entry : ℕ → ℕ → Entry
entry g c = record { glyph = g; class = c }

-- format 1 over bare sizes
unfoldable pub cut_sets : Settings → List ℕ → ℕ → List ℕ
cut_sets how sizes cover = cuts_of (bare_rule how sizes cover)

-- format 2 over bare additions of rows: five glyphs of class 0, one each of classes 1 and 2, class definition 2 of 1,000 bytes
unfoldable pub cut_rows : Settings → List ℕ → List ℕ
cut_rows how sizes =
    cuts_of (rule2 how (length sizes) 0 (λ a i. get_or sizes i 0)
    (entry 0 0 ∷ entry 2 0 ∷ entry 4 0 ∷ entry 6 0 ∷ entry 8 0 ∷ entry 10 1 ∷ entry 12 2 ∷ []) 1000)

-- three sets of 100, 30,000 and 100 bytes; the first two lead to 40,000 bytes, and the last, too, where it is asked
unfoldable pub sharing : List ℕ → Store
sharing more =
    store_of (words (1 ∷ 0 ∷ 4 ∷ 0 ∷ 3 ∷ 0 ∷ 0 ∷ 0 ∷ []) ++ words (1 ∷ 3 ∷ 10 ∷ 20 ∷ 30 ∷ [])) (16 ∷ 10 ∷ 100 ∷ 30000 ∷ 100 ∷ 40000 ∷ [])
    (link_row 0 2 1 ++ link_row 0 10 2 ++ link_row 0 12 3 ++ link_row 0 14 4 ++ link_row 2 4 5 ++ link_row 3 4 5 ++ more)

-- five sets under a coverage of one range: four of 10,000 bytes, and one of n
unfoldable pub five_sets : ℕ → Store
five_sets n =
    store_of (words (1 ∷ 0 ∷ 4 ∷ 0 ∷ 5 ∷ 0 ∷ 0 ∷ 0 ∷ 0 ∷ 0 ∷ []) ++ words (2 ∷ 1 ∷ 10 ∷ 14 ∷ 0 ∷ []))
    (20 ∷ 10 ∷ 10000 ∷ 10000 ∷ 10000 ∷ 10000 ∷ n ∷ [])
    (link_row 0 2 1 ++ link_row 0 10 2 ++ link_row 0 12 3 ++ link_row 0 14 4 ++ link_row 0 16 5 ++ link_row 0 18 6)

-- three slots, the second empty: sets of 40,000 bytes and of n
unfoldable pub two_sets : ℕ → Store
two_sets n =
    store_of (words (1 ∷ 0 ∷ 4 ∷ 0 ∷ 3 ∷ 0 ∷ 0 ∷ 0 ∷ []) ++ words tens) (16 ∷ 10 ∷ 40000 ∷ n ∷ []) (link_row 0 2 1 ++ link_row 0 10 2 ++ link_row 0 14 3)

-- three rows, of which the first leads to 30,000 bytes and the second to n, or to both, and a class definition 2 of 4 bytes
unfoldable pub three_rows : ℕ → List ℕ → Store
three_rows n more = bare2 3 (2 ∷ 0 ∷ []) (30000 ∷ n ∷ []) (heads2 ++ link_row 0 18 4 ++ link_row 0 26 5 ++ more)

-- `rule1`, `partial_cover`: an empty slot adds nothing, coverage is no more than its own length, and starts anew after a cut
-- `rule2`: estimates start anew with the glyphs of the row at a cut
-- `rule_of`: what was seen before a cut counts again, the cut item's too; each format's rule over its own parts
unfoldable pub cuttings : List Bool
cuttings =
    same (cut_sets first_edition (40000 ∷ 0 ∷ 0 ∷ 25513 ∷ []) 204) [] ∷ same (cut_sets first_edition (40000 ∷ 0 ∷ 0 ∷ 25514 ∷ []) 204) (3 ∷ [])
    ∷ same (cut_sets first_edition (40000 ∷ 25515 ∷ []) 6) [] ∷ same (cut_sets first_edition (40000 ∷ 25516 ∷ []) 6) (1 ∷ [])
    ∷ same (cut_sets first_edition (40000 ∷ 40000 ∷ 25513 ∷ []) 204) (1 ∷ []) ∷ same (cut_sets first_edition (40000 ∷ 40000 ∷ 25514 ∷ []) 204) (1 ∷ 2 ∷ [])
    ∷ same (cut_sets first_edition (65518 ∷ 0 ∷ 0 ∷ 1 ∷ []) 204) (0 ∷ 3 ∷ [])
    -- two bytes a set, of three sets, and none for a set that comes later
    ∷ same (cut_sets first_edition (20000 ∷ 20000 ∷ 25509 ∷ []) 204) [] ∷ same (cut_sets first_edition (20000 ∷ 20000 ∷ 25510 ∷ []) 204) (2 ∷ [])
    ∷ same (cut_sets first_edition (40000 ∷ 25513 ∷ 1 ∷ []) 204) (2 ∷ []) ∷ same (cut_sets first_edition (65530 ∷ 65530 ∷ 65530 ∷ []) 2) (0 ∷ 1 ∷ 2 ∷ [])
    ∷ same (cut_rows first_edition (40000 ∷ 30000 ∷ 35499 ∷ [])) (1 ∷ []) ∷ same (cut_rows first_edition (40000 ∷ 30000 ∷ 35500 ∷ [])) (1 ∷ 2 ∷ [])
    -- nor are the glyphs of a later row estimated
    ∷ same (cut_rows first_edition (65501 ∷ 1 ∷ [])) (1 ∷ [])
    ∷ same (cut_places first_edition (sharing []) 0) (1 ∷ []) ∷ same (cut_places first_edition (sharing (link_row 4 4 5)) 0) (1 ∷ 2 ∷ [])
    ∷ same (cut_places first_edition (five_sets 25505) 0) [] ∷ same (cut_places first_edition (five_sets 25506) 0) (4 ∷ [])
    ∷ same (cut_places first_edition (two_sets 25513) 0) [] ∷ same (cut_places first_edition (two_sets 25514) 0) (2 ∷ [])
    ∷ same (cut_places first_edition (three_rows 35481 []) 0) [] ∷ same (cut_places first_edition (three_rows 35482 []) 0) (2 ∷ []) ∷ same (cut_places first_edition (three_rows 35481 (link_row 0 30 4)) 0) []
    ∷ []

-- ---- answers

-- split, plan and reading answer alike
unfoldable pub refuses : Store → ℕ → ℕ → Bool
refuses s t n = eqb (split_call first_edition s t enough []).answer n && eqb (plan_call first_edition s t enough []).answer n && reads s t 10 5 n nothing

-- split and plan of table 0 answer alike
unfoldable pub splits : Store → ℕ → Scratch → Bool
splits s n w = eqb (split_call first_edition s 0 w []).answer n && eqb (plan_call first_edition s 0 w []).answer n

-- `read_cases`, `cut_cases`, `parts_readable`, `all_at_slots`: each refusal at its edge
unfoldable pub refusals : List Bool
refusals =
    refuses (under1 tens (link_row 0 10 2 ++ link_row 0 2 1)) 0 1
    -- 12 is asked before 1, and both editions ask on
    ∷ eqb (split_call (settings_of 3) (under1 tens (link_row 0 10 2 ++ link_row 0 2 1)) 0 enough []).answer 12
    ∷ eqb (plan_call (settings_of 0) (under1 tens (link_row 0 10 2 ++ link_row 0 2 1)) 0 enough []).answer 12
    ∷ eqb (split_call second_edition store1 5 enough []).answer 2
    ∷ refuses store1 5 2
    ∷ refuses store1 1 3 ∷ refuses (rows2 2 fifties heads2) 0 3 ∷ refuses (rows2 4 fifties heads2) 0 3
    ∷ refuses store1 4 0 ∷ refuses (store_of (words (0 ∷ [])) (2 ∷ []) []) 0 0
    -- no part is linked in another's place, and the table's own bytes are none
    ∷ refuses (parts (link_row 1 8 0 ++ link_row 1 10 0)) 1 4 ∷ refuses (parts (link_row 1 2 0 ++ link_row 1 10 0)) 1 4
    ∷ refuses (parts (link_row 1 2 0 ++ link_row 1 8 0)) 1 4 ∷ refuses (parts (link_row 1 2 2 ++ link_row 1 8 0 ++ link_row 1 10 0)) 1 4
    ∷ refuses (parts (link_row 1 2 0 ++ link_row 1 8 2 ++ link_row 1 10 0)) 1 4 ∷ refuses (parts (link_row 1 2 0 ++ link_row 1 8 0 ++ link_row 1 10 2)) 1 4
    ∷ refuses (parts (link_row 1 2 0 ++ link_row 1 8 0 ++ link_row 1 10 0)) 1 0
    ∷ refuses (under1 tens slots1) 0 4 ∷ refuses (under1 (1 ∷ 3 ∷ 10 ∷ 30 ∷ 20 ∷ []) (link_row 0 2 1 ++ slots1)) 0 4
    ∷ refuses (rows2 3 fifties (link_row 0 2 1 ++ link_row 0 8 2)) 0 4 ∷ refuses (rows2 3 (2 ∷ 1 ∷ 60 ∷ 50 ∷ 1 ∷ []) heads2) 0 4
    ∷ refuses (under1 (1 ∷ 2 ∷ 10 ∷ 20 ∷ []) (link_row 0 2 1 ++ slots1)) 0 5
    -- rows may be more than covered glyphs
    ∷ splits (rows2 3 (2 ∷ 1 ∷ 10 ∷ 11 ∷ 0 ∷ []) (link_row 0 2 3 ++ link_row 0 8 2 ++ link_row 0 10 3)) 0 enough
    ∷ splits store1 6 (fives 9 8192 3 3 3)
    ∷ splits store2 6 (fives 9 8192 5 5 3) ∷ splits store2 6 (fives 10 8191 5 5 3) ∷ splits store2 6 (fives 10 8192 4 5 3)
    ∷ splits store2 6 (fives 10 8192 5 4 3) ∷ splits store2 6 (fives 10 8192 5 5 2)
    ∷ splits (under1 tens (link_row 0 2 1 ++ link_row 0 4 1 ++ slots1)) 7 enough ∷ splits (under1 tens (link_row 0 2 1 ++ slots1 ++ link_row 3 4 0)) 7 enough
    ∷ splits (rows2 3 fifties (heads2 ++ link_row 0 16 4)) 7 enough ∷ splits (rows2 3 fifties (heads2 ++ link_row 0 18 4)) 0 enough
    ∷ splits store1 0 enough ∷ splits store2 0 enough
    -- `sets_sorted`: equal glyphs at the first slot, a byte too many at the last, a record without the second glyph's field; what is at no slot is no set
    ∷ refuses (with_sets (words (2 ∷ 5 ∷ 0 ∷ 0 ∷ 0 ∷ 5 ∷ 0 ∷ 0 ∷ 0 ∷ [])) one_record tens (link_row 0 2 1 ++ slots1)) 0 11
    ∷ refuses (with_sets two_records (one_record ++ (0 ∷ [])) tens (link_row 0 2 1 ++ slots1)) 0 11
    ∷ refuses (with_sets two_records (words (1 ∷ 5 ∷ 3 ∷ 0 ∷ [])) tens (link_row 0 2 1 ++ slots1)) 0 11
    ∷ splits (with_sets [] one_record tens (link_row 0 2 1 ++ link_row 0 12 3)) 0 enough
    ∷ reads (with_sets [] one_record tens (link_row 0 2 1 ++ link_row 0 11 2 ++ link_row 0 14 3)) 0 20 5 0 nothing
    ∷ []

-- scratch with a cut too few
unfoldable pub short : Scratch
short = fives 10 8192 5 5 2

-- their order: each two neighbours apply at once, and the first one answers
unfoldable pub orders : List Bool
orders =
    -- 1 before 2
    refuses (under1 tens (link_row 0 10 2 ++ link_row 0 2 1)) 5 1
    -- 2 before 3: an object that is not in use has no bytes
    ∷ refuses (store_of [] [] []) 0 2
    -- 3 before another format's 0: under 2 bytes
    ∷ refuses (store_of (9 ∷ []) (1 ∷ []) []) 0 3
    -- another format's 0 before 3: of no length that a header gives
    ∷ refuses (store_of (words (3 ∷ [])) (2 ∷ []) []) 0 0
    -- 3 before 4: a byte too many, and no coverage
    ∷ refuses (store_of (words (1 ∷ 0 ∷ 0 ∷ 0 ∷ 0 ∷ []) ++ (0 ∷ [])) (11 ∷ []) []) 0 3
    -- 4 before 5: a coverage of two glyphs, out of order, for three sets
    ∷ refuses (under1 (1 ∷ 2 ∷ 20 ∷ 10 ∷ []) (link_row 0 2 1 ++ slots1)) 0 4
    -- 5 before 6
    ∷ splits (under1 (1 ∷ 2 ∷ 10 ∷ 20 ∷ []) (link_row 0 2 1 ++ slots1)) 5 short
    -- 6 before 7
    ∷ splits (under1 tens (link_row 0 2 1 ++ link_row 0 4 1 ++ slots1)) 6 short
    -- 5 before 11
    ∷ refuses (with_sets [] one_record (1 ∷ 2 ∷ 10 ∷ 20 ∷ []) (link_row 0 2 1 ++ link_row 0 10 2)) 0 5
    -- 6 before 11
    ∷ splits (with_sets [] one_record tens (link_row 0 2 1 ++ link_row 0 10 2)) 6 short
    -- 7 before 11, which a reading answers
    ∷ splits (with_sets [] one_record tens (link_row 0 2 1 ++ link_row 0 4 1 ++ link_row 0 10 2)) 7 enough
    ∷ reads (with_sets [] one_record tens (link_row 0 2 1 ++ link_row 0 4 1 ++ link_row 0 10 2)) 0 10 5 11 nothing
    -- 11 before "no cut"
    ∷ splits (with_sets [] one_record tens (link_row 0 2 1 ++ link_row 0 10 2)) 11 enough
    -- 11 before 8: a place, and no list
    ∷ splits (large_set (replicate 65518 0) 0 0 0) 11 enough
    -- 7 before "no cut"
    ∷ splits (under1 tens (link_row 0 2 1 ++ link_row 0 4 1 ++ slots1)) 7 enough
    -- "no cut" before 8: there is no room at all
    ∷ splits (bare1 tens (link_row 0 2 1 ++ slots1)) 0 enough
    ∷ []

-- ---- splits

-- how many of the tables have the pair
unfoldable pub having : Store → List ℕ → ℕ → ℕ → ℕ
having s [] a b = 0
having s (u ∷ us) a b = cond (pair_of s u a b).found 1 0 + having s us a b

-- table 0 of s, split at cs into the tables us of s': a sound store with so many more objects and links, and each pair in as many tables as before, read as before
unfoldable pub keeps_in : Store → Store → ℕ → ℕ → List ℕ → List ℕ → List ℕ → Bool
keeps_in s s' objects links us gs hs =
    sound s' && is_empty (cut_places first_edition s' 0) && eqb s'.object_count (s.object_count + objects) && eqb s'.link_count (s.link_count + links)
    && all (λ i. all (λ j. same_pair (pair_of s 0 (get_or gs i 0) (get_or hs j 0)) (pair_among s' us (get_or gs i 0) (get_or hs j 0))
    && eqb (having s (0 ∷ []) (get_or gs i 0) (get_or hs j 0)) (having s' us (get_or gs i 0) (get_or hs j 0))) (length hs)) (length gs)

unfoldable pub keeps : Store → List ℕ → ℕ → ℕ → List ℕ → List ℕ → Bool
keeps s cs objects links gs hs = keeps_in s (split_store s 0 cs) objects links (0 ∷ new_tables s 0 cs) gs hs

-- reading the tables us of s' in order gives the pair that table 0 of s has
unfoldable pub read_as : Store → Store → List ℕ → ℕ → ℕ → Bool
read_as s s' us a b =
    let x = pair_call s 0 a b in
    let y = read_in_order s' us a b in
    eqb x.answer y.answer && eqb x.found y.found && sameℤs x.values y.values

-- `read_in_order`: the first with a pair decides, also behind one that is refused; with none, no pair
unfoldable pub in_order : List Bool
in_order =
    read_as store1 (split_store store1 0 (1 ∷ [])) (0 ∷ 5 ∷ []) 10 5 ∷ read_as store1 (split_store store1 0 (1 ∷ [])) (0 ∷ 5 ∷ []) 30 5
    ∷ read_as store1 (split_store store1 0 (1 ∷ [])) (0 ∷ 5 ∷ []) 10 4 ∷ read_as store1 store1 (9 ∷ 0 ∷ []) 10 5
    ∷ eqb (pair_call store1 0 30 5).found 1 ∷ eqb (pair_call (split_store store1 0 (1 ∷ [])) 0 30 5).found 0 ∷ eqb (read_in_order store1 [] 10 5).found 0
    ∷ []

-- a table of three items whose offsets are not zero, and the bytes of a new one of the last two
unfoldable pub afresh : List ℕ → List ℕ → Bool
afresh old new = same (new_table (shape_of (words old)) (words old) 1 3) (words new)

-- `new_table`: "Format, value formats and class2Count are copied and its own count set; format 2 rows are copied whole; all other new bytes are zero."
unfoldable pub tables : List Bool
tables =
    afresh (1 ∷ 77 ∷ 0x11 ∷ 0x04 ∷ 3 ∷ 78 ∷ 79 ∷ 80 ∷ []) (1 ∷ 0 ∷ 0x11 ∷ 0x04 ∷ 2 ∷ 0 ∷ 0 ∷ [])
    ∷ afresh (2 ∷ 77 ∷ 0x44 ∷ 0 ∷ 78 ∷ 79 ∷ 3 ∷ 2 ∷ 1 ∷ 9 ∷ 2 ∷ 9 ∷ 3 ∷ 9 ∷ 4 ∷ 9 ∷ 5 ∷ 9 ∷ 6 ∷ 9 ∷ [])
    (2 ∷ 0 ∷ 0x44 ∷ 0 ∷ 0 ∷ 0 ∷ 2 ∷ 2 ∷ 3 ∷ 9 ∷ 4 ∷ 9 ∷ 5 ∷ 9 ∷ 6 ∷ 9 ∷ [])
    ∷ []

-- `new_parts`, `table_links`, `kept_table`, `kept`, `needed`: at one and at several places; "2K+1 objects and K links", "3K+2 objects and 3K links"
unfoldable pub splittings : List Bool
splittings =
    keeps store1 (1 ∷ []) 3 1 (10 ∷ 20 ∷ 30 ∷ []) (5 ∷ 6 ∷ []) ∷ keeps store1 (0 ∷ 2 ∷ []) 5 2 (10 ∷ 20 ∷ 30 ∷ []) (5 ∷ 6 ∷ [])
    ∷ keeps store2 (1 ∷ []) 5 3 (run 10 5) (49 ∷ 50 ∷ []) ∷ keeps store2 (0 ∷ 1 ∷ 2 ∷ []) 11 9 (run 10 5) (49 ∷ 50 ∷ [])
    ∷ same (bytes_of (split_store store1 0 (1 ∷ [])) 0) (words (1 ∷ 0 ∷ 0x11 ∷ 0x04 ∷ 1 ∷ 0 ∷ [])) ∷ same (bytes_of (split_store store1 0 (1 ∷ [])) 1) (words tens)
    ∷ same (new_tables store2 0 (1 ∷ 2 ∷ [])) (5 ∷ 8 ∷ [])
    ∷ same (row_numbers (new_links store2 0 (shape_of (bytes_of store2 0)) (1 ∷ [])))
    (link_row 0 2 8 ++ link_row 0 8 9 ++ link_row 0 10 3 ++ link_row 5 2 6 ++ link_row 5 8 7 ++ link_row 5 10 3 ++ link_row 5 22 4 ++ link_row 5 30 4)
    ∷ []

pub pinned : every (readings ++ cuttings ++ refusals ++ orders ++ tables ++ splittings ++ in_order) ≡ true
unfolding definitions.computes compared.computes packed sameℤs same_pair store_of roomy with_sets two_records one_record bare1 under1 tens slots1 store1 bare2 rows2 fifties heads2 store2 store_fields parts large_set fives enough reads found nothing readings cut_sets cut_rows sharing five_sets two_sets three_rows cuttings refuses splits refusals short orders having keeps_in keeps afresh tables splittings read_as in_order
pinned = refl

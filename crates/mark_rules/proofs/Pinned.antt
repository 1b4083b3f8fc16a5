-- Mark-to-base tables held against small whole stores, as one check; each list pins what its comment says. Assumes nothing.
use Rattle.std.specs.Prelude.{Option, Some, None}
use Prim.Native.Nat.{ℕ, ◌+◌}
use mathlib.Core.Path.{◌≡◌, refl}
use mathlib.Core.Bool.{Bool, true, false, cond, ◌&&◌, ◌||◌}
use mathlib.Core.List.{List, [], ◌∷◌, ◌++◌, map}
use lib.ListN.{length, get_or, replicate}
use lib.Dec.{leb, eqb}
use Rattle.folds.specs.Folds.{all}
use Rattle.folds.specs.Lists.{is_empty, join}
use Rattle.folds.proofs.Compared as compared
use Rattle.folds.proofs.Compared.{same, every}
use Rattle.ot_layouts.specs.Numbers.{words}
use Rattle.store_rules.specs.Store.{Store, sound, bytes_of}
use Rattle.store_rules.specs.Appended.{row_numbers}
use Rattle.store_rules.proofs.Pinned.{link_row, packed, store_of, roomy}
use Rattle.cut_rules.specs.Cuts.{cuts_of}
use Rattle.call_rules.specs.declared.Settings.{Settings}
use Rattle.call_rules.specs.Settings.{settings_of, first_edition, second_edition}
use Rattle.call_rules.specs.Scratch.{Scratch}
use Rattle.call_rules.proofs.Pinned.{fives}
use Rattle.mark_rules.specs.Rules.{mark_rule}
use Rattle.mark_rules.specs.Table.{rule_of, cut_places}
use Rattle.mark_rules.specs.Written.{new_of, new_links, needed, new_tables, split_store}
use Rattle.mark_rules.specs.Attachments.{Anchors, attach_of, attach_among}
use Rattle.mark_rules.specs.Calls.{mark_split_call, mark_plan_call, mark_call}
use Rattle.mark_rules.specs.Computing as definitions

-- ---- stores

-- object 0 is the table, 1 its coverage, 2 the base coverage, 3 its mark array, 4 its base array, of these words; then anchors, of these lengths
unfoldable pub table_of : List (List ℕ) → List ℕ → List ℕ → Store
table_of parts anchors links =
    let objects : List (List ℕ) = map words parts ++ map (λ n. replicate n 1) anchors in
    store_of (join objects) (map length objects) links

unfoldable pub heads : List ℕ
heads = link_row 0 2 1 ++ link_row 0 4 2 ++ link_row 0 8 3 ++ link_row 0 10 4

-- a table of n classes
unfoldable pub header : ℕ → List ℕ
header n = 1 ∷ 0 ∷ 0 ∷ n ∷ 0 ∷ 0 ∷ []

-- a coverage with one glyph more than there are marks
unfoldable pub tens : List ℕ
tens = 1 ∷ 5 ∷ 10 ∷ 20 ∷ 30 ∷ 40 ∷ 50 ∷ []

unfoldable pub hundreds : List ℕ
hundreds = 1 ∷ 2 ∷ 100 ∷ 101 ∷ []

-- marks 10, 20, 30 and 40 of classes 0, 3, 0 and 1: class 2 is empty
unfoldable pub four_marks : List ℕ
four_marks = 4 ∷ 0 ∷ 9 ∷ 3 ∷ 9 ∷ 0 ∷ 9 ∷ 1 ∷ 9 ∷ []

unfoldable pub two_bases : List ℕ
two_bases = 2 ∷ 9 ∷ 9 ∷ 9 ∷ 9 ∷ 9 ∷ 9 ∷ 9 ∷ 9 ∷ []

-- mark 30 has no anchor, base 100 none of class 3, base 101 none of classes 0 and 2
unfoldable pub array_rows : List ℕ
array_rows = link_row 3 4 5 ++ link_row 3 8 6 ++ link_row 3 16 7 ++ link_row 4 2 8 ++ link_row 4 4 9 ++ link_row 4 6 8 ++ link_row 4 12 8 ++ link_row 4 16 9

-- these parts with anchors 5 to 9, and without room
unfoldable pub bare : List ℕ → List ℕ → List ℕ → List ℕ → List ℕ → List ℕ → Store
bare table marks bases mark_array base_array links = table_of (table ∷ marks ∷ bases ∷ mark_array ∷ base_array ∷ []) (replicate 5 6) links

-- with room
unfoldable pub with_parts : List ℕ → List ℕ → List ℕ → List ℕ → List ℕ → List ℕ → Store
with_parts table marks bases mark_array base_array links = roomy 400 40 80 (bare table marks bases mark_array base_array links)

-- four classes, with these links
unfoldable pub linked : List ℕ → Store
linked links = with_parts (header 4) tens hundreds four_marks two_bases links

unfoldable pub small : Store
small = linked (heads ++ array_rows)

-- one object as both arrays: two classes, two marks and two bases
unfoldable pub one_array : Store
one_array =
    with_parts (header 2) tens hundreds (2 ∷ 0 ∷ 9 ∷ 1 ∷ 9 ∷ []) (0 ∷ [])
    (link_row 0 2 1 ++ link_row 0 4 2 ++ link_row 0 8 3 ++ link_row 0 10 3 ++ link_row 3 4 5 ++ link_row 3 8 6)

-- just enough for `small`
unfoldable pub enough : Scratch
enough = fives 20 8192 5 5 4

-- ---- readings

-- the answer of a reading, and its two anchors
unfoldable pub reads : Store → ℕ → ℕ → ℕ → List ℕ → Bool
reads s m b n xs = eqb (mark_call s 0 m b).answer n && same (mark_call s 0 m b).anchors xs

-- `mark_place`, `base_place`, `attach_of`, `mark_call`: an anchor at both slots; none at the mark's, at the base's; not covered, or covered past the marks
unfoldable pub readings : List Bool
readings =
    reads small 10 100 0 (6 ∷ 9 ∷ []) ∷ reads small 40 101 0 (8 ∷ 9 ∷ []) ∷ reads small 20 101 0 (7 ∷ 10 ∷ [])
    ∷ reads small 30 100 0 (0 ∷ 0 ∷ []) ∷ reads small 20 100 0 (0 ∷ 0 ∷ []) ∷ reads small 10 101 0 (0 ∷ 0 ∷ [])
    ∷ reads small 50 100 0 (0 ∷ 0 ∷ []) ∷ reads small 10 102 0 (0 ∷ 0 ∷ []) ∷ reads small 11 100 0 (0 ∷ 0 ∷ [])
    ∷ reads one_array 20 101 0 (7 ∷ 7 ∷ []) ∷ reads one_array 20 100 0 (7 ∷ 6 ∷ [])
    ∷ []

-- ---- cuts

-- over bare numbers of marks and bare sizes of classes, with three bases under a coverage of 10 bytes
unfoldable pub cut_classes : Settings → List ℕ → List ℕ → List ℕ
cut_classes how marks sizes = cuts_of (mark_rule how (length sizes) 10 3 (λ i. get_or marks i 0) (λ a i. get_or sizes i 0))

-- three classes of 40,000, 20,000 and 20,000 bytes, of which the last two lead to 20,000 bytes more
unfoldable pub cut_shared : Settings → List ℕ
cut_shared how = cuts_of (mark_rule how 3 10 3 (λ i. 0) (λ a i. get_or (40000 ∷ 20000 ∷ 20000 ∷ []) i 0 + cond (eqb i 1 || leb 2 a) 20000 0))

-- the same marks under a coverage of one range, whose 10 bytes are less than partial coverage
unfoldable pub one_range : Store
one_range = with_parts (header 4) (2 ∷ 1 ∷ 10 ∷ 13 ∷ 0 ∷ []) hundreds four_marks two_bases (heads ++ array_rows)

-- start, the costs of classes 0 to 3, that of class 1 where what class 0 reaches is not seen, and partial coverage up to 0, up to 3, and from 1 to 3
unfoldable pub ruled : Store → List ℕ
ruled s =
    let r = rule_of first_edition s 0 in
    r.start ∷ r.cost 0 0 ∷ r.cost 0 1 ∷ r.cost 0 2 ∷ r.cost 0 3 ∷ r.cost 1 1 ∷ r.beside 0 0 ∷ r.beside 0 3 ∷ r.beside 1 3 ∷ []

-- `mark_rule`, `partial_cover`: at the limit and one above; partial coverage starts anew with the class at a cut; and a class of nothing is looked at
-- in edition 2 no cut is at class 0, and what the class at a cut reaches counts as seen after
-- `rule_of`, `of_classes`, `marks_of_class`: the same numbers under either coverage
unfoldable pub cuttings : List Bool
cuttings =
    same (cut_classes first_edition (5 ∷ []) (65469 ∷ [])) [] ∷ same (cut_classes first_edition (5 ∷ []) (65470 ∷ [])) (0 ∷ [])
    ∷ same (cut_classes first_edition (5 ∷ 7 ∷ []) (40000 ∷ 25421 ∷ [])) [] ∷ same (cut_classes first_edition (5 ∷ 7 ∷ []) (40000 ∷ 25422 ∷ [])) (1 ∷ [])
    ∷ same (cut_classes first_edition (5 ∷ 7 ∷ 9 ∷ []) (40000 ∷ 25422 ∷ 39975 ∷ [])) (1 ∷ []) ∷ same (cut_classes first_edition (5 ∷ 7 ∷ 9 ∷ []) (40000 ∷ 25422 ∷ 39976 ∷ [])) (1 ∷ 2 ∷ [])
    ∷ same (cut_classes first_edition (5 ∷ 0 ∷ 0 ∷ []) (65470 ∷ 0 ∷ 0 ∷ [])) (0 ∷ 1 ∷ []) ∷ same (cut_places first_edition small 0) []
    ∷ same (cut_classes second_edition (5 ∷ []) (65470 ∷ [])) [] ∷ same (cut_classes second_edition (5 ∷ 0 ∷ 0 ∷ []) (65470 ∷ 0 ∷ 0 ∷ [])) (1 ∷ [])
    ∷ same (cut_shared first_edition) (1 ∷ 2 ∷ []) ∷ same (cut_shared second_edition) (1 ∷ [])
    ∷ same (ruled small) (24 ∷ 24 ∷ 20 ∷ 4 ∷ 14 ∷ 26 ∷ 8 ∷ 12 ∷ 8 ∷ []) ∷ same (ruled one_range) (ruled small)
    ∷ []

-- ---- answers

-- split, plan and reading answer alike
unfoldable pub refuses : Store → ℕ → ℕ → Bool
refuses s t n =
    eqb (mark_split_call first_edition s t enough []).answer n && eqb (mark_plan_call first_edition s t enough []).answer n
    && eqb (mark_call s t 10 100).answer n && eqb (mark_call s t 10 100).found 0 && same (mark_call s t 10 100).anchors (0 ∷ 0 ∷ [])

-- split and plan of table 0 answer alike
unfoldable pub splits : Store → ℕ → Scratch → Bool
splits s n w = eqb (mark_split_call first_edition s 0 w []).answer n && eqb (mark_plan_call first_edition s 0 w []).answer n

-- `read_cases`, `cut_cases`, `parts_readable`, `all_at_slots`: each refusal at its edge
unfoldable pub refusals : List Bool
refusals =
    refuses (linked (link_row 0 4 2 ++ link_row 0 2 1)) 0 1
    -- 12 is asked before 1, and both editions ask on
    ∷ eqb (mark_split_call (settings_of 3) (linked (link_row 0 4 2 ++ link_row 0 2 1)) 0 enough []).answer 12
    ∷ eqb (mark_plan_call (settings_of 0) (linked (link_row 0 4 2 ++ link_row 0 2 1)) 0 enough []).answer 12
    ∷ eqb (mark_split_call second_edition small 10 enough []).answer 2
    ∷ refuses small 10 2
    ∷ refuses (table_of ((1 ∷ 0 ∷ 0 ∷ 4 ∷ 0 ∷ []) ∷ []) [] []) 0 3 ∷ refuses (table_of ((1 ∷ 0 ∷ 0 ∷ 4 ∷ 0 ∷ 0 ∷ 0 ∷ []) ∷ []) [] []) 0 3
    ∷ refuses (with_parts (2 ∷ 0 ∷ 0 ∷ 4 ∷ 0 ∷ 0 ∷ []) tens hundreds four_marks two_bases (heads ++ array_rows)) 0 0
    ∷ refuses (linked (link_row 0 4 2 ++ link_row 0 8 3 ++ link_row 0 10 4)) 0 4 ∷ refuses (linked (link_row 0 2 1 ++ link_row 0 8 3 ++ link_row 0 10 4)) 0 4
    ∷ refuses (linked (link_row 0 2 1 ++ link_row 0 4 2 ++ link_row 0 10 4)) 0 4 ∷ refuses (linked (link_row 0 2 1 ++ link_row 0 4 2 ++ link_row 0 8 3)) 0 4
    ∷ refuses (with_parts (header 4) (1 ∷ 4 ∷ 10 ∷ 20 ∷ 40 ∷ 30 ∷ []) hundreds four_marks two_bases heads) 0 4
    ∷ refuses (with_parts (header 4) tens (1 ∷ 2 ∷ 101 ∷ 100 ∷ []) four_marks two_bases heads) 0 4
    ∷ refuses (with_parts (header 4) tens hundreds (3 ∷ 0 ∷ 9 ∷ 3 ∷ 9 ∷ 0 ∷ 9 ∷ 1 ∷ 9 ∷ []) two_bases heads) 0 4
    ∷ refuses (with_parts (header 4) tens hundreds (4 ∷ 0 ∷ 9 ∷ 4 ∷ 9 ∷ 0 ∷ 9 ∷ 1 ∷ 9 ∷ []) two_bases heads) 0 4
    ∷ refuses (with_parts (header 4) tens hundreds four_marks (1 ∷ 9 ∷ 9 ∷ 9 ∷ 9 ∷ 9 ∷ []) heads) 0 4
    ∷ refuses (with_parts (header 4) (1 ∷ 3 ∷ 10 ∷ 20 ∷ 30 ∷ []) hundreds four_marks two_bases heads) 0 5
    ∷ splits (with_parts (header 4) (1 ∷ 4 ∷ 10 ∷ 20 ∷ 30 ∷ 40 ∷ []) (1 ∷ 0 ∷ []) four_marks two_bases heads) 0 enough
    ∷ splits small 6 (fives 19 8192 5 5 4) ∷ splits small 6 (fives 20 8191 5 5 4) ∷ splits small 6 (fives 20 8192 4 5 4)
    ∷ splits small 6 (fives 20 8192 5 4 4) ∷ splits small 6 (fives 20 8192 5 5 3) ∷ splits small 0 enough
    ∷ splits (linked (link_row 0 2 1 ++ link_row 0 4 2 ++ link_row 0 6 5 ++ link_row 0 8 3 ++ link_row 0 10 4)) 7 enough
    ∷ splits (linked (heads ++ link_row 3 6 5)) 7 enough ∷ splits (linked (heads ++ link_row 4 3 5)) 7 enough
    ∷ splits (linked (heads ++ link_row 3 4 5 ++ link_row 5 2 0)) 7 enough
    ∷ splits (roomy 400 40 80 (table_of (header 0 ∷ tens ∷ hundreds ∷ (0 ∷ []) ∷ (0 ∷ []) ∷ []) [] heads)) 0 enough
    ∷ []

-- scratch with a cut too few
unfoldable pub short : Scratch
short = fives 20 8192 5 5 3

-- their order: each two neighbours apply at once, and the first one answers
unfoldable pub orders : List Bool
orders =
    -- 1 before 2
    refuses (linked (link_row 0 4 2 ++ link_row 0 2 1)) 10 1
    -- 2 before 3: an object that is not in use has no bytes
    ∷ refuses (table_of [] [] []) 0 2
    -- 3 before another format's 0: under 2 bytes
    ∷ refuses (store_of (9 ∷ []) (1 ∷ []) []) 0 3
    -- another format's 0 before 3: of no length that a table has
    ∷ refuses (table_of ((2 ∷ []) ∷ []) [] []) 0 0
    -- 3 before 4: a word too few, and no parts
    ∷ refuses (table_of ((1 ∷ 0 ∷ 0 ∷ 4 ∷ 0 ∷ []) ∷ []) [] []) 0 3
    -- 4 before 5: three glyphs out of order for four marks
    ∷ refuses (with_parts (header 4) (1 ∷ 3 ∷ 30 ∷ 20 ∷ 10 ∷ []) hundreds four_marks two_bases heads) 0 4
    -- 5 before 6
    ∷ splits (with_parts (header 4) (1 ∷ 3 ∷ 10 ∷ 20 ∷ 30 ∷ []) hundreds four_marks two_bases heads) 5 short
    -- 6 before 7
    ∷ splits (linked (heads ++ link_row 3 6 5)) 6 short
    -- 7 before "no cut"
    ∷ splits (linked (heads ++ link_row 3 6 5)) 7 enough
    -- "no cut" before 8: there is no room at all
    ∷ splits (bare (header 4) tens hundreds four_marks two_bases (heads ++ array_rows)) 0 enough
    ∷ []

-- ---- splits, at given places

unfoldable pub same_anchors : Option Anchors → Option Anchors → Bool
same_anchors None None = true
same_anchors (Some a) (Some b) = eqb a.mark b.mark && eqb a.base b.base
same_anchors (Some a) None = false
same_anchors None (Some b) = false

-- table 0 of s, split into the tables us of s': all of these mark and base glyphs attach as before
unfoldable pub same_attachments : Store → Store → List ℕ → List ℕ → List ℕ → Bool
same_attachments s s' us ms bs =
    all (λ i. all (λ j. same_anchors (attach_of s 0 (get_or ms i 0) (get_or bs j 0)) (attach_among s' us (get_or ms i 0) (get_or bs j 0))) (length bs)) (length ms)

-- a sound store with so many more objects and links, the attachments that were, and nothing more to cut
unfoldable pub keeps_in : Store → Store → ℕ → ℕ → List ℕ → Bool
keeps_in s s' objects links us =
    sound s' && is_empty (cut_places first_edition s' 0) && eqb s'.object_count (s.object_count + objects) && eqb s'.link_count (s.link_count + links)
    && same_attachments s s' us (10 ∷ 20 ∷ 30 ∷ 40 ∷ 50 ∷ 60 ∷ []) (100 ∷ 101 ∷ 102 ∷ [])

unfoldable pub keeps : Store → List ℕ → ℕ → ℕ → Bool
keeps s cs objects links = keeps_in s (split_store s 0 cs) objects links (0 ∷ new_tables s 0 cs)

-- objects, links, bytes and result entries
unfoldable pub needs : Store → List ℕ → List ℕ
needs s cs = let n = needed s 0 cs in n.objects ∷ n.links ∷ n.bytes ∷ n.entries ∷ []

-- `new_table`, `new_coverage`, `new_mark_array`, `new_base_array`, `new_parts`: a new table of classes 1 to 3, then the kept table's parts
-- `table_links`, `new_links`, `new_tables`: between classes, at class 0, at the empty class, at each; one object as both arrays; `needed`: "4K+3 objects"
unfoldable pub splittings : List Bool
splittings =
    same (join (new_of small 0 (1 ∷ [])))
    (words (header 3) ++ words (1 ∷ 2 ∷ 20 ∷ 40 ∷ []) ++ words (2 ∷ 2 ∷ 0 ∷ 0 ∷ 0 ∷ []) ++ words (2 ∷ 0 ∷ 0 ∷ 0 ∷ 0 ∷ 0 ∷ 0 ∷ [])
    ++ words (1 ∷ 2 ∷ 10 ∷ 30 ∷ []) ++ words (2 ∷ 0 ∷ 0 ∷ 0 ∷ 0 ∷ []) ++ words (2 ∷ 0 ∷ 0 ∷ []))
    ∷ same (row_numbers (new_links small 0 (1 ∷ [])))
    (link_row 0 2 14 ++ link_row 0 4 2 ++ link_row 0 8 15 ++ link_row 0 10 16 ++ array_rows
    ++ link_row 10 2 11 ++ link_row 10 4 2 ++ link_row 10 8 12 ++ link_row 10 10 13 ++ link_row 12 4 6 ++ link_row 12 8 7
    ++ link_row 13 2 9 ++ link_row 13 4 8 ++ link_row 13 8 8 ++ link_row 13 12 9 ++ link_row 15 4 5 ++ link_row 16 2 8)
    ∷ same (bytes_of (split_store small 0 (1 ∷ [])) 0) (words (header 1)) ∷ same (new_tables small 0 (1 ∷ 3 ∷ [])) (10 ∷ 14 ∷ [])
    ∷ keeps small (1 ∷ []) 7 12 ∷ keeps small (0 ∷ []) 7 12 ∷ keeps small (2 ∷ 3 ∷ []) 11 16 ∷ keeps small (0 ∷ 1 ∷ 2 ∷ 3 ∷ []) 19 24
    ∷ keeps one_array (1 ∷ []) 7 8 ∷ keeps one_array (0 ∷ 1 ∷ []) 11 12
    ∷ same (needs small (1 ∷ [])) (7 ∷ 12 ∷ 68 ∷ 1 ∷ []) ∷ same (needs small (2 ∷ 3 ∷ [])) (11 ∷ 16 ∷ 88 ∷ 2 ∷ [])
    ∷ same (needs one_array (1 ∷ [])) (7 ∷ 8 ∷ 48 ∷ 1 ∷ [])
    ∷ []

-- all of this file's stores and scratch, for checks that compute
unfoldable pub computes : Unit {0}
unfolding definitions.computes compared.computes packed store_of roomy fives table_of heads header tens hundreds four_marks two_bases array_rows bare with_parts linked small one_array enough same_anchors same_attachments
computes = tt

pub pinned : every (readings ++ cuttings ++ refusals ++ orders ++ splittings) ≡ true
unfolding computes reads readings cut_classes cut_shared one_range ruled cuttings refuses splits refusals short orders keeps_in keeps needs splittings
pinned = refl

-- Figures of mark-to-base tables, at their limits. Stores are sound, their parts of exact length, and each goes through the whole outcome of a cut plan and of
-- a split. Assumes nothing.
use Prim.Native.Nat.{ℕ, ◌+◌, ◌-◌, ◌*◌}
use mathlib.Core.Path.{◌≡◌, refl}
use mathlib.Core.Bool.{Bool, true, ◌&&◌}
use mathlib.Core.List.{List, [], ◌∷◌, ◌++◌}
use lib.ListN.{length, replicate, take}
use lib.Dec.{eqb}
use Rattle.folds.proofs.Compared.{same, every}
use Rattle.ot_layouts.specs.Numbers.{words}
use Rattle.store_rules.specs.Store.{Store, per_link, sound, bytes_of}
use Rattle.store_rules.proofs.Pinned.{link_row, packed, roomy}
use Rattle.call_rules.specs.Settings.{first_edition}
use Rattle.call_rules.specs.Scratch.{Scratch}
use Rattle.call_rules.specs.Outcomes.{Outcome}
use Rattle.call_rules.proofs.Pinned.{fives}
use Rattle.mark_rules.specs.Written.{split_store, new_tables}
use Rattle.mark_rules.specs.Calls.{mark_split_call, mark_plan_call, mark_call}
use Rattle.mark_rules.proofs.Pinned as pinned
use Rattle.mark_rules.proofs.Pinned.{table_of, heads, header, same_attachments}

-- ---- stores: bytes, objects and links to spare

-- so many classes, one mark of class 0 with an anchor of n bytes, one base without anchors: a start of 22, 6 bytes of class 0, partial coverage 6
unfoldable pub one_mark : ℕ → ℕ → Store
one_mark classes n =
    table_of (header classes ∷ (1 ∷ 1 ∷ 10 ∷ []) ∷ (1 ∷ 1 ∷ 100 ∷ []) ∷ (1 ∷ 0 ∷ 0 ∷ []) ∷ (1 ∷ replicate classes 0) ∷ []) (n ∷ []) (heads ++ link_row 3 4 5)

-- eight marks of class 0, glyphs 10 to 17 as one range of 10 bytes, where partial coverage is 20; the first has an anchor of n bytes; one base
unfoldable pub eight_marks : ℕ → Store
eight_marks n =
    table_of (header 1 ∷ (2 ∷ 1 ∷ 10 ∷ 17 ∷ 0 ∷ []) ∷ (1 ∷ 1 ∷ 100 ∷ []) ∷ (8 ∷ replicate 16 0) ∷ (1 ∷ 0 ∷ []) ∷ []) (n ∷ []) (heads ++ link_row 3 4 5)

-- two classes of one mark each; mark 10's anchor is object 5, mark 20's is b; base 100 has 5 for class 0, and for class 1 none
unfoldable pub two_marks : ℕ → Store
two_marks b =
    table_of (header 2 ∷ (1 ∷ 2 ∷ 10 ∷ 20 ∷ []) ∷ (1 ∷ 1 ∷ 100 ∷ []) ∷ (2 ∷ 0 ∷ 0 ∷ 1 ∷ 0 ∷ []) ∷ (1 ∷ 0 ∷ 0 ∷ []) ∷ []) (40000 ∷ 40000 ∷ [])
    (heads ++ link_row 3 4 5 ++ link_row 3 8 b ++ link_row 4 2 5)

-- object 3 as both arrays: marks 10 and 20 of classes 0 and 1, bases 100 and 101, and the links at 4 and 8 of either
unfoldable pub both_arrays : Store
both_arrays =
    table_of (header 2 ∷ (1 ∷ 2 ∷ 10 ∷ 20 ∷ []) ∷ (1 ∷ 2 ∷ 100 ∷ 101 ∷ []) ∷ (2 ∷ 0 ∷ 0 ∷ 1 ∷ 0 ∷ []) ∷ (0 ∷ []) ∷ []) (40000 ∷ 40000 ∷ [])
    (link_row 0 2 1 ++ link_row 0 4 2 ++ link_row 0 8 3 ++ link_row 0 10 3 ++ link_row 3 4 5 ++ link_row 3 8 6)

-- W10 of classes: their anchors, of 100, 30,000 and 20,000 bytes, lead to 40,000, the last where it is asked
unfoldable pub leading : List ℕ → Store
leading more =
    table_of
    (header 3 ∷ (1 ∷ 3 ∷ 10 ∷ 20 ∷ 30 ∷ []) ∷ (1 ∷ 1 ∷ 100 ∷ []) ∷ (3 ∷ 0 ∷ 0 ∷ 1 ∷ 0 ∷ 2 ∷ 0 ∷ []) ∷ (1 ∷ 0 ∷ 0 ∷ 0 ∷ []) ∷ [])
    (100 ∷ 30000 ∷ 20000 ∷ 40000 ∷ [])
    (heads ++ link_row 3 4 5 ++ link_row 3 8 6 ++ link_row 3 12 7 ++ link_row 5 4 8 ++ link_row 6 4 8 ++ more)

-- ---- outcomes

-- enough for each of the tables
unfoldable pub scratch : Scratch
scratch = fives 18 8192 8 8 3

-- a plan of these cuts, which only reads
unfoldable pub plans : Store → List ℕ → Outcome → Bool
plans s cs o =
    eqb o.answer 0 && eqb o.count (length cs) && same o.list (cs ++ replicate (2 - length cs) 9) && eqb o.store.object_count s.object_count

-- table 0 was split into the tables us: a sound store of so many objects, links and bytes more
unfoldable pub splits : Store → ℕ → ℕ → ℕ → List ℕ → Outcome → Bool
splits s objects links bytes us o =
    eqb o.answer 0 && eqb o.count (length us) && same o.list (us ++ replicate (2 - length us) 9)
    && eqb o.store.object_count (s.object_count + objects) && eqb o.store.link_count (s.link_count + links)
    && eqb o.store.byte_count (s.byte_count + bytes) && sound o.store

-- plan and split with just that room
unfoldable pub cut_at : List ℕ → ℕ → ℕ → ℕ → List ℕ → Store → Bool
cut_at cs objects links bytes us s =
    plans s cs (mark_plan_call first_edition s 0 scratch (9 ∷ 9 ∷ []))
    && splits s objects links bytes us (mark_split_call first_edition (roomy bytes objects links s) 0 scratch (9 ∷ 9 ∷ []))

-- one link less than that: 8
unfoldable pub no_room : ℕ → ℕ → ℕ → Store → Bool
no_room objects links bytes s = eqb (mark_split_call first_edition (roomy bytes objects (links - 1) s) 0 scratch (9 ∷ 9 ∷ [])).answer 8

-- nothing is cut, with no room at all
unfoldable pub whole : Store → Bool
whole s = plans s [] (mark_plan_call first_edition s 0 scratch (9 ∷ 9 ∷ [])) && splits s 0 0 0 [] (mark_split_call first_edition s 0 scratch (9 ∷ 9 ∷ []))

-- a reading of table 0, and then of the tables that it was split into at class 1
unfoldable pub attaches : ℕ → ℕ → List ℕ → Store → Bool
attaches m b xs s =
    eqb (mark_call s 0 m b).answer 0 && same (mark_call s 0 m b).anchors xs
    && same_attachments s (split_store s 0 (1 ∷ [])) (0 ∷ new_tables s 0 (1 ∷ [])) (m ∷ []) (b ∷ [])

-- a whole outcome: the new table, its coverage, mark array and base array, then the kept table's
unfoldable pub written : Outcome → Bool
written o =
    same (take 26 o.store.objects) (packed 0 (12 ∷ 6 ∷ 6 ∷ 6 ∷ 4 ∷ 65502 ∷ 12 ∷ 6 ∷ 6 ∷ 4 ∷ 4 ∷ 2 ∷ 2 ∷ []))
    && same (take (per_link * 10) o.store.links)
    (link_row 0 2 10 ++ link_row 0 4 2 ++ link_row 0 8 11 ++ link_row 0 10 12 ++ link_row 3 4 5
    ++ link_row 6 2 7 ++ link_row 6 4 2 ++ link_row 6 8 8 ++ link_row 6 10 9 ++ link_row 8 4 5)
    && same (bytes_of o.store 0) (words (header 0)) && same (bytes_of o.store 6) (words (header 1))
    && same (bytes_of o.store 7) (words (1 ∷ 1 ∷ 10 ∷ [])) && same (bytes_of o.store 8) (words (1 ∷ 0 ∷ 0 ∷ []))
    && same (bytes_of o.store 9) (words (1 ∷ 0 ∷ []))
    && same (bytes_of o.store 10) (words (1 ∷ 0 ∷ [])) && same (bytes_of o.store 11) (words (0 ∷ [])) && same (bytes_of o.store 12) (words (1 ∷ []))

-- ---- figures

-- at the limit no cut; one byte more, and there is one at class 0, with all of its room and nothing more
unfoldable pub limits : List Bool
limits =
    whole (one_mark 1 65501) ∷ cut_at (0 ∷ []) 7 5 36 (6 ∷ []) (one_mark 1 65502) ∷ no_room 7 5 36 (one_mark 1 65502)
    ∷ written (mark_split_call first_edition (roomy 36 7 5 (one_mark 1 65502)) 0 scratch (9 ∷ []))
    ∷ []

pub limits_hold : every limits ≡ true
unfolding pinned.computes one_mark scratch plans splits cut_at no_room whole written limits
limits_hold = refl

-- after a class that is too large by itself an empty one is cut off too, and the next, also empty, stays with that
pub empty_class_holds : cut_at (0 ∷ 1 ∷ []) 11 9 60 (6 ∷ 10 ∷ []) (one_mark 3 65502) ≡ true
unfolding pinned.computes one_mark scratch plans splits cut_at
empty_class_holds = refl

-- partial coverage counts, and not the mark coverage's own length, which is shorter
unfoldable pub coverages : List Bool
coverages = whole (eight_marks 65459) ∷ cut_at (0 ∷ []) 7 5 68 (6 ∷ []) (eight_marks 65460) ∷ []

pub coverages_hold : every coverages ≡ true
unfolding pinned.computes eight_marks scratch plans splits cut_at whole coverages
coverages_hold = refl

-- an anchor that two marks and a base share counts once; two anchors are one too many, and the base has none for class 1
unfoldable pub sharing : List Bool
sharing =
    whole (two_marks 5) ∷ cut_at (1 ∷ []) 7 7 44 (7 ∷ []) (two_marks 6)
    ∷ attaches 10 100 (6 ∷ 6 ∷ []) (two_marks 6) ∷ attaches 20 100 (0 ∷ 0 ∷ []) (two_marks 6)
    ∷ []

pub sharing_holds : every sharing ≡ true
unfolding pinned.computes two_marks scratch plans splits cut_at whole attaches sharing
sharing_holds = refl

-- one object as both arrays: its links are copied for either
unfoldable pub both : List Bool
both = cut_at (1 ∷ []) 7 8 48 (7 ∷ []) both_arrays ∷ attaches 20 101 (7 ∷ 7 ∷ []) both_arrays ∷ []

pub both_holds : every both ≡ true
unfolding pinned.computes both_arrays scratch plans splits cut_at attaches both
both_holds = refl

-- what was seen before a cut counts again after it, and so does what the class at the cut reaches
pub seen_again_holds : cut_at (1 ∷ []) 7 7 52 (9 ∷ []) (leading []) ≡ true
unfolding pinned.computes leading scratch plans splits cut_at
seen_again_holds = refl

pub seen_at_the_cut_holds : cut_at (1 ∷ 2 ∷ []) 11 11 72 (9 ∷ 13 ∷ []) (leading (link_row 7 4 8)) ≡ true
unfolding pinned.computes leading scratch plans splits cut_at
seen_at_the_cut_holds = refl

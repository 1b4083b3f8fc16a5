-- The calls on pair tables: "Given exactly if (first that applies, in this order)", and the outcome of each. Assumes nothing.
use Rattle.std.specs.Prelude.{ℕ, Bool, cond, not, ◌&&◌, ◌||◌, List, [], ◌∷◌, ◌++◌, length, ℤ, leb, ltb, eqb, Option, Some, None}
use Rattle.folds.specs.Lists.{is_empty}
use Rattle.ot_layouts.specs.PairPos.{format_of, exact}
use Rattle.store_rules.specs.Store.{Store, sound, bytes_of}
use Rattle.store_rules.specs.Reach.{on_cycle}
use Rattle.call_rules.specs.declared.Answer.TheVariants.{Done, Unsound, NoTable, BadTable, BadParts, FewGlyphs, ShortScratch, BadLinks, UnsortedSets, NoRoom}
use Rattle.call_rules.specs.declared.Settings.{Settings}
use Rattle.call_rules.specs.Answers.{Case, case, first_case}
use Rattle.call_rules.specs.Settings.{settings_cases}
use Rattle.call_rules.specs.Scratch.{Scratch, lengths_of, lengths_short}
use Rattle.call_rules.specs.Needs.{room_short}
use Rattle.call_rules.specs.Outcomes.{Outcome, done, settle}
use Rattle.pair_rules.specs.Table.{shape, parts_readable, glyphs_of, all_at_slots, sets_sorted, cut_places}
use Rattle.pair_rules.specs.Written.{needed, split_store, new_tables}
use Rattle.pair_rules.specs.Pairs.{Pair, no_pair, pair_of}

-- ---- answers, in their order

-- 1 to 5; "A format other than 1 or 2 answers 0 with no new tables straight after check 3's first clause"
unfoldable pub read_cases : Store → ℕ → List Case
read_cases s t =
    case Unsound (not (sound s))
    ∷ case NoTable (leb s.object_count t)
    ∷ case BadTable (ltb (length (bytes_of s t)) 2)
    ∷ case Done (not (eqb (format_of (bytes_of s t)) 1 || eqb (format_of (bytes_of s t)) 2))
    ∷ case BadTable (not (exact (bytes_of s t)))
    ∷ case BadParts (not (parts_readable s t))
    ∷ case FewGlyphs (eqb (format_of (bytes_of s t)) 1 && ltb (length (glyphs_of s t)) (shape s t).count)
    ∷ []

-- 11: "a linked pair set unsorted or of wrong length"
abbrev pub unsorted_case : Store → ℕ → Case
unsorted_case s t = case UnsortedSets (not (sets_sorted s t))

-- 1 to 5 and 11: "last in the pair reading"
unfoldable pub pair_cases : Store → ℕ → List Case
pair_cases s t = read_cases s t ++ (unsorted_case s t ∷ [])

-- 6: "glyphs and classes, one entry each per covered glyph; cuts, one entry per item (pair set or class-1 row)"
unfoldable pub scratch_short : Store → ℕ → Scratch → Bool
scratch_short s t w = lengths_short (lengths_of w) s.object_count (length (glyphs_of s t)) (shape s t).count

-- 12, then 1 to 7, and 11 "after 7 and before 8"
unfoldable pub cut_cases : Settings → Store → ℕ → Scratch → List Case
cut_cases how s t w =
    settings_cases how
    ++ read_cases s t
    ++ (case ShortScratch (scratch_short s t w)
    ∷ case BadLinks (not (all_at_slots s t) || on_cycle s t)
    ∷ unsorted_case s t
    ∷ [])

-- what is left of a split at places cs then: "With no cut, 0 also changes nothing"; "No cut needs no room."; 8
unfoldable pub last_cases : Store → ℕ → List ℕ → List ℕ → List Case
last_cases s t cs list = case Done (is_empty cs) ∷ case NoRoom (room_short s list (needed s t cs)) ∷ []

-- all of a split's
unfoldable pub split_cases : Settings → Store → ℕ → Scratch → List ℕ → List Case
split_cases how s t w list = cut_cases how s t w ++ last_cases s t (cut_places how s t) list

-- the plan's own list holds the places
unfoldable pub plan_cases : Settings → Store → ℕ → Scratch → List ℕ → List Case
plan_cases how s t w list = cut_cases how s t w ++ (case NoRoom (ltb (length list) (length (cut_places how s t))) ∷ [])

-- ---- outcomes

-- the split of a table at cs, if none of these cases applies
abbrev pub split_unless : List Case → Store → ℕ → List ℕ → Scratch → List ℕ → Outcome
split_unless cases s t cs w list = settle (first_case cases) s list w (done (split_store s t cs) (new_tables s t cs) list w)

-- the outcome of a split: 0: "none below: split, or nothing to split"
unfoldable pub split_call : Settings → Store → ℕ → Scratch → List ℕ → Outcome
split_call how s t w list = split_unless (split_cases how s t w list) s t (cut_places how s t) w list

-- the outcome of a cut plan: the store as it was, the places in its list, and their count
unfoldable pub plan_call : Settings → Store → ℕ → Scratch → List ℕ → Outcome
plan_call how s t w list = settle (first_case (plan_cases how s t w list)) s list w (done s (cut_places how s t) list w)

-- at exit of a pair reading: 1 where there is a pair, else 0, and "eight numbers for the first glyph and eight for the second"
pub record PairOutcome : Type 0 where
  pub answer : ℕ
  pub found : ℕ
  pub values : List ℤ

-- an answer with what the pair holds
abbrev pub reported : ℕ → Pair → PairOutcome
reported n p = record { answer = n; found = cond p.found 1 0; values = p.first ++ p.second }

-- "refuses by 1 to 5 in this order with no pair and sixteen zeros; another format is 0 and no pair"; 11 refuses as they do
unfoldable pub settle_pair : Option ℕ → Pair → PairOutcome
settle_pair (Some n) p = reported n no_pair
settle_pair None p = reported 0 p

-- the outcome of a pair reading, which "takes 16-bit glyph numbers and no scratch, writes nothing"
unfoldable pub pair_call : Store → ℕ → ℕ → ℕ → PairOutcome
pair_call s t a b = settle_pair (first_case (pair_cases s t)) (pair_of s t a b)

-- pair readings of several tables, one after the other: the first with a pair decides
unfoldable pub read_in_order : Store → List ℕ → ℕ → ℕ → PairOutcome
read_in_order s [] a b = reported 0 no_pair
read_in_order s (u ∷ us) a b = cond (eqb (pair_call s u a b).found 1) (pair_call s u a b) (read_in_order s us a b)

-- all of this file's definitions, for checks that compute
unfoldable pub computes : Unit {0}
unfolding read_cases pair_cases scratch_short cut_cases last_cases split_cases plan_cases split_call plan_call settle_pair pair_call read_in_order
computes = tt

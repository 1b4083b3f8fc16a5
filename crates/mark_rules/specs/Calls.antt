-- The calls on MarkBasePos tables: "Given exactly if (first that applies, in this order)", and the outcome of each. Assumes nothing.
use Rattle.std.specs.Prelude.{ℕ, ◌+◌, Bool, not, ◌||◌, List, [], ◌∷◌, ◌++◌, length, leb, ltb, eqb, Option, Some, None}
use Rattle.folds.specs.Lists.{is_empty}
use Rattle.ot_layouts.specs.MarkBasePos.{format_of, table_size}
use Rattle.store_rules.specs.Store.{Store, sound, bytes_of}
use Rattle.store_rules.specs.Reach.{on_cycle}
use Rattle.call_rules.specs.declared.Answer.TheVariants.{Done, Unsound, NoTable, BadTable, BadParts, FewGlyphs, ShortScratch, BadLinks, NoRoom}
use Rattle.call_rules.specs.declared.Settings.{Settings}
use Rattle.call_rules.specs.Answers.{Case, case, first_case}
use Rattle.call_rules.specs.Settings.{settings_cases}
use Rattle.call_rules.specs.Scratch.{Scratch, lengths_of, lengths_short}
use Rattle.call_rules.specs.Needs.{room_short}
use Rattle.call_rules.specs.Outcomes.{Outcome, done, settle}
use Rattle.mark_rules.specs.Table.{classes_of, glyphs_of, marks_in, parts_readable, all_at_slots, cut_places}
use Rattle.mark_rules.specs.Written.{needed, split_store, new_tables}
use Rattle.mark_rules.specs.Attachments.{Anchors, attach_of}

-- ---- answers, in their order

-- 1 to 5: "3 is length not 12 (a format other than 1 is 0)", "5 also covers a mark coverage shorter than the mark array"
unfoldable pub read_cases : Store → ℕ → List Case
read_cases s t =
    case Unsound (not (sound s))
    ∷ case NoTable (leb s.object_count t)
    ∷ case BadTable (ltb (length (bytes_of s t)) 2)
    ∷ case Done (not (eqb (format_of (bytes_of s t)) 1))
    ∷ case BadTable (not (eqb (length (bytes_of s t)) table_size))
    ∷ case BadParts (not (parts_readable s t))
    ∷ case FewGlyphs (ltb (length (glyphs_of s t)) (marks_in s t))
    ∷ []

-- 6: "In the scratch an item is a mark class, a covered glyph one of the mark coverage."
unfoldable pub scratch_short : Store → ℕ → Scratch → Bool
scratch_short s t w = lengths_short (lengths_of w) s.object_count (length (glyphs_of s t)) (classes_of s t)

-- 12, then 1 to 7: "7 also covers links of the arrays at no slot"
unfoldable pub cut_cases : Settings → Store → ℕ → Scratch → List Case
cut_cases how s t w =
    settings_cases how
    ++ read_cases s t
    ++ (case ShortScratch (scratch_short s t w)
    ∷ case BadLinks (not (all_at_slots s t) || on_cycle s t)
    ∷ [])

-- what is left of a split at places cs then: "With no cut, 0 also changes nothing"; "No cut needs no room."; 8
unfoldable pub last_cases : Store → ℕ → List ℕ → List ℕ → List Case
last_cases s t cs list = case Done (is_empty cs) ∷ case NoRoom (room_short s list (needed s t cs)) ∷ []

-- all of a split's
unfoldable pub split_cases : Settings → Store → ℕ → Scratch → List ℕ → List Case
split_cases how s t w list = cut_cases how s t w ++ last_cases s t (cut_places how s t) list

-- the plan's own list holds the places
unfoldable pub plan_cases : Settings → Store → ℕ → Scratch → List ℕ → List Case
plan_cases how s t w list = cut_cases how s t w ++ (case NoRoom (ltb (length list) (length (cut_places how s t))) ∷ [])

-- ---- outcomes

-- the split of a table at cs, if none of these cases applies
abbrev pub split_unless : List Case → Store → ℕ → List ℕ → Scratch → List ℕ → Outcome
split_unless cases s t cs w list = settle (first_case cases) s list w (done (split_store s t cs) (new_tables s t cs) list w)

-- the outcome of a split: 0: "none below: split, or nothing to split"
unfoldable pub mark_split_call : Settings → Store → ℕ → Scratch → List ℕ → Outcome
mark_split_call how s t w list = split_unless (split_cases how s t w list) s t (cut_places how s t) w list

-- the outcome of a cut plan: the store as it was, the places in its list, and their count
unfoldable pub mark_plan_call : Settings → Store → ℕ → Scratch → List ℕ → Outcome
mark_plan_call how s t w list = settle (first_case (plan_cases how s t w list)) s list w (done s (cut_places how s t) list w)

-- at exit of an attachment reading: 1 where there is one, else 0, and the two anchor objects
pub record MarkOutcome : Type 0 where
  pub answer : ℕ
  pub found : ℕ
  pub anchors : List ℕ

-- an answer with an attachment: of each object its number plus one, as devices are told; with none "no attachment" and two zeros
unfoldable pub reported : ℕ → Option Anchors → MarkOutcome
reported n (Some a) = record { answer = n; found = 1; anchors = (a.mark + 1) ∷ (a.base + 1) ∷ [] }
reported n None = record { answer = n; found = 0; anchors = 0 ∷ 0 ∷ [] }

-- "refuses by 1 to 5 in this order", as a pair reading does, with no attachment
unfoldable pub settle_mark : Option ℕ → Option Anchors → MarkOutcome
settle_mark (Some n) a = reported n None
settle_mark None a = reported 0 a

-- the outcome of an attachment reading
unfoldable pub mark_call : Store → ℕ → ℕ → ℕ → MarkOutcome
mark_call s t m b = settle_mark (first_case (read_cases s t)) (attach_of s t m b)

-- all of this file's definitions, for checks that compute
unfoldable pub computes : Unit {0}
unfolding read_cases scratch_short cut_cases last_cases split_cases plan_cases mark_split_call mark_plan_call reported settle_mark mark_call
computes = tt

-- When there is a split, a plan or an attachment: exactly if what the documents ask for holds, condition by condition. Assumes nothing.
use Rattle.std.specs.Prelude.{ℕ, ◌+◌, ◌<◌, ◌≤◌, ◌≡◌, true, false, List, length, None}
use Rattle.folds.specs.Lists.{put, join}
use Rattle.store_rules.specs.Store.{Store, object_room, link_room, byte_room}
use Rattle.store_rules.specs.Reach.{on_cycle}
use Rattle.call_rules.specs.declared.Settings.{Settings}
use Rattle.call_rules.specs.Settings.{known}
use Rattle.call_rules.specs.Scratch.{Scratch, cleared}
use Rattle.call_rules.specs.Outcomes.{outcome}
use Rattle.mark_rules.specs.Table.{cut_places, all_at_slots}
use Rattle.mark_rules.specs.Written.{new_of, need_objects, need_links}
use Rattle.mark_rules.specs.Reads.{Reads}
use Rattle.mark_rules.specs.Attachments.{attach_of}
use Rattle.mark_rules.specs.Calls.{mark_split_call, mark_plan_call, mark_call, split_cases, plan_cases, read_cases, scratch_short, reported}
use Rattle.promise_calls.specs.Given.{AnswersExactly}
use Rattle.promise_marks.specs.Demands.{Splits}

-- ---- what has to hold

-- checks 12 and 1 to 7 pass, and the format is 1
pub record Checked (how : Settings) (s : Store) (t : ℕ) (w : Scratch) : Type 0 where
  -- "edition not 1 or 2" does not hold
  pub known : known how ≡ true
  pub reads : Reads s t
  pub scratch : scratch_short s t w ≡ false
  -- "a link of the table stands at no slot, or the table can be reached from itself", "7 also covers links of the arrays at no slot"
  pub at_slots : all_at_slots s t ≡ true
  pub acyclic : on_cycle s t ≡ false

-- a split: there is a cut, and room is enough
pub record MaySplit (how : Settings) (s : Store) (t : ℕ) (w : Scratch) (list : List ℕ) : Type 0 where
  pub checked : Checked how s t w
  pub cuts : 0 < length (cut_places how s t)
  -- "Room is the smaller of lent length and maximum"
  pub objects : s.object_count + need_objects (length (cut_places how s t)) ≤ object_room (length s.objects)
  pub links : s.link_count + need_links s t (length (cut_places how s t)) ≤ link_room (length s.links)
  pub bytes : s.byte_count + length (join (new_of s t (cut_places how s t))) ≤ byte_room (length s.bytes)
  pub entries : length (cut_places how s t) ≤ length list

-- a cut plan: its list holds the places
pub record MayPlan (how : Settings) (s : Store) (t : ℕ) (w : Scratch) (list : List ℕ) : Type 0 where
  pub checked : Checked how s t w
  pub entries : length (cut_places how s t) ≤ length list

-- ---- exactly then

-- the answer is 0 with new tables exactly if checks 12 and 1 to 7 pass, there is a cut and room is enough
abbrev pub SplitsExactly : Type 0
SplitsExactly =
    (how : Settings) (s : Store) (t : ℕ) (w : Scratch) (list : List ℕ)
    → (Splits how s t w list → MaySplit how s t w list) × (MaySplit how s t w list → Splits how s t w list)

-- places are handed out exactly if checks 12 and 1 to 7 pass, there is a cut and the list is long enough; with no cut there are none
abbrev pub PlansExactly : Type 0
PlansExactly =
    (how : Settings) (s : Store) (t : ℕ) (w : Scratch) (list : List ℕ)
    → (0 < (mark_plan_call how s t w list).count → MayPlan how s t w list × (0 < length (cut_places how s t)))
    × (MayPlan how s t w list → mark_plan_call how s t w list ≡ outcome 0 (length (cut_places how s t)) s (put list 0 (cut_places how s t)) (cleared w))

-- there is an attachment exactly if checks 1 to 5 pass, the format is 1, and the table has one
abbrev pub MarksExactly : Type 0
MarksExactly =
    (s : Store) (t m b : ℕ)
    → ((mark_call s t m b).found ≡ 1 → Reads s t × (attach_of s t m b ≡ None → ⊥))
    × (Reads s t → mark_call s t m b ≡ reported 0 (attach_of s t m b))

-- "Given exactly if (first that applies, in this order)": of each of the three
abbrev pub MarkAnswersExactly : Type 0
MarkAnswersExactly =
    (how : Settings) (s : Store) (t : ℕ) (w : Scratch) (list : List ℕ)
    → AnswersExactly (split_cases how s t w list) (mark_split_call how s t w list).answer
    × AnswersExactly (plan_cases how s t w list) (mark_plan_call how s t w list).answer
    × ((m b : ℕ) → AnswersExactly (read_cases s t) (mark_call s t m b).answer)

-- The demands, of what a call leaves in the caller's buffers: it has the settings how, s, t, w and list are what it was lent, and o is what it answers and what
-- then stands there. Assumes nothing.
use Rattle.std.specs.Prelude.{ℕ, ◌<◌, ◌≡◌, true, false, cond, List, [], ◌∷◌, length, eqb, None}
use Rattle.folds.specs.Lists.{put}
use Rattle.store_rules.specs.Store.{Store, sound, bytes_of, child_at, orders_of, head_of, tail_of}
use Rattle.call_rules.specs.declared.Settings.{Settings}
use Rattle.call_rules.specs.Scratch.{Scratch}
use Rattle.call_rules.specs.Outcomes.{Outcome}
use Rattle.mark_rules.specs.Table.{cut_places}
use Rattle.mark_rules.specs.Written.{new_tables, split_store}
use Rattle.mark_rules.specs.Reads.{Reads}
use Rattle.mark_rules.specs.Attachments.{attach_of}
use Rattle.mark_rules.specs.Calls.{MarkOutcome, mark_split_call, mark_call, split_cases, plan_cases, read_cases, reported, scratch_short}
use Rattle.promise_calls.specs.Unchanged.{Unchanged, Octets}
use Rattle.promise_calls.specs.Given.{Gives}
use Rattle.promise_calls.specs.Keeps.{CallKeeps}
use Rattle.promise_calls.specs.Resulting.{kept_then_new}
use Rattle.promise_marks.specs.Exactly.{MaySplit, MayPlan}
use Rattle.promise_marks.specs.Demands.{AllAfresh}

-- attachment readings of several tables, one after the other: the first with an attachment decides
unfoldable pub read_in_order : Store → List ℕ → ℕ → ℕ → MarkOutcome
read_in_order s [] m b = reported 0 None
read_in_order s (u ∷ us) m b = cond (eqb (mark_call s u m b).found 1) (mark_call s u m b) (read_in_order s us m b)

-- after a split
pub record SplitLeaves (how : Settings) (s : Store) (t : ℕ) (list : List ℕ) (o : Outcome) : Type 0 where
  pub answers : o.answer ≡ 0
  -- "The new-table count equals the cuts of the rule"
  pub count : o.count ≡ length (cut_places how s t)
  pub tables : o.list ≡ put list 0 (new_tables s t (cut_places how s t))
  -- "What is written", and that all else stays
  pub written : o.store ≡ split_store s t (cut_places how s t)
  -- "reading the kept table and then the new ones in order gives, for every two glyphs, what the old table gave"
  pub attachments : (m b : ℕ) → read_in_order o.store (kept_then_new t o) m b ≡ mark_call s t m b
  -- "Each table with its own parts is what writing its range afresh would give."
  pub afresh : AllAfresh s t o.store (cut_places how s t)
  -- "Every other old object keeps its bytes and links."
  pub others : (i : ℕ) → i < s.object_count → (i ≡ t → ⊥)
      → (head_of o.store i ≡ head_of s i) × (tail_of o.store i ≡ tail_of s i)
      × (bytes_of o.store i ≡ bytes_of s i) × ((q : ℕ) → child_at o.store i q ≡ child_at s i q)
  -- "'keeps its links' counts both kinds": of the kept table too, and a new object has none, as it had none
  pub orders : (i : ℕ) → orders_of o.store i ≡ orders_of s i
  -- "Splitting the kept table again adds and changes nothing.", "under the same edition"
  pub again : (v : Scratch) (list' : List ℕ) → scratch_short o.store t v ≡ false
      → ((mark_split_call how o.store t v list').answer ≡ 0) × Unchanged o.store v list' (mark_split_call how o.store t v list')
  -- the store can be lent again
  pub sounds : sound o.store ≡ true
  pub octets : Octets s → Octets o.store

-- a split
abbrev pub SplitKeeps : Settings → Store → ℕ → Scratch → List ℕ → Outcome → Type 0
SplitKeeps how s t w list = CallKeeps (split_cases how s t w list) (MaySplit how s t w list) (SplitLeaves how s t list) s w list

-- where places are handed out, none or more: the store is read only
pub record PlanLeaves (how : Settings) (s : Store) (t : ℕ) (list : List ℕ) (o : Outcome) : Type 0 where
  pub answers : o.answer ≡ 0
  pub count : o.count ≡ length (cut_places how s t)
  pub places : o.list ≡ put list 0 (cut_places how s t)
  pub reads : o.store ≡ s

-- a cut plan
abbrev pub PlanKeeps : Settings → Store → ℕ → Scratch → List ℕ → Outcome → Type 0
PlanKeeps how s t w list = CallKeeps (plan_cases how s t w list) (MayPlan how s t w list) (PlanLeaves how s t list) s w list

-- an attachment reading
pub record MarkKeeps (s : Store) (t m b : ℕ) (o : MarkOutcome) : Type 0 where
  pub answers : Gives (read_cases s t) o.answer
  -- checks 1 to 5 pass, and the format is 1: the attachment is the table's own
  pub attachments : Reads s t → o ≡ reported 0 (attach_of s t m b)
  -- a refusal, and a table of another format, have none: two zeros
  pub none : (Reads s t → ⊥) → (o.found ≡ 0) × (o.anchors ≡ 0 ∷ 0 ∷ [])

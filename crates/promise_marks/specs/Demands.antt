-- What is promised of every call on a mark-to-base table, as statements over its outcome in `mark_rules`: it has the settings how, s is the store that is lent,
-- t the table's number, w the scratch and list the result list, or the plan's places. Assumes nothing.
use Rattle.std.specs.Prelude.{ℕ, ◌+◌, ◌-◌, ◌<◌, ◌≤◌, ◌≡◌, true, false, List, [], ◌∷◌, map, length, get_or, None}
use Rattle.folds.specs.Lists.{put, join}
use Rattle.ot_layouts.specs.Numbers.{be16}
use Rattle.ot_layouts.specs.MarkBasePos.{format_of, cover_at, base_cover_at, class_count_at}
use Rattle.store_rules.specs.Store.{Store, sound, bytes_of, child_at, orders_of, head_of, tail_of, linked_bytes, linked_at}
use Rattle.store_rules.specs.Appended.{new_number}
use Rattle.store_rules.specs.Reach.{item_size, SentenceOfS}
use Rattle.cut_rules.specs.Ranges.{from, to}
use Rattle.call_rules.specs.declared.Settings.{Settings}
use Rattle.call_rules.specs.Answers.{first_case}
use Rattle.call_rules.specs.Settings.{known}
use Rattle.call_rules.specs.Scratch.{Scratch, cleared}
use Rattle.mark_rules.specs.Table.{classes_of, bases_in, glyphs_of, mark_array, base_array, mark_bytes, base_bytes, marks_of, marks_within, base_anchor, of_classes, cut_places}
use Rattle.mark_rules.specs.Written.{new_table, new_coverage, new_mark_array, new_base_array, new_of, new_tables, per_table, need_objects, need_links}
use Rattle.mark_rules.specs.Attachments.{attach_of, attach_among}
use Rattle.mark_rules.specs.Calls.{mark_split_call, mark_plan_call, mark_call, read_cases, reported, scratch_short}
use Rattle.promise_calls.specs.Unchanged.{Unchanged, Octets}

-- ---- 1: what a call leaves that does not split

-- "Each number but 0 .. returns a count of 0 new tables and keeps store, counts and result list."
abbrev pub Refusals : Type 0
Refusals =
    (how : Settings) (s : Store) (t : ℕ) (w : Scratch) (list : List ℕ)
    → (((mark_split_call how s t w list).answer ≡ 0 → ⊥) → Unchanged s w list (mark_split_call how s t w list))
    × (((mark_plan_call how s t w list).answer ≡ 0 → ⊥) → Unchanged s w list (mark_plan_call how s t w list))

-- "With no cut, 0 also changes nothing."
abbrev pub NoCutNothing : Type 0
NoCutNothing =
    (how : Settings) (s : Store) (t : ℕ) (w : Scratch) (list : List ℕ) → cut_places how s t ≡ []
    → Unchanged s w list (mark_split_call how s t w list) × Unchanged s w list (mark_plan_call how s t w list)

-- "a format other than 1 is 0"
abbrev pub OtherFormats : Type 0
OtherFormats =
    (how : Settings) (s : Store) (t : ℕ) (w : Scratch) (list : List ℕ)
    → known how ≡ true → sound s ≡ true → t < s.object_count → 2 ≤ length (bytes_of s t) → (format_of (bytes_of s t) ≡ 1 → ⊥)
    → ((mark_split_call how s t w list).answer ≡ 0) × Unchanged s w list (mark_split_call how s t w list)
    × ((mark_plan_call how s t w list).answer ≡ 0) × Unchanged s w list (mark_plan_call how s t w list)
    × ((m b : ℕ) → mark_call s t m b ≡ reported 0 None)

-- a reading that refuses has no attachment: two zeros
abbrev pub MarkRefusals : Type 0
MarkRefusals =
    (s : Store) (t m b : ℕ) → ((mark_call s t m b).answer ≡ 0 → ⊥)
    → ((mark_call s t m b).found ≡ 0) × ((mark_call s t m b).anchors ≡ 0 ∷ 0 ∷ [])

-- "All lent scratch is zero after every call."
abbrev pub ScratchZero : Type 0
ScratchZero =
    (how : Settings) (s : Store) (t : ℕ) (w : Scratch) (list : List ℕ)
    → ((mark_split_call how s t w list).scratch ≡ cleared w) × ((mark_plan_call how s t w list).scratch ≡ cleared w)

-- the plan's store is read only
abbrev pub PlanReads : Type 0
PlanReads = (how : Settings) (s : Store) (t : ℕ) (w : Scratch) (list : List ℕ) → (mark_plan_call how s t w list).store ≡ s

-- ---- after a split

-- "'After a split' .. means with at least one cut": the call answers 0, and there are new tables
pub record Splits (how : Settings) (s : Store) (t : ℕ) (w : Scratch) (list : List ℕ) : Type 0 where
  pub answers : (mark_split_call how s t w list).answer ≡ 0
  pub cuts : 0 < (mark_split_call how s t w list).count

-- the store at exit
abbrev pub store_then : Settings → Store → ℕ → Scratch → List ℕ → Store
store_then how s t w list = (mark_split_call how s t w list).store

-- ---- 2: "The new-table count equals the cuts of the rule", and the list starts with the new tables' numbers

abbrev pub AsManyAsCuts : Type 0
AsManyAsCuts =
    (how : Settings) (s : Store) (t : ℕ) (w : Scratch) (list : List ℕ) → Splits how s t w list
    → ((mark_split_call how s t w list).count ≡ length (cut_places how s t))
    × ((mark_split_call how s t w list).list ≡ put list 0 (new_tables s t (cut_places how s t)))

-- ---- 2: what a split takes is what 8 asked for: "4K+3 objects, and 4K links plus those of the mark array and of the base array", and the exact bytes

abbrev pub TakesNeeded : Type 0
TakesNeeded =
    (how : Settings) (s : Store) (t : ℕ) (w : Scratch) (list : List ℕ) → Splits how s t w list
    → ((store_then how s t w list).object_count ≡ s.object_count + need_objects (length (cut_places how s t)))
    × ((store_then how s t w list).link_count ≡ s.link_count + need_links s t (length (cut_places how s t)))
    × ((store_then how s t w list).byte_count ≡ s.byte_count + length (join (new_of s t (cut_places how s t))))

-- ---- 2: "its anchors' reachable lengths", which is S: "all objects reachable .., each counted once, leaving out those counted since the last cut"

-- which is at a: the cuts of `cut_places` go by these sizes
abbrev pub SizesBySentence : Type 0
SizesBySentence = (s : Store) (t a i : ℕ) → sound s ≡ true → a ≤ i → SentenceOfS s (of_classes s t) a i (item_size s (of_classes s t) a i)

-- ---- 3: attachments are kept

-- the resulting tables: the kept one, then the new ones
abbrev pub resulting : Settings → Store → ℕ → List ℕ
resulting how s t = t ∷ new_tables s t (cut_places how s t)

-- "demand 3 reads the same": "reading the kept table and then the new ones in order" gives, for every mark glyph and every base glyph, the anchor objects that
-- the old table gave, or none; and no two of them have the same attachment
abbrev pub AttachmentsKept : Type 0
AttachmentsKept =
    (how : Settings) (s : Store) (t : ℕ) (w : Scratch) (list : List ℕ) → Splits how s t w list → (m b : ℕ)
    → (attach_among (store_then how s t w list) (resulting how s t) m b ≡ attach_of s t m b)
    × ((i j : ℕ) → i < j → j < length (resulting how s t) → (attach_of (store_then how s t w list) (get_or (resulting how s t) i 0) m b ≡ None → ⊥)
    → attach_of (store_then how s t w list) (get_or (resulting how s t) j 0) m b ≡ None)

-- and the reading takes the old table and each resulting one: it answers 0 with the table's own attachment
abbrev pub ReadingsKept : Type 0
ReadingsKept =
    (how : Settings) (s : Store) (t : ℕ) (w : Scratch) (list : List ℕ) → Splits how s t w list → (m b : ℕ)
    → (mark_call s t m b ≡ reported 0 (attach_of s t m b))
    × ((i : ℕ) → i < length (resulting how s t)
    → mark_call (store_then how s t w list) (get_or (resulting how s t) i 0) m b
    ≡ reported 0 (attach_of (store_then how s t w list) (get_or (resulting how s t) i 0) m b))

-- ---- 3: each table is written afresh

-- object u of s' is the table of the classes lo up to hi of the old table t, "by this section from the old table alone"
pub record Afresh (s : Store) (t : ℕ) (s' : Store) (u lo hi : ℕ) : Type 0 where
  -- it is a table that can be read: 1 to 5 do not apply
  pub readable : first_case (read_cases s' u) ≡ None
  pub classes : classes_of s' u ≡ hi - lo
  -- its coverage, of the marks of its classes; "always as new objects"
  pub covers : glyphs_of s' u ≡ map (λ m. m.glyph) (marks_within lo hi (marks_of s t))
  pub cover_bytes : linked_bytes s' u cover_at ≡ new_coverage (marks_within lo hi (marks_of s t))
  pub cover_new : s.object_count ≤ linked_at s' u cover_at
  -- its mark array: "classes reduced by its first", each mark with its anchor
  pub marks_bytes : mark_bytes s' u ≡ new_mark_array lo (marks_within lo hi (marks_of s t))
  pub marks_new : s.object_count ≤ mark_array s' u
  pub marks : marks_of s' u ≡ map (λ m. record { glyph = m.glyph; class = m.class - lo; anchor = m.anchor }) (marks_within lo hi (marks_of s t))
  -- its base array, each slot with its anchor
  pub bases_bytes : base_bytes s' u ≡ new_base_array (bases_in s t) (hi - lo)
  pub bases_new : s.object_count ≤ base_array s' u
  pub bases : (j c : ℕ) → j < bases_in s t → c + lo < hi → base_anchor s' u j c ≡ base_anchor s t j (lo + c)
  -- the base coverage is shared
  pub shared : child_at s' u base_cover_at ≡ child_at s t base_cover_at

-- the kept table has its count set, and its other bytes stay; "Each new table runs from one cut to the next or to the end"
pub record AllAfresh (s : Store) (t : ℕ) (s' : Store) (cs : List ℕ) : Type 0 where
  pub kept : Afresh s t s' t 0 (from cs 0)
  pub kept_bytes : bytes_of s' t ≡ put (bytes_of s t) class_count_at (be16 (from cs 0))
  pub fresh : (j : ℕ) → j < length cs → Afresh s t s' (new_number s per_table j) (from cs j) (to (classes_of s t) cs j)
  pub fresh_bytes : (j : ℕ) → j < length cs → bytes_of s' (new_number s per_table j) ≡ new_table (from cs j) (to (classes_of s t) cs j)

abbrev pub WrittenAfresh : Type 0
WrittenAfresh =
    (how : Settings) (s : Store) (t : ℕ) (w : Scratch) (list : List ℕ) → Splits how s t w list
    → AllAfresh s t (store_then how s t w list) (cut_places how s t)

-- ---- 3: every other object in use keeps its place, its bytes and its links: "the old arrays keep their links"

abbrev pub OthersKept : Type 0
OthersKept =
    (how : Settings) (s : Store) (t : ℕ) (w : Scratch) (list : List ℕ) → Splits how s t w list → (i : ℕ) → i < s.object_count → (i ≡ t → ⊥)
    → (head_of (store_then how s t w list) i ≡ head_of s i) × (tail_of (store_then how s t w list) i ≡ tail_of s i)
    × (bytes_of (store_then how s t w list) i ≡ bytes_of s i) × ((q : ℕ) → child_at (store_then how s t w list) i q ≡ child_at s i q)

-- and its order-only links: "Demand 3's 'keeps its links' counts both kinds"; they "stay with the kept table in a split, and are not given to new ones"
abbrev pub OrdersKept : Type 0
OrdersKept =
    (how : Settings) (s : Store) (t : ℕ) (w : Scratch) (list : List ℕ) → Splits how s t w list → (i : ℕ) → orders_of (store_then how s t w list) i ≡ orders_of s i

-- ---- 3: "splitting again under the same edition", scratch being enough, adds and changes nothing

abbrev pub AgainNothing : Type 0
AgainNothing =
    (how : Settings) (s : Store) (t : ℕ) (w : Scratch) (list : List ℕ) → Splits how s t w list
    → (v : Scratch) (list' : List ℕ) → scratch_short (store_then how s t w list) t v ≡ false
    → ((mark_split_call how (store_then how s t w list) t v list').answer ≡ 0)
    × Unchanged (store_then how s t w list) v list' (mark_split_call how (store_then how s t w list) t v list')

-- ---- what a split leaves can be lent again

-- the store stays sound
abbrev pub StaysSound : Type 0
StaysSound = (how : Settings) (s : Store) (t : ℕ) (w : Scratch) (list : List ℕ) → Splits how s t w list → sound (store_then how s t w list) ≡ true

-- the data stay bytes: every number that is written fits its two bytes
abbrev pub StaysOctets : Type 0
StaysOctets = (how : Settings) (s : Store) (t : ℕ) (w : Scratch) (list : List ℕ) → Octets s → Splits how s t w list → Octets (store_then how s t w list)

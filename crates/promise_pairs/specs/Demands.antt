-- What is promised of every call, as statements over its outcome in `pair_rules`: it has the settings how, s is the store that is lent, t the table's number, w
-- the scratch and list the result list, or the plan's places. Assumes nothing.
use Rattle.std.specs.Prelude.{ℕ, ◌+◌, ◌<◌, ◌≤◌, ◌≡◌, true, false, List, [], ◌∷◌, map, length, replicate, get_or, pos, None}
use Rattle.folds.specs.Lists.{put, among, part}
use Rattle.ot_layouts.specs.Numbers.{be16}
use Rattle.ot_layouts.specs.Coverage.{Entry, coverage_bytes}
use Rattle.ot_layouts.specs.ClassDef.{class_of, class_def_bytes}
use Rattle.ot_layouts.specs.PairPos.{format_of, item_at}
use Rattle.store_rules.specs.Store.{Store, sound, bytes_of, child_at, orders_of, head_of, tail_of, linked_bytes, linked_at}
use Rattle.store_rules.specs.Appended.{new_number}
use Rattle.glyph_rules.specs.Entries.{within, reduced}
use Rattle.store_rules.specs.Reach.{item_size, SentenceOfS}
use Rattle.pair_rules.specs.Table.{cut_places, entries_of, glyphs_of, shape, of_items}
use Rattle.pair_rules.specs.Written.{new_tables, new_table, per_table}
use Rattle.cut_rules.specs.Ranges.{from, to}
use Rattle.pair_rules.specs.Pairs.{no_pair, pair_among, pair_of}
use Rattle.call_rules.specs.declared.Settings.{Settings}
use Rattle.call_rules.specs.Settings.{known}
use Rattle.call_rules.specs.Scratch.{Scratch, cleared}
use Rattle.pair_rules.specs.Calls.{split_call, plan_call, pair_call, reported, pair_cases, scratch_short}
use Rattle.call_rules.specs.Answers.{first_case}
use Rattle.promise_calls.specs.Unchanged.{Unchanged, Octets}

-- ---- 1: what a call leaves that does not split

-- "Each number but 0 .. returns a count of 0 new tables and keeps store, counts and result list."
abbrev pub Refusals : Type 0
Refusals =
    (how : Settings) (s : Store) (t : ℕ) (w : Scratch) (list : List ℕ)
    → (((split_call how s t w list).answer ≡ 0 → ⊥) → Unchanged s w list (split_call how s t w list))
    × (((plan_call how s t w list).answer ≡ 0 → ⊥) → Unchanged s w list (plan_call how s t w list))

-- "With no cut, 0 also changes nothing."
abbrev pub NoCutNothing : Type 0
NoCutNothing =
    (how : Settings) (s : Store) (t : ℕ) (w : Scratch) (list : List ℕ) → cut_places how s t ≡ []
    → Unchanged s w list (split_call how s t w list) × Unchanged s w list (plan_call how s t w list)

-- "A format other than 1 or 2 answers 0 with no new tables straight after check 3's first clause"; "another format is 0 and no pair"
abbrev pub OtherFormats : Type 0
OtherFormats =
    (how : Settings) (s : Store) (t : ℕ) (w : Scratch) (list : List ℕ)
    → known how ≡ true → sound s ≡ true → t < s.object_count → 2 ≤ length (bytes_of s t)
    → (format_of (bytes_of s t) ≡ 1 → ⊥) → (format_of (bytes_of s t) ≡ 2 → ⊥)
    → ((split_call how s t w list).answer ≡ 0) × Unchanged s w list (split_call how s t w list)
    × ((plan_call how s t w list).answer ≡ 0) × Unchanged s w list (plan_call how s t w list)
    × ((a b : ℕ) → pair_call s t a b ≡ reported 0 no_pair)

-- "refuses by 1 to 5 in this order with no pair and sixteen zeros", and so by 11
abbrev pub PairRefusals : Type 0
PairRefusals =
    (s : Store) (t a b : ℕ) → ((pair_call s t a b).answer ≡ 0 → ⊥)
    → ((pair_call s t a b).found ≡ 0) × ((pair_call s t a b).values ≡ replicate 16 (pos 0))

-- "All lent scratch is zero after every call."
abbrev pub ScratchZero : Type 0
ScratchZero =
    (how : Settings) (s : Store) (t : ℕ) (w : Scratch) (list : List ℕ)
    → ((split_call how s t w list).scratch ≡ cleared w) × ((plan_call how s t w list).scratch ≡ cleared w)

-- the plan's store is read only
abbrev pub PlanReads : Type 0
PlanReads = (how : Settings) (s : Store) (t : ℕ) (w : Scratch) (list : List ℕ) → (plan_call how s t w list).store ≡ s

-- ---- after a split

-- "'After a split' .. means with at least one cut": the call answers 0, and there are new tables
pub record Splits (how : Settings) (s : Store) (t : ℕ) (w : Scratch) (list : List ℕ) : Type 0 where
  pub answers : (split_call how s t w list).answer ≡ 0
  pub cuts : 0 < (split_call how s t w list).count

-- the store at exit
abbrev pub store_then : Settings → Store → ℕ → Scratch → List ℕ → Store
store_then how s t w list = (split_call how s t w list).store

-- ---- 2: "The new-table count equals the cuts of the rule", and the list starts with the new tables' numbers

abbrev pub AsManyAsCuts : Type 0
AsManyAsCuts =
    (how : Settings) (s : Store) (t : ℕ) (w : Scratch) (list : List ℕ) → Splits how s t w list
    → ((split_call how s t w list).count ≡ length (cut_places how s t)) × ((split_call how s t w list).list ≡ put list 0 (new_tables s t (cut_places how s t)))

-- ---- 2: "S(i) is the summed length of all objects reachable from item i's links, each counted once, leaving out those counted since the last cut"

-- which is at a: the cuts of `cut_places` go by these sizes
abbrev pub SizesBySentence : Type 0
SizesBySentence =
    (s : Store) (t a i : ℕ) → sound s ≡ true → a ≤ i
    → SentenceOfS s (of_items t (shape s t)) a i (item_size s (of_items t (shape s t)) a i)

-- ---- 3: pairs are kept

-- the resulting tables: the kept one, then the new ones
abbrev pub resulting : Settings → Store → ℕ → List ℕ
resulting how s t = t ∷ new_tables s t (cut_places how s t)

-- "reading the kept table and then the new ones in order" gives each pair as the old table gave it, and no two of them have the same pair
abbrev pub PairsKept : Type 0
PairsKept =
    (how : Settings) (s : Store) (t : ℕ) (w : Scratch) (list : List ℕ) → Splits how s t w list → (a b : ℕ)
    → (pair_among (store_then how s t w list) (resulting how s t) a b ≡ pair_of s t a b)
    × ((i j : ℕ) → i < j → j < length (resulting how s t) → (pair_of (store_then how s t w list) (get_or (resulting how s t) i 0) a b).found ≡ true
    → (pair_of (store_then how s t w list) (get_or (resulting how s t) j 0) a b).found ≡ false)

-- ---- 3: each table is written afresh

-- the entries of the items lo up to hi
abbrev pub ranged : Store → ℕ → ℕ → ℕ → List Entry
ranged s t lo hi = within lo hi (entries_of s t)

-- object u of s' is the table of items lo up to hi of the old table t, "by this section from the old table alone"
pub record Afresh (s : Store) (t : ℕ) (s' : Store) (u lo hi : ℕ) : Type 0 where
  -- it is a table whose pairs can be read: 1 to 5 and 11 do not apply
  pub readable : first_case (pair_cases s' u) ≡ None
  -- it "covers the glyphs whose class lies in its range", in format 1 those whose place does
  pub covers : glyphs_of s' u ≡ map (λ e. e.glyph) (ranged s t lo hi)
  pub cover_bytes : linked_bytes s' u 2 ≡ coverage_bytes (map (λ e. e.glyph) (ranged s t lo hi))
  -- coverage and class definition 1 are "always .. new objects"
  pub cover_new : s.object_count ≤ linked_at s' u 2
  pub class_new : (shape s t).format ≡ 2 → s.object_count ≤ linked_at s' u 8
  -- "classes reduced by its first"
  pub classes : (shape s t).format ≡ 2 → (g : ℕ) → among g (glyphs_of s' u) ≡ true → class_of (linked_bytes s' u 8) g + lo ≡ class_of (linked_bytes s t 8) g
  pub class_bytes : (shape s t).format ≡ 2 → linked_bytes s' u 8 ≡ class_def_bytes (reduced lo (ranged s t lo hi))
  -- "Class definition 2 is shared."
  pub shared : (shape s t).format ≡ 2 → child_at s' u 10 ≡ child_at s t 10
  -- "Links of its items move to it, same children."
  pub items : (i q : ℕ) → i + lo < hi → q < (shape s t).item → child_at s' u (item_at (shape s t) i + q) ≡ child_at s t (item_at (shape s t) (i + lo) + q)

-- the kept table "has items below p0, and is shortened in place with its count set"; "Each new table runs from one cut to the next or to the end"
pub record AllAfresh (s : Store) (t : ℕ) (s' : Store) (cs : List ℕ) : Type 0 where
  pub kept : Afresh s t s' t 0 (from cs 0)
  pub kept_bytes : bytes_of s' t ≡ put (part (bytes_of s t) 0 (item_at (shape s t) (from cs 0))) (shape s t).count_at (be16 (from cs 0))
  pub fresh : (j : ℕ) → j < length cs → Afresh s t s' (new_number s (per_table (shape s t)) j) (from cs j) (to (shape s t).count cs j)
  pub fresh_bytes : (j : ℕ) → j < length cs
      → bytes_of s' (new_number s (per_table (shape s t)) j) ≡ new_table (shape s t) (bytes_of s t) (from cs j) (to (shape s t).count cs j)

abbrev pub WrittenAfresh : Type 0
WrittenAfresh =
    (how : Settings) (s : Store) (t : ℕ) (w : Scratch) (list : List ℕ) → Octets s → Splits how s t w list
    → AllAfresh s t (store_then how s t w list) (cut_places how s t)

-- and the pair reading takes the old table and each resulting one: it answers 0 with the table's own pair, of which `PairsKept` speaks
abbrev pub ReadingsKept : Type 0
ReadingsKept =
    (how : Settings) (s : Store) (t : ℕ) (w : Scratch) (list : List ℕ) → Octets s → Splits how s t w list → (a b : ℕ)
    → (pair_call s t a b ≡ reported 0 (pair_of s t a b))
    × ((i : ℕ) → i < length (resulting how s t)
    → pair_call (store_then how s t w list) (get_or (resulting how s t) i 0) a b
    ≡ reported 0 (pair_of (store_then how s t w list) (get_or (resulting how s t) i 0) a b))

-- ---- 3: every other object in use keeps its place, its bytes and its links

abbrev pub OthersKept : Type 0
OthersKept =
    (how : Settings) (s : Store) (t : ℕ) (w : Scratch) (list : List ℕ) → Splits how s t w list → (i : ℕ) → i < s.object_count → (i ≡ t → ⊥)
    → (head_of (store_then how s t w list) i ≡ head_of s i) × (tail_of (store_then how s t w list) i ≡ tail_of s i)
    × (bytes_of (store_then how s t w list) i ≡ bytes_of s i) × ((q : ℕ) → child_at (store_then how s t w list) i q ≡ child_at s i q)

-- and its order-only links: "Demand 3's 'keeps its links' counts both kinds"; they "stay with the kept table in a split, and are not given to new ones"
abbrev pub OrdersKept : Type 0
OrdersKept =
    (how : Settings) (s : Store) (t : ℕ) (w : Scratch) (list : List ℕ) → Splits how s t w list → (i : ℕ) → orders_of (store_then how s t w list) i ≡ orders_of s i

-- ---- 3: "splitting again under the same edition", scratch being enough, adds and changes nothing

abbrev pub AgainNothing : Type 0
AgainNothing =
    (how : Settings) (s : Store) (t : ℕ) (w : Scratch) (list : List ℕ) → Octets s → Splits how s t w list
    → (v : Scratch) (list' : List ℕ) → scratch_short (store_then how s t w list) t v ≡ false
    → ((split_call how (store_then how s t w list) t v list').answer ≡ 0)
    × Unchanged (store_then how s t w list) v list' (split_call how (store_then how s t w list) t v list')

-- ---- what a split leaves can be lent again

-- the store stays sound
abbrev pub StaysSound : Type 0
StaysSound = (how : Settings) (s : Store) (t : ℕ) (w : Scratch) (list : List ℕ) → Splits how s t w list → sound (store_then how s t w list) ≡ true

-- the data stay bytes: every number that is written fits its two bytes, 65,536 covered glyphs and as many runs of classes not excepted
abbrev pub StaysOctets : Type 0
StaysOctets = (how : Settings) (s : Store) (t : ℕ) (w : Scratch) (list : List ℕ) → Octets s → Splits how s t w list → Octets (store_then how s t w list)

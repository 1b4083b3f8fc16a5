-- What is promised of a call that enters new tables in lookups, as statements over its outcome in `lookup_rules`: it has the settings how, s is the store that
-- is lent, l the lookup list's number, t the subtable's, w the scratch and list the result list. Assumes nothing.
use Rattle.std.specs.Prelude.{ℕ, ◌+◌, ◌<◌, ◌≡◌, true, false, List, [], map, length, get_or, Option, Some, None}
use Rattle.folds.specs.Lists.{put, among}
use Rattle.folds.specs.Ascending.{ascending}
use Rattle.ot_layouts.specs.Lookup.{lookup_type, pair_type}
use Rattle.store_rules.specs.Store.{Store, sound, bytes_of, child_at, orders_of, head_of, tail_of}
use Rattle.call_rules.specs.declared.Settings.{Settings}
use Rattle.call_rules.specs.Scratch.{Scratch, cleared}
use Rattle.pair_rules.specs.Table.{cut_places}
use Rattle.pair_rules.specs.Written.{new_tables, split_store}
use Rattle.pair_rules.specs.Calls.{pair_call, split_call, scratch_short}
use Rattle.lookup_rules.specs.Listed.{subtable_slots, rewritten}
use Rattle.lookup_rules.specs.Written.{new_slots, new_lookup, redirect, needed_in_all}
use Rattle.lookup_rules.specs.Applied.{subtables, applied, reaches}
use Rattle.lookup_rules.specs.Calls.{lookup_call}
use Rattle.promise_calls.specs.Unchanged.{Unchanged, Octets}
use Rattle.promise_pairs.specs.Demands.{resulting, AllAfresh}

-- ---- 1: what a call leaves that enters nothing

-- "Each number but 0, those added later too, returns a count of 0 new tables and keeps store, counts and result list."
abbrev pub LookupRefusals : Type 0
LookupRefusals =
    (how : Settings) (s : Store) (l t : ℕ) (w : Scratch) (list : List ℕ)
    → ((lookup_call how s l t w list).answer ≡ 0 → ⊥) → Unchanged s w list (lookup_call how s l t w list)

-- "With no cut nothing changes."
abbrev pub NoCutNoEntry : Type 0
NoCutNoEntry = (how : Settings) (s : Store) (l t : ℕ) (w : Scratch) (list : List ℕ) → cut_places how s t ≡ [] → Unchanged s w list (lookup_call how s l t w list)

-- "All lent scratch is zero after every call."
abbrev pub LookupScratchZero : Type 0
LookupScratchZero = (how : Settings) (s : Store) (l t : ℕ) (w : Scratch) (list : List ℕ) → (lookup_call how s l t w list).scratch ≡ cleared w

-- ---- a call that enters new tables

-- it answers 0, and there are new tables
pub record Enters (how : Settings) (s : Store) (l t : ℕ) (w : Scratch) (list : List ℕ) : Type 0 where
  pub answers : (lookup_call how s l t w list).answer ≡ 0
  pub cuts : 0 < (lookup_call how s l t w list).count

-- the store at exit
abbrev pub store_entered : Settings → Store → ℕ → ℕ → Scratch → List ℕ → Store
store_entered how s l t w list = (lookup_call how s l t w list).store

-- the store as a split alone would leave it
abbrev pub store_split : Settings → Store → ℕ → Store
store_split how s t = split_store s t (cut_places how s t)

-- the new tables
abbrev pub tables_new : Settings → Store → ℕ → List ℕ
tables_new how s t = new_tables s t (cut_places how s t)

-- the number of the first new lookup: they stand behind all objects of the split
abbrev pub first_lookup : Settings → Store → ℕ → ℕ
first_lookup how s t = (store_split how s t).object_count

-- the number of what was c
abbrev pub number_then : Settings → Store → ℕ → ℕ → ℕ → ℕ
number_then how s l t c = redirect (first_lookup how s t) (rewritten s l t) c

-- and where a link leads then, if there is one
abbrev pub lead_then : Settings → Store → ℕ → ℕ → Option ℕ → Option ℕ
lead_then how s l t (Some c) = Some (number_then how s l t c)
lead_then how s l t None = None

-- as many new tables as cuts, and the result list starts with their numbers
abbrev pub EntersAsMany : Type 0
EntersAsMany =
    (how : Settings) (s : Store) (l t : ℕ) (w : Scratch) (list : List ℕ) → Enters how s l t w list
    → ((lookup_call how s l t w list).count ≡ length (cut_places how s t)) × ((lookup_call how s l t w list).list ≡ put list 0 (tables_new how s t))

-- what it takes is what 8 asked for: "8 counts split and lookups together"
abbrev pub EntersAsNeeded : Type 0
EntersAsNeeded =
    (how : Settings) (s : Store) (l t : ℕ) (w : Scratch) (list : List ℕ) → Enters how s l t w list
    → ((store_entered how s l t w list).object_count ≡ s.object_count + (needed_in_all s l t (cut_places how s t)).objects)
    × ((store_entered how s l t w list).link_count ≡ s.link_count + (needed_in_all s l t (cut_places how s t)).links)
    × ((store_entered how s l t w list).byte_count ≡ s.byte_count + (needed_in_all s l t (cut_places how s t)).bytes)

-- ---- 3: what is kept

-- "the only change that demand 3 allows elsewhere": every other old object keeps its place, its bytes and its links, but for children that were rewritten
abbrev pub OthersRedirected : Type 0
OthersRedirected =
    (how : Settings) (s : Store) (l t : ℕ) (w : Scratch) (list : List ℕ) → Enters how s l t w list → (i : ℕ) → i < s.object_count → (i ≡ t → ⊥)
    → (head_of (store_entered how s l t w list) i ≡ head_of s i) × (tail_of (store_entered how s l t w list) i ≡ tail_of s i)
    × (bytes_of (store_entered how s l t w list) i ≡ bytes_of s i) × ((q : ℕ) → child_at (store_entered how s l t w list) i q ≡ lead_then how s l t (child_at s i q))

-- "request 3 redirects both kinds": the order-only links of each object lead to what their children became, in the order of rows; a new object has none
abbrev pub OrdersRedirected : Type 0
OrdersRedirected =
    (how : Settings) (s : Store) (l t : ℕ) (w : Scratch) (list : List ℕ) → Enters how s l t w list
    → (i : ℕ) → orders_of (store_entered how s l t w list) i ≡ ascending (map (number_then how s l t) (orders_of s i))

-- every object of the split has the place and the bytes that the split gave it
abbrev pub ObjectsAsSplit : Type 0
ObjectsAsSplit =
    (how : Settings) (s : Store) (l t : ℕ) (w : Scratch) (list : List ℕ) → Enters how s l t w list → (i : ℕ) → i < first_lookup how s t
    → (head_of (store_entered how s l t w list) i ≡ head_of (store_split how s t) i) × (tail_of (store_entered how s l t w list) i ≡ tail_of (store_split how s t) i)
    × (bytes_of (store_entered how s l t w list) i ≡ bytes_of (store_split how s t) i)

-- the kept table and the new ones are as the split wrote them, links too
abbrev pub TablesAsSplit : Type 0
TablesAsSplit =
    (how : Settings) (s : Store) (l t : ℕ) (w : Scratch) (list : List ℕ) → Enters how s l t w list → (u : ℕ) → among u (resulting how s t) ≡ true
    → (bytes_of (store_entered how s l t w list) u ≡ bytes_of (store_split how s t) u)
    × ((q : ℕ) → child_at (store_entered how s l t w list) u q ≡ child_at (store_split how s t) u q)

-- "Each table with its own parts is what writing its range afresh would give."
abbrev pub EnteredAfresh : Type 0
EnteredAfresh =
    (how : Settings) (s : Store) (l t : ℕ) (w : Scratch) (list : List ℕ) → Octets s → Enters how s l t w list
    → AllAfresh s t (store_entered how s l t w list) (cut_places how s t)

-- ---- the new lookups

-- "write each .. as a new object (in list order, each once, its count set, offset bytes zero, the rest copied), with the new tables directly after each listing":
-- lookup m of those that are rewritten becomes new lookup m; a slot that led to a rewritten lookup leads to the new one
abbrev pub LookupsWritten : Type 0
LookupsWritten =
    (how : Settings) (s : Store) (l t : ℕ) (w : Scratch) (list : List ℕ) → Enters how s l t w list → (m : ℕ) → m < length (rewritten s l t)
    → (bytes_of (store_entered how s l t w list) (first_lookup how s t + m)
    ≡ new_lookup (bytes_of s (get_or (rewritten s l t) m 0)) (length (new_slots s t (tables_new how s t) (get_or (rewritten s l t) m 0))))
    × (subtable_slots (store_entered how s l t w list) (first_lookup how s t + m)
    ≡ map (lead_then how s l t) (new_slots s t (tables_new how s t) (get_or (rewritten s l t) m 0)))

-- the list leads to them: where it led to a rewritten lookup it leads to the new one of it, elsewhere it leads where it led
abbrev pub ListLeads : Type 0
ListLeads =
    (how : Settings) (s : Store) (l t : ℕ) (w : Scratch) (list : List ℕ) → Enters how s l t w list
    → (bytes_of (store_entered how s l t w list) l ≡ bytes_of s l) × ((q : ℕ) → child_at (store_entered how s l t w list) l q ≡ lead_then how s l t (child_at s l q))

-- ---- the promise

-- of a lookup p: "all its subtables read without refusal"
abbrev pub AllRead : Store → ℕ → Type 0
AllRead s p = (u : ℕ) → among u (subtables s p) ≡ true → (a b : ℕ) → (pair_call s u a b).answer ≡ 0

-- "no other reaches the split one"
abbrev pub NoOtherReaches : Store → ℕ → ℕ → Type 0
NoOtherReaches s t p = (u : ℕ) → among u (subtables s p) ≡ true → (u ≡ t → ⊥) → reaches s u t ≡ false

-- "applying a type 2 lookup of the list, as the list now leads to it, to any pair gives what it gave before": p is what the list leads to at q
abbrev pub LookupsKept : Type 0
LookupsKept =
    (how : Settings) (s : Store) (l t : ℕ) (w : Scratch) (list : List ℕ) → Octets s → Enters how s l t w list
    → (q p : ℕ) → child_at s l q ≡ Some p → lookup_type (bytes_of s p) ≡ pair_type → AllRead s p → NoOtherReaches s t p
    → (p' : ℕ) × (child_at (store_entered how s l t w list) l q ≡ Some p') × (lookup_type (bytes_of (store_entered how s l t w list) p') ≡ pair_type)
    × ((a b : ℕ) → applied (store_entered how s l t w list) p' a b ≡ applied s p a b)

-- ---- 3: "splitting again under the same edition", scratch being enough, adds and changes nothing

abbrev pub AgainNoEntry : Type 0
AgainNoEntry =
    (how : Settings) (s : Store) (l t : ℕ) (w : Scratch) (list : List ℕ) → Octets s → Enters how s l t w list
    → (v : Scratch) (list' : List ℕ) → scratch_short (store_entered how s l t w list) t v ≡ false
    → ((split_call how (store_entered how s l t w list) t v list').answer ≡ 0)
    × Unchanged (store_entered how s l t w list) v list' (split_call how (store_entered how s l t w list) t v list')

-- ---- what a call leaves can be lent again

-- the store stays sound
abbrev pub StaysSoundEntered : Type 0
StaysSoundEntered =
    (how : Settings) (s : Store) (l t : ℕ) (w : Scratch) (list : List ℕ) → Enters how s l t w list → sound (store_entered how s l t w list) ≡ true

-- the data stay bytes
abbrev pub StaysOctetsEntered : Type 0
StaysOctetsEntered =
    (how : Settings) (s : Store) (l t : ℕ) (w : Scratch) (list : List ℕ) → Octets s → Enters how s l t w list → Octets (store_entered how s l t w list)

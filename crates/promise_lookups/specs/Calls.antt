-- The demands, of what a call leaves in the caller's buffers: it has the settings how, s, l, t, w and list are what it was lent, and o is what it answers and
-- what then stands there. Assumes nothing.
use Rattle.std.specs.Prelude.{ℕ, ◌+◌, ◌<◌, ◌≡◌, true, false, List, map, length, get_or, Some}
use Rattle.folds.specs.Lists.{put}
use Rattle.folds.specs.Ascending.{ascending}
use Rattle.ot_layouts.specs.Lookup.{lookup_type, pair_type}
use Rattle.store_rules.specs.Store.{Store, sound, bytes_of, child_at, orders_of, head_of, tail_of}
use Rattle.call_rules.specs.declared.Settings.{Settings}
use Rattle.call_rules.specs.Scratch.{Scratch}
use Rattle.call_rules.specs.Outcomes.{Outcome}
use Rattle.pair_rules.specs.Table.{cut_places}
use Rattle.pair_rules.specs.Calls.{split_call, scratch_short}
use Rattle.lookup_rules.specs.Listed.{subtable_slots, rewritten}
use Rattle.lookup_rules.specs.Written.{new_slots, new_lookup, lookup_store}
use Rattle.lookup_rules.specs.Applied.{applied}
use Rattle.lookup_rules.specs.Calls.{lookup_cases}
use Rattle.promise_calls.specs.Unchanged.{Unchanged, Octets}
use Rattle.promise_calls.specs.Keeps.{CallKeeps}
use Rattle.promise_pairs.specs.Demands.{AllAfresh}
use Rattle.promise_lookups.specs.Demands.{tables_new, first_lookup, number_then, lead_then, AllRead, NoOtherReaches}
use Rattle.promise_lookups.specs.Exactly.{MayEnter}

-- after new tables were entered
pub record EnterLeaves (how : Settings) (s : Store) (l t : ℕ) (list : List ℕ) (o : Outcome) : Type 0 where
  pub answers : o.answer ≡ 0
  pub count : o.count ≡ length (cut_places how s t)
  pub tables : o.list ≡ put list 0 (tables_new how s t)
  -- what is written, and that all else stays
  pub written : o.store ≡ lookup_store s l t (cut_places how s t)
  -- "applying a type 2 lookup of the list, as the list now leads to it, to any pair gives what it gave before"
  pub lookups : (q p : ℕ) → child_at s l q ≡ Some p → lookup_type (bytes_of s p) ≡ pair_type → AllRead s p → NoOtherReaches s t p
      → (p' : ℕ) × (child_at o.store l q ≡ Some p') × (lookup_type (bytes_of o.store p') ≡ pair_type)
      × ((a b : ℕ) → applied o.store p' a b ≡ applied s p a b)
  -- each new lookup, "in list order, each once, its count set, offset bytes zero, the rest copied", "the new tables directly after each listing"
  pub new : (m : ℕ) → m < length (rewritten s l t)
      → (bytes_of o.store (first_lookup how s t + m)
      ≡ new_lookup (bytes_of s (get_or (rewritten s l t) m 0)) (length (new_slots s t (tables_new how s t) (get_or (rewritten s l t) m 0))))
      × (subtable_slots o.store (first_lookup how s t + m) ≡ map (lead_then how s l t) (new_slots s t (tables_new how s t) (get_or (rewritten s l t) m 0)))
  -- "Each table with its own parts is what writing its range afresh would give."
  pub afresh : AllAfresh s t o.store (cut_places how s t)
  -- every other old object keeps its bytes, and its links but for redirected children
  pub others : (i : ℕ) → i < s.object_count → (i ≡ t → ⊥)
      → (head_of o.store i ≡ head_of s i) × (tail_of o.store i ≡ tail_of s i)
      × (bytes_of o.store i ≡ bytes_of s i) × ((q : ℕ) → child_at o.store i q ≡ lead_then how s l t (child_at s i q))
  -- "request 3 redirects both kinds": its order-only links lead to what their children became, in the order of rows
  pub orders : (i : ℕ) → orders_of o.store i ≡ ascending (map (number_then how s l t) (orders_of s i))
  -- "Splitting the kept table again adds and changes nothing.", "under the same edition"
  pub again : (v : Scratch) (list' : List ℕ) → scratch_short o.store t v ≡ false
      → ((split_call how o.store t v list').answer ≡ 0) × Unchanged o.store v list' (split_call how o.store t v list')
  -- the store can be lent again
  pub sounds : sound o.store ≡ true
  pub octets : Octets o.store

-- a call that enters new tables in lookups
abbrev pub LookupKeeps : Settings → Store → ℕ → ℕ → Scratch → List ℕ → Outcome → Type 0
LookupKeeps how s l t w list = CallKeeps (lookup_cases how s l t w list) (MayEnter how s l t w list) (EnterLeaves how s l t list) s w list

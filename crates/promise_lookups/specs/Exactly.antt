-- When a call enters new tables, and which number it answers: exactly if document 02 says so. Assumes nothing.
use Rattle.std.specs.Prelude.{ℕ, ◌+◌, ◌<◌, ◌≤◌, ◌≡◌, false, List, length, get_or}
use Rattle.folds.specs.Folds.{sum}
use Rattle.folds.specs.Lists.{join}
use Rattle.store_rules.specs.Store.{Store, object_room, link_room, byte_room}
use Rattle.call_rules.specs.declared.Settings.{Settings}
use Rattle.call_rules.specs.Scratch.{Scratch}
use Rattle.pair_rules.specs.Table.{cut_places, shape}
use Rattle.pair_rules.specs.Written.{new_of, need_objects, need_links}
use Rattle.lookup_rules.specs.Listed.{rewritten, bad_list}
use Rattle.lookup_rules.specs.Written.{new_slots, new_lookups, links_needed}
use Rattle.lookup_rules.specs.Calls.{lookup_cases, lookup_call}
use Rattle.promise_calls.specs.Given.{AnswersExactly}
use Rattle.promise_pairs.specs.Exactly.{Checked}
use Rattle.promise_lookups.specs.Demands.{Enters, tables_new}

-- what has to hold: 12, 1 to 7 and 11 do not apply, nor 2 and 9 to the list; there is a cut, no new lookup has too many subtables, and room is enough for both
pub record MayEnter (how : Settings) (s : Store) (l t : ℕ) (w : Scratch) (list : List ℕ) : Type 0 where
  pub checked : Checked how s t w
  pub used : l < s.object_count
  pub listed : bad_list s l t ≡ false
  pub cuts : 0 < length (cut_places how s t)
  -- "more than 65,535 subtables in one" does not hold
  pub counts : (m : ℕ) → m < length (rewritten s l t) → length (new_slots s t (tables_new how s t) (get_or (rewritten s l t) m 0)) ≤ 65535
  -- "8 counts split and lookups together"
  pub objects : s.object_count + (need_objects (shape s t) (length (cut_places how s t)) + length (rewritten s l t)) ≤ object_room (length s.objects)
  pub links : s.link_count
      + (need_links (shape s t) (length (cut_places how s t))
      + sum (λ m. links_needed s t (tables_new how s t) (get_or (rewritten s l t) m 0)) (length (rewritten s l t)))
      ≤ link_room (length s.links)
  pub bytes : s.byte_count + (length (join (new_of s t (cut_places how s t))) + length (join (new_lookups s t (tables_new how s t) (rewritten s l t))))
      ≤ byte_room (length s.bytes)
  pub entries : length (cut_places how s t) ≤ length list

-- the answer is 0 with new tables exactly then
abbrev pub EntersExactly : Type 0
EntersExactly =
    (how : Settings) (s : Store) (l t : ℕ) (w : Scratch) (list : List ℕ)
    → (Enters how s l t w list → MayEnter how s l t w list) × (MayEnter how s l t w list → Enters how s l t w list)

-- "Given exactly if (first that applies, in this order)"
abbrev pub LookupAnswersExactly : Type 0
LookupAnswersExactly =
    (how : Settings) (s : Store) (l t : ℕ) (w : Scratch) (list : List ℕ)
    → AnswersExactly (lookup_cases how s l t w list) (lookup_call how s l t w list).answer

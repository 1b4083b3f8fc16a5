-- A lookup list in a store: the lookups that it leads to, which of them are to be written anew, and 9. Assumes nothing.
use Rattle.std.specs.Prelude.{ℕ, ◌+◌, ◌*◌, Bool, false, not, ◌&&◌, ◌||◌, List, [], ◌∷◌, length, get_or, eqb, Option, Some, None}
use Rattle.folds.specs.Folds.{all, upto}
use Rattle.folds.specs.Lists.{sift, is_empty}
use Rattle.ot_layouts.specs.Lookup.{
  lookup_count,
  list_header,
  list_exact,
  is_list_slot,
  lookup_type,
  pair_type,
  subtable_count,
  lookup_header,
  lookup_exact,
  is_subtable_slot,
}
use Rattle.store_rules.specs.Store.{Store, bytes_of, child_at, all_at}

-- ---- slots

-- what n slots of object p lead to, the first at a; one without a link leads nowhere, and is no fault
unfoldable pub slots_at : Store → ℕ → ℕ → ℕ → List (Option ℕ)
slots_at s p a n = upto (λ i. child_at s p (a + 2 * i)) n

-- what the slots with a link lead to, in order
unfoldable pub linked_in : List (Option ℕ) → List ℕ
linked_in [] = []
linked_in (Some c ∷ os) = c ∷ linked_in os
linked_in (None ∷ os) = linked_in os

-- the slot leads to t
abbrev pub leads_to : ℕ → Option ℕ → Bool
leads_to t (Some c) = eqb c t
leads_to t None = false

-- one of the slots leads to t
unfoldable pub any_leads : ℕ → List (Option ℕ) → Bool
any_leads t [] = false
any_leads t (o ∷ os) = leads_to t o || any_leads t os

-- the slots of list l
unfoldable pub list_slots : Store → ℕ → List (Option ℕ)
list_slots s l = slots_at s l list_header (lookup_count (bytes_of s l))

-- the subtable slots of lookup p
unfoldable pub subtable_slots : Store → ℕ → List (Option ℕ)
subtable_slots s p = slots_at s p lookup_header (subtable_count (bytes_of s p))

-- ---- lookups of a list

-- "each once": of equal numbers the first stays
unfoldable pub each_once : List ℕ → List ℕ
each_once [] = []
each_once (x ∷ xs) = x ∷ sift (λ y. not (eqb x y)) (each_once xs)

-- the lookups that the list leads to, "in list order, each once"
unfoldable pub lookups_of : Store → ℕ → List ℕ
lookups_of s l = each_once (linked_in (list_slots s l))

-- "type 2"
abbrev pub of_pairs : Store → ℕ → Bool
of_pairs s p = eqb (lookup_type (bytes_of s p)) pair_type

-- lookup p "names" subtable t: a link at one of its slots leads there
abbrev pub names : Store → ℕ → ℕ → Bool
names s t p = any_leads t (subtable_slots s p)

-- "each type 2 lookup of the list that names it .. (in list order, each once ..)"
unfoldable pub rewritten : Store → ℕ → ℕ → List ℕ
rewritten s l t = sift (λ p. of_pairs s p && names s t p) (lookups_of s l)

-- ---- 9

-- the list has "OT's exact length", and no "link at no slot"
unfoldable pub good_list : Store → ℕ → Bool
good_list s l = list_exact (bytes_of s l) && all_at s l (is_list_slot (bytes_of s l))

-- "or a lookup of it"
unfoldable pub good_lookup : Store → ℕ → Bool
good_lookup s p = lookup_exact (bytes_of s p) && all_at s p (is_subtable_slot (bytes_of s p))

-- of each that the list leads to, whatever its type
unfoldable pub good_lookups : Store → List ℕ → Bool
good_lookups s ps = all (λ m. good_lookup s (get_or ps m 0)) (length ps)

-- 9: "the list or a lookup of it has not OT's exact length or has a link at no slot, or no type 2 lookup names the subtable"
unfoldable pub bad_list : Store → ℕ → ℕ → Bool
bad_list s l t = not (good_list s l && good_lookups s (lookups_of s l)) || is_empty (rewritten s l t)

-- all of this file's definitions, for checks that compute
unfoldable pub computes : Unit {0}
unfolding slots_at linked_in any_leads list_slots subtable_slots each_once lookups_of rewritten good_list good_lookup good_lookups bad_list
computes = tt

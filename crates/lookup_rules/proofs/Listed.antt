-- 9, test by test; and where it does not apply, what holds of the lookups of the list and of those that are rewritten. Assumes nothing.
use Rattle.std.specs.Prelude.{Option, Some, None}
use Prim.Native.Nat.{ℕ, ◌+◌, ◌*◌, ◌<◌, ◌≤◌}
use mathlib.Core.Path.{◌≡◌, refl, sym, ap, ap₂, subst, ◌∙◌}
use mathlib.Core.Bool.{Bool, true, false, not, ◌&&◌, ◌||◌}
use mathlib.Core.List.{List}
use native.Mathlib.Omega.{arith}
use lib.ListN.{length, get_or}
use borrow.Author.Tests.{not-false}
use Rattle.folds.specs.Folds.{all, upto}
use Rattle.folds.specs.Lists.{among, sift, is_empty}
use Rattle.folds.proofs.Tests.{and_both, and_intro, or_none}
use Rattle.folds.proofs.Folds.{length-upto}
use Rattle.folds.proofs.FromTheFront.{upto-at, upto_get_d}
use Rattle.folds.proofs.Moved.{sift-both}
use Rattle.folds.proofs.Each.{Each, each_at, each_among, each_sift, among_each}
use Rattle.ot_layouts.specs.Lookup.{lookup_count, list_header, list_exact, is_list_slot, subtable_count, lookup_header, lookup_exact, is_subtable_slot}
use Rattle.store_rules.specs.Store.{Store, bytes_of, child_at, all_at}
use Rattle.store_rules.proofs.Sound.{Fits}
use Rattle.store_rules.proofs.Slots.{child_stands}
use Rattle.store_rules.proofs.Lookups.{child_used_lem}
use Rattle.lookup_rules.specs.Listed.{
  slots_at,
  linked_in,
  list_slots,
  subtable_slots,
  each_once,
  lookups_of,
  of_pairs,
  names,
  rewritten,
  good_list,
  good_lookup,
  good_lookups,
  bad_list,
}
use Rattle.lookup_rules.proofs.Slots.{among-sift, among-once, each_once_lem, each_linked, among-slots, leads_slot}
use Rattle.lookup_rules.proofs.Once.{once_few, tested, tested_each, tested_once, tested_upto, none_picked}

-- a lookup that 9 does not refuse has "OT's exact length"
pub good_exact : (s : Store) (p : ℕ) → good_lookup s p ≡ true → lookup_exact (bytes_of s p) ≡ true
unfolding good_lookup
good_exact s p h = (and_both (lookup_exact (bytes_of s p)) (all_at s p (is_subtable_slot (bytes_of s p))) h).0

-- where a lookup names t, at which position
pub naming_slot : (s : Store) (t p : ℕ) → names s t p ≡ true → (q : ℕ) × (child_at s p q ≡ Some t)
unfolding subtable_slots slots_at
naming_slot s t p n =
    let f : ℕ → Option ℕ = λ i. child_at s p (lookup_header + 2 * i) in
    let count = subtable_count (bytes_of s p) in
    let (i, a, b) = leads_slot t (subtable_slots s p) n in
    (lookup_header + 2 * i, sym (upto-at f count i None (omega (arith, length-upto f count))) ∙ b)

-- a lookup of the list that is rewritten
pub record Named (s : Store) (t p : ℕ) : Type 0 where
  pub used : p < s.object_count
  pub good : good_lookup s p ≡ true
  pub pairs : of_pairs s p ≡ true
  pub naming : names s t p ≡ true

module _ (s : Store) (l t : ℕ) where
  -- ---- 9

  pub list_unfit : good_list s l ≡ false → false ≡ not (bad_list s l t)
  unfolding bad_list
  list_unfit h = rw h

  -- where the list fits, the lookups decide, each looked at once or as often as it is listed
  pub lookups_decide : good_list s l ≡ true → (f : ℕ → ℕ) (n : ℕ) → linked_in (list_slots s l) ≡ upto f n
      → (all (λ j. good_lookup s (f j)) n && not (all (λ j. not (of_pairs s (f j) && names s t (f j))) n)) ≡ not (bad_list s l t)
  unfolding bad_list good_lookups lookups_of rewritten
  lookups_decide good f n e =
      let xs = linked_in (list_slots s l) in
      let p : ℕ → Bool = λ q. of_pairs s q && names s t q in
      let fit : good_lookups s (each_once xs) ≡ all (λ j. good_lookup s (f j)) n
      = tested_once (good_lookup s) xs ∙ ap (tested (good_lookup s)) e ∙ tested_upto (good_lookup s) f n in
      let name : is_empty (sift p (each_once xs)) ≡ all (λ j. not (p (f j))) n
      = none_picked p (each_once xs) ∙ tested_once (λ q. not (p q)) xs ∙ ap (tested (λ q. not (p q))) e ∙ tested_upto (λ q. not (p q)) f n in
      sym (ap (λ (g : Bool). not (not (g && good_lookups s (each_once xs)) || is_empty (sift p (each_once xs)))) good
      ∙ both (good_lookups s (each_once xs)) (is_empty (sift p (each_once xs)))
      ∙ ap₂ (λ (x y : Bool). x && not y) fit name)
    where
      both : (x y : Bool) → not (not (true && x) || y) ≡ (x && not y)
      both true y = refl
      both false y = refl

  -- ---- those that are rewritten are few: each is an object in use

  pub rewritten_few : Fits s → length (rewritten s l t) ≤ s.object_count
  unfolding rewritten lookups_of list_slots slots_at
  rewritten_few fit =
      let xs = linked_in (list_slots s l) in
      let used = each_linked (λ p. p < s.object_count) (λ i. child_at s l (list_header + 2 * i)) (lookup_count (bytes_of s l))
      (λ i c k e. child_used_lem s l fit (list_header + 2 * i) c e) in
      let few : length (each_once xs) ≤ s.object_count
      = subst (λ (x : List ℕ). length (each_once x) ≤ s.object_count) (upto_get_d xs 0)
      (once_few (λ m. get_or xs m 0) s.object_count (length xs) (λ j h. each_at (λ p. p < s.object_count) xs used j h 0)) in
      omega (arith, sift-both (λ p. of_pairs s p && names s t p) (each_once xs))

  -- ---- it does not apply

  module _ (fine : bad_list s l t ≡ false) where
    pub list_fits_lem : (good_list s l ≡ true) × (good_lookups s (lookups_of s l) ≡ true)
    unfolding bad_list
    list_fits_lem =
        let (a, b) = or_none (not (good_list s l && good_lookups s (lookups_of s l))) (is_empty (rewritten s l t)) fine in
        and_both (good_list s l) (good_lookups s (lookups_of s l)) (not-false _ a)

    -- a link of the list stands at a slot of it
    pub list_leads : (q p : ℕ) → child_at s l q ≡ Some p → among p (lookups_of s l) ≡ true
    unfolding good_list lookups_of list_slots is_list_slot
    list_leads q p e =
        let b = bytes_of s l in
        let (exactly, stand) = and_both (list_exact b) (all_at s l (is_list_slot b)) list_fits_lem.0 in
        among-once p (linked_in (list_slots s l)) (among-slots s l list_header (lookup_count b) q p (child_stands s l (is_list_slot b) stand q p e) e)

    pub listed_good : (p : ℕ) → among p (lookups_of s l) ≡ true → good_lookup s p ≡ true
    unfolding good_lookups
    listed_good p h = each_among (λ p. good_lookup s p ≡ true) (lookups_of s l) p (tested_each (good_lookup s) (lookups_of s l) list_fits_lem.1) h

    pub listed_used : Fits s → (p : ℕ) → among p (lookups_of s l) ≡ true → p < s.object_count
    unfolding lookups_of list_slots slots_at
    listed_used fit p h =
        each_among (λ p. p < s.object_count) (lookups_of s l) p
        (each_once_lem (λ p. p < s.object_count) (linked_in (list_slots s l))
        (each_linked (λ p. p < s.object_count) (λ i. child_at s l (list_header + 2 * i)) (lookup_count (bytes_of s l))
        (λ i c k e. child_used_lem s l fit (list_header + 2 * i) c e)))
        h

    -- a type 2 lookup of the list that names the table is rewritten
    pub named_among : (p : ℕ) → among p (lookups_of s l) ≡ true → of_pairs s p ≡ true → names s t p ≡ true → among p (rewritten s l t) ≡ true
    unfolding rewritten
    named_among p h two n =
        among-sift (λ p. of_pairs s p && names s t p) p (lookups_of s l) h (and_intro (of_pairs s p) (names s t p) two n)

    -- and each that is rewritten is one
    pub each_named : Fits s → Each (Named s t) (rewritten s l t)
    unfolding rewritten
    each_named fit =
        each_sift (λ p. among p (lookups_of s l) ≡ true) (Named s t) (λ p. of_pairs s p && names s t p) one (lookups_of s l)
        (among_each (λ p. among p (lookups_of s l) ≡ true) (lookups_of s l) (λ p h. h))
      where
        one : (p : ℕ) → among p (lookups_of s l) ≡ true → (of_pairs s p && names s t p) ≡ true → Named s t p
        one p h e =
            let (a, b) = and_both (of_pairs s p) (names s t p) e in
            record { used = listed_used fit p h; good = listed_good p h; pairs = a; naming = b }

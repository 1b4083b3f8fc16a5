-- The next call that enters new tables in the lookups of a kept list: it is asked what it was asked before, but for 6 and 8. Assumes nothing.
use Rattle.std.specs.Prelude.{Option, Some, None}
use Prim.Native.Nat.{ℕ, suc, ◌+◌, ◌*◌, ◌<◌}
use mathlib.Core.Path.{◌≡◌, refl, sym, ap, ap₂, ◌∙◌}
use mathlib.Core.Bool.{Bool, true, false, cond, not, ◌&&◌, ◌||◌}
use mathlib.Core.List.{List, [], ◌∷◌, ◌++◌, map, append_assoc}
use native.Mathlib.Omega.{arith}
use lib.ListN.{length, get_or, length-append, get_or-map}
use lib.Dec.{leb, eqb}
use Rattle.folds.specs.Folds.{all, sum, or_else, upto}
use Rattle.folds.specs.Lists.{join, sift, is_empty}
use Rattle.folds.proofs.Folds.{upto-same}
use Rattle.folds.proofs.FromTheFront.{sum_same}
use Rattle.folds.proofs.Failing.{all_same}
use Rattle.folds.proofs.Moved.{length-map, sift-map, sift-same}
use Rattle.folds.proofs.Each.{Each, each_at, each_then, each_sift}
use Rattle.ot_layouts.specs.Lookup.{lookup_count, list_header, list_exact, is_list_slot, lookup_type, pair_type, subtable_count, lookup_header, lookup_exact, is_subtable_slot}
use Rattle.store_rules.specs.Store.{Store, bytes_of, all_at}
use Rattle.store_rules.proofs.Sound.{Fits}
use Rattle.store_rules.proofs.Lookups.{mapped}
use Rattle.call_rules.specs.declared.Answer.TheVariants.{Unsound, NoTable, BadList, ManySubtables}
use Rattle.call_rules.specs.declared.Settings.{Settings}
use Rattle.call_rules.specs.Answers.{Case, case, first_case}
use Rattle.call_rules.specs.Settings.{settings_cases}
use Rattle.call_rules.specs.Scratch.{Scratch}
use Rattle.call_rules.specs.Needs.{together}
use Rattle.call_rules.proofs.Cases.{first_append, first_either}
use Rattle.compact_rules.specs.Kept.{renumber}
use Rattle.compact_rules.specs.Compacted.{compacted}
use Rattle.compact_rules.proofs.Numbers.{number_least, number_same}
use Rattle.compact_rules.proofs.Kept.{Keeps}
use Rattle.compact_rules.proofs.Objects.{bytes_kept}
use Rattle.compact_rules.proofs.Links.{links_from_kept}
use Rattle.pair_rules.specs.Table.{cut_places}
use Rattle.pair_rules.specs.Written.{new_tables}
use Rattle.pair_rules.specs.Calls.{read_cases, cut_cases}
use Rattle.pair_rules.proofs.RenumberedReading.{checks_same}
use Rattle.lookup_rules.specs.Listed.{
  slots_at,
  linked_in,
  leads_to,
  any_leads,
  list_slots,
  subtable_slots,
  each_once,
  lookups_of,
  of_pairs,
  names,
  rewritten,
  good_list,
  good_lookup,
  good_lookups,
  bad_list,
}
use Rattle.lookup_rules.specs.Written.{entered, new_slots, new_lookup, new_lookups, count_fits, counts_fit, listings, links_needed, lookups_need, needed_in_all}
use Rattle.lookup_rules.specs.Calls.{list_cases, enter_cases, lookup_cases, lookup_call}
use Rattle.lookup_rules.proofs.Slots.{each_once_lem, linked_mapped}
use Rattle.promise_compaction.specs.Rests.{freed, short_having}
use Rattle.promise_compaction.specs.NextSplits.{NextCall}
use Rattle.promise_compaction.proofs.Readings.{same_under, all-at_kept, slots_then, linked_kept, subtables_then}
use Rattle.promise_compaction.proofs.Rests.{room_freed}
use Rattle.promise_compaction.proofs.NextCall.{no_eight, Asking, cases_of, AskedAlike, OneEight, next_call}
use Rattle.promise_compaction.proofs.NextSplits.{settings_first, pair_asking, pair_tables_lem, pair_alike}

-- ---- lists of what is kept

module _ (keep : ℕ → Bool) where
  abbrev new : ℕ → ℕ
  new = renumber keep

  abbrev Kept : ℕ → Type 0
  Kept i = keep i ≡ true

  once_then : (xs : List ℕ) → Each Kept xs → each_once (map new xs) ≡ map new (each_once xs)
  unfolding each_once
  once_then [] a = refl
  once_then (x ∷ xs) a =
      ap (λ (ys : List ℕ). new x ∷ ys)
      (ap (sift (λ y. not (eqb (new x) y))) (once_then xs a.1)
      ∙ sift-map new (λ y. not (eqb (new x) y)) (each_once xs)
      ∙ ap (map new)
      (sift-same (λ y. not (eqb (new x) (new y))) (λ y. not (eqb x y)) (each_once xs)
      (each_then Kept (λ y. not (eqb (new x) (new y)) ≡ not (eqb x y)) (λ y q. ap not (number_same keep x y a.0 q)) (each_once xs) (each_once_lem Kept xs a.1))))

  -- slots, of which those with a link lead to what is kept
  module _ (t : ℕ) (h : Kept t) where
    leads_then : (o : Option ℕ) → Each Kept (linked_in (o ∷ [])) → leads_to (new t) (mapped new o) ≡ leads_to t o
    unfolding linked_in
    leads_then (Some c) a = number_same keep c t a.0 h
    leads_then None a = refl

    split_kept : (o : Option ℕ) (os : List (Option ℕ)) → Each Kept (linked_in (o ∷ os)) → Each Kept (linked_in (o ∷ [])) × Each Kept (linked_in os)
    unfolding linked_in
    split_kept (Some c) os a = ((a.0, tt), a.1)
    split_kept None os a = (tt, a)

    any_then : (os : List (Option ℕ)) → Each Kept (linked_in os) → any_leads (new t) (map (mapped new) os) ≡ any_leads t os
    unfolding any_leads
    any_then [] a = refl
    any_then (o ∷ os) a = let (x, y) = split_kept o os a in ap₂ (λ (b c : Bool). b || c) (leads_then o x) (any_then os y)

    -- as many slots where as many tables are entered
    entered_then_lem : (us vs : List ℕ) → length vs ≡ length us → (os : List (Option ℕ)) → Each Kept (linked_in os)
        → length (entered (new t) vs (map (mapped new) os)) ≡ length (entered t us os)
    unfolding entered
    entered_then_lem us vs n [] a = refl
    entered_then_lem us vs n (o ∷ os) a =
        let (x, y) = split_kept o os a in
        ap (λ (b : Bool). suc (length (cond b (map Some vs ++ entered (new t) vs (map (mapped new) os)) (entered (new t) vs (map (mapped new) os))))) (leads_then o x)
        ∙ go (leads_to t o) (entered_then_lem us vs n os y)
      where
        go : (b : Bool) → length (entered (new t) vs (map (mapped new) os)) ≡ length (entered t us os)
            → suc (length (cond b (map Some vs ++ entered (new t) vs (map (mapped new) os)) (entered (new t) vs (map (mapped new) os))))
            ≡ suc (length (cond b (map Some us ++ entered t us os) (entered t us os)))
        go true i =
            omega (
              arith,
              length-append (map Some vs) (entered (new t) vs (map (mapped new) os)),
              length-append (map Some us) (entered t us os),
              length-map Some vs,
              length-map Some us,
            )
        go false i = ap suc i

    listings_then : (os : List (Option ℕ)) → Each Kept (linked_in os) → listings (new t) (map (mapped new) os) ≡ listings t os
    unfolding listings sift
    listings_then [] a = refl
    listings_then (o ∷ os) a =
        let (x, y) = split_kept o os a in
        ap (λ (b : Bool). length (cond b (mapped new o ∷ sift (leads_to (new t)) (map (mapped new) os)) (sift (leads_to (new t)) (map (mapped new) os)))) (leads_then o x)
        ∙ go (leads_to t o) (listings_then os y)
      where
        go : (b : Bool) → length (sift (leads_to (new t)) (map (mapped new) os)) ≡ length (sift (leads_to t) os)
            → length (cond b (mapped new o ∷ sift (leads_to (new t)) (map (mapped new) os)) (sift (leads_to (new t)) (map (mapped new) os)))
            ≡ length (cond b (o ∷ sift (leads_to t) os) (sift (leads_to t) os))
        go true i = ap suc i
        go false i = i

empty_map : (f : ℕ → ℕ) (xs : List ℕ) → is_empty (map f xs) ≡ is_empty xs
unfolding is_empty
empty_map f [] = refl
empty_map f (x ∷ xs) = refl

module _ (s : Store) (f : Fits s) (keep : ℕ → Bool) (k : Keeps s keep) where
  abbrev left : Store
  left = compacted s keep

  abbrev then : ℕ → ℕ
  then = renumber keep

  -- a number of a list, under its new number
  number_at : (ps : List ℕ) (m : ℕ) → get_or (map then ps) m 0 ≡ then (get_or ps m 0)
  number_at ps m = ap (get_or (map then ps) m) (sym (number_least keep)) ∙ get_or-map then ps m 0

  kept_at : (ps : List ℕ) → Each (Kept keep) ps → (m : ℕ) → m < length ps → keep (get_or ps m 0) ≡ true
  kept_at ps a m l = each_at (Kept keep) ps a m l 0

  -- ---- 9

  lookups_then : (l : ℕ) → keep l ≡ true → lookups_of left (then l) ≡ map then (lookups_of s l)
  unfolding lookups_of list_slots
  lookups_then l h =
      let n = lookup_count (bytes_of s l) in
      ap (λ (b : List ℕ). each_once (linked_in (slots_at left (then l) list_header (lookup_count b)))) (bytes_kept s f keep k l h)
      ∙ ap (λ (os : List (Option ℕ)). each_once (linked_in os)) (slots_then s f keep k l list_header n h)
      ∙ ap each_once (linked_mapped then (slots_at s l list_header n))
      ∙ once_then keep (linked_in (slots_at s l list_header n)) (linked_kept s f keep k l list_header n h)

  lookups_kept : (l : ℕ) → keep l ≡ true → Each (Kept keep) (lookups_of s l)
  unfolding lookups_of list_slots
  lookups_kept l h = each_once_lem (Kept keep) _ (linked_kept s f keep k l list_header (lookup_count (bytes_of s l)) h)

  good_list_then : (l : ℕ) → keep l ≡ true → good_list left (then l) ≡ good_list s l
  unfolding good_list
  good_list_then l h =
      ap (λ (b : List ℕ). list_exact b && all_at left (then l) (is_list_slot b)) (bytes_kept s f keep k l h)
      ∙ ap (λ (x : Bool). list_exact (bytes_of s l) && x) (all-at_kept s f keep k l (is_list_slot (bytes_of s l)) h)

  good_lookup_then : (p : ℕ) → keep p ≡ true → good_lookup left (then p) ≡ good_lookup s p
  unfolding good_lookup
  good_lookup_then p h =
      ap (λ (b : List ℕ). lookup_exact b && all_at left (then p) (is_subtable_slot b)) (bytes_kept s f keep k p h)
      ∙ ap (λ (x : Bool). lookup_exact (bytes_of s p) && x) (all-at_kept s f keep k p (is_subtable_slot (bytes_of s p)) h)

  good_lookups_then : (ps : List ℕ) → Each (Kept keep) ps → good_lookups left (map then ps) ≡ good_lookups s ps
  unfolding good_lookups
  good_lookups_then ps a =
      ap (all (λ m. good_lookup left (get_or (map then ps) m 0))) (length-map then ps)
      ∙ all_same _ _ (length ps) (λ m l. ap (good_lookup left) (number_at ps m) ∙ good_lookup_then (get_or ps m 0) (kept_at ps a m l))

  module _ (t : ℕ) (ht : keep t ≡ true) where
    -- the subtables that a kept lookup leads to are kept
    subtables_kept : (p : ℕ) → keep p ≡ true → Each (Kept keep) (linked_in (subtable_slots s p))
    unfolding subtable_slots
    subtables_kept p h = linked_kept s f keep k p lookup_header (subtable_count (bytes_of s p)) h

    names_then : (p : ℕ) → keep p ≡ true → (of_pairs left (then p) && names left (then t) (then p)) ≡ (of_pairs s p && names s t p)
    names_then p h =
        ap₂ (λ (b : List ℕ) (os : List (Option ℕ)). eqb (lookup_type b) pair_type && any_leads (then t) os) (bytes_kept s f keep k p h) (subtables_then s f keep k p h)
        ∙ ap (λ (x : Bool). of_pairs s p && x) (any_then keep t ht (subtable_slots s p) (subtables_kept p h))

    rewritten_then : (l : ℕ) → keep l ≡ true → rewritten left (then l) (then t) ≡ map then (rewritten s l t)
    unfolding rewritten
    rewritten_then l h =
        ap (sift (λ p. of_pairs left p && names left (then t) p)) (lookups_then l h)
        ∙ sift-map then (λ p. of_pairs left p && names left (then t) p) (lookups_of s l)
        ∙ ap (map then)
        (sift-same _ (λ p. of_pairs s p && names s t p) (lookups_of s l)
        (each_then (Kept keep) (λ p. (of_pairs left (then p) && names left (then t) (then p)) ≡ (of_pairs s p && names s t p)) names_then (lookups_of s l) (lookups_kept l h)))

    rewritten_kept : (l : ℕ) → keep l ≡ true → Each (Kept keep) (rewritten s l t)
    unfolding rewritten
    rewritten_kept l h = each_sift (Kept keep) (Kept keep) (λ p. of_pairs s p && names s t p) (λ p x y. x) (lookups_of s l) (lookups_kept l h)

    bad_then : (l : ℕ) → keep l ≡ true → bad_list left (then l) (then t) ≡ bad_list s l t
    unfolding bad_list
    bad_then l h =
        let list = good_list_then l h in
        let each = ap (good_lookups left) (lookups_then l h) ∙ good_lookups_then (lookups_of s l) (lookups_kept l h) in
        let any = ap is_empty (rewritten_then l h) ∙ empty_map then (rewritten s l t) in
        λ i. not (list i && each i) || any i

    -- ---- 10, and what the new lookups need

    module _ (us vs : List ℕ) (many : length vs ≡ length us) where
      slots_many : (p : ℕ) → keep p ≡ true → length (new_slots left (then t) vs (then p)) ≡ length (new_slots s t us p)
      unfolding new_slots
      slots_many p h =
          ap (λ (os : List (Option ℕ)). length (entered (then t) vs os)) (subtables_then s f keep k p h)
          ∙ entered_then_lem keep t ht us vs many (subtable_slots s p) (subtables_kept p h)

      links_then : (p : ℕ) → keep p ≡ true → links_needed left (then t) vs (then p) ≡ links_needed s t us p
      unfolding links_needed
      links_then p h =
          let own = links_from_kept s f keep k p h in
          let lists = ap (listings (then t)) (subtables_then s f keep k p h) ∙ listings_then keep t ht (subtable_slots s p) (subtables_kept p h) in
          λ i. own i + many i * lists i

      module _ (ps : List ℕ) (a : Each (Kept keep) ps) where
        counts_then : counts_fit left (then t) vs (map then ps) ≡ counts_fit s t us ps
        unfolding counts_fit
        counts_then =
            ap (all (λ m. count_fits (new_slots left (then t) vs (get_or (map then ps) m 0)))) (length-map then ps)
            ∙ all_same _ _ (length ps)
            (λ m l.
            ap (λ (p : ℕ). count_fits (new_slots left (then t) vs p)) (number_at ps m)
            ∙ ap (λ (n : ℕ). leb n 65535) (slots_many (get_or ps m 0) (kept_at ps a m l)))

        lookups_same : new_lookups left (then t) vs (map then ps) ≡ new_lookups s t us ps
        unfolding new_lookups
        lookups_same =
            ap (upto (λ m. new_lookup (bytes_of left (get_or (map then ps) m 0)) (length (new_slots left (then t) vs (get_or (map then ps) m 0))))) (length-map then ps)
            ∙ upto-same _ _ (length ps)
            (λ m l.
            let h = kept_at ps a m l in
            ap (λ (p : ℕ). new_lookup (bytes_of left p) (length (new_slots left (then t) vs p))) (number_at ps m)
            ∙ ap₂ new_lookup (bytes_kept s f keep k (get_or ps m 0) h) (slots_many (get_or ps m 0) h))

        need_then : lookups_need left (then t) vs (map then ps) ≡ lookups_need s t us ps
        unfolding lookups_need
        need_then =
            let n = length-map then ps in
            let links : sum (λ m. links_needed left (then t) vs (get_or (map then ps) m 0)) (length (map then ps)) ≡ sum (λ m. links_needed s t us (get_or ps m 0)) (length ps)
            = ap (sum (λ m. links_needed left (then t) vs (get_or (map then ps) m 0))) n
            ∙ sum_same _ _ (length ps) (λ m l. ap (links_needed left (then t) vs) (number_at ps m) ∙ links_then (get_or ps m 0) (kept_at ps a m l)) in
            λ i. record { objects = n i; links = links i; bytes = length (join (lookups_same i)); entries = 0 }

-- ---- the call

-- what it asks: before a split's own, the list; behind the cuts, 10; and room for both
abbrev enter_asking : Settings → Store → ℕ → ℕ → Scratch → Asking
enter_asking how s l t w =
    let split = pair_asking how s t w in
    let cs = cut_places how s t in
    record {
      front = list_cases how s l t ++ split.front;
      six = split.six;
      slots = split.slots;
      loop = split.loop;
      others = split.others;
      cuts = cs;
      last = case ManySubtables (not (counts_fit s t (new_tables s t cs) (rewritten s l t))) ∷ [];
      needs = needed_in_all s l t cs;
    }

enter_asks : (how : Settings) (s : Store) (l t : ℕ) (w : Scratch) (list : List ℕ) → lookup_cases how s l t w list ≡ cases_of s list (enter_asking how s l t w)
unfolding lookup_cases cut_cases enter_cases
enter_asks how s l t w list =
    ap (λ (cs : List Case). cs ++ enter_cases s l t (cut_places how s t) list) (sym (append_assoc (list_cases how s l t) (settings_cases how ++ read_cases s t) _))
    ∙ append_assoc (list_cases how s l t ++ (settings_cases how ++ read_cases s t)) _ _

enter_eights : (how : Settings) (s : Store) (l t : ℕ) (w : Scratch) → OneEight (enter_asking how s l t w)
unfolding no_eight list_cases settings_cases read_cases
enter_eights how s l t w = record { front = refl; middle = refl }

module _ (s : Store) (f : Fits s) (keep : ℕ → Bool) (k : Keeps s keep) (how : Settings) (l t : ℕ) (hl : keep l ≡ true) (ht : keep t ≡ true) (w : Scratch) where
  abbrev s' : Store
  s' = compacted s keep

  abbrev l' : ℕ
  l' = renumber keep l

  abbrev t' : ℕ
  t' = renumber keep t

  -- 12, 1, 2 and 9, over what they ask
  abbrev list_by : Bool → Bool → Bool → Bool → List Case
  list_by sounds no_table no_list bad = settings_cases how ++ (case Unsound (not sounds) ∷ case NoTable no_table ∷ case NoTable no_list ∷ case BadList bad ∷ [])

  list_same : list_cases how s' l' t' ≡ list_cases how s l t
  unfolding list_cases
  list_same =
      let table = same_under s f keep k t ht in
      let listed = same_under s f keep k l hl in
      let bad = bad_then s f keep k t ht l hl in
      λ i. list_by (table.sounds i) (table.used i) (listed.used i) (bad i)

  front_same : first_case (enter_asking how s' l' t' w).front ≡ first_case (enter_asking how s l t w).front
  front_same =
      first_either (list_cases how s' l' t') (settings_cases how ++ read_cases s' t')
      ∙ ap₂ or_else (ap first_case list_same) (settings_first how (read_cases s' t') (read_cases s t) (checks_same (same_under s f keep k t ht)))
      ∙ sym (first_either (list_cases how s l t) (settings_cases how ++ read_cases s t))

  enter_alike : first_case (enter_asking how s l t w).front ≡ None → AskedAlike (enter_asking how s l t w) (enter_asking how s' l' t' w)
  unfolding needed_in_all
  enter_alike e =
      let reads = (first_append (settings_cases how) (read_cases s t) (first_append (list_cases how s l t) _ e).1).1 in
      let split = pair_alike s f keep k how t ht w reads in
      let cs = cut_places how s t in
      let ps = rewritten s l t in
      let us = new_tables s t cs in
      let vs = new_tables s' t' (cut_places how s' t') in
      let cuts = split.cuts in
      let many : length vs ≡ length us = pair_tables_lem s' t' (cut_places how s' t') ∙ ap length cuts ∙ sym (pair_tables_lem s t cs) in
      let listed = rewritten_then s f keep k t ht l hl in
      let a = rewritten_kept s f keep k t ht l hl in
      let fits = ap (counts_fit s' t' vs) listed ∙ counts_then s f keep k t ht us vs many ps a in
      let need = ap (lookups_need s' t' vs) listed ∙ need_then s f keep k t ht us vs many ps a in
      record {
        fewer = split.fewer;
        slots = split.slots;
        loop = split.loop;
        others = split.others;
        cuts = cuts;
        last = λ i. case ManySubtables (not (fits i)) ∷ [];
        needs = ap₂ together split.needs need;
      }

  pub next_entry : (list : List ℕ)
      → NextCall (lookup_call how s l t w list) (lookup_call how s' l' t' w list) (short_having (freed s s') s list (needed_in_all s l t (cut_places how s t)))
  unfolding lookup_call
  next_entry list =
      rw (enter_asks how s l t w list, enter_asks how s' l' t' w list)
      (next_call s _ (new_tables s t (cut_places how s t)) s' _ (new_tables s' t' (cut_places how s' t')) w list (room_freed s f keep)
      (enter_asking how s l t w) (enter_asking how s' l' t' w) front_same enter_alike (enter_eights how s l t w)
      (pair_tables_lem s t (cut_places how s t)) (pair_tables_lem s' t' (cut_places how s' t')))

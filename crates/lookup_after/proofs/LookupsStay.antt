-- After a split the other objects' slots lead where they led: lookups to rewrite give the same new lookups before and after it. Assumes nothing.
use Rattle.std.specs.Prelude.{Option}
use Prim.Native.Nat.{ℕ, ◌+◌, ◌*◌, ◌<◌}
use mathlib.Core.Path.{◌≡◌, sym, ap, ap₂, subst, ◌∙◌}
use mathlib.Core.Bool.{true, ◌&&◌}
use mathlib.Core.List.{List}
use lib.ListN.{length, get_or}
use Rattle.folds.proofs.Tests.{and_both, and_intro}
use Rattle.folds.proofs.Folds.{upto-same}
use Rattle.folds.proofs.Failing.{all_same}
use Rattle.folds.proofs.FromTheFront.{flat-same}
use Rattle.ot_layouts.specs.Lookup.{subtable_count, lookup_header, lookup_exact, is_subtable_slot}
use Rattle.store_rules.specs.Store.{Store, bytes_of, child_at, all_at}
use Rattle.store_rules.proofs.Slots.{child_stands, children_stand}
use Rattle.pair_rules.specs.Written.{split_store}
use Rattle.lookup_rules.specs.Listed.{slots_at, subtable_slots, good_lookup}
use Rattle.lookup_rules.specs.Written.{entered, new_slots, new_lookup, new_lookups, subtable_links, new_lookup_links, count_fits, counts_fit}
use Rattle.pair_after.proofs.Ready.{Ready}
use Rattle.pair_after.proofs.NewBytes.{other_bytes}
use Rattle.pair_after.proofs.NewLinks.{others_child}
use Rattle.pair_after.proofs.SoundThen.{fits_then_lem}

module _ (s : Store) (t : ℕ) (cs : List ℕ) (g : Ready s t cs) where
  abbrev s' : Store
  s' = split_store s t cs

  -- ---- one lookup, which is not the split table

  module _ (p : ℕ) (used : p < s.object_count) (other : p ≡ t → ⊥) where
    same_bytes : bytes_of s' p ≡ bytes_of s p
    same_bytes = other_bytes s t cs g p used other

    same_slots : subtable_slots s' p ≡ subtable_slots s p
    unfolding subtable_slots slots_at
    same_slots =
        ap (λ (b : List ℕ). slots_at s' p lookup_header (subtable_count b)) same_bytes
        ∙ upto-same (λ i. child_at s' p (lookup_header + 2 * i)) (λ i. child_at s p (lookup_header + 2 * i)) (subtable_count (bytes_of s p))
        (λ i k. others_child s t cs g p (lookup_header + 2 * i) used other)

    -- "OT's exact length", and no "link at no slot", as before
    pub still_good : good_lookup s p ≡ true → good_lookup s' p ≡ true
    unfolding good_lookup
    still_good good =
        let b = bytes_of s p in
        let (exactly, stand) = and_both (lookup_exact b) (all_at s p (is_subtable_slot b)) good in
        subst (λ (x : List ℕ). (lookup_exact x && all_at s' p (is_subtable_slot x)) ≡ true) (sym same_bytes)
        (and_intro (lookup_exact b) (all_at s' p (is_subtable_slot b)) exactly
        (children_stand s' p (is_subtable_slot b) (fits_then_lem s t cs g)
        (λ q c e. child_stands s p (is_subtable_slot b) stand q c (sym (others_child s t cs g p q used other) ∙ e))))

  -- ---- all of them

  module _ (us ps : List ℕ) (each : (m : ℕ) → m < length ps → (get_or ps m 0 < s.object_count) × (get_or ps m 0 ≡ t → ⊥)) where
    same_new : (m : ℕ) → m < length ps → new_slots s' t us (get_or ps m 0) ≡ new_slots s t us (get_or ps m 0)
    unfolding new_slots
    same_new m k = let (used, other) = each m k in ap (entered t us) (same_slots (get_or ps m 0) used other)

    -- 10 is asked of the same
    pub same_counts : counts_fit s' t us ps ≡ counts_fit s t us ps
    unfolding counts_fit
    same_counts =
        all_same (λ m. count_fits (new_slots s' t us (get_or ps m 0))) (λ m. count_fits (new_slots s t us (get_or ps m 0))) (length ps)
        (λ m k. ap count_fits (same_new m k))

    pub same_lookups : new_lookups s' t us ps ≡ new_lookups s t us ps
    unfolding new_lookups
    same_lookups =
        upto-same (λ m. new_lookup (bytes_of s' (get_or ps m 0)) (length (new_slots s' t us (get_or ps m 0))))
        (λ m. new_lookup (bytes_of s (get_or ps m 0)) (length (new_slots s t us (get_or ps m 0)))) (length ps)
        (λ m k.
        let (used, other) = each m k in
        ap₂ (λ (b : List ℕ) (os : List (Option ℕ)). new_lookup b (length os)) (same_bytes (get_or ps m 0) used other) (same_new m k))

    pub same_links : (n : ℕ) → new_lookup_links s' t us ps n ≡ new_lookup_links s t us ps n
    unfolding new_lookup_links
    same_links n =
        flat-same (λ m. subtable_links (n + m) (new_slots s' t us (get_or ps m 0))) (λ m. subtable_links (n + m) (new_slots s t us (get_or ps m 0))) (length ps)
        (λ m k. ap (subtable_links (n + m)) (same_new m k))

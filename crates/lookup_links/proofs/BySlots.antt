-- The links of a new lookup by the rows of its old one are those by its slots. Assumes nothing.
use Rattle.std.specs.Prelude.{Option, Some, None}
use Prim.Native.Nat.{ℕ, suc, ◌+◌, ◌*◌, ◌<◌}
use mathlib.Core.Path.{◌≡◌, refl, sym, ap, ap₂, ◌∙◌}
use mathlib.Core.Bool.{Bool, true, false, cond}
use mathlib.Core.List.{List, [], ◌∷◌, ◌++◌, map, append_assoc}
use native.Mathlib.Omega.{arith}
use lib.ListN.{length, get_or}
use lib.Dec.{eqb}
use Rattle.folds.specs.Folds.{flat}
use Rattle.folds.proofs.Folds.{upto-cons, upto-same}
use Rattle.folds.proofs.FromTheFront.{flat-cons, flat-same}
use Rattle.folds.proofs.Moved.{length-map}
use Rattle.ot_layouts.specs.Lookup.{lookup_header}
use Rattle.store_rules.specs.Store.{Store, Link, links_of}
use Rattle.store_rules.specs.Appended.{link}
use Rattle.store_rules.specs.SlotLinks.{slot_link, slot_links}
use Rattle.store_rules.proofs.Sound.{Fits}
use Rattle.lookup_rules.specs.Listed.{good_lookup, subtable_slots}
use Rattle.lookup_rules.specs.Written.{entered, new_slots, subtable_links, new_lookup_links}
use Rattle.lookup_rules.proofs.Filled.{Filled, end, empty, linked, lookup_filled}
use Rattle.lookup_links.specs.Copies.{new_table_links, link_entered, links_entered, lookup_copies}

module _ (u : ℕ) where
  -- the links at slots, of which the first is at q, one after another
  links_at : ℕ → List (Option ℕ) → List Link
  links_at q [] = []
  links_at q (o ∷ os) = slot_link u q o ++ links_at (q + 2) os

  slots_front_lem : (q : ℕ) (os : List (Option ℕ)) → slot_links u q 2 (λ i. get_or os i None) (length os) ≡ links_at q os
  unfolding slot_links flat links_at
  slots_front_lem q [] = refl
  slots_front_lem q (o ∷ os) =
      let f : ℕ → List Link = λ k. slot_link u (q + 2 * k) (get_or (o ∷ os) k None) in
      let z : q + 2 * 0 ≡ q = omega arith in
      flat-cons f (length os)
      ∙ ap₂ (λ (x y : List Link). x ++ y) (ap (λ (n : ℕ). slot_link u n o) z)
      (flat-same (λ j. f (suc j)) (λ j. slot_link u (q + 2 + 2 * j) (get_or os j None)) (length os)
      (λ j l. let e : q + 2 * suc j ≡ q + 2 + 2 * j = omega arith in ap (λ (n : ℕ). slot_link u n (get_or os j None)) e)
      ∙ slots_front_lem (q + 2) os)

  at_append : (q : ℕ) (xs ys : List (Option ℕ)) → links_at q (xs ++ ys) ≡ links_at q xs ++ links_at (q + 2 * length xs) ys
  unfolding links_at
  at_append q [] ys = let z : q ≡ q + 2 * 0 = omega arith in ap (λ (n : ℕ). links_at n ys) z
  at_append q (x ∷ xs) ys =
      let z : q + 2 + 2 * length xs ≡ q + 2 * suc (length xs) = omega arith in
      ap (λ (r : List Link). slot_link u q x ++ r) (at_append (q + 2) xs ys ∙ ap (λ (n : ℕ). links_at (q + 2) xs ++ links_at n ys) z)
      ∙ sym (append_assoc (slot_link u q x) (links_at (q + 2) xs) (links_at (q + 2 * suc (length xs)) ys))

  tables_front : (q : ℕ) (us : List ℕ) → links_at q (map Some us) ≡ new_table_links us u q
  unfolding links_at slot_link flat
  tables_front q [] = refl
  tables_front q (v ∷ us) =
      let z : q ≡ q + 2 * 0 = omega arith in
      ap₂ (λ (n : ℕ) (r : List Link). link u n v ∷ r) z
      (tables_front (q + 2) us
      ∙ upto-same (λ j. link u (q + 2 + 2 * j) (get_or us j 0)) (λ j. link u (q + 2 * suc j) (get_or us j 0)) (length us)
      (λ j l. let e : q + 2 + 2 * j ≡ q + 2 * suc j = omega arith in ap (λ (n : ℕ). link u n (get_or us j 0)) e))
      ∙ sym (upto-cons (λ j. link u (q + 2 * j) (get_or (v ∷ us) j 0)) (length us))

  module _ (t : ℕ) (us : List ℕ) where
    -- what stands in the new lookup behind a slot that leads to t, or does not, and before which these stand in the old one
    abbrev entered_behind : List (Option ℕ) → Bool → List (Option ℕ)
    entered_behind os b = cond b (map Some us ++ entered t us os) (entered t us os)

    by_rows : {a : ℕ} {ls : List Link} {os : List (Option ℕ)} → Filled a ls os → (up : ℕ) → links_at (a + 2 * up) (entered t us os) ≡ links_entered t us u up ls
    unfolding links_at entered links_entered link_entered slot_link
    by_rows end up = refl
    by_rows {a} (empty {os = os} f) up =
        let z : a + 2 * up + 2 ≡ a + 2 + 2 * up = omega arith in
        ap (λ (n : ℕ). links_at n (entered t us os)) z ∙ by_rows f up
    by_rows {a} (linked {l = l} {ls = ls} {os = os} e f) up =
        ap (λ (n : ℕ). link u (n + 2 * up) l.child ∷ links_at (n + 2 * up + 2) (entered_behind os (eqb l.child t))) (sym e)
        ∙ ap (λ (r : List Link). link u (l.position + 2 * up) l.child ∷ r) (go (l.position + 2 * up + 2) (omega arith) (eqb l.child t) (λ k. by_rows f k))
      where
        go : (q : ℕ) → q ≡ a + 2 + 2 * up → (b : Bool) → ((k : ℕ) → links_at (a + 2 + 2 * k) (entered t us os) ≡ links_entered t us u k ls)
            → links_at q (entered_behind os b) ≡ cond b (new_table_links us u q) [] ++ links_entered t us u (cond b (up + length us) up) ls
        go q z true later =
            let new : List (Option ℕ) = map Some us in
            let w : q + 2 * length new ≡ a + 2 + 2 * (up + length us) = omega (arith, length-map Some us) in
            at_append q new (entered t us os)
            ∙ ap₂ (λ (x y : List Link). x ++ y) (tables_front q us) (ap (λ (n : ℕ). links_at n (entered t us os)) w ∙ later (up + length us))
        go q z false later = ap (λ (n : ℕ). links_at n (entered t us os)) z ∙ later up

-- ---- of a store

module _ (s : Store) (f : Fits s) (t : ℕ) (us : List ℕ) where
  one_by_rows : (p u : ℕ) → good_lookup s p ≡ true → lookup_copies t us (links_of s) p u ≡ subtable_links u (new_slots s t us p)
  unfolding lookup_copies new_slots
  one_by_rows p u good =
      let z : lookup_header + 2 * 0 ≡ lookup_header = omega arith in
      let os = entered t us (subtable_slots s p) in
      sym (slots_front_lem u lookup_header os ∙ ap (λ (n : ℕ). links_at u n os) (sym z) ∙ by_rows u t us (lookup_filled s f p good) 0)

  pub all_by_rows : (ps : List ℕ) (n : ℕ) → ((m : ℕ) → m < length ps → good_lookup s (get_or ps m 0) ≡ true)
      → flat (λ m. lookup_copies t us (links_of s) (get_or ps m 0) (n + m)) (length ps) ≡ new_lookup_links s t us ps n
  unfolding new_lookup_links
  all_by_rows ps n good =
      flat-same (λ m. lookup_copies t us (links_of s) (get_or ps m 0) (n + m)) (λ m. subtable_links (n + m) (new_slots s t us (get_or ps m 0))) (length ps)
      (λ m l. one_by_rows (get_or ps m 0) (n + m) (good m l))

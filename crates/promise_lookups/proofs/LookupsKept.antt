-- The promise: a type 2 lookup of the list, as the list leads to it before and after, gives the same for any two glyphs. Assumes nothing.
use Rattle.std.specs.Prelude.{Option, Some, None}
use Prim.Native.Nat.{ℕ, ◌+◌, ◌*◌, ◌<◌}
use mathlib.Core.Path.{◌≡◌, refl, sym, ap, ap₂, ◌∙◌}
use mathlib.Core.Bool.{Bool, true, false, cond}
use mathlib.Core.List.{List, [], ◌∷◌, ◌++◌, map, map-append}
use mathlib.Core.Logic.{◌⊎◌, inl, inr, ⊎_elim}
use native.Mathlib.Omega.{arith}
use native.Mathlib.Decide.{ℕ_discrete}
use lib.ListN.{length, get_or}
use lib.Dec.{eqb}
use borrow.Author.Tests.{eq-eqb, ne_eqb}
use Rattle.folds.specs.Folds.{upto}
use Rattle.folds.specs.Lists.{among}
use Rattle.folds.proofs.Tests.{true_false, by_test}
use Rattle.folds.proofs.Folds.{upto-same, length-upto}
use Rattle.folds.proofs.FromTheFront.{upto-at}
use Rattle.folds.proofs.Moved.{map-upto}
use Rattle.folds.proofs.Each.{Each, each_then}
use Rattle.ot_layouts.specs.Lookup.{lookup_type, pair_type, subtable_count, lookup_header}
use Rattle.store_rules.specs.Store.{Store, bytes_of, child_at}
use Rattle.store_rules.proofs.Lookups.{mapped, child_used_lem}
use Rattle.store_rules.proofs.Ways.{way_child}
use Rattle.call_rules.specs.declared.Settings.{Settings}
use Rattle.call_rules.specs.Scratch.{Scratch}
use Rattle.pair_rules.specs.Table.{cut_places}
use Rattle.pair_rules.specs.Written.{new_tables, split_store}
use Rattle.pair_rules.specs.Pairs.{no_pair}
use Rattle.pair_rules.specs.Calls.{PairOutcome, pair_call, reported, read_in_order}
use Rattle.pair_rules.proofs.SameReading.{reading_same}
use Rattle.lookup_rules.specs.Listed.{slots_at, linked_in, subtable_slots, lookups_of, names, rewritten}
use Rattle.lookup_rules.specs.Written.{entered, new_slots, redirect, lookup_store}
use Rattle.lookup_rules.specs.Applied.{subtables, applied, reaches}
use Rattle.lookup_rules.proofs.Slots.{linked_append, linked_all, linked_mapped, nothing_entered, each_linked, among-linked}
use Rattle.lookup_rules.proofs.Redirection.{redirect_either, redirect_other}
use Rattle.lookup_rules.proofs.NewLookup.{new_type}
use Rattle.lookup_rules.proofs.Listed.{list_leads, named_among}
use Rattle.promise_calls.specs.Unchanged.{Octets}
use Rattle.promise_pairs.specs.Demands.{Splits, resulting, store_then}
use Rattle.promise_pairs.proofs.GoesAhead.{store_written}
use Rattle.promise_pairs.proofs.Calls.{read_among}
use Rattle.promise_pairs.proofs.PairsKept.{pairs_kept}
use Rattle.promise_pairs.proofs.ReadingsKept.{readings_kept}
use Rattle.pair_after.proofs.SplitLinks.{NewOrOwn}
use Rattle.promise_lookups.specs.Demands.{LookupsKept, NoOtherReaches}
use Rattle.promise_lookups.proofs.Answered.{store_entered_lem}
use Rattle.lookup_after.proofs.Entering.{Entering}
use Rattle.promise_lookups.proofs.GoesAhead.{entering, splits}
use Rattle.lookup_after.proofs.Apart.{Listed, way_reaches, list_other, each_listed, each_named}
use Rattle.lookup_after.proofs.NewLookups.{lookup_bytes, lookup_slots, lookup_long}
use Rattle.promise_lookups.proofs.Kept.{not-rewritten, other_bytes, other_child, around_other, around_table, OneOfTables, tables_are}

-- ---- readings in order

-- of two runs of tables the first with a pair decides
read_append : (s : Store) (a b : ℕ) (xs ys : List ℕ)
    → read_in_order s (xs ++ ys) a b ≡ cond (eqb (read_in_order s xs a b).found 1) (read_in_order s xs a b) (read_in_order s ys a b)
unfolding read_in_order no_pair
read_append s a b [] ys = refl
read_append s a b (x ∷ xs) ys = go (eqb (pair_call s x a b).found 1) refl (read_append s a b xs ys)
  where
    both : List ℕ → PairOutcome
    both zs = read_in_order s zs a b

    go : (c : Bool) → eqb (pair_call s x a b).found 1 ≡ c → both (xs ++ ys) ≡ cond (eqb (both xs).found 1) (both xs) (both ys)
        → cond c (pair_call s x a b) (both (xs ++ ys))
        ≡ cond (eqb (cond c (pair_call s x a b) (both xs)).found 1) (cond c (pair_call s x a b) (both xs)) (both ys)
    go true e i = rw e
    go false e i = i

-- the same readings, one by one
read_same : (s s' : Store) (a b : ℕ) (us : List ℕ) → Each (λ u. pair_call s' u a b ≡ pair_call s u a b) us → read_in_order s' us a b ≡ read_in_order s us a b
unfolding read_in_order
read_same s s' a b [] h = refl
read_same s s' a b (u ∷ us) h = ap₂ (λ (x y : PairOutcome). cond (eqb x.found 1) x y) h.0 (read_same s s' a b us h.1)

map_same : (f : ℕ → ℕ) (xs : List ℕ) → Each (λ x. f x ≡ x) xs → map f xs ≡ xs
map_same f [] h = refl
map_same f (x ∷ xs) h = ap₂ (λ (y : ℕ) (ys : List ℕ). y ∷ ys) h.0 (map_same f xs h.1)

-- the kept table and the new ones together have the old table's pairs
split_pairs_lem : (how : Settings) (s : Store) (t : ℕ) (w : Scratch) (list : List ℕ) → Octets s → Splits how s t w list → (a b : ℕ)
    → read_in_order (split_store s t (cut_places how s t)) (resulting how s t) a b ≡ pair_call s t a b
split_pairs_lem how s t w list octets p a b =
    let (old, each) = readings_kept how s t w list octets p a b in
    ap (λ (x : Store). read_in_order x (resulting how s t) a b) (sym (store_written how s t w list p))
    ∙ read_among (store_then how s t w list) a b (resulting how s t) each
    ∙ ap (reported 0) (pairs_kept how s t w list p a b).0
    ∙ sym old

module _ (s : Store) (l t : ℕ) (cs : List ℕ) (e : Entering s l t cs) where
  abbrev s' : Store
  s' = split_store s t cs

  abbrev s'' : Store
  s'' = lookup_store s l t cs

  abbrev us : List ℕ
  us = new_tables s t cs

  abbrev ps : List ℕ
  ps = rewritten s l t

  -- the number of what was c
  abbrev R : ℕ → ℕ
  R c = redirect (split_store s t cs).object_count (rewritten s l t) c

  -- ---- tables that are not rewritten

  -- a subtable that is in use, and is the table or does not reach it
  record Good (u : ℕ) : Type 0 where
    used : u < s.object_count
    apart : (u ≡ t → ⊥) → reaches s u t ≡ false

  -- it is not rewritten, as it would name the table
  good_same : (u : ℕ) → Good u → R u ≡ u
  good_same u g =
      redirect_other s'.object_count ps u
      (λ a.
      let d = each_named s l t e.fine e.ready.fit e.ready.reads u a in
      let (q, x) = d.naming in
      true_false (sym (way_reaches s e.ready.fit u t (way_child s u q t x)) ∙ g.apart d.lists.other))

  good_read : (u a b : ℕ) → Good u → (u ≡ t → ⊥) → pair_call s'' (R u) a b ≡ pair_call s u a b
  good_read u a b g ne =
      ap (λ (x : ℕ). pair_call s'' x a b) (good_same u g) ∙ reading_same (around_other s l t cs e u g.used ne (g.apart ne)) a b

  -- nor is the kept table, or a new one
  table_same : (u : ℕ) → OneOfTables s l t cs e u → R u ≡ u
  table_same u (k, d) = redirect_other s'.object_count ps u (never d)
    where
      never : (u ≡ t) ⊎ NewOrOwn s t u → among u ps ≡ true → ⊥
      never (inl z) a = (each_named s l t e.fine e.ready.fit e.ready.reads u a).lists.other z
      never (inr d) a = not-rewritten s l t cs e u d a

  -- the tables are read at exit as after the split
  tables_read : (a b : ℕ) → read_in_order s'' (map R (t ∷ us)) a b ≡ read_in_order s' (t ∷ us) a b
  tables_read a b =
      let tables = tables_are s l t cs e in
      ap (λ (xs : List ℕ). read_in_order s'' xs a b) (map_same R (t ∷ us) (each_then (OneOfTables s l t cs e) (λ u. R u ≡ u) table_same (t ∷ us) tables))
      ∙ read_same s' s'' a b (t ∷ us)
      (each_then (OneOfTables s l t cs e) (λ u. pair_call s'' u a b ≡ pair_call s' u a b) (λ u (k, d). reading_same (around_table s l t cs e u k d) a b)
      (t ∷ us) tables)

  -- ---- the slots of a lookup, before and after

  module _ (a b : ℕ) (together : read_in_order (split_store s t cs) (t ∷ new_tables s t cs) a b ≡ pair_call s t a b) where
    -- the new tables stand behind each listing of the table, and the first pair is the one that it was
    entered_pairs : (os : List (Option ℕ)) → Each Good (linked_in os) → read_in_order s'' (map R (linked_in (entered t us os))) a b ≡ read_in_order s (linked_in os) a b
    unfolding entered linked_in read_in_order
    entered_pairs [] h = refl
    entered_pairs (None ∷ os) h = entered_pairs os h
    entered_pairs (Some c ∷ os) h = go (ℕ_discrete c t) (entered_pairs os h.1)
      where
        rest : List (Option ℕ)
        rest = entered t us os

        go : Dec (c ≡ t) → read_in_order s'' (map R (linked_in rest)) a b ≡ read_in_order s (linked_in os) a b
            → read_in_order s'' (map R (c ∷ linked_in (cond (eqb c t) (map Some us ++ rest) rest))) a b ≡ read_in_order s (c ∷ linked_in os) a b
        go (no ne) i =
            ap (λ (x : Bool). read_in_order s'' (map R (c ∷ linked_in (cond x (map Some us ++ rest) rest))) a b) (ne_eqb c t ne)
            ∙ ap₂ (λ (x y : PairOutcome). cond (eqb x.found 1) x y) (good_read c a b h.0 ne) i
        go (yes z) i =
            ap (λ (x : Bool). read_in_order s'' (map R (c ∷ linked_in (cond x (map Some us ++ rest) rest))) a b) (eq-eqb c t z)
            ∙ ap (λ (x : ℕ). read_in_order s'' (map R (x ∷ linked_in (map Some us ++ rest))) a b) z
            ∙ ap (λ (xs : List ℕ). read_in_order s'' (map R (t ∷ xs)) a b)
            (linked_append (map Some us) rest ∙ ap (λ (xs : List ℕ). xs ++ linked_in rest) (linked_all us))
            ∙ ap (λ (xs : List ℕ). read_in_order s'' xs a b) (map-append R (t ∷ us) (linked_in rest))
            ∙ read_append s'' a b (map R (t ∷ us)) (map R (linked_in rest))
            ∙ ap₂ (λ (x y : PairOutcome). cond (eqb x.found 1) x y) (tables_read a b ∙ together) i
            ∙ ap (λ (x : ℕ). read_in_order s (x ∷ linked_in os) a b) (sym z)

  -- ---- a lookup of the list

  module _ (p : ℕ) (listed : Listed s t p) (no_other : NoOtherReaches s t p) where
    slot : ℕ → Option ℕ
    slot i = child_at s p (lookup_header + 2 * i)

    all_good : Each Good (subtables s p)
    unfolding subtable_slots slots_at slot
    all_good =
        let count = subtable_count (bytes_of s p) in
        each_linked Good slot count
        (λ i c k x. record {
          used = child_used_lem s p e.ready.fit (lookup_header + 2 * i) c x;
          apart = no_other c (among-linked (upto slot count) i c (omega (arith, length-upto slot count)) (upto-at slot count i None k ∙ x));
        })

    -- one that is not rewritten has its slots, redirected
    slots_other : subtable_slots s'' p ≡ map (mapped R) (subtable_slots s p)
    unfolding subtable_slots slots_at slot
    slots_other =
        let count = subtable_count (bytes_of s p) in
        ap (λ (x : List ℕ). slots_at s'' p lookup_header (subtable_count x)) (other_bytes s l t cs e p listed.used listed.other)
        ∙ upto-same (λ i. child_at s'' p (lookup_header + 2 * i)) (λ i. mapped R (slot i)) count
        (λ i k. other_child s l t cs e p (lookup_header + 2 * i) listed.used listed.other)
        ∙ sym (map-upto (mapped R) slot count)

    -- what the kept table and the new ones have together
    abbrev Together : Type 0
    Together = (a b : ℕ) → read_in_order (split_store s t cs) (t ∷ new_tables s t cs) a b ≡ pair_call s t a b

    applied_other : names s t p ≡ false → Together → (a b : ℕ) → applied s'' p a b ≡ applied s p a b
    unfolding applied
    applied_other unnamed together a b =
        ap (λ (os : List (Option ℕ)). read_in_order s'' (linked_in os) a b) slots_other
        ∙ ap (λ (xs : List ℕ). read_in_order s'' xs a b) (linked_mapped R (subtable_slots s p))
        ∙ ap (λ (os : List (Option ℕ)). read_in_order s'' (map R (linked_in os)) a b) (sym (nothing_entered t us (subtable_slots s p) unnamed))
        ∙ entered_pairs a b (together a b) (subtable_slots s p) all_good

    applied_new : (m : ℕ) → m < length ps → get_or ps m 0 ≡ p → Together → (a b : ℕ) → applied s'' (s'.object_count + m) a b ≡ applied s p a b
    unfolding applied new_slots
    applied_new m h z together a b =
        ap (λ (os : List (Option ℕ)). read_in_order s'' (linked_in os) a b) (lookup_slots s l t cs e m h)
        ∙ ap (λ (x : ℕ). read_in_order s'' (linked_in (map (mapped R) (new_slots s t us x))) a b) z
        ∙ ap (λ (xs : List ℕ). read_in_order s'' xs a b) (linked_mapped R (new_slots s t us p))
        ∙ entered_pairs a b (together a b) (subtable_slots s p) all_good

    type_new : (m : ℕ) → m < length ps → get_or ps m 0 ≡ p → lookup_type (bytes_of s'' (s'.object_count + m)) ≡ lookup_type (bytes_of s p)
    type_new m h z =
        ap lookup_type (lookup_bytes s l t cs e m h)
        ∙ new_type (bytes_of s (get_or ps m 0)) (length (new_slots s t us (get_or ps m 0))) (lookup_long s l t cs e m h)
        ∙ ap (λ (x : ℕ). lookup_type (bytes_of s x)) z

    -- what the list leads to then
    abbrev Kept : ℕ → Type 0
    Kept q =
        (p' : ℕ) × (child_at (lookup_store s l t cs) l q ≡ Some p') × (lookup_type (bytes_of (lookup_store s l t cs) p') ≡ pair_type)
        × ((a b : ℕ) → applied (lookup_store s l t cs) p' a b ≡ applied s p a b)

    lookup_kept : (q : ℕ) → child_at s l q ≡ Some p → among p (lookups_of s l) ≡ true → lookup_type (bytes_of s p) ≡ pair_type → Together → Kept q
    lookup_kept q lead among-list two together = ⊎_elim
        (λ (m, h, z, n). (s'.object_count + m, led ∙ ap Some n, type_new m h z ∙ two, applied_new m h z together))
        (λ (absent, n). (
          p,
          led ∙ ap Some n,
          ap lookup_type (other_bytes s l t cs e p listed.used listed.other) ∙ two,
          applied_other
              (by_test (names s t p)
              (λ y. true_false (sym (named_among s l t e.fine p among-list (eq-eqb (lookup_type (bytes_of s p)) pair_type two) y) ∙ absent))
              (λ y. y))
              together,
        ))
        (redirect_either s'.object_count ps p)
      where
        led : child_at s'' l q ≡ Some (R p)
        led = other_child s l t cs e l q e.used (list_other s l t e.fine e.ready.fit e.ready.reads) ∙ ap (mapped R) lead

-- "applying a type 2 lookup of the list, as the list now leads to it, to any pair gives what it gave before"
pub lookups_kept : LookupsKept
lookups_kept how s l t w list octets enters q p lead two reads no_other =
    let cs = cut_places how s t in
    let e = entering how s l t w list enters in
    let among-list = list_leads s l t e.fine q p lead in
    let listed = each_listed s l t e.fine e.ready.fit e.ready.reads p among-list in
    rw (store_entered_lem how s l t w list enters)
    (lookup_kept s l t cs e p listed no_other q lead among-list two (split_pairs_lem how s t w list octets (splits how s l t w list enters)))

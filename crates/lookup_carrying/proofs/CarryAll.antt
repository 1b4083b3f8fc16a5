-- A split for which there is room together with its lookups: what is known once it is carried out, and what the lookups then leave. Assumes nothing.
use Prim.Native.Nat.{ℕ, ◌+◌, ◌<◌, ◌≤◌}
use mathlib.Core.Path.{◌≡◌, sym, ap, ap₂, subst, ◌∙◌}
use mathlib.Core.Bool.{true, false}
use mathlib.Core.List.{List, ◌++◌, map}
use native.Mathlib.Omega.{arith}
use lib.ListN.{length, get_or, take}
use lib.Dec.{leb}
use borrow.Author.Tests.{leb-true}
use Rattle.folds.specs.Folds.{sum}
use Rattle.folds.specs.Lists.{join}
use Rattle.folds.proofs.Folds.{all_at_lem}
use Rattle.folds.proofs.Each.{each_at}
use Rattle.folds.proofs.Put.{length-put, put_front}
use Rattle.store_rules.specs.Store.{Store, Link, links_of}
use Rattle.store_rules.specs.Appended.{appended}
use Rattle.store_rules.specs.InOrder.{in_order}
use Rattle.call_rules.specs.declared.Needs.{Needs}
use Rattle.call_rules.specs.Needs.{lent_of, counts_of, room_short}
use Rattle.call_room.proofs.Together.{Holds, holds}
use Rattle.pair_rules.specs.Written.{needs_of, needed, split_store, new_tables}
use Rattle.pair_checks.specs.declared.PairTable.{PairTable}
use Rattle.pair_carrying.specs.Carrying.{CutAt}
use Rattle.pair_carrying.proofs.Counting.{tables_many}
use Rattle.pair_after.proofs.Ready.{objects_then}
use Rattle.pair_after.proofs.SoundThen.{sound_then}
use Rattle.pair_after.proofs.Taken.{links_then, links_length}
use Rattle.lookup_rules.specs.Listed.{rewritten}
use Rattle.lookup_rules.specs.Marks.{Marked}
use Rattle.lookup_rules.specs.Written.{new_slots, new_lookup_links, redirected, entered_store, counts_fit, links_needed, lookups_need}
use Rattle.lookup_rules.proofs.Counts.{all_needed_lem}
use Rattle.lookup_after.proofs.Entering.{Entering, entering}
use Rattle.lookup_after.proofs.Unled.{tables_used}
use Rattle.lookup_after.proofs.NewLookups.{named, room, many_lookups}
use Rattle.lookup_after.proofs.LookupsStay.{still_good, same_counts, same_lookups, same_links}
use Rattle.lookup_carrying.specs.Carrying.{all_needed, CarryingAll, EnteredAt}
use Rattle.lookup_carrying.specs.Lookups.{LookupsReady}

module _ {s : Store} {t : ℕ} {p : PairTable} {n : Needs} {gs ks cs list marks ps : List ℕ} (k : CarryingAll s t p n gs ks cs list marks ps) where
  -- the list, its lookups that are rewritten, and the new tables
  abbrev l : ℕ
  l = k.found.list

  abbrev rs : List ℕ
  rs = rewritten s k.found.list t

  abbrev us : List ℕ
  us = new_tables s t cs

  abbrev s' : Store
  s' = split_store s t cs

  held : Holds (lent_of s list) (counts_of s) (all_needed s t cs rs)
  held =
      holds (lent_of s list) (counts_of s) (all_needed s t cs rs)
      (subst (λ (x : List ℕ). room_short s list (all_needed s t cs x) ≡ false) k.found.lookups k.room)

  fit : counts_fit s t us rs ≡ true
  fit = subst (λ (x : List ℕ). counts_fit s t us x ≡ true) k.found.lookups k.fits

  counted : (m : ℕ) → m < length rs → length (new_slots s t us (get_or rs m 0)) ≤ 65535
  unfolding counts_fit
  counted m h =
      leb-true (length (new_slots s t us (get_or rs m 0))) 65535 (all_at_lem (λ m. leb (length (new_slots s t us (get_or rs m 0))) 65535) (length rs) fit m h)

  can_enter : Entering s l t cs
  unfolding needed needs_of lookups_need
  can_enter =
      let c = k.carrying in
      let h = held in
      entering s l t cs c.opens.reads k.linked.slots k.linked.acyclic c.places c.some k.found.good.used k.found.good.fine counted
      h.objects h.links h.bytes

  -- ---- after the split

  each : (m : ℕ) → m < length rs → (get_or rs m 0 < s.object_count) × (get_or rs m 0 ≡ t → ⊥)
  each m h = let x = (named s l t cs can_enter m h).lists in (x.used, x.other)

  links_few : length (new_lookup_links s' t us rs s'.object_count) ≡ sum (λ m. links_needed s t us (get_or rs m 0)) (length rs)
  links_few =
      let e = can_enter in
      ap length (same_links s t cs e.ready us rs each s'.object_count)
      ∙ all_needed_lem s e.ready.fit t us rs s'.object_count (λ m h. (named s l t cs e m h).lists.good)

  ready : LookupsReady s' t us marks rs
  ready =
      let e = can_enter in
      let g = e.ready in
      let r = room s l t cs e in
      let many = many_lookups s l t cs e in
      record {
        sounds = sound_then s t cs g;
        lookups = λ m h. record {
          used = omega (arith, (each m h).0, objects_then s t cs g);
          good = still_good s t cs g (get_or rs m 0) (each m h).0 (each m h).1 (named s l t cs e m h).lists.good;
        };
        marked = subst (λ (x : List ℕ). Marked x marks) k.found.lookups k.found.marked;
        few = omega (arith, k.few, tables_many s t cs);
        used = λ j h. each_at (λ c. c < s'.object_count) us (tables_used s l t cs e) j h 0;
        fits = same_counts s t cs g us rs each ∙ fit;
        objects_in = omega (arith, r.objects_in);
        objects_most = omega (arith, r.objects_most);
        bytes_in = subst (λ (x : List (List ℕ)). s'.byte_count + length (join x) ≤ length s'.bytes) (sym (same_lookups s t cs g us rs each)) r.bytes_in;
        bytes_most = subst (λ (x : List (List ℕ)). s'.byte_count + length (join x) ≤ 16777216) (sym (same_lookups s t cs g us rs each)) r.bytes_most;
        links_in = omega (arith, e.links_room, links_few, links_then s t cs g, links_length s t cs g);
        links_most = omega (arith, e.links_most, links_few, links_then s t cs g);
      }

  -- the new lookups are the same, written from the old store or from the one after the split
  same_store : entered_store s' t us rs s' ≡ entered_store s t us rs s'
  unfolding entered_store
  same_store =
      let g = can_enter.ready in
      ap₂ (λ (new : List (List ℕ)) (more : List Link). appended s' new (in_order (map (redirected s'.object_count rs) (links_of s' ++ more))))
      (same_lookups s t cs g us rs each) (same_links s t cs g us rs each s'.object_count)

  -- ---- with what the split has left

  module _ {s₁ : Store} {list₁ : List ℕ} (d : CutAt s t cs list s₁ list₁) where
    -- the new tables stand at the front of the list
    tables_are : take (length cs) list₁ ≡ us
    tables_are = ap₂ (λ (m : ℕ) (x : List ℕ). take m x) (sym (tables_many s t cs)) d.list_is ∙ put_front list us

    pub front_fits : length cs ≤ length list₁
    unfolding needed needs_of
    front_fits =
        let many = tables_many s t cs in
        omega (arith, ap length d.list_is, length-put list 0 us (omega (arith, held.entries)), held.entries)

    pub front_is : length cs ≡ length (take (length cs) list₁)
    front_is = sym (ap length tables_are ∙ tables_many s t cs)

    pub lookups_asked : LookupsReady s₁ t (take (length cs) list₁) marks ps
    lookups_asked = rw (d.store, tables_are, k.found.lookups) ready

    pub all_carried : {s₂ : Store} → s₂ ≡ entered_store s₁ t (take (length cs) list₁) ps s₁ → EnteredAt s t cs ps list s₂ list₁
    all_carried e =
        let same : entered_store s₁ t (take (length cs) list₁) ps s₁ ≡ entered_store s t us ps s' = rw (d.store, tables_are, k.found.lookups) same_store in
        record { store = e ∙ same; list_is = d.list_is }

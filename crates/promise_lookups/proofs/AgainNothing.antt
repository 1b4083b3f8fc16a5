-- Splitting the kept table again under the same settings, scratch being enough, adds and changes nothing, also where new tables were entered. Assumes nothing.
use Prim.Native.Nat.{ℕ, ◌+◌, ◌-◌, ◌<◌, ◌≤◌}
use mathlib.Core.Path.{◌≡◌, refl, sym, ap, subst, ◌∙◌}
use mathlib.Core.Bool.{true}
use mathlib.Core.List.{List, map}
use mathlib.Core.Logic.{◌⊎◌, inl, inr, ⊎_elim}
use native.Mathlib.Omega.{arith}
use lib.ListN.{length, get_or, length-append, get_or-append, get_or-map}
use lib.Seq.{get_or-append-add}
use Rattle.folds.proofs.Each.{Each, each_flat, each_at}
use Rattle.folds.proofs.Moved.{length-map}
use Rattle.ot_layouts.specs.Lookup.{lookup_header}
use Rattle.store_rules.specs.Store.{Store, Link, links_of, link_at, is_offset, parent_of, child_of}
use Rattle.store_rules.specs.Reach.{Reach}
use Rattle.store_rules.specs.InOrder.{Alike}
use Rattle.store_rules.proofs.LinkRows.{no_link, row_is}
use Rattle.store_rules.proofs.LinksFit.{rows_many}
use Rattle.store_rules.proofs.SlotLinks.{slots_each}
use Rattle.store_rules.proofs.Ways.{Way}
use Rattle.store_rules.proofs.Shaped.{of_offset, of_parent}
use Rattle.store_rules.proofs.InOrder.{alike_many, alike_at}
use Rattle.pair_rules.specs.Table.{cut_places, sets_sorted}
use Rattle.pair_rules.specs.Written.{new_tables, split_store}
use Rattle.pair_rules.specs.Reads.{ReadsPairs}
use Rattle.pair_rules.proofs.SortedSets.{no_case_pairs, pairs_no_case}
use Rattle.pair_rules.proofs.SameReading.{refusal_same}
use Rattle.pair_rules.proofs.SameCuts.{Extends, acyclic_same, slots_same, cuts_same}
use Rattle.lookup_rules.specs.Listed.{rewritten}
use Rattle.lookup_rules.specs.Written.{new_slots, subtable_links, new_lookup_links, redirected, lookup_store}
use Rattle.lookup_rules.proofs.Redirection.{redirect_other}
use Rattle.promise_calls.specs.Unchanged.{Octets}
use Rattle.promise_pairs.specs.Exactly.{Checked}
use Rattle.promise_pairs.proofs.WrittenAfresh.{kept_reads}
use Rattle.pair_after.proofs.SortedThen.{kept_sorted}
use Rattle.pair_after.proofs.SameReach.{at_slots_lem, still_acyclic}
use Rattle.pair_after.proofs.SplitLinks.{NewOrOwn, row_leads}
use Rattle.promise_pairs.proofs.AgainNothing.{nothing_to_split}
use Rattle.pair_after.proofs.KeptUncut.{kept_uncut}
use Rattle.promise_lookups.specs.Demands.{AgainNoEntry}
use Rattle.promise_lookups.proofs.Answered.{enters_may, store_entered_lem}
use Rattle.lookup_after.proofs.Entering.{Entering}
use Rattle.promise_lookups.proofs.GoesAhead.{entering}
use Rattle.lookup_after.proofs.Unled.{more, unled, fit'}
use Rattle.lookup_after.proofs.NewLookups.{links, links_are, rows_alike, used_then, split_head, split_tail, split_bytes}
use Rattle.promise_lookups.proofs.StaysSound.{fits_entered}
use Rattle.promise_lookups.proofs.Kept.{not-rewritten, table_child, around_table, kept_table_lem}

module _ (s : Store) (l t : ℕ) (cs : List ℕ) (e : Entering s l t cs) where
  abbrev s' : Store
  s' = split_store s t cs

  abbrev s'' : Store
  s'' = lookup_store s l t cs

  abbrev ps : List ℕ
  ps = rewritten s l t

  abbrev n : ℕ
  n = (split_store s t cs).object_count

  -- a link, redirected
  abbrev led : Link → Link
  led k = redirected (split_store s t cs).object_count (rewritten s l t) k

  -- ---- the rows at exit: the split's at their places, then those of the new lookups

  many_then_lem : s''.link_count ≡ s'.link_count + length (more s l t cs e)
  many_then_lem =
      sym (rows_many s'') ∙ ap length (links_are s l t cs e) ∙ alike_many (links s l t cs e) (map led (unled s l t cs e)) (rows_alike s l t cs e) ∙ length-map led (unled s l t cs e) ∙ length-append (links_of s') (more s l t cs e)
      ∙ ap (λ (k : ℕ). k + length (more s l t cs e)) (rows_many s')

  row_then : (k : ℕ) → k < s''.link_count → Alike (link_at s'' k) (led (get_or (unled s l t cs e) k no_link))
  row_then k h =
      subst (λ (x : Link). Alike x (led (get_or (unled s l t cs e) k no_link))) (sym (row_is s'' (links s l t cs e) (links_are s l t cs e) k h (led no_link)))
      (subst (Alike (get_or (links s l t cs e) k (led no_link))) (get_or-map led (unled s l t cs e) k no_link)
      (alike_at (links s l t cs e) (map led (unled s l t cs e)) (rows_alike s l t cs e) k (led no_link)))

  old_row : (k : ℕ) → k < s'.link_count → Alike (link_at s'' k) (led (link_at s' k))
  old_row k h =
      subst (λ (x : Link). Alike (link_at s'' k) (led x))
      (get_or-append (links_of s') (more s l t cs e) no_link k (omega (arith, rows_many s')) ∙ sym (row_is s' (links_of s') refl k h no_link))
      (row_then k (omega (arith, many_then_lem)))

  more_above : Each (λ k. n ≤ k.parent) (more s l t cs e)
  unfolding new_lookup_links
  more_above =
      each_flat (λ k. n ≤ k.parent) (λ m. subtable_links (n + m) (new_slots s t (new_tables s t cs) (get_or ps m 0))) (length ps)
      (λ m h. slots_each (n + m) lookup_header 2 _ (λ k. n ≤ k.parent) _ (λ i c a b. omega arith))

  new_row : (k : ℕ) → s'.link_count ≤ k → k < s''.link_count → n ≤ parent_of s'' k
  unfolding redirected
  new_row k ge h =
      let j = k - s'.link_count in
      let z : k ≡ length (links_of s') + j = omega (arith, rows_many s') in
      let row : Alike (link_at s'' k) (led (get_or (more s l t cs e) j no_link))
      = subst (λ (x : Link). Alike (link_at s'' k) (led x))
      (ap (λ (m : ℕ). get_or (unled s l t cs e) m no_link) z ∙ get_or-append-add (links_of s') (more s l t cs e) j no_link) (row_then k h) in
      let p : parent_of s'' k ≡ (get_or (more s l t cs e) j no_link).parent = row.parent in
      omega (arith, p, each_at (λ k. n ≤ k.parent) (more s l t cs e) more_above j (omega (arith, many_then_lem)) no_link)

  -- ---- the store at exit extends the split's, from the kept table

  -- what the kept table reaches is new, or the old one reached it
  own_way : {i : ℕ} → Way s' t i → NewOrOwn s t i
  own_way (Reach.seed k h a f) = subst (NewOrOwn s t) f (row_leads s t cs e.ready k h (of_offset t (link_at s' k) a) (inl (of_parent t (link_at s' k) a)))
  own_way (Reach.step {i} r k h p f) =
      subst (NewOrOwn s t) f
      (row_leads s t cs e.ready k h (of_offset i (link_at s' k) p) (inr (subst (NewOrOwn s t) (sym (of_parent i (link_at s' k) p)) (own_way r))))

  child_same : (k : ℕ) → k < s'.link_count → is_offset (link_at s' k) ≡ true → (parent_of s' k ≡ t) ⊎ Way s' t (parent_of s' k) → child_of s'' k ≡ child_of s' k
  unfolding redirected
  child_same k h o d =
      let own = row_leads s t cs e.ready k h o (⊎_elim (λ z. inl z) (λ w. inr (own_way w)) d) in
      (old_row k h).child o ∙ redirect_other n ps (child_of s' k) (not-rewritten s l t cs e (child_of s' k) own)

  extends : Extends s' s'' t
  unfolding redirected
  extends =
      let (used, own) = kept_table_lem s l t cs e in
      record {
        fits = fit' s l t cs e;
        fits_then = fits_entered s l t cs e;
        used = used;
        objects = omega (arith, used_then s l t cs e);
        rows = omega (arith, many_then_lem);
        bytes = split_bytes s l t cs e;
        sizes = λ i h. omega (arith, split_head s l t cs e i h, split_tail s l t cs e i h);
        links = λ q. table_child s l t cs e t q used own;
        kinds = λ k h. (old_row k h).kind;
        parents = λ k h. (old_row k h).parent;
        positions = λ k h. (old_row k h).position;
        children = child_same;
        behind = new_row;
      }

  -- the pairs of the kept table can be read
  reads_then : Octets s → sets_sorted s t ≡ true → ReadsPairs s'' t
  reads_then octets sorted =
      let (used, own) = kept_table_lem s l t cs e in
      let reads : ReadsPairs s' t = record { reads = kept_reads s t cs e.ready octets; sorted = kept_sorted s t cs e.ready sorted } in
      no_case_pairs s'' t (refusal_same (around_table s l t cs e t used own) ∙ pairs_no_case s' t reads)

-- "Splitting the kept table again adds and changes nothing", scratch being enough
pub again_no_entry : AgainNoEntry
again_no_entry how s l t w list octets p v list' =
    let cs = cut_places how s t in
    let e = entering how s l t w list p in
    let g = e.ready in
    let x = extends s l t cs e in
    let before = (enters_may how s l t w list p).checked in
    let pairs = reads_then s l t cs e octets before.sorted in
    rw (store_entered_lem how s l t w list p)
    (λ h.
    let checked : Checked how (lookup_store s l t cs) t v
    = record {
      known = before.known;
      reads = pairs.reads;
      scratch = h;
      at_slots = slots_same x (at_slots_lem s t cs g);
      acyclic = acyclic_same x (still_acyclic s t cs g);
      sorted = pairs.sorted;
    } in
    nothing_to_split how (lookup_store s l t cs) t v list' checked (cuts_same x how ∙ kept_uncut how s t cs g refl))

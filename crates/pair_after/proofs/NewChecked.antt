-- 7 applies to no new table: its links stand at slots, and nothing leads to it. Assumes nothing.
use Prim.Native.Nat.{ℕ, ◌+◌, ◌<◌, ◌≤◌}
use mathlib.Core.Path.{◌≡◌, refl, sym, ap, subst, ◌∙◌}
use mathlib.Core.Bool.{true, false}
use mathlib.Core.List.{List, map}
use mathlib.Core.Logic.{⊎_elim}
use native.Mathlib.Omega.{arith}
use native.Mathlib.Nat.{mul-le-mul_left, mul-add}
use lib.ListN.{length}
use Rattle.folds.specs.Folds.{flat}
use Rattle.folds.specs.Lists.{among, sift}
use Rattle.folds.proofs.Tests.{either}
use Rattle.folds.proofs.Joined.{or-first}
use Rattle.folds.proofs.Each.{Each, each_at, each_upto, each_moved, each_append, each_flat}
use Rattle.ot_layouts.specs.PairPos.{Shape, heads, is_slot}
use Rattle.ot_layouts.proofs.Slots.{slot_moved}
use Rattle.store_rules.specs.Store.{Store, Link, links_of, link_at, offset_of, position_of, bytes_of, linked_at}
use Rattle.store_rules.specs.Reach.{on_cycle}
use Rattle.store_rules.specs.Appended.{new_number}
use Rattle.store_rules.specs.Header.{kept, own_child}
use Rattle.store_rules.proofs.Shaped.{of_parent}
use Rattle.store_rules.proofs.Lookups.{linked_used}
use Rattle.store_rules.proofs.LinkRows.{no_link, row_is}
use Rattle.store_rules.proofs.LinksFit.{rows_many}
use Rattle.store_rules.proofs.Header.{header_each, child_any, kept_any}
use Rattle.store_rules.proofs.Ways.{unled_acyclic}
use Rattle.cut_rules.specs.Ranges.{from, to}
use Rattle.pair_rules.specs.Table.{shape, of_items, all_at_slots}
use Rattle.pair_rules.specs.Written.{head_links, moved, table_links, per_table, split_store}
use Rattle.pair_rules.proofs.Checks.{all_at_slots_lem, at_slot}
use Rattle.pair_rules.proofs.ItemLinks.{items_from}
use Rattle.pair_after.proofs.Ready.{Ready, new_used}
use Rattle.pair_after.proofs.NewLinks.{piece, stayed, stays, links_then}
use Rattle.pair_after.proofs.View.{view_shape}
use Rattle.pair_after.proofs.KeptAndNew.{view_new}
use Rattle.pair_after.proofs.SoundThen.{fits_then_lem}

module _ (s : Store) (t : ℕ) (cs : List ℕ) (g : Ready s t cs) where
  abbrev sh : Shape
  sh = shape s t

  abbrev s' : Store
  s' = split_store s t cs

  -- new table j
  abbrev table : ℕ → ℕ
  table j = new_number s (per_table (shape s t)) j

  -- a link of the old store
  record Old (l : Link) : Type 0 where
    parent_used : l.parent < s.object_count
    child_used : l.child < s.object_count
    slot : offset_of t l ≡ true → is_slot (shape s t) l.position ≡ true

  old_links : Each Old (links_of s)
  unfolding links_of
  old_links =
      each_upto Old (link_at s) s.link_count
      (λ k l. record { parent_used = (g.fit.link k l).parent_used; child_used = (g.fit.link k l).child_used; slot = at_slot s t g.at_slots k l })

  -- a link after the split: one of a new object stands at a slot, and none leads to a new table
  record Then (l : Link) : Type 0 where
    slot : s.object_count ≤ l.parent → is_slot (shape s t) l.position ≡ true
    apart : (j : ℕ) → j < length cs → l.child ≡ table j → ⊥

  -- a table's own parts stand between it and the next
  between : (i j c : ℕ) → table i < c → c < table i + per_table (shape s t) → c ≡ table j → ⊥
  between i j c a b e =
      let per = per_table sh in
      ⊎_elim
      (λ lt. omega (arith, mul-le-mul_left {m = i + 1} {n = j} per (omega arith), mul-add per i 1))
      (λ ge. omega (arith, mul-le-mul_left {m = j} {n = i} per ge))
      (either i j)

  stayed_then : Each Then (stayed s t cs)
  unfolding kept
  stayed_then = each_moved Old Then (kept sh.own t v) (stays s t cs) one (links_of s) old_links
    where
      v : ℕ
      v = table (length cs)

      one : (l : Link) → Old l → stays s t cs l ≡ true → Then (kept sh.own t v l)
      one l o h =
          record {
            slot = λ a. absurd (omega (arith, o.parent_used));
            apart = λ j a e.
                ⊎_elim
                (λ same. omega (arith, o.child_used))
                (λ (low, high). omega (arith, mul-le-mul_left {m = j + 1} {n = length cs} (per_table sh) (omega arith), mul-add (per_table sh) j 1))
                (kept_any sh.own t v l);
          }

  piece_then : (i : ℕ) → Each Then (piece s t cs i)
  unfolding table_links moved is_slot
  piece_then i =
      let u = table i in
      let lo = from cs i in
      let hi = to sh.count cs i in
      each_append Then (head_links sh u (linked_at s t)) (map (moved sh u lo) (sift (of_items t sh lo hi) (links_of s)))
      (header_each sh.own u (linked_at s t) Then (heads sh)
      (λ q a. record {
        slot = λ b. or-first (among q (heads sh)) _ a;
        apart = λ j b e.
            ⊎_elim
            (λ same. omega (arith, linked_used s t g.fit g.reads.used q))
            (λ (low, high). between i j (own_child sh.own (u + 1) q (linked_at s t q)) (omega arith) (omega arith) e)
            (child_any sh.own (u + 1) q (linked_at s t q));
      }))
      (each_moved Old Then (moved sh u lo) (of_items t sh lo hi)
      (λ l o h.
      let (p, a, b) = items_from t sh lo hi l h in
      record { slot = λ c. slot_moved (bytes_of s t) l.position lo (o.slot p) a; apart = λ j c e. omega (arith, o.child_used) })
      (links_of s) old_links)

  all_then : Each Then (links_of s')
  all_then =
      subst (Each Then) (sym (links_then s t cs))
      (each_append Then (stayed s t cs) (flat (piece s t cs) (length cs)) stayed_then (each_flat Then (piece s t cs) (length cs) (λ j l. piece_then j)))

  row_then : (k : ℕ) → k < s'.link_count → Then (link_at s' k)
  row_then k h =
      subst Then (sym (row_is s' (links_of s') refl k h no_link)) (each_at Then (links_of s') all_then k (omega (arith, rows_many s')) no_link)

  module _ (j : ℕ) (l : j < length cs) where
    pub new_at_slots : all_at_slots s' (new_number s (per_table (shape s t)) j) ≡ true
    unfolding is_slot
    new_at_slots =
        all_at_slots_lem s' (table j)
        (λ k m e. ap (λ (x : Shape). is_slot x (position_of s' k)) (view_shape (view_new s t cs g j l)) ∙ (row_then k m).slot (omega (arith, of_parent (table j) (link_at s' k) e)))

    pub new_acyclic : on_cycle s' (new_number s (per_table (shape s t)) j) ≡ false
    new_acyclic = unled_acyclic s' (table j) (λ k m e. (row_then k m).apart j l e) (fits_then_lem s t cs g) (omega (arith, new_used s t cs g j 0 l (omega arith)))

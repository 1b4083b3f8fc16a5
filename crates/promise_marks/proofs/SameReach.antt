-- What classes of a table of a range reach after a split is what they reached in the old table. Assumes nothing.
use Prim.Native.Nat.{ℕ, ◌+◌, ◌-◌, ◌<◌, ◌≤◌}
use mathlib.Core.Path.{◌≡◌, sym, ap, ap₂, subst, ◌∙◌}
use mathlib.Core.Bool.{Bool, true}
use mathlib.Core.List.{List}
use mathlib.Core.Logic.{inl, inr}
use native.Mathlib.Omega.{arith}
use Rattle.ot_layouts.specs.MarkBasePos.{mark_slot}
use Rattle.store_rules.specs.Store.{Store, link_at, child_of, offset_of}
use Rattle.store_rules.specs.Reach.{Reach, reach_of, item_size}
use Rattle.store_rules.proofs.SameReach.{Seed, SameWays, RowsBehind, behind_goes, behind_went, reach_size_same}
use Rattle.cut_rules.specs.Ranges.{from}
use Rattle.mark_rules.specs.Table.{mark_anchor, base_anchor, of_classes}
use Rattle.mark_rules.specs.Written.{split_store}
use Rattle.mark_rules.specs.Reads.{Reads}
use Rattle.mark_rules.proofs.Checks.{AtSlots, parts_read}
use Rattle.mark_rules.proofs.Anchors.{Anchor, row_anchor, anchor_row}
use Rattle.promise_marks.proofs.Ready.{Ready, objects_then}
use Rattle.promise_marks.proofs.NewBytes.{old_size}
use Rattle.promise_marks.proofs.View.{View}
use Rattle.promise_marks.proofs.KeptAndNew.{view_kept}
use Rattle.promise_marks.proofs.StaysSound.{fits_then_lem}
use Rattle.promise_marks.proofs.WrittenAfresh.{kept_reads}
use Rattle.store_rules.proofs.Shaped.{of_parent}
use Rattle.promise_marks.proofs.Rows.{rows_then, new_parent, same_offset, same_child}
use Rattle.promise_marks.proofs.SameAnchors.{anchor_old, anchor_new}
use Rattle.promise_marks.proofs.KeptChecked.{not_back, mark_leads, base_leads, slots_then}

module _ (s : Store) (t : ℕ) (cs : List ℕ) (g : Ready s t cs) where
  abbrev s' : Store
  s' = split_store s t cs

  -- rows of the table
  abbrev of_t : ℕ → Bool
  of_t k = offset_of t (link_at s k)

  -- what the first j classes of the table u of a range reach
  module _ {u lo hi : ℕ} (v : View s t (split_store s t cs) u lo hi) (reads : Reads (split_store s t cs) u) (slots : AtSlots (split_store s t cs) u) where
    module _ (j : ℕ) (small : lo + j ≤ hi) where
      -- rows of these classes, then and before
      abbrev then : ℕ → Bool
      then k = of_classes s' u 0 j (link_at s' k)

      abbrev before : ℕ → Bool
      before k = of_classes s t lo (lo + j) (link_at s k)

      -- what the classes reach, the table reaches
      anchor_known : (c : ℕ) → Anchor s t lo (lo + j) c → Reach s of_t c
      unfolding mark_anchor base_anchor
      anchor_known c (inl (i, l, a, b, e)) = mark_leads s t cs g (mark_slot i) c e
      anchor_known c (inr (i, k, l, m, a, b, e)) = base_leads s t cs g _ c e

      row_known : (k : ℕ) → k < s.link_count → before k ≡ true → Anchor s t lo (lo + j) (child_of s k)
      row_known k l a = row_anchor s t g.fit g.parts g.at_slots lo (lo + j) k l a

      classes_table : {i : ℕ} → Reach s before i → Reach s of_t i
      classes_table (Reach.seed k l a e) = subst (Reach s of_t) e (anchor_known (child_of s k) (row_known k l a))
      classes_table (Reach.step r k l p e) = Reach.step (classes_table r) k l p e

      -- the rows that they reach stay, and the new ones stand behind
      rows_behind : RowsBehind s s' before
      rows_behind =
          record {
            rows = omega (arith, rows_then s t cs g);
            parents = same_offset s t cs g;
            children = λ k l p o r. same_child s t cs g k l (λ z. not_back s t cs g (subst (Reach s of_t) (sym (of_parent p (link_at s k) o) ∙ z) (classes_table r)));
            behind = new_parent s t cs g;
          }

      -- then as before, they lead to the same anchors
      starts : (c : ℕ) → Seed s before c → Seed s' then c
      starts c (k, l, a, e) =
          let (m, b, d, f) = anchor_row s' u 0 j (child_of s k) (anchor_new v g.reads j small (child_of s k) (row_known k l a)) in
          (m, b, d, f ∙ e)

      started : (c : ℕ) → Seed s' then c → Seed s before c
      started c (k, l, a, e) =
          let now : Anchor s' u 0 j (child_of s' k) = row_anchor s' u (fits_then_lem s t cs g) (parts_read s' u reads.parts) slots 0 j k l a in
          let (m, b, d, f) = anchor_row s t lo (lo + j) (child_of s' k) (anchor_old v g.reads j small (child_of s' k) now) in
          (m, b, d, f ∙ e)

      same_ways : SameWays s s' before then
      same_ways = record { starts = starts; started = started; goes = behind_goes rows_behind; went = behind_went rows_behind g.fit }

      pub reach_same : reach_of s' (of_classes s' u 0 j) ≡ reach_of s (of_classes s t lo (lo + j))
      reach_same =
          reach_size_same same_ways g.fit (fits_then_lem s t cs g) (omega (arith, objects_then s t cs g)) (λ i h r. old_size s t cs g i h)

    -- S of its classes is what it was
    pub class_same : (i : ℕ) → lo + i < hi → item_size s' (of_classes s' u) 0 i ≡ item_size s (of_classes s t) lo (lo + i)
    unfolding item_size
    class_same i h =
        let z : lo + (i + 1) ≡ lo + i + 1 = omega arith in
        ap₂ (λ (a b : ℕ). a - b) (reach_same (i + 1) (omega arith) ∙ ap (λ (n : ℕ). reach_of s (of_classes s t lo n)) z) (reach_same i (omega arith))

  -- S of the kept table's classes
  pub size_same : (i : ℕ) → i < from cs 0 → item_size s' (of_classes s' t) 0 i ≡ item_size s (of_classes s t) 0 i
  size_same i h =
      let z : 0 + i ≡ i = omega arith in
      class_same (view_kept s t cs g) (kept_reads s t cs g) (slots_then s t cs g) i (omega arith) ∙ ap (item_size s (of_classes s t) 0) z

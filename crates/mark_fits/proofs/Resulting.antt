-- The resulting tables, the kept one first: each is the table of its range, and what its classes take is what they took. Assumes nothing.
use Prim.Native.Nat.{ℕ, suc, ◌+◌, ◌<◌, ◌≤◌}
use mathlib.Core.Path.{◌≡◌, sym, ap, subst, ◌∙◌}
use mathlib.Core.Bool.{true, false}
use mathlib.Core.List.{List, ◌∷◌}
use native.Mathlib.Numerals.{add-one}
use native.Mathlib.Omega.{arith}
use lib.ListN.{length, get_or}
use Rattle.folds.specs.Lists.{among}
use Rattle.folds.proofs.Each.{each_upto, each_among}
use Rattle.folds.proofs.Moved.{length-map}
use Rattle.folds.proofs.Parts.{get_d_default}
use Rattle.ot_layouts.specs.MarkBasePos.{base_cover_at}
use Rattle.store_rules.specs.Store.{Store, size_of, linked_at}
use Rattle.store_rules.specs.Reach.{on_cycle}
use Rattle.store_rules.specs.Appended.{new_number}
use Rattle.store_rules.proofs.Lookups.{child_used_lem, linked_is}
use Rattle.cut_rules.proofs.CutPlaces.{lo_at}
use Rattle.mark_rules.specs.Table.{Mark, classes_of, marks_of, marks_within}
use Rattle.mark_rules.specs.Written.{split_store, new_tables, per_table}
use Rattle.mark_rules.specs.Reads.{Reads}
use Rattle.mark_rules.proofs.Checks.{AtSlots}
use Rattle.mark_rules.proofs.Marks.{reduce, within_reduced}
use Rattle.mark_rules.proofs.Measured.{class_marks}
use Rattle.promise_marks.proofs.Ready.{Ready, new_used}
use Rattle.promise_marks.proofs.NewBytes.{old_size}
use Rattle.promise_marks.proofs.View.{View, view_marks}
use Rattle.promise_marks.proofs.KeptAndNew.{view_kept, view_new}
use Rattle.promise_marks.proofs.StaysSound.{sound_then}
use Rattle.promise_marks.proofs.WrittenAfresh.{view_reads, kept_reads}
use Rattle.promise_marks.proofs.KeptChecked.{slots_then, still_acyclic}
use Rattle.promise_marks.proofs.NewSlots.{new_slots_lem}
use Rattle.promise_marks.proofs.NewAcyclic.{new_acyclic}

-- object u is the table of range j
pub record TableOf (s : Store) (t : ℕ) (cs : List ℕ) (u : ℕ) : Type 0 where
  pub j : ℕ
  pub some : j ≤ length cs
  pub view : View s t (split_store s t cs) u (lo_at cs j) (get_or cs j (classes_of s t))
  pub reads : Reads (split_store s t cs) u
  -- nor does 7 apply to it
  pub slots : AtSlots (split_store s t cs) u
  pub acyclic : on_cycle (split_store s t cs) u ≡ false

module _ (s : Store) (t : ℕ) (cs : List ℕ) (g : Ready s t cs) where
  abbrev s' : Store
  s' = split_store s t cs

  kept_table_lem : TableOf s t cs t
  kept_table_lem =
      record {
        j = 0;
        some = omega arith;
        view = subst (λ (hi : ℕ). View s t s' t 0 hi) (sym (get_d_default cs 0 (classes_of s t) 0 g.some_cut)) (view_kept s t cs g);
        reads = kept_reads s t cs g;
        slots = slots_then s t cs g;
        acyclic = still_acyclic s t cs g;
      }

  new_table_lem : (j : ℕ) → j < length cs → TableOf s t cs (new_number s per_table j)
  new_table_lem j l =
      let u = new_number s per_table j in
      record {
        j = suc j;
        some = l;
        view = subst (λ (k : ℕ). View s t s' u (get_or cs j 0) (get_or cs k (classes_of s t))) (add-one j) (view_new s t cs g j l);
        reads = view_reads (view_new s t cs g j l) g.reads (sound_then s t cs g) (omega (arith, new_used s t cs g j 0 l (omega arith)));
        slots = new_slots_lem s t cs g j l;
        acyclic = new_acyclic s t cs g j l;
      }

  -- the kept table, and each of the result list
  pub resulting_table : (u : ℕ) → among u (t ∷ new_tables s t cs) ≡ true → TableOf s t cs u
  unfolding new_tables
  resulting_table u h =
      each_among (TableOf s t cs) (t ∷ new_tables s t cs) u (kept_table_lem, each_upto (TableOf s t cs) (new_number s per_table) (length cs) new_table_lem) h

  module _ {u lo hi : ℕ} (v : View s t (split_store s t cs) u lo hi) where
    -- the marks of some of its classes are as many as they were
    pub marks_same : (a b : ℕ) → lo + b ≤ hi → class_marks s' u a b ≡ class_marks s t (lo + a) (lo + b)
    marks_same a b h =
        ap (λ (ms : List Mark). length (marks_within a b ms)) (view_marks v g.reads)
        ∙ ap length (within_reduced lo hi a b (marks_of s t) h)
        ∙ length-map (reduce lo) (marks_within (lo + a) (lo + b) (marks_of s t))

    -- the base coverage is the old one
    pub base_same : size_of s' (linked_at s' u base_cover_at) ≡ size_of s (linked_at s t base_cover_at)
    base_same =
        let (c, e, f, h) = v.base_cover in
        ap (size_of s') (linked_is s' u base_cover_at c e)
        ∙ old_size s t cs g c (child_used_lem s t g.fit base_cover_at c f)
        ∙ ap (size_of s) (sym (linked_is s t base_cover_at c f))

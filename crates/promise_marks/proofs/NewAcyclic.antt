-- A new table cannot be reached from itself: no link leads to it. Assumes nothing.
use Rattle.std.specs.Prelude.{Some}
use Prim.Native.Nat.{ℕ, ◌+◌, ◌-◌, ◌*◌, ◌<◌}
use mathlib.Core.Path.{◌≡◌, subst, sym}
use mathlib.Core.Bool.{false}
use mathlib.Core.List.{List}
use mathlib.Core.Logic.{⊎_elim}
use native.Mathlib.Omega.{arith}
use lib.ListN.{length}
use Rattle.folds.proofs.Tests.{either}
use Rattle.folds.proofs.Each.{Each, each_append, each_upto, each_then, each_at, each_sift}
use Rattle.ot_layouts.specs.MarkBasePos.{own, heads, mark_slot, base_slot}
use Rattle.store_rules.specs.Store.{Store, Link, link_at, linked_at}
use Rattle.store_rules.specs.Reach.{on_cycle}
use Rattle.store_rules.specs.Appended.{new_number}
use Rattle.store_rules.specs.Header.{header_links}
use Rattle.store_rules.proofs.Ways.{unled_acyclic}
use Rattle.store_rules.proofs.Lookups.{child_used_lem, linked_used}
use Rattle.store_rules.proofs.Header.{child_any, header_each, kept_any}
use Rattle.store_rules.proofs.SlotLinks.{slots_each}
use Rattle.cut_rules.specs.Ranges.{from, to}
use Rattle.mark_rules.specs.Table.{Mark, classes_of, marks_in, bases_in, mark_array, mark_anchor, base_array, marks_of, mark_at, marks_within, in_classes, base_anchor}
use Rattle.mark_rules.specs.Written.{per_table, no_mark, mark_child, base_child, mark_links, base_links, array_links, table_links, fresh_links, split_store}
use Rattle.promise_marks.proofs.Ready.{Ready, new_used}
use Rattle.promise_marks.proofs.NewLinks.{piece, fresh_each, array_each}
use Rattle.promise_marks.proofs.StaysSound.{fits_then_lem}
use Rattle.promise_marks.proofs.Rows.{row_old, row_fresh}

module _ (s : Store) (t : ℕ) (cs : List ℕ) (g : Ready s t cs) where
  abbrev s' : Store
  s' = split_store s t cs

  -- new table i
  abbrev table : ℕ → ℕ
  table i = new_number s per_table i

  -- a link that leads to no new table
  abbrev Apart : Link → Type 0
  Apart x = (j : ℕ) → j < length cs → x.child ≡ table j → ⊥

  -- one that leads to an old object
  abbrev OldChild : Link → Type 0
  OldChild x = x.child < s.object_count

  abbrev OldAnchor : Mark → Type 0
  OldAnchor m = (c : ℕ) → m.anchor ≡ Some c → c < s.object_count

  marks_old : (lo hi : ℕ) → Each OldAnchor (marks_within lo hi (marks_of s t))
  unfolding marks_within marks_of mark_at mark_anchor
  marks_old lo hi =
      each_sift OldAnchor OldAnchor (λ m. in_classes lo hi m.class) (λ m h e. h) (marks_of s t)
      (each_upto OldAnchor (mark_at s t) (marks_in s t) (λ k l c e. child_used_lem s (mark_array s t) g.fit (mark_slot k) c e))

  -- those of arrays do
  array_old : (p lo hi : ℕ) → Each OldChild (array_links s t p lo hi)
  unfolding mark_links base_links base_anchor
  array_old p lo hi =
      let ms = marks_within lo hi (marks_of s t) in
      array_each s t OldChild p lo hi
      (slots_each p (mark_slot 0) 4 (mark_child ms) OldChild (length ms) (λ k c l e. each_at OldAnchor ms (marks_old lo hi) k l no_mark c e))
      (slots_each (p + 1) (base_slot 0) 2 (base_child s t lo (hi - lo)) OldChild (bases_in s t * (hi - lo)) (λ k c l e. child_used_lem s (base_array s t) g.fit _ c e))

  array_apart : (p lo hi : ℕ) → Each Apart (array_links s t p lo hi)
  array_apart p lo hi = each_then OldChild Apart (λ x old j l e. omega arith) (array_links s t p lo hi) (array_old p lo hi)

  -- those of a new table's header lead to old objects, or to its own parts, which stand between it and the next table
  piece_apart : (i : ℕ) → i < length cs → Each Apart (piece s t cs i)
  unfolding table_links
  piece_apart i m =
      let u = table i in
      each_append Apart (header_links own heads u (linked_at s t)) (array_links s t (u + 2) (from cs i) (to (classes_of s t) cs i))
      (header_each own u (linked_at s t) Apart heads
      (λ q a j l e.
      ⊎_elim (λ same. omega (arith, linked_used s t g.fit g.reads.used q))
      (λ (low, high). ⊎_elim (λ lt. omega arith) (λ ge. omega arith) (either i j))
      (child_any own (u + 1) q (linked_at s t q))))
      (array_apart (u + 2) (from cs i) (to (classes_of s t) cs i))

  fresh_apart : Each Apart (fresh_links s t cs)
  fresh_apart = fresh_each Apart s t cs piece_apart (array_apart (table (length cs) + 1) 0 (from cs 0))

  row_apart : (k : ℕ) → k < s'.link_count → Apart (link_at s' k)
  row_apart k h =
      ⊎_elim
      (λ old.
      subst Apart (sym (row_old s t cs g k old))
      (λ j l e.
      ⊎_elim (λ same. omega (arith, (g.fit.link k old).child_used)) (λ (low, high). omega arith) (kept_any own t (table (length cs)) (link_at s k))))
      (λ new. row_fresh s t cs g Apart fresh_apart k new h)
      (either k s.link_count)

  pub new_acyclic : (j : ℕ) → j < length cs → on_cycle s' (new_number s per_table j) ≡ false
  new_acyclic j l = unled_acyclic s' (table j) (λ k m e. row_apart k m j l e) (fits_then_lem s t cs g) (omega (arith, new_used s t cs g j 0 l (omega arith)))

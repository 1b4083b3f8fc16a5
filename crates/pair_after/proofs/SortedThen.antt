-- The pair sets of the kept table and of the new ones are the old table's, with the same bytes: they are sorted where those were. Assumes nothing.
use Rattle.std.specs.Prelude.{Some}
use Prim.Native.Nat.{ℕ, ◌+◌, ◌-◌, ◌*◌, ◌<◌}
use mathlib.Core.Path.{◌≡◌, sym, ap, ap₂, ◌∙◌}
use mathlib.Core.Bool.{true}
use mathlib.Core.List.{List}
use native.Mathlib.Omega.{arith}
use lib.ListN.{length}
use lib.Dec.{eqb}
use Rattle.ot_layouts.specs.PairPos.{Shape, item_at, record_size, set_sorted}
use Rattle.ot_layouts.proofs.Shapes.{format_one}
use Rattle.store_rules.specs.Store.{Store, bytes_of, child_at}
use Rattle.store_rules.specs.Appended.{new_number}
use Rattle.store_rules.proofs.Lookups.{child_used_lem, child_other}
use Rattle.pair_rules.specs.Table.{shape, sets_sorted}
use Rattle.pair_rules.specs.Written.{per_table, split_store}
use Rattle.pair_rules.proofs.SortedSets.{set_sorted_lem, sets_sorted_lem}
use Rattle.pair_after.proofs.Ready.{Ready}
use Rattle.pair_after.proofs.NewBytes.{other_bytes}
use Rattle.pair_after.proofs.View.{View, view_record, view_shape}
use Rattle.pair_after.proofs.KeptAndNew.{view_kept, view_new}

-- a table of some of the old table's items
module _ {s : Store} {t : ℕ} {s' : Store} {u lo hi : ℕ} (v : View s t s' u lo hi)
    (bytes : (q c : ℕ) → child_at s t q ≡ Some c → bytes_of s' c ≡ bytes_of s c) where
  pub view_sorted : sets_sorted s t ≡ true → sets_sorted s' u ≡ true
  view_sorted sorted = sets_sorted_lem s' u set
    where
      set : eqb (shape s' u).format 1 ≡ true → (k c : ℕ) → k < (shape s' u).count → child_at s' u (item_at (shape s' u) k) ≡ Some c
          → set_sorted (bytes_of s' c) (record_size (bytes_of s' u)) ≡ true
      set e k c l child =
          let one : eqb (shape s t).format 1 ≡ true = sym (ap (λ (sh : Shape). eqb sh.format 1) (view_shape v)) ∙ e in
          let many : (shape s' u).count ≡ hi - lo = ap (λ (sh : Shape). sh.count) (view_shape v) in
          let two = (format_one (bytes_of s t) one).item_is in
          let a : (shape s t).item * k ≡ 2 * k = ap (λ (n : ℕ). n * k) two in
          let b : (shape s t).item * lo ≡ 2 * lo = ap (λ (n : ℕ). n * lo) two in
          let d : (shape s t).item * (k + lo) ≡ 2 * (k + lo) = ap (λ (n : ℕ). n * (k + lo)) two in
          let h : (shape s t).item * hi ≡ 2 * hi = ap (λ (n : ℕ). n * hi) two in
          let old : child_at s t (item_at (shape s t) (k + lo)) ≡ Some c
          = ap (child_at s t) (omega arith) ∙ sym (v.links (item_at (shape s t) k) (omega arith) (omega arith))
          ∙ ap (λ (sh : Shape). child_at s' u (item_at sh k)) (sym (view_shape v)) ∙ child in
          ap₂ set_sorted (bytes (item_at (shape s t) (k + lo)) c old) (view_record v)
          ∙ set_sorted_lem s t sorted one (k + lo) c (omega (arith, v.high)) old

module _ (s : Store) (t : ℕ) (cs : List ℕ) (g : Ready s t cs) (sorted : sets_sorted s t ≡ true) where
  -- what the table leads to is another object, and keeps its bytes
  set_bytes : (q c : ℕ) → child_at s t q ≡ Some c → bytes_of (split_store s t cs) c ≡ bytes_of s c
  set_bytes q c e = other_bytes s t cs g c (child_used_lem s t g.fit q c e) (child_other s t g.fit g.acyclic q c e)

  -- each table of some of its items is sorted then
  pub table_sorted : {u lo hi : ℕ} → View s t (split_store s t cs) u lo hi → sets_sorted (split_store s t cs) u ≡ true
  table_sorted v = view_sorted v set_bytes sorted

  pub kept_sorted : sets_sorted (split_store s t cs) t ≡ true
  kept_sorted = table_sorted (view_kept s t cs g)

  pub new_sorted : (j : ℕ) → j < length cs → sets_sorted (split_store s t cs) (new_number s (per_table (shape s t)) j) ≡ true
  new_sorted j l = table_sorted (view_new s t cs g j l)

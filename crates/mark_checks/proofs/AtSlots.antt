-- Links that stand at slots: row by row, and object by object. Assumes nothing.
use Prim.Native.Nat.{ℕ, ◌<◌}
use mathlib.Core.Path.{◌≡◌, sym, ap, ap₂, ◌∙◌}
use mathlib.Core.Bool.{Bool, true, false, not, ◌&&◌}
use native.Mathlib.Omega.{arith}
use borrow.Author.Tests.{not-true, not-false}
use Rattle.folds.proofs.Tests.{and_first, and_second}
use Rattle.ot_layouts.specs.MarkBasePos.{is_table_slot, is_mark_slot, is_base_slot}
use Rattle.store_rules.specs.Store.{Store, all_at}
use Rattle.store_rules.proofs.Sound.{sound_fits}
use Rattle.store_rules.proofs.Lookups.{child_used_lem}
use Rattle.store_reader.specs.Rows.{InOrder}
use Rattle.store_reader.proofs.Rows.{rows_in_order}
use Rattle.ot_markbasepos.specs.declared.ArrayKind.{ArrayKind}
use Rattle.ot_markbasepos.specs.Kinds.{array_at}
use Rattle.mark_rules.specs.Table.{all_at_slots}
use Rattle.mark_checks.specs.declared.Array.{Array}
use Rattle.mark_checks.specs.declared.MarkTable.{MarkTable}
use Rattle.mark_checks.specs.Opens.{LinkedArray, Opens}

module _ {s : Store} {t : ℕ} {p : MarkTable} (o : Opens s t p) where
  pub opened_in_order : InOrder s.links s.link_count
  opened_in_order = rows_in_order s o.reads.sounds

  pub table_small : t < 65536
  table_small = let f = sound_fits s o.reads.sounds in omega (arith, o.reads.used, f.objects_most)

  array_small : {kind : ArrayKind} {classes : ℕ} {a : Array} → LinkedArray kind s t classes a → a.object < 65536
  array_small {kind} {a = a} l =
      let f = sound_fits s o.reads.sounds in
      omega (arith, child_used_lem s t f (array_at kind) a.object l.child, f.objects_most)

  pub marks_small : p.marks.object < 65536
  marks_small = array_small o.marks

  pub bases_small : p.bases.object < 65536
  bases_small = array_small o.bases

  -- the table's own links, those of the mark array, and those of the base array
  abbrev own : Bool
  own = all_at s t is_table_slot

  abbrev of_marks : ℕ → Bool
  of_marks a = all_at s a is_mark_slot

  abbrev of_bases : ℕ → Bool
  of_bases a = all_at s a is_base_slot

  judged : (own && of_marks p.marks.object && of_bases p.bases.object) ≡ all_at_slots s t
  unfolding all_at_slots
  judged = ap₂ (λ (x y : ℕ). own && of_marks x && of_bases y) o.marks.linked o.bases.linked

  module _ {x : Bool} (e : x ≡ own) where
    pub own_fails : not x ≡ true → false ≡ all_at_slots s t
    own_fails h = sym (and_first _ _ (and_first _ _ (sym e ∙ not-true x h))) ∙ judged

    module _ (h : not x ≡ false) {y : Bool} (f : y ≡ of_marks p.marks.object) where
      pub marks_fail : not y ≡ true → false ≡ all_at_slots s t
      marks_fail g = sym (and_first _ _ (and_second own _ (sym f ∙ not-true y g))) ∙ judged

      pub bases_decide : not y ≡ false → {z : Bool} → z ≡ of_bases p.bases.object → z ≡ all_at_slots s t
      bases_decide g {z} d =
          let both : (own && of_marks p.marks.object) ≡ true = ap₂ ◌&&◌ (sym e ∙ not-false x h) (sym f ∙ not-false y g) in
          d ∙ sym (ap (λ (b : Bool). b && of_bases p.bases.object) both) ∙ judged

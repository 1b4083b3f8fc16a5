-- Where the anchors of a mark and a base are linked. Assumes nothing.
use Rattle.std.specs.Prelude.{Option, Some, None}
use Prim.Native.Nat.{ℕ, ◌+◌, ◌*◌, ◌≤◌, ◌<◌}
use mathlib.Core.Path.{◌≡◌, sym, ap, ◌∙◌}
use mathlib.Core.List.{List}
use native.Mathlib.Nat.{mul-le-mul_right}
use native.Mathlib.Omega.{arith}
use lib.ListN.{length}
use Rattle.folds.specs.Lists.{and_then}
use Rattle.ot_layouts.specs.MarkBasePos.{mark_class, mark_slot}
use Rattle.store_rules.specs.Store.{Store, bytes_of, child_at}
use Rattle.store_rules.proofs.Sound.{Fits, sound_fits, size_bytes, size_most}
use Rattle.store_rules.proofs.Lookups.{child_used_lem}
use Rattle.store_reader.specs.Rows.{InOrder}
use Rattle.store_reader.proofs.Rows.{rows_in_order}
use Rattle.mark_rules.specs.Table.{mark_bytes, marks_in, bases_in, mark_anchor, base_anchor}
use Rattle.mark_rules.specs.Attachments.{anchors}
use Rattle.mark_rules.proofs.Checks.{Parts, parts_read}
use Rattle.mark_checks.specs.declared.MarkTable.{MarkTable}
use Rattle.mark_checks.specs.Opens.{Opens}
use Rattle.mark_checks.proofs.Opened.{marks_used, bases_used, same_marks, marks_long_lem}
use Rattle.mark_reading.specs.Reading.{attached_as, attach_at}

-- slot (j, c) of b bases and n classes is one of their slots
slot_low : (j c b n : ℕ) → j < b → c < n → j * n + c < b * n
slot_low j c b n h g = let m : (j + 1) * n ≤ b * n = mul-le-mul_right n (omega arith) in omega (arith, mul_suc-left)
  where
    mul_suc-left : (j + 1) * n ≡ j * n + n
    mul_suc-left = omega arith

module _ {s : Store} {t : ℕ} {p : MarkTable} (o : Opens s t p) where
  abbrev fit : Fits s
  fit = sound_fits s o.reads.sounds

  parts : Parts s t
  parts = parts_read s t o.reads.parts

  pub spot_in_order : InOrder s.links s.link_count
  spot_in_order = rows_in_order s o.reads.sounds

  module _ {i : ℕ} (h : i < marks_in s t) where
    -- a mark's slot lies within the array, and so within 16,777,216 bytes
    pub mark_most : 4 + 4 * i < 16777216
    mark_most = omega (arith, marks_long_lem o, size_bytes s fit p.marks.object (marks_used o), size_most s fit p.marks.object (marks_used o))

    pub mark_in : {b : List ℕ} → b ≡ bytes_of s p.marks.object → 2 + 4 * i + 1 < length b
    mark_in e = omega (arith, ap length e, marks_long_lem o)

    module _ {b : List ℕ} (f : b ≡ bytes_of s p.marks.object) {v : ℕ} (g : v ≡ mark_class b i) where
      class_is : v ≡ mark_class (mark_bytes s t) i
      class_is = g ∙ ap (λ (x : List ℕ). mark_class x i) (f ∙ same_marks o)

      class_low : v < p.classes
      class_low = omega (arith, class_is, parts.classes_low i h, o.classes)

      module _ {j : ℕ} (k : j < bases_in s t) {n : ℕ} (width : n ≡ p.classes) where
        -- so does a base's slot
        pub base_most : 2 + 2 * (j * n + v) < 16777216
        base_most =
            let low = slot_low j v (bases_in s t) n k (omega (arith, class_low, width)) in
            let long = ap (λ (c : ℕ). length (bytes_of s c)) o.bases.linked ∙ parts.bases_long in
            let same = ap (λ (m : ℕ). bases_in s t * m) (width ∙ o.classes) in
            omega (arith, low, long, same, size_bytes s fit p.bases.object (bases_used o), size_most s fit p.bases.object (bases_used o))

        module _ (x : Option ℕ) (e : x ≡ child_at s p.marks.object (4 + 4 * i)) where
          mark_anchor_lem : x ≡ mark_anchor s t i
          unfolding mark_anchor
          mark_anchor_lem = e ∙ ap (λ (c : ℕ). child_at s c (mark_slot i)) o.marks.linked

          pub no_mark_anchor : x ≡ None → attached_as None ≡ attach_at s t i j
          unfolding attach_at and_then
          no_mark_anchor y = rw (← mark_anchor_lem, y)

          module _ {a : ℕ} (y : x ≡ Some a) (z : Option ℕ) (d : z ≡ child_at s p.bases.object (2 + 2 * (j * n + v))) where
            base_anchor_lem : z ≡ base_anchor s t j (mark_class (mark_bytes s t) i)
            unfolding base_anchor
            base_anchor_lem = d ∙ rw (width, o.bases.linked, o.classes, class_is)

            pub no_base_anchor : z ≡ None → attached_as None ≡ attach_at s t i j
            unfolding attach_at and_then
            no_base_anchor w = rw (← mark_anchor_lem, y, ← base_anchor_lem, w)

            module _ {c : ℕ} (w : z ≡ Some c) where
              pub both_anchors : Some (anchors a c) ≡ attach_at s t i j
              unfolding attach_at and_then
              both_anchors = rw (← mark_anchor_lem, y, ← base_anchor_lem, w)

              pub anchors_small : (a < 65536) × (c < 65536)
              anchors_small =
                  let first = child_used_lem s p.marks.object fit (4 + 4 * i) a (sym e ∙ y) in
                  let second = child_used_lem s p.bases.object fit (2 + 2 * (j * n + v)) c (sym d ∙ w) in
                  (omega (arith, first, fit.objects_most), omega (arith, second, fit.objects_most))

-- What the cut rule asks of a table, from what the checks hold of it. Assumes nothing.
use Prim.Native.Nat.{ℕ, ◌+◌, ◌*◌, ◌≤◌, ◌<◌}
use mathlib.Core.Path.{◌≡◌, ap, ap₂, subst, ◌∙◌}
use mathlib.Core.List.{List}
use native.Mathlib.Omega.{arith}
use lib.ListN.{length}
use Rattle.folds.specs.Lists.{part}
use Rattle.folds.proofs.Fronts.{front_long, back, front_again}
use Rattle.ot_layouts.specs.Coverage.{Entry}
use Rattle.store_rules.specs.Store.{Store, bytes_of, size_of}
use Rattle.store_rules.proofs.Lookups.{child_used_lem}
use Rattle.store_reader.specs.Rows.{Inside}
use Rattle.glyph_sort.specs.ByClass.{ByClass}
use Rattle.glyph_class_parts.specs.ClassParts.{OrderedByClass}
use Rattle.glyph_parts.proofs.Parts.{part-inside}
use Rattle.mark_order.specs.Marks.{places_by, mark_places}
use Rattle.mark_order.proofs.Entries.{places_in_order}
use Rattle.mark_checks.specs.declared.MarkTable.{MarkTable}
use Rattle.mark_checks.specs.Opens.{Opens}
use Rattle.mark_checks.proofs.Opened.{opened_fits, same_marks, marks_long_lem, marks_are, bases_are}
use Rattle.mark_points.specs.declared.table_info.TableInfo.{TableInfo}
use Rattle.mark_points.specs.Points.{PointsReady}
use Rattle.mark_plan.specs.Cutting.{info_of, Looked}

module _ {s : Store} {t : ℕ} {p : MarkTable} {w set gs ks cuts : List ℕ} (k : Looked s t p w set gs ks cuts) where
  o : Opens s t p
  o = k.opens

  -- the base coverage's length can be told
  pub cover_inside : Inside 16777216 s.objects p.base_coverage.object
  cover_inside =
      let i = part-inside o.reads.sounds o.base_coverage in
      let used = child_used_lem s t (opened_fits o) 4 p.base_coverage.object o.base_coverage.child in
      let fits = opened_fits o in
      record { row = i.row; ordered = i.ordered; inside = omega (arith, (fits.object p.base_coverage.object used).inside, fits.bytes_most) }

  -- a mark for each place, and an entry for it in the scratch
  marks_covered : p.marks.count ≤ p.glyphs
  marks_covered = omega (arith, marks_are o, o.reads.enough, o.glyphs)

  pub glyphs_room : p.marks.count ≤ length gs
  glyphs_room = omega (arith, marks_covered, k.glyphs)

  pub classes_room : p.marks.count ≤ length ks
  classes_room = omega (arith, marks_covered, k.classes)

  -- the fronts of the scratch that are lent for the marks
  abbrev marks : ℕ
  marks = p.marks.count

  module _ {b : List ℕ} (e : b ≡ bytes_of s p.marks.object) (few : marks < 65536) where
    pub places_ready : ((length (part ks 0 marks) ≡ length (part gs 0 marks)) × (length (part gs 0 marks) < 65536))
        × (2 + 4 * length (part gs 0 marks) ≤ length b)
    places_ready =
        let many = front_long gs marks glyphs_room in (
          (omega (arith, many, front_long ks marks classes_room), omega (arith, many)),
          omega (arith, many, ap length e, marks_long_lem o, marks_are o),
        )

    module _ {ps cs : List ℕ} (y : ByClass (places_by b (length (part gs 0 marks))) ps cs) where
      ordered : OrderedByClass (mark_places s t) ps cs
      ordered =
          let many = front_long gs marks glyphs_room in
          subst (λ (es : List Entry). OrderedByClass es ps cs) (ap₂ places_by (e ∙ same_marks o) (many ∙ marks_are o))
          (places_in_order b (length (part gs 0 marks)) (omega (arith, many)) y)

      ready : p.classes < 65536 → PointsReady s t (info_of s.objects p) ps cs w cuts
      ready low =
          record {
            described =
                record {
                  reads = o.reads;
                  slots = k.slots;
                  marks_at = o.marks.linked;
                  bases_at = o.bases.linked;
                  classes = o.classes;
                  bases = bases_are o;
                  start = ap (λ (c : ℕ). 16 + size_of s c) o.base_coverage.linked;
                  ordered = ordered;
                  epochs = omega arith;
                };
            marks = k.marks;
            room = omega (arith, k.room, o.classes);
          }

      -- the marks' places by class stand in the fronts
      pub points_ready : p.classes < 65536 → {x : TableInfo} → x ≡ info_of s.objects p → length ps ≡ length (part gs 0 marks)
          → length cs ≡ length (part ks 0 marks)
          → PointsReady s t x (part (back gs marks ps) 0 marks) (part (back ks marks cs) 0 marks) w cuts
      points_ready low {x} same a c = rw (same, front_again gs marks glyphs_room ps a, front_again ks marks classes_room cs c) (ready low)

-- The arrays of a table that is open: where they lie, and how many marks and bases they have. Assumes nothing.
use Prim.Native.Nat.{ℕ, ◌+◌, ◌*◌, ◌<◌}
use mathlib.Core.Path.{◌≡◌, ap, ◌∙◌}
use native.Mathlib.Omega.{arith}
use lib.ListN.{length}
use Rattle.folds.specs.Lists.{Bytes}
use Rattle.ot_layouts.specs.Numbers.{u16_at}
use Rattle.ot_layouts.proofs.Octets.{bytes_u16}
use Rattle.ot_layouts.specs.MarkBasePos.{mark_array_at, base_array_at}
use Rattle.store_rules.specs.Store.{Store, bytes_of}
use Rattle.store_rules.proofs.Sound.{Fits, sound_fits}
use Rattle.store_rules.proofs.Bytes.{object_bytes_lem}
use Rattle.store_rules.proofs.Lookups.{child_used_lem}
use Rattle.store_reader.specs.Rows.{Inside}
use Rattle.store_reader.proofs.Bytes.{inside}
use Rattle.mark_rules.specs.Table.{mark_bytes, marks_in, bases_in}
use Rattle.mark_rules.proofs.Checks.{parts_read}
use Rattle.mark_checks.specs.declared.MarkTable.{MarkTable}
use Rattle.mark_checks.specs.Opens.{Opens}

module _ {s : Store} {t : ℕ} {p : MarkTable} (o : Opens s t p) where
  abbrev pub opened_fits : Fits s
  opened_fits = sound_fits s o.reads.sounds

  pub marks_used : p.marks.object < s.object_count
  marks_used = child_used_lem s t opened_fits mark_array_at p.marks.object o.marks.child

  pub bases_used : p.bases.object < s.object_count
  bases_used = child_used_lem s t opened_fits base_array_at p.bases.object o.bases.child

  pub marks_inside : Inside (length s.bytes) s.objects p.marks.object
  marks_inside = inside s opened_fits p.marks.object marks_used

  pub same_marks : bytes_of s p.marks.object ≡ mark_bytes s t
  same_marks = ap (bytes_of s) o.marks.linked

  pub marks_long_lem : length (bytes_of s p.marks.object) ≡ 2 + 4 * marks_in s t
  marks_long_lem = ap length same_marks ∙ (parts_read s t o.reads.parts).marks_long

  pub marks_are : p.marks.count ≡ marks_in s t
  marks_are = o.marks.count ∙ ap (λ (c : ℕ). u16_at (bytes_of s c) 0) o.marks.linked

  pub bases_are : p.bases.count ≡ bases_in s t
  bases_are = o.bases.count ∙ ap (λ (c : ℕ). u16_at (bytes_of s c) 0) o.bases.linked

  -- numbers of sixteen bits, where the store's bytes are bytes
  pub classes_bits : Bytes s.bytes → p.classes < 65536
  classes_bits octets = omega (arith, o.classes, bytes_u16 (bytes_of s t) (object_bytes_lem s octets t) 6)

  pub marks_bits : Bytes s.bytes → p.marks.count < 65536
  marks_bits octets = omega (arith, o.marks.count, bytes_u16 (bytes_of s p.marks.object) (object_bytes_lem s octets p.marks.object) 0)

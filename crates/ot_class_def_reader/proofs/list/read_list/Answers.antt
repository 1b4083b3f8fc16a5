-- `ot_class_def_reader::list::read_list` meets its contract: a list is readable by its length and its last glyph. Assumes nothing.
use Rattle.std.specs.Bool.{then_some}
use Prim.Native.Nat.{ℕ, ◌+◌, ◌*◌}
use mathlib.Core.Path.{◌≡◌, sym, ◌∙◌}
use mathlib.Core.Bool.{Bool, ◌&&◌}
use mathlib.Core.List.{List}
use native.Mathlib.Omega.{arith}
use lib.ListN.{length}
use lib.Dec.{eqb, leb}
use borrow.Author.Tests.{eq-eqb, ne_eqb}
use Rattle.folds.proofs.Tests.{then_cond}
use Rattle.ot_layouts.specs.Numbers.{u16_at}
use Rattle.ot_layouts.specs.ClassDef.{class_def_of}
use Rattle.ot_layouts.specs.declared.Kind.TheVariants as Kind
use Rattle.ot_layouts.proofs.ClassDefRead.{list_reading, list_not_long}
use Rattle.ot_class_def_reader.proofs.list.read_list.Goals.{then-part-count, else-part-count}
use Rattle.ot_class_def_reader.proofs.list.read_list.Goals as goal

answer : (part : List ℕ) {start n : ℕ} {t : Bool} → u16_at part 0 ≡ 1 → start ≡ u16_at part 2 → n ≡ u16_at part 4
    → t ≡ (eqb (length part) (6 + 2 * n) && leb (start + n) 65536) → then_some t (record { kind = Kind.List; count = n }) ≡ class_def_of part
answer part {start} {n} {t} f b e g = then_cond t (record { kind = Kind.List; count = n }) ∙ rw (g, b, e) (sym (list_reading part f))

pub returns-then-part-lt6 : goal.returns-then-part-lt6
returns-then-part-lt6 c = list_not_long _ c.requires (λ e. omega arith)

pub returns : goal.returns
returns c =
    c.then_some.ensures
    ∙ answer _ c.requires (c.from-start.ensures ∙ c.u16_at.ensures) (c.from-count.ensures ∙ c.u16_at-2.ensures)
    (elim c.if-part-count.branch [ then-part-count w ↦ w.then_some-is ∙ rw (eq-eqb _ _ w.if-part-count.true) | else-part-count w ↦ w.then_some-is ∙ rw (ne_eqb _ _ w.if-part-count.false) ])

-- `ot_class_def_reader::in_ranges::read_ranges` meets its contract: ranges that fit are readable. Assumes nothing.
use Prim.Native.Nat.{ℕ}
use mathlib.Core.Path.{◌≡◌, ◌∙◌}
use mathlib.Core.Bool.{Bool}
use mathlib.Core.List.{List}
use Rattle.std.specs.Bool.{then_some}
use Rattle.folds.proofs.Tests.{then_cond}
use Rattle.ot_layouts.specs.Numbers.{u16_at}
use Rattle.ot_layouts.specs.Coverage.{ranges_fit}
use Rattle.ot_layouts.specs.ClassDef.{class_def_of}
use Rattle.ot_layouts.specs.declared.Kind.TheVariants as Kind
use Rattle.ot_layouts.proofs.ClassDefRead.{ranges_reading}
use Rattle.ot_class_def_reader.proofs.in_ranges.read_ranges.Goals as goal

answer : (part : List ℕ) {n : ℕ} {t : Bool} → u16_at part 0 ≡ 2 → n ≡ u16_at part 2 → t ≡ ranges_fit part n
    → then_some t (record { kind = Kind.Ranges; count = n }) ≡ class_def_of part
answer part {n} {t} f e g = then_cond t (record { kind = Kind.Ranges; count = n }) ∙ rw (g, e) (ranges_reading part f)

pub returns : goal.returns
returns c = c.then_some.ensures ∙ answer _ c.requires.part_value (c.from-count.ensures ∙ c.u16_at.ensures) c.ranges_fit.ensures

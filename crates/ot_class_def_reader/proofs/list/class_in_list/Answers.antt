-- `ot_class_def_reader::list::class_in_list` meets its contract: the class at the glyph's place, 0 outside. Assumes nothing.
use Prim.Native.Nat.{ℕ, ◌+◌, ◌*◌, ◌-◌, ◌≤◌, ◌<◌}
use mathlib.Core.Path.{◌≡◌, ◌∙◌}
use mathlib.Core.List.{List}
use native.Mathlib.Omega.{arith}
use borrow.Author.Tests.{le-leb, lt-leb, lt-ltb, le-ltb}
use Rattle.ot_layouts.specs.Numbers.{u16_at}
use Rattle.ot_class_def_reader.specs.Lookup.{list_class}
use Rattle.ot_class_def_reader.proofs.list.class_in_list.Goals as goal

module _ (part : List ℕ) {start : ℕ} (count g : ℕ) (e : start ≡ u16_at part 2) where
  before-it : g < start → 0 ≡ list_class part count g
  before-it h = rw (lt-leb (u16_at part 2) g (omega arith))

  at-it : {p : ℕ} → p ≡ g - start → start ≤ g → p < count → u16_at part (6 + 2 * p) ≡ list_class part count g
  at-it q h l = rw (le-leb (u16_at part 2) g (omega arith), lt-ltb g (u16_at part 2 + count) (omega arith), q, e)

  past-it : {p : ℕ} → p ≡ g - start → start ≤ g → count ≤ p → 0 ≡ list_class part count g
  past-it q h l = rw (le-leb (u16_at part 2) g (omega arith), le-ltb g (u16_at part 2 + count) (omega arith))

pub returns-then-glyph-start : goal.returns-then-glyph-start
returns-then-glyph-start c = before-it _ _ _ c.u16_at-start.ensures c.if-glyph-start.true

pub returns-then-place-count : goal.returns-then-place-count
returns-then-place-count c = c.u16_at.ensures ∙ at-it _ _ _ c.u16_at-start.ensures c.from-place.ensures c.if-glyph-start.false c.if-place-count.true

pub returns-else-place-count : goal.returns-else-place-count
returns-else-place-count c = past-it _ _ _ c.u16_at-start.ensures c.from-place.ensures c.if-glyph-start.false c.if-place-count.false

-- `ot_class_def_reader::in_ranges::ends_below` meets its contract, test by test. Assumes nothing.
use Prim.Native.Nat.{ℕ, ◌≤◌, ◌<◌}
use mathlib.Core.Path.{◌≡◌}
use mathlib.Core.Bool.{◌&&◌}
use mathlib.Core.List.{List}
use lib.Dec.{ltb}
use borrow.Author.Tests.{lt-ltb, le-ltb}
use Rattle.ot_layouts.specs.Coverage.{end_at}
use Rattle.ot_class_def_reader.proofs.in_ranges.ends_below.Goals as goal

module _ (part : List ℕ) (count k g : ℕ) where
  there : {e : ℕ} → k < count → e ≡ end_at part k → ltb e g ≡ (ltb k count && ltb (end_at part k) g)
  there l e = rw (lt-ltb k count l, e)

  not_there : count ≤ k → ltb k count ≡ (ltb k count && ltb (end_at part k) g)
  not_there l = rw (le-ltb k count l)

pub returns-then-k-count : goal.returns-then-k-count
returns-then-k-count c = there c.args.part.now _ _ _ c.if-k-count.true c.u16_at.ensures

pub returns-else-k-count : goal.returns-else-k-count
returns-else-k-count c = not_there c.args.part.now _ _ c.args.glyph c.if-k-count.false

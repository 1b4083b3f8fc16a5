-- `ot_class_def_reader::in_ranges::class_beside` meets its contract, test by test. Assumes nothing.
use Prim.Native.Nat.{ℕ, ◌≤◌, ◌<◌}
use mathlib.Core.Path.{◌≡◌, ◌∙◌}
use mathlib.Core.Bool.{cond, ◌&&◌}
use mathlib.Core.List.{List}
use native.Mathlib.Omega.{arith}
use lib.Dec.{leb, ltb}
use borrow.Author.Tests.{lt-ltb, le-ltb, le-leb, lt-leb}
use Rattle.ot_layouts.specs.Coverage.{start_at, beside_at}
use Rattle.ot_class_def_reader.proofs.in_ranges.class_beside.Goals.{else-k-count-via-then-k-count+else-u16_at-glyph, else-k-count-via-else-k-count}
use Rattle.ot_class_def_reader.proofs.in_ranges.class_beside.Goals as goal

module _ (part : List ℕ) (count k g : ℕ) where
  -- the class that is answered
  abbrev class : ℕ
  class = cond (ltb k count && leb (start_at part k) g) (beside_at part k) 0

  not_there : count ≤ k → 0 ≡ class
  not_there l = rw (le-ltb k count l)

  above : {b : ℕ} → k < count → b ≡ start_at part k → g < b → 0 ≡ class
  above l e h = rw (lt-ltb k count l, lt-leb (start_at part k) g (omega arith))

  beside : {b : ℕ} → k < count → b ≡ start_at part k → b ≤ g → beside_at part k ≡ class
  beside l e h = rw (lt-ltb k count l, le-leb (start_at part k) g (omega arith))

pub returns-then-u16_at-glyph : goal.returns-then-u16_at-glyph
returns-then-u16_at-glyph c = c.u16_at-then-u16_at-glyph.ensures ∙ beside c.args.part.now _ _ _ c.if-k-count.true c.u16_at.ensures c.if-u16_at-glyph.true

pub returns-else-k-count : goal.returns-else-k-count
returns-else-k-count c =
    elim c.else-k-count.branch [
      | else-k-count-via-then-k-count+else-u16_at-glyph w ↦ above c.args.part.now _ _ _ w.if-k-count.true w.u16_at.ensures w.if-u16_at-glyph.false
      | else-k-count-via-else-k-count w ↦ not_there c.args.part.now _ _ c.args.glyph w.if-k-count.false
    ]

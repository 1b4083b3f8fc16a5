-- `ot_class_def_writer::named::joined` meets its contract, test by test. Assumes nothing.
use Rattle.std.proofs.Common.{sym, ◌∙◌}
use borrow.Author.Tests.{lt-ltb, le-ltb}
use Rattle.folds.proofs.Tests.{true_false}
use Rattle.ot_class_def_writer.specs.Entries.{joins_at}
use Rattle.ot_class_def_writer.proofs.named.joined.Goals.{then-k-glyphs, else-k-glyphs}
use Rattle.ot_class_def_writer.proofs.named.joined.Goals as goal

pub returns-then-classes-k : goal.returns-then-classes-k
unfolding joins_at
returns-then-classes-k c =
    elim c.if-k-glyphs.branch [
      | then-k-glyphs w ↦ rw (c.from.ensures, c.from-then-classes-k.ensures, lt-ltb _ _ w.if-k-glyphs.true, sym w.value-is ∙ c.if-classes-k.true)
      | else-k-glyphs w ↦ true_false (sym c.if-classes-k.true ∙ w.value-is ∙ le-ltb _ _ w.if-k-glyphs.false)
    ]

pub returns-else-classes-k : goal.returns-else-classes-k
unfolding joins_at
returns-else-classes-k c =
    elim c.if-k-glyphs.branch [
      | then-k-glyphs w ↦ rw (c.if-classes-k.false, lt-ltb _ _ w.if-k-glyphs.true, sym w.value-is ∙ c.if-classes-k.false)
      | else-k-glyphs w ↦ rw (c.if-classes-k.false, le-ltb _ _ w.if-k-glyphs.false)
    ]

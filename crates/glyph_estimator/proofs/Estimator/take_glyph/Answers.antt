-- `glyph_estimator::Estimator::take_glyph` meets its contract: the glyph covered, and of a class but 0 its run counted. Assumes nothing.
use native.Mathlib.Omega.{arith}
use Rattle.glyph_estimator.proofs.Counting.{members_le}
use Rattle.glyph_estimator.proofs.Taking.{starts_le, taken_none, taken_some}
use Rattle.glyph_estimator.proofs.Estimator.take_glyph.Goals as goal

pub returns-then-class-eq0 : goal.returns-then-class-eq0
returns-then-class-eq0 c = record { taken = taken_none _ _ _ _ _ _ _ c.cover-self.ensures.covered c.if-class-eq0.true; runs_value = c.cover-self.ensures.runs_value }

pub overflow_mul-self : goal.overflow_mul-self
overflow_mul-self c =
    let a = c.args in
    omega (arith, c.starts_run.ensures, starts_le a.glyphs.now a.k)

pub overflow_add-self : goal.overflow_add-self
overflow_add-self c =
    let a = c.args in
    omega (arith, c.starts_run.ensures, starts_le a.glyphs.now a.k, c.cover-self.ensures.covered.counts.ranged, c.cover-self.ensures.covered.counts.glyphs, members_le c.cover-self.new.set)

pub returns : goal.returns
returns c = record { taken = taken_some _ _ _ _ _ _ _ c.requires.takes c.cover-self.ensures.covered c.if-class-eq0.false _ c.starts_run.ensures; runs_value = c.cover-self.ensures.runs_value }

-- `glyph_estimator::Estimator::cover` meets its contract: the figures of the set with the glyph, one by one, but for the runs. Assumes nothing.
use native.Mathlib.Omega.{arith}
use mathlib.Core.Path.{refl}
use Rattle.glyph_estimator.proofs.Counting.{members_le, first_le, last_ge, covered}
use Rattle.glyph_estimator.proofs.Estimator.cover.Goals as goal

pub overflow_add-self : goal.overflow_add-self
overflow_add-self c = omega (arith, c.requires.counts.glyphs, members_le c.args.set.now)

pub overflow_sub-last : goal.overflow_sub-last
overflow_sub-last c =
    let a = c.args in
    omega (arith, c.first_with-first.ensures, c.last_with-last.ensures, first_le a.self.glyphs a.self.first a.glyph, last_ge a.self.glyphs a.self.last a.glyph)

pub returns : goal.returns
returns c = rw c.from.ensures (record { covered = covered c.args.self c.args.set.now c.args.glyph c.ranges.glyph.fits c.requires _ _ _ c.insert.ensures c.first_with-first.ensures c.last_with-last.ensures; runs_value = refl })

-- `glyph_estimator::Estimator::add_glyph` meets its contract: the glyph taken, and the runs with it counted from its neighbours. Assumes nothing.
use native.Mathlib.Omega.{arith}
use Rattle.glyph_estimator.proofs.Counting.{members_le, runs_le, joined_le}
use Rattle.glyph_estimator.proofs.Recounting.{taken_joined}
use Rattle.glyph_estimator.proofs.Estimator.add_glyph.Goals as goal

pub overflow_add-self : goal.overflow_add-self
overflow_add-self c = omega (arith, c.take_glyph-self.ensures.runs_value, c.requires.takes.counts.runs, runs_le c.args.set.now, members_le c.args.set.now)

pub overflow_sub-self : goal.overflow_sub-self
overflow_sub-self c =
    let a = c.args in
    omega (
      arith,
      c.take_glyph-self.ensures.runs_value,
      c.joined-joined.ensures,
      joined_le a.self a.set.now _ (c.shared_slice_known-2-1.given a.k).fits c.requires.takes,
    )

pub returns : goal.returns
returns c =
    let a = c.args in
    taken_joined a.self a.set.now a.class a.glyphs.now a.k _ _ (c.shared_slice_known-2-1.given a.k).fits c.requires.takes
    c.take_glyph-self.ensures.taken
    c.take_glyph-self.ensures.runs_value
    _
    c.joined-joined.ensures

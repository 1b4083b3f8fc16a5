-- `glyph_estimator::starts_run` meets its contract: by whether there is a glyph before, and whether it adjoins. Assumes nothing.
use Rattle.std.proofs.Common.{◌≡◌, ℕ, not, cond}
use mir.Val.{bool_byte}
use lib.Dec.{eqb}
use Rattle.folds.proofs.Tests.{by_test}
use Rattle.glyph_estimator.proofs.Taking.{starts_first, starts_behind_lem}
use Rattle.glyph_estimator.proofs.starts_run.Goals as goal

apart : (a b : ℕ) → bool_byte (not (eqb a b)) ≡ cond (eqb a b) 0 1
apart a b = by_test (eqb a b) (λ t. rw t) (λ t. rw t)

pub returns-then-k-eq0 : goal.returns-then-k-eq0
returns-then-k-eq0 c = starts_first _ _ c.if-k-eq0.true

pub returns : goal.returns
returns c = rw (starts_behind_lem _ _ c.if-k-eq0.false, c.from-3.ensures, c.from.ensures, c.from-2.ensures) (apart _ _)

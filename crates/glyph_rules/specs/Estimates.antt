-- How long a coverage and a class definition of some covered glyphs are. Assumes nothing.
use Rattle.std.specs.Prelude.{ℕ, ◌+◌, ◌*◌, min, ◌-◌, max, List, map, length}
use Rattle.ot_layouts.specs.Coverage.{Entry, runs, plain}
use Rattle.ot_layouts.specs.ClassDef.{first_glyph, last_glyph, span, named}

-- the estimator's state: first and last glyph, glyphs, runs, and class definition 1's two sizes
pub record Estimate : Type 0 where
  pub first : ℕ
  pub last : ℕ
  pub glyphs : ℕ
  pub runs : ℕ
  pub listed : ℕ
  pub ranged : ℕ

-- of the entries added since the last reset: "First and last include class 0; while no class in it has glyphs the two figures are 6 and 4", which is also the state after a reset
unfoldable pub estimate : List Entry → Estimate
estimate es =
    record {
      first = first_glyph es;
      last = last_glyph es;
      glyphs = length es;
      runs = length (runs (plain (map (λ e. e.glyph) es)));
      listed = 6 + 2 * span es;
      ranged = 4 + 6 * length (runs (named es));
    }

-- "coverage min(4+2·glyphs, 4+6·runs)"
abbrev pub cover_size : Estimate → ℕ
cover_size e = min (4 + 2 * e.glyphs) (4 + 6 * e.runs)

-- "class definition min(6+2·(last−first+1), 4+6·runs of each class but 0)"
abbrev pub class_size : Estimate → ℕ
class_size e = min e.listed e.ranged

-- three lengths, "minus the largest of these three"
abbrev pub but_largest : ℕ → ℕ → ℕ → ℕ
but_largest a b c = a + b + c - max a (max b c)

-- "plus the estimates of coverage and class definition 1 .., plus class definition 2's length, minus the largest of these three"
unfoldable pub beside_rows : ℕ → Estimate → ℕ
beside_rows class2 e = but_largest (cover_size e) (class_size e) class2

-- all of this file's definitions, for checks that compute
unfoldable pub computes : Unit {0}
unfolding estimate beside_rows
computes = tt

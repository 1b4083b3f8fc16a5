-- The estimator's state beside the set of the glyphs that it counts. Assumes nothing.
use Rattle.std.specs.Prelude.{ℕ, zero, suc, ◌+◌, ◌*◌, ◌<◌, ◌≤◌, ◌≡◌, false, cond, List, eqb, length, take, get_or}
use Rattle.ot_layouts.specs.Coverage.{runs, plain, Entry}
use Rattle.ot_layouts.specs.ClassDef.{first_glyph, last_glyph, span}
use Rattle.ot_layouts.proofs.ByGlyph.{has}
use Rattle.glyph_rules.specs.Estimates.{Estimate, estimate}
use Rattle.glyph_set.specs.GlyphSet.{member, mark, mark_all, members, run_count}
use Rattle.glyph_estimator.specs.declared.Estimator.{Estimator}

-- a state's values, as the definitions have them
abbrev pub values_of : Estimator → Estimate
values_of e = record { first = e.first; last = e.last; glyphs = e.glyphs; runs = e.runs; listed = e.listed; ranged = e.ranged }

-- the state counts the glyphs of the set s: the first and the last, how many, and how many runs; "6+2·(last−first+1)", and 6 where there are none;
-- and its runs of classes have a glyph each
pub record Counts (e : Estimator) (s : List ℕ) : Type 0 where
  pub first : e.first ≡ first_glyph (plain (members s))
  pub last : e.last ≡ last_glyph (plain (members s))
  pub glyphs : e.glyphs ≡ length (members s)
  pub runs : e.runs ≡ run_count s
  pub listed : e.listed ≡ 6 + 2 * span (plain (members s))
  pub ranged : e.ranged ≤ 4 + 6 * e.glyphs

-- the state with another number of runs
abbrev pub with_runs : Estimator → ℕ → Estimator
with_runs e n = record { first = e.first; last = e.last; glyphs = e.glyphs; runs = n; listed = e.listed; ranged = e.ranged }

-- the state with the runs of the set s, whatever runs it has itself
abbrev pub counted : Estimator → List ℕ → Estimator
counted e s = with_runs e (run_count s)

-- ---- a class

-- "6·runs of each class but 0": what a class takes in a class definition of ranges
unfoldable pub ranges_size : ℕ → List ℕ → ℕ
ranges_size class gs = cond (eqb class 0) 0 (6 * length (runs (plain gs)))

-- the glyphs can be added to the state and the set: each is new where those before it are in
pub record EstimatorReady (e : Estimator) (s gs : List ℕ) : Type 0 where
  pub long : 8192 ≤ length s
  pub counts : Counts e s
  pub new : (k : ℕ) → k < length gs → member (mark_all s (take k gs)) (get_or gs k 0) ≡ false

-- the state r and the set t are e and s with the glyphs of a class
pub record ClassAdded (e : Estimator) (s : List ℕ) (class : ℕ) (gs : List ℕ) (r : Estimator) (t : List ℕ) : Type 0 where
  pub marked : t ≡ mark_all s gs
  pub counts : Counts r t
  pub ranged : r.ranged ≡ e.ranged + ranges_size class gs

-- ---- a glyph

-- the glyph can be added
pub record Takes (e : Estimator) (s : List ℕ) (g : ℕ) : Type 0 where
  pub long : 8192 ≤ length s
  pub counts : Counts e s
  pub new : member s g ≡ false

-- the state r and the set t are e and s with the glyph, its class left out
pub record Covered (e : Estimator) (s : List ℕ) (g : ℕ) (r : Estimator) (t : List ℕ) : Type 0 where
  pub marked : t ≡ mark s g
  pub counts : Counts r t
  pub glyphs : r.glyphs ≡ e.glyphs + 1
  pub ranged : r.ranged ≡ e.ranged

-- 1 where glyph k starts a run: the first one, or one that does not adjoin the one before it
unfoldable pub starts_run : List ℕ → ℕ → ℕ
starts_run gs zero = 1
starts_run gs (suc k) = cond (eqb (get_or gs k 0 + 1) (get_or gs (suc k) 0)) 0 1

-- the state r and the set t are e and s with glyph k of a class
pub record Taken (e : Estimator) (s : List ℕ) (class : ℕ) (gs : List ℕ) (k : ℕ) (r : Estimator) (t : List ℕ) : Type 0 where
  pub marked : t ≡ mark s (get_or gs k 0)
  pub counts : Counts r t
  pub ranged : r.ranged ≡ e.ranged + cond (eqb class 0) 0 (6 * starts_run gs k)

-- the figures are those of glyphs out of 65,536
pub record Small (e : Estimator) : Type 0 where
  pub glyphs : e.glyphs ≤ 65536
  pub runs : e.runs ≤ 65536
  pub listed : e.listed ≤ 131078

-- the state has the figures of the entries es, and the set their glyphs
pub record Estimates (e : Estimator) (s : List ℕ) (es : List Entry) : Type 0 where
  pub values : values_of e ≡ estimate es
  pub holds : (g : ℕ) → g < 65536 → member s g ≡ has es g

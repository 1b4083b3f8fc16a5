-- "Where to cut", for the two formats of PairPos, by the settings of a call. Assumes nothing.
use Rattle.std.specs.Prelude.{ℕ, ◌+◌, ◌*◌, min, Bool, true, cond, not, ◌&&◌, List, length, get_or, leb, eqb}
use Rattle.folds.specs.Folds.{sum}
use Rattle.ot_layouts.specs.Coverage.{Entry}
use Rattle.cut_rules.specs.Cuts.{Rule, looked}
use Rattle.glyph_rules.specs.Entries.{within}
use Rattle.glyph_rules.specs.Estimates.{estimate, beside_rows}
use Rattle.call_rules.specs.declared.Settings.{Settings}

-- ---- format 1

-- "partial coverage 4. .. partial += 2": over the slots from a to i that are looked at, so that in edition 2 an empty one "costs its 2 bytes and its 2 of partial coverage"
unfoldable pub partial_cover : (ℕ → Bool) → ℕ → ℕ → ℕ
partial_cover looks a i = 4 + 2 * sum (λ k. cond (leb a k && looks k) 1 0) (i + 1)

-- "start at 10 .. sum += S(i) + 2. If sum + min(partial, coverage object's length) exceeds": of n slots, where `linked` says which are not empty, S is `size`, and the coverage object has `cover` bytes
unfoldable pub rule1 : Settings → ℕ → (ℕ → Bool) → (ℕ → ℕ → ℕ) → ℕ → Rule
rule1 how n linked size cover =
    record {
      edition = how.edition;
      count = n;
      start = 10;
      full = linked;
      cost = λ a i. size a i + 2;
      beside = λ a i. min (partial_cover (looked how.edition linked) a i) cover;
    }

-- the same over bare sizes: 0 for an empty slot, and no object in two sets
unfoldable pub bare_rule : Settings → List ℕ → ℕ → Rule
bare_rule how sizes cover = rule1 how (length sizes) (λ i. not (eqb (get_or sizes i 0) 0)) (λ a i. get_or sizes i 0) cover

-- ---- format 2

-- "Start at 16; row i adds the row size and S(i) over its device slots. .. estimates .. over rows since the last cut"
unfoldable pub rule2 : Settings → ℕ → ℕ → (ℕ → ℕ → ℕ) → List Entry → ℕ → Rule
rule2 how n row size es class2 =
    record {
      edition = how.edition;
      count = n;
      start = 16;
      full = λ i. true;
      cost = λ a i. row + size a i;
      beside = λ a i. beside_rows class2 (estimate (within a (i + 1) es));
    }

-- all of this file's definitions, for checks that compute
unfoldable pub computes : Unit {0}
unfolding partial_cover rule1 bare_rule rule2
computes = tt

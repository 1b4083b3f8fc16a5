-- "Where to cut", for MarkBasePos, by the settings of a call: "cut by mark class". Assumes nothing.
use Rattle.std.specs.Prelude.{ℕ, ◌+◌, ◌*◌, true, cond, leb}
use Rattle.folds.specs.Folds.{sum}
use Rattle.cut_rules.specs.Cuts.{Rule}
use Rattle.call_rules.specs.declared.Settings.{Settings}

-- "partial coverage starts at 4 and gains 2 a mark": over the classes from a to i, where class k has so many marks
unfoldable pub partial_cover : (ℕ → ℕ) → ℕ → ℕ → ℕ
partial_cover marks a i = 4 + 2 * sum (λ k. cond (leb a k) (marks k) 0) (i + 1)

-- "A class costs 2 bytes a base, 4 a mark, and its anchors' reachable lengths, over a start of 16 plus the base coverage",
-- "Sum plus partial coverage, never the mark coverage's own length in its place, over 65,535 cuts": of n classes, each of which is looked at, also one that is
-- empty; the base coverage has `cover` bytes, class k has `marks k` marks, and S is `size`
unfoldable pub mark_rule : Settings → ℕ → ℕ → ℕ → (ℕ → ℕ) → (ℕ → ℕ → ℕ) → Rule
mark_rule how n cover bases marks size =
    record {
      edition = how.edition;
      count = n;
      start = 16 + cover;
      full = λ i. true;
      cost = λ a i. 2 * bases + 4 * marks i + size a i;
      beside = partial_cover marks;
    }

-- all of this file's definitions, for checks that compute
unfoldable pub computes : Unit {0}
unfolding partial_cover mark_rule
computes = tt

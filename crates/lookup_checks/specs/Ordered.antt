-- The lookups of a list that are to be rewritten, as they stand in the walk. Assumes nothing.
use Rattle.std.specs.Prelude.{ℕ, ◌+◌, ◌*◌, ◌≤◌, ◌<◌, ◌≡◌, true, List, length, get_or, take}
use Rattle.folds.specs.Folds.{upto}
use Rattle.folds.specs.Lists.{part, sift}
use Rattle.store_rules.specs.Store.{Store}
use Rattle.lookup_rules.specs.Listed.{each_once, good_lookup}
use Rattle.lookup_rules.specs.Marks.{Marked}
use Rattle.lookup_checks.specs.Rows.{to_rewrite}

-- those that n rows lead to, "in list order, each once"
abbrev pub chosen : Store → ℕ → (ℕ → ℕ) → ℕ → List ℕ
chosen s t lead n = sift (to_rewrite s t) (each_once (upto lead n))

-- the n rows lead to lookups that fit; the walk has room for a mark and a lookup for each object, and no mark yet
pub record Orderable (s : Store) (lead : ℕ → ℕ) (n : ℕ) (walk : List ℕ) : Type 0 where
  pub good : (i : ℕ) → i < n → good_lookup s (lead i) ≡ true
  pub room : 2 * s.object_count ≤ length walk
  pub blank : (c : ℕ) → c < s.object_count → get_or walk c 0 ≡ 0

-- behind n marks, of one object each, stand the r lookups ps
pub record Ordered (n : ℕ) (ps walk : List ℕ) (r : ℕ) : Type 0 where
  pub count : r ≡ length ps
  pub lookups : part walk n (n + r) ≡ ps
  pub marks : Marked ps (take n walk)

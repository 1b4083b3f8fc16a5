-- What can be reached along offsets, as a relation and as a function that computes, and S, a difference of two such sums. Assumes nothing.
use Rattle.std.specs.Prelude.{ℕ, zero, suc, ◌+◌, ◌-◌, ◌<◌, Bool, true, not, cond, ◌&&◌, ◌||◌, List, ◌≡◌, get_or, set, replicate, eqb}
use Rattle.folds.specs.Folds.{sum}
use Rattle.store_rules.specs.Store.{Store, Link, link_at, parent_of, child_of, size_of, is_offset, offset_of}

-- i can be reached from the rows of `from`, along offsets: "Order-only links are not followed"
pub data Reach (s : Store) (from : ℕ → Bool) : ℕ → Type 0 where
  seed : {i : ℕ} (k : ℕ) → k < s.link_count → from k ≡ true → child_of s k ≡ i → Reach s from i
  step : {i j : ℕ} → Reach s from i → (k : ℕ) → k < s.link_count → offset_of i (link_at s k) ≡ true → child_of s k ≡ j → Reach s from j

-- ---- as a function

-- the object has a mark
abbrev pub marked : List ℕ → ℕ → Bool
marked w i = eqb (get_or w i 0) 1

-- row k leads to an object with no mark, and is one of the rows to start from or an offset of a marked object
unfoldable pub due : Store → (ℕ → Bool) → List ℕ → ℕ → Bool
due s from w k = (from k || is_offset (link_at s k) && marked w (parent_of s k)) && not (marked w (child_of s k))

-- the marks, once the last of the first k rows that is due, if one is, has marked its child
unfoldable pub once : Store → (ℕ → Bool) → List ℕ → ℕ → List ℕ
once s from w zero = w
once s from w (suc k) = cond (due s from w k) (set w (child_of s k) 1) (once s from w k)

-- the same, f times
unfoldable pub grow : Store → (ℕ → Bool) → ℕ → List ℕ → List ℕ
grow s from zero w = w
grow s from (suc f) w = grow s from f (once s from w s.link_count)

-- a mark for each object that can be reached from the rows to start from: as many times as there are objects is enough
unfoldable pub reached : Store → (ℕ → Bool) → List ℕ
reached s from = grow s from s.object_count (replicate s.object_count 0)

-- "the summed length of all objects reachable .., each counted once"
unfoldable pub reach_size : Store → (ℕ → Bool) → ℕ
reach_size s from = sum (λ i. cond (marked (reached s from) i) (size_of s i) 0) s.object_count

-- of what can be reached from the links for which p holds
abbrev pub reach_of : Store → (Link → Bool) → ℕ
reach_of s p = reach_size s (λ k. p (link_at s k))

-- "the table can be reached from itself"
unfoldable pub on_cycle : Store → ℕ → Bool
on_cycle s t = marked (reached s (λ k. offset_of t (link_at s k))) t

-- "S(i) is the summed length of all objects reachable from item i's links, each counted once, leaving out those counted since the last cut":
-- what the items from a to i reach, without what those before i reach; `rows lo hi` says which links are those of the items lo up to hi, hi left out
unfoldable pub item_size : Store → (ℕ → ℕ → Link → Bool) → ℕ → ℕ → ℕ
item_size s rows a i = reach_of s (rows a (i + 1)) - reach_of s (rows a i)

-- ---- S, in its own words

-- the rows of the items lo up to hi
abbrev pub rows_of : Store → (ℕ → ℕ → Link → Bool) → ℕ → ℕ → ℕ → Bool
rows_of s rows lo hi k = rows lo hi (link_at s k)

-- "reachable from item i's links .., leaving out those counted since the last cut", which is at a
abbrev pub Adds : Store → (ℕ → ℕ → Link → Bool) → ℕ → ℕ → ℕ → Type 0
Adds s rows a i j = Reach s (rows_of s rows i (i + 1)) j × (Reach s (rows_of s rows a i) j → ⊥)

-- size is "the summed length of all objects" of which this holds, "each counted once"
pub record SentenceOfS (s : Store) (rows : ℕ → ℕ → Link → Bool) (a i size : ℕ) : Type 0 where
  pub counted : ℕ → Bool
  pub such : (j : ℕ) → j < s.object_count → counted j ≡ true → Adds s rows a i j
  pub all_such : (j : ℕ) → j < s.object_count → Adds s rows a i j → counted j ≡ true
  pub summed : size ≡ sum (λ j. cond (counted j) (size_of s j) 0) s.object_count

-- all of this file's definitions, for checks that compute
unfoldable pub computes : Unit {0}
unfolding due once grow reached reach_size on_cycle item_size
computes = tt

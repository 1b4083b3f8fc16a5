-- The walk's scratch, "two numbers an object in use": a mark for each object, then the row where each object's link rows end. A mark is the
-- number of an epoch, so that a new epoch forgets all that was seen with nothing to clear. Assumes nothing.
use Rattle.std.specs.Prelude.{ℕ, zero, suc, ◌+◌, ◌-◌, ◌*◌, ◌≤◌, ◌<◌, Bool, true, false, cond, ◌&&◌, ◌||◌, List, ◌⊎◌, ◌≡◌, leb, ltb, eqb, length, get_or, set}
use Rattle.folds.specs.Lists.{among}
use Rattle.store_rules.specs.Store.{Store, lent, per_link, row_parent, row_kind, link_at, position_of, sound, offset_of}
use Rattle.store_rules.specs.Reach.{marked, reached, reach_size}
use Rattle.store_reader.specs.Rows.{key_of, FirstRow}

-- row k is one of those from lo up to hi, hi left out
abbrev pub between : ℕ → ℕ → ℕ → Bool
between lo hi k = leb lo k && ltb k hi

-- the rows from lo up to hi are offsets
abbrev pub Offsets : List ℕ → ℕ → ℕ → Type 0
Offsets l lo hi = (k : ℕ) → lo ≤ k → k < hi → get_or l (per_link * k + row_kind) 0 ≡ 0

-- no row
abbrev pub no_row : ℕ → Bool
no_row k = false

-- row k is one of `from`, or from lo up to hi
abbrev pub also_between : (ℕ → Bool) → ℕ → ℕ → ℕ → Bool
also_between from lo hi k = from k || between lo hi k

-- row k is one of `from`, or object p's at one of these positions
abbrev pub also_at : Store → (ℕ → Bool) → ℕ → List ℕ → ℕ → Bool
also_at s from p qs k = from k || offset_of p (link_at s k) && among (position_of s k) qs

-- the scratch in epoch e, in which the rows of `from` have been walked
pub record Marks (s : Store) (from : ℕ → Bool) (e : ℕ) (w : List ℕ) : Type 0 where
  pub room : 2 * s.object_count ≤ length w
  -- what has the epoch's mark is what these rows reach
  pub seen : (i : ℕ) → i < s.object_count → eqb (get_or w i 0) e ≡ marked (reached s from) i
  -- every other mark is an earlier epoch's
  pub latest : (i : ℕ) → i < s.object_count → get_or w i 0 ≤ e
  -- object i's rows end where those of the next object would start
  pub ends : (i : ℕ) → i < s.object_count → FirstRow s.links s.link_count (key_of (i + 1) 0) (get_or w (s.object_count + i) 0)

-- w with the mark e for each of the first n objects that r marks
unfoldable pub stamp : ℕ → List ℕ → List ℕ → ℕ → List ℕ
stamp e r w zero = w
stamp e r w (suc n) = cond (marked r n) (set (stamp e r w n) n e) (stamp e r w n)

-- before the first walk: the rows are those of a sound store, and the scratch, which may hold anything, is long enough
pub record Blank (l c w : List ℕ) : Type 0 where
  pub bytes : List ℕ
  pub objects : List ℕ
  pub is_sound : sound (lent bytes objects l c) ≡ true
  pub room : 2 * get_or c 1 0 ≤ length w

-- v is one more than the last of the first k rows that are object i's, 0 where none is
pub record LastOf (l : List ℕ) (k i v : ℕ) : Type 0 where
  pub all : (j : ℕ) → j < k → get_or l (per_link * j + row_parent) 0 ≡ i → j < v
  pub last : (v ≡ 0) ⊎ ((v ≤ k) × (get_or l (per_link * (v - 1) + row_parent) 0 ≡ i))

-- no object has a mark, and the last of its rows is written down
pub record Lasts (l c w : List ℕ) : Type 0 where
  pub unmarked : (i : ℕ) → i < get_or c 1 0 → get_or w i 0 ≡ 0
  pub lasts : (i : ℕ) → i < get_or c 1 0 → LastOf l (get_or c 2 0) i (get_or w (get_or c 1 0 + i) 0)

-- the first epoch, in which nothing has been walked yet, whatever the bytes and objects of the store
abbrev pub Prepared : List ℕ → List ℕ → List ℕ → Type 0
Prepared l c w = (b o : List ℕ) → sound (lent b o l c) ≡ true → Marks (lent b o l c) no_row 1 w

-- before a walk: the rows are those of a sound store, those of `from` have been walked, and the epochs leave room for numbers above them
pub record WalkReady (o l c : List ℕ) (from : ℕ → Bool) (e : ℕ) (w : List ℕ) : Type 0 where
  pub bytes : List ℕ
  pub is_sound : sound (lent bytes o l c) ≡ true
  pub marks : Marks (lent bytes o l c) from e w
  pub early : e < 2147483648

-- after a walk of the rows from lo up to hi: what these reach has the mark too, and r is the length of what they have added
pub record Walked (s : Store) (from : ℕ → Bool) (lo hi e : ℕ) (w w' : List ℕ) (r : ℕ) : Type 0 where
  pub walk : w' ≡ stamp e (reached s (also_between from lo hi)) w s.object_count
  pub size : r + reach_size s from ≡ reach_size s (also_between from lo hi)
  pub most : r ≤ 16777216

-- the same, whatever the bytes of the store and the rows that had been walked
abbrev pub Walks : List ℕ → List ℕ → List ℕ → ℕ → ℕ → ℕ → List ℕ → List ℕ → ℕ → Type 0
Walks o l c lo hi e w w' r = (b : List ℕ) (from : ℕ → Bool) → Marks (lent b o l c) from e w → Walked (lent b o l c) from lo hi e w w' r

-- after some walks: the rows of `more` have been walked, where those of `from` had been before, and r is the length of what they have added
pub record Grown (s : Store) (from more : ℕ → Bool) (e : ℕ) (w : List ℕ) (r : ℕ) : Type 0 where
  pub marks : Marks s more e w
  pub size : r + reach_size s from ≡ reach_size s more

-- row k is table t's own, and stands before row `row`
abbrev pub own_before : Store → ℕ → ℕ → ℕ → Bool
own_before s t row k = offset_of t (link_at s k) && ltb k row

-- table t has a mark, of whatever epoch, exactly if its own rows before `row` lead back to it
abbrev pub Back : Store → ℕ → ℕ → List ℕ → Type 0
Back s t row w = ltb 0 (get_or w t 0) ≡ marked (reached s (own_before s t row)) t

-- after the walk of table t's links before position q: a later epoch has seen nothing yet
pub record Begun (s : Store) (t q : ℕ) (w : List ℕ) : Type 0 where
  pub marks : Marks s no_row 2 w
  pub back : (row : ℕ) → FirstRow s.links s.link_count (key_of t q) row → Back s t row w
  -- the first row that was not walked
  pub next : ℕ
  pub next_is : FirstRow s.links s.link_count (key_of t q) next

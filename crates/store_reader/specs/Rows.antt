-- The order of link rows as an order of numbers, and where a parent's rows begin. Assumes nothing.
use Rattle.std.specs.Prelude.{ℕ, ◌+◌, ◌-◌, ◌*◌, ◌<◌, ◌≤◌, ◌≡◌, Bool, cond, ◌&&◌, List, Option, Some, None, length, get_or, ltb, eqb}
use Rattle.folds.specs.Folds.{before}
use Rattle.store_rules.specs.Store.{Store, per_link, row_parent, row_position, row_child, row_kind, parent_of, child_of, size_of, link_at, shaped}
use Rattle.store_reader.specs.declared.LinkRows.{LinkRows}

-- object i of these rows lies within n bytes
pub record Inside (n : ℕ) (o : List ℕ) (i : ℕ) : Type 0 where
  pub row : 2 * i + 1 < length o
  pub ordered : get_or o (2 * i) 0 ≤ get_or o (2 * i + 1) 0
  pub inside : get_or o (2 * i + 1) 0 ≤ n

-- where the places of order-only links start: behind all positions, since an offset stands within an object, and that within 16,777,216 bytes
abbrev pub orders : ℕ
orders = 16777216

-- the least head that object i may have: the tail of the object before it, 0 where there is none
abbrev pub least_head : List ℕ → ℕ → ℕ
least_head o i = before (λ j. get_or o (2 * j + 1) 0) i

-- parent and place as one number: as a place has 32 bits, numbers ascend as the pairs do
abbrev pub key_of : ℕ → ℕ → ℕ
key_of p q = 4294967296 * p + q

-- where row k stands among those of its parent: an offset at its position, an order-only link behind all bytes, by its child
unfoldable pub row_place : List ℕ → ℕ → ℕ
row_place l k = cond (eqb (get_or l (per_link * k + row_kind) 0) 0) (get_or l (per_link * k + row_position) 0) (orders + get_or l (per_link * k + row_child) 0)

-- row k's parent and place as one number
abbrev pub row_key : List ℕ → ℕ → ℕ
row_key l k = key_of (get_or l (per_link * k + row_parent) 0) (row_place l k)

-- ---- keys of rows that fit

-- the kind of row k
abbrev pub kind_in : List ℕ → ℕ → ℕ
kind_in l k = get_or l (per_link * k + row_kind) 0

-- row k is there, and is that of object p
pub record OfParent (l : List ℕ) (k p : ℕ) : Type 0 where
  pub there : per_link * k + row_kind < length l
  pub parent : p ≡ get_or l (per_link * k + row_parent) 0
  pub low : p < 65536

-- the objects in use are there, no more than 65,536, and none has more than 16,777,216 bytes
pub record ObjectsSmall (o counts : List ℕ) : Type 0 where
  pub there : 2 * get_or counts 1 0 ≤ length o
  pub few : get_or counts 1 0 ≤ 65536
  pub short : (i : ℕ) → i < get_or counts 1 0 → get_or o (2 * i + 1) 0 - get_or o (2 * i) 0 ≤ 16777216

-- the key of row k of a store where a test holds
abbrev pub key_where : Bool → Store → ℕ → Option ℕ
key_where t s k = cond t (Some (row_key s.links k)) None

-- where it is of its kind's shape
unfoldable pub shaped_key : Store → ℕ → Option ℕ
shaped_key s k = key_where (shaped (size_of s (parent_of s k)) (link_at s k)) s k

-- where parent and child are in use too
unfoldable pub fitting_key : Store → ℕ → Option ℕ
fitting_key s k = key_where (ltb (parent_of s k) s.object_count && ltb (child_of s k) s.object_count && shaped (size_of s (parent_of s k)) (link_at s k)) s k

-- ---- where rows are found

-- there are m rows, and they "strictly ascend"
pub record InOrder (l : List ℕ) (m : ℕ) : Type 0 where
  pub room : per_link * m ≤ length l
  pub places : (k : ℕ) → k < m → row_place l k < 4294967296
  pub rising : (j k : ℕ) → j < k → k < m → row_key l j < row_key l k

-- r is the first of the m rows at or past the key, m where there is none
pub record FirstRow (l : List ℕ) (m key r : ℕ) : Type 0 where
  pub within : r ≤ m
  pub below : (k : ℕ) → k < r → row_key l k < key
  pub above : (k : ℕ) → r ≤ k → k < m → key ≤ row_key l k

-- of the m rows, the offsets of parent p
pub record ParentRows (l : List ℕ) (m p : ℕ) (r : LinkRows) : Type 0 where
  pub first : FirstRow l m (key_of p 0) r.first
  pub after : FirstRow l m (key_of p orders) r.after
  pub rise : r.first ≤ r.after

-- that row lies from lo to hi: the rows before lo stand before the key, those from hi on do not
pub record Bracket (l : List ℕ) (m key lo hi : ℕ) : Type 0 where
  pub lo_le : lo ≤ hi
  pub hi_le : hi ≤ m
  pub below : (k : ℕ) → k < lo → row_key l k < key
  pub above : (k : ℕ) → hi ≤ k → k < m → key ≤ row_key l k

-- a test of positions, which have 32 bits, answers as slot does: `answers q r` says that it may answer r at q
abbrev pub Tells : (ℕ → Bool → Type 0) → (ℕ → Bool) → Type 0
Tells answers slot = (q : ℕ) (r : Bool) → q < 4294967296 → answers q r → r ≡ slot q

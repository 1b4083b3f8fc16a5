-- Heads, tails and bytes after a split: of the old objects, of the kept table, and of the new ones. Assumes nothing.
use Prim.Native.Nat.{ℕ, ◌+◌, ◌-◌, ◌*◌, ◌<◌, ◌≤◌}
use mathlib.Core.Path.{◌≡◌, ap, ◌∙◌}
use mathlib.Core.List.{List, []}
use native.Mathlib.Omega.{arith}
use native.Mathlib.Nat.{mul-le-mul_left, mul-add}
use lib.ListN.{length, get_or}
use Rattle.folds.specs.Lists.{put}
use Rattle.folds.proofs.FromTheFront.{even_at, even_past}
use Rattle.ot_layouts.specs.Numbers.{be16}
use Rattle.ot_layouts.specs.MarkBasePos.{class_count_at}
use Rattle.store_rules.specs.Store.{Store, head_of, tail_of, bytes_of, size_of}
use Rattle.store_rules.specs.Appended.{new_number, with_bytes}
use Rattle.store_rules.proofs.Changed.{other_length, other_here, other_elsewhere}
use Rattle.store_rules.proofs.Appended as behind
use Rattle.cut_rules.specs.Ranges.{from}
use Rattle.mark_rules.specs.Table.{classes_of, bases_in, marks_of}
use Rattle.mark_rules.specs.Written.{new_parts, new_objects, new_of, per_table, kept_table, new_links, split_store}
use Rattle.mark_rules.proofs.NewCounts.{objects_of, four_each}
use Rattle.promise_marks.proofs.Ready.{Ready, many_new}

module _ (s : Store) (t : ℕ) (cs : List ℕ) (g : Ready s t cs) where
  abbrev s' : Store
  s' = split_store s t cs

  -- the new objects
  abbrev new : List (List ℕ)
  new = new_of s t cs

  -- those of new table j, and the kept table's
  abbrev table_objects : ℕ → List (List ℕ)
  table_objects = objects_of (marks_of s t) (bases_in s t) (classes_of s t) cs

  abbrev kept_parts : List (List ℕ)
  kept_parts = new_parts (marks_of s t) (bases_in s t) 0 (from cs 0)

  -- the store before they are added: the table's count set
  abbrev pub counted : Store
  counted = kept_table s t (from cs 0)

  pub count_inside : head_of s t + class_count_at + 2 ≤ tail_of s t
  count_inside = omega (arith, g.size)

  counted_length : length counted.bytes ≡ length s.bytes
  unfolding kept_table be16
  counted_length = other_length s g.fit t class_count_at (be16 (from cs 0)) g.reads.used count_inside

  -- there is room for the new objects
  pub room : behind.Room counted new
  unfolding kept_table with_bytes
  room =
      record {
        object = λ i h. let o = g.fit.object i h in record { after = o.after; ordered = o.ordered; inside = o.inside };
        bytes_in = omega (arith, g.bytes_room, counted_length);
        bytes_most = g.bytes_most;
        objects_in = g.objects_room;
        objects_most = g.objects_most;
      }

  -- ---- old objects

  pub old_head : (i : ℕ) → i < s.object_count → head_of s' i ≡ head_of s i
  unfolding split_store kept_table with_bytes
  old_head i h = behind.old_head counted new (new_links s t cs) room i h

  pub old_tail : (i : ℕ) → i < s.object_count → tail_of s' i ≡ tail_of s i
  unfolding split_store kept_table with_bytes
  old_tail i h = behind.old_tail counted new (new_links s t cs) room i h

  pub old_size : (i : ℕ) → i < s.object_count → size_of s' i ≡ size_of s i
  unfolding split_store kept_table with_bytes
  old_size i h = behind.old_size counted new (new_links s t cs) room i h

  old_bytes : (i : ℕ) → i < s.object_count → bytes_of s' i ≡ bytes_of counted i
  unfolding split_store kept_table with_bytes
  old_bytes i h = behind.old_bytes counted new (new_links s t cs) room i h

  pub others_bytes : (i : ℕ) → i < s.object_count → (i ≡ t → ⊥) → bytes_of s' i ≡ bytes_of s i
  unfolding kept_table be16
  others_bytes i h ne = old_bytes i h ∙ other_elsewhere s g.fit t class_count_at (be16 (from cs 0)) g.reads.used count_inside i h ne

  -- the kept table has its count set
  pub kept_bytes_lem : bytes_of s' t ≡ put (bytes_of s t) class_count_at (be16 (from cs 0))
  unfolding kept_table be16
  kept_bytes_lem = old_bytes t g.reads.used ∙ other_here s g.fit t class_count_at (be16 (from cs 0)) g.reads.used count_inside

  -- ---- new objects

  new_bytes : (m : ℕ) → m < per_table * length cs + 3 → bytes_of s' (s.object_count + m) ≡ get_or new m []
  unfolding split_store kept_table with_bytes
  new_bytes m h = behind.new_bytes counted new (new_links s t cs) room m (omega (arith, many_new s t cs g))

  new_size : (m : ℕ) → m < per_table * length cs + 3 → size_of s' (s.object_count + m) ≡ length (get_or new m [])
  unfolding split_store kept_table with_bytes
  new_size m h = behind.new_size counted new (new_links s t cs) room m (omega (arith, many_new s t cs g))

  -- which of the new objects it is
  table_at : (j r : ℕ) → j < length cs → r < per_table → get_or new (per_table * j + r) [] ≡ get_or (table_objects j) r []
  unfolding new_objects
  table_at j r l k = even_at table_objects per_table (four_each (marks_of s t) (bases_in s t) (classes_of s t) cs) kept_parts [] (length cs) j r l k

  kept_at : (r : ℕ) → get_or new (per_table * length cs + r) [] ≡ get_or kept_parts r []
  unfolding new_objects
  kept_at r = even_past table_objects per_table (four_each (marks_of s t) (bases_in s t) (classes_of s t) cs) kept_parts [] (length cs) r

  module _ (j r : ℕ) (l : j < length cs) (k : r < per_table) where
    number_is : new_number s per_table j + r ≡ s.object_count + (per_table * j + r)
    number_is = omega arith

    low : per_table * j + r < per_table * length cs + 3
    low = omega (arith, mul-le-mul_left {m = j + 1} {n = length cs} per_table (omega arith), mul-add per_table j 1)

    -- object r of new table j: the table, its coverage, its mark array, its base array
    pub table_object : bytes_of s' (new_number s per_table j + r) ≡ get_or (table_objects j) r []
    table_object = ap (bytes_of s') number_is ∙ new_bytes (per_table * j + r) low ∙ table_at j r l k

    pub table_size_lem : size_of s' (new_number s per_table j + r) ≡ length (get_or (table_objects j) r [])
    table_size_lem = ap (size_of s') number_is ∙ new_size (per_table * j + r) low ∙ ap length (table_at j r l k)

  module _ (r : ℕ) (k : r < 3) where
    part_is : new_number s per_table (length cs) + r ≡ s.object_count + (per_table * length cs + r)
    part_is = omega arith

    -- part r of the kept table: its coverage, its mark array, its base array
    pub kept_object : bytes_of s' (new_number s per_table (length cs) + r) ≡ get_or kept_parts r []
    kept_object = ap (bytes_of s') part_is ∙ new_bytes (per_table * length cs + r) (omega arith) ∙ kept_at r

    pub kept_size_lem : size_of s' (new_number s per_table (length cs) + r) ≡ length (get_or kept_parts r [])
    kept_size_lem = ap (size_of s') part_is ∙ new_size (per_table * length cs + r) (omega arith) ∙ ap length (kept_at r)

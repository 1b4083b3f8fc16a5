-- Heads, tails and bytes after a split: of the old objects, of the new ones, and of the kept table. Assumes nothing.
use Prim.Native.Nat.{ℕ, ◌+◌, ◌-◌, ◌*◌, ◌<◌, ◌≤◌}
use mathlib.Core.Path.{◌≡◌, ap, ap₂, ◌∙◌}
use mathlib.Core.List.{List, [], ◌∷◌}
use native.Mathlib.Omega.{arith}
use native.Mathlib.Nat.{mul-le-mul_left, mul-add}
use lib.ListN.{length, get_or}
use Rattle.folds.specs.Lists.{put, part}
use Rattle.folds.proofs.FromTheFront.{even_at, even_past}
use Rattle.folds.proofs.WrittenPart.{part-put}
use Rattle.ot_layouts.specs.Numbers.{be16}
use Rattle.ot_layouts.specs.PairPos.{Shape, item_at}
use Rattle.ot_layouts.proofs.Shapes.{count_in_header, items_rise}
use Rattle.store_rules.specs.Store.{Store, head_of, tail_of, bytes_of, size_of}
use Rattle.pair_rules.specs.Table.{shape, entries_of}
use Rattle.cut_rules.specs.Ranges.{from, to}
use Rattle.pair_rules.specs.Written.{split_store, new_of, store_after, new_links, new_table, new_parts, per_table, new_objects, kept_table}
use Rattle.store_rules.specs.Appended.{new_number, with_bytes, with_tail}
use Rattle.pair_rules.proofs.NewCounts.{parts_many}
use Rattle.store_rules.proofs.Sound.{size_bytes}
use Rattle.store_rules.proofs.Changed.{other_length, other_here, other_elsewhere}
use Rattle.store_rules.proofs.Changed.{short_rows, short_head, short_tail, short_other, short_here, short_elsewhere, short_fits}
use Rattle.store_rules.proofs.Appended as behind
use Rattle.pair_after.proofs.Ready.{Ready, many_new, first_cut}

module _ (s : Store) (t : ℕ) (cs : List ℕ) (g : Ready s t cs) where
  abbrev sh : Shape
  sh = shape s t

  abbrev s' : Store
  s' = split_store s t cs

  -- the new objects
  abbrev new : List (List ℕ)
  new = new_of s t cs

  -- how long the kept table is
  abbrev kept_size : ℕ
  kept_size = item_at (shape s t) (from cs 0)

  -- ---- the store before the new objects are added

  -- the table's count set
  abbrev pub counted : Store
  counted = with_bytes s (head_of s t + (shape s t).count_at) (be16 (from cs 0))

  -- and the table "shortened in place"
  abbrev pub shortened : Store
  shortened = kept_table s t (shape s t) (from cs 0)

  -- the count lies in the kept table
  count_kept : sh.count_at + 2 ≤ kept_size
  count_kept = omega (arith, count_in_header (bytes_of s t), items_rise sh 0 (from cs 0) (omega arith))

  kept_less : head_of s t + kept_size ≤ tail_of s t
  kept_less =
      let c = first_cut s t cs g in
      omega (arith, items_rise sh (from cs 0) sh.count (omega arith), g.size, (g.fit.object t g.reads.used).ordered)

  pub count_inside : head_of s t + sh.count_at + 2 ≤ tail_of s t
  count_inside = omega (arith, count_kept, kept_less)

  pub row_inside : 2 * t + 1 < length s.objects
  row_inside = omega (arith, g.reads.used, g.fit.objects_in)

  tail_inside : tail_of s t ≤ length s.bytes
  tail_inside = omega (arith, (g.fit.object t g.reads.used).inside, g.fit.bytes_in)

  pub counted_length : length counted.bytes ≡ length s.bytes
  unfolding be16
  counted_length = other_length s g.fit t sh.count_at (be16 (from cs 0)) g.reads.used count_inside

  -- there is room for the new objects
  pub room : behind.Room shortened new
  unfolding kept_table with_bytes with_tail
  room =
      record {
        object =
            short_fits counted t kept_size row_inside kept_less
            (λ i h. let o = g.fit.object i h in record { after = o.after; ordered = o.ordered; inside = o.inside });
        bytes_in = omega (arith, counted_length, g.bytes_room);
        bytes_most = g.bytes_most;
        objects_in = omega (arith, short_rows counted t kept_size row_inside, g.objects_room);
        objects_most = g.objects_most;
      }

  -- ---- old objects

  pub old_head : (i : ℕ) → i < s.object_count → head_of s' i ≡ head_of s i
  unfolding split_store store_after kept_table with_bytes with_tail
  old_head i h = behind.old_head shortened new (new_links s t sh cs) room i h ∙ short_head counted t kept_size row_inside i

  pub other_tail : (i : ℕ) → i < s.object_count → (i ≡ t → ⊥) → tail_of s' i ≡ tail_of s i
  unfolding split_store store_after kept_table with_bytes with_tail
  other_tail i h ne = behind.old_tail shortened new (new_links s t sh cs) room i h ∙ short_other counted t kept_size row_inside i ne

  pub other_size : (i : ℕ) → i < s.object_count → (i ≡ t → ⊥) → size_of s' i ≡ size_of s i
  other_size i h ne = ap₂ (λ (x y : ℕ). x - y) (other_tail i h ne) (old_head i h)

  pub other_bytes : (i : ℕ) → i < s.object_count → (i ≡ t → ⊥) → bytes_of s' i ≡ bytes_of s i
  unfolding split_store store_after kept_table be16 with_bytes with_tail
  other_bytes i h ne =
      behind.old_bytes shortened new (new_links s t sh cs) room i h
      ∙ short_elsewhere counted t kept_size row_inside i ne
      ∙ other_elsewhere s g.fit t sh.count_at (be16 (from cs 0)) g.reads.used count_inside i h ne

  -- ---- the kept table

  pub kept_size_lem : size_of s' t ≡ kept_size
  unfolding split_store store_after kept_table with_bytes with_tail
  kept_size_lem =
      let tail : tail_of s' t ≡ head_of s t + kept_size
      = behind.old_tail shortened new (new_links s t sh cs) room t g.reads.used ∙ short_tail counted t kept_size row_inside in
      omega (arith, old_head t g.reads.used)

  pub kept_bytes_lem : bytes_of s' t ≡ put (part (bytes_of s t) 0 kept_size) sh.count_at (be16 (from cs 0))
  unfolding split_store store_after kept_table be16 with_bytes with_tail
  kept_bytes_lem =
      let number = be16 (from cs 0) in
      let at : sh.count_at ≡ 0 + sh.count_at = omega arith in
      let long : kept_size ≤ length (bytes_of s t) = omega (arith, kept_less, size_bytes s g.fit t g.reads.used) in
      behind.old_bytes shortened new (new_links s t sh cs) room t g.reads.used
      ∙ short_here counted t kept_size row_inside kept_less (omega (arith, tail_inside, counted_length))
      ∙ ap (λ (b : List ℕ). part b 0 kept_size) (other_here s g.fit t sh.count_at number g.reads.used count_inside)
      ∙ ap (λ (q : ℕ). part (put (bytes_of s t) q number) 0 kept_size) at
      ∙ part-put (bytes_of s t) 0 kept_size sh.count_at number (omega (arith, count_kept)) long

  -- ---- new objects

  pub new_size : (m : ℕ) → m < length new → size_of s' (s.object_count + m) ≡ length (get_or new m [])
  unfolding split_store store_after kept_table with_bytes with_tail
  new_size m h = behind.new_size shortened new (new_links s t sh cs) room m h

  pub new_bytes : (m : ℕ) → m < length new → bytes_of s' (s.object_count + m) ≡ get_or new m []
  unfolding split_store store_after kept_table with_bytes with_tail
  new_bytes m h = behind.new_bytes shortened new (new_links s t sh cs) room m h

  -- ---- which object is which

  -- the objects of new table j
  abbrev pub objects_of : ℕ → List (List ℕ)
  objects_of j = new_table sh (bytes_of s t) (from cs j) (to sh.count cs j) ∷ new_parts sh (entries_of s t) (from cs j) (to sh.count cs j)

  -- the kept table's new parts
  abbrev kept_parts : List (List ℕ)
  kept_parts = new_parts sh (entries_of s t) 0 (from cs 0)

  per_table_lem : (j : ℕ) → length (objects_of j) ≡ per_table sh
  per_table_lem j = parts_many sh (entries_of s t) (from cs j) (to sh.count cs j)

  pub table_object : (j r : ℕ) → j < length cs → r < per_table sh → bytes_of s' (new_number s (per_table sh) j + r) ≡ get_or (objects_of j) r []
  unfolding new_objects
  table_object j r l k =
      let p = per_table sh in
      let e : s.object_count + p * j + r ≡ s.object_count + (p * j + r) = omega arith in
      let i : p * (j + 1) ≤ p * length cs = mul-le-mul_left p (omega arith) in
      ap (bytes_of s') e
      ∙ new_bytes (p * j + r) (omega (arith, many_new s t cs g, mul-add p j 1))
      ∙ even_at objects_of p per_table_lem kept_parts [] (length cs) j r l k

  pub kept_object : (r : ℕ) → r + 1 < per_table sh → bytes_of s' (new_number s (per_table sh) (length cs) + r) ≡ get_or kept_parts r []
  unfolding new_objects
  kept_object r k =
      let p = per_table sh in
      let e : s.object_count + p * length cs + r ≡ s.object_count + (p * length cs + r) = omega arith in
      ap (bytes_of s') e
      ∙ new_bytes (p * length cs + r) (omega (arith, many_new s t cs g))
      ∙ even_past objects_of p per_table_lem kept_parts [] (length cs) r

-- The loop that moves the kept objects down: those before i are packed, and all from i on are still as they came. Assumes nothing.
use Prim.Native.Nat.{ℕ, zero, suc, ◌+◌, ◌-◌, ◌*◌, ◌≤◌, ◌<◌}
use mathlib.Core.Path.{◌≡◌, refl, sym, ap, ap₂, ◌∙◌}
use mathlib.Core.Bool.{Bool, true, false, cond, not, ◌&&◌}
use mathlib.Core.List.{List, [], ◌∷◌, ◌++◌, append-nil}
use native.Mathlib.Omega.{arith}
use native.Mathlib.Numerals.{add-one}
use lib.ListN.{length, get_or}
use lib.Dec.{eqb}
use Rattle.folds.specs.Folds.{sum, before, flat}
use Rattle.folds.specs.Lists.{put, part, join}
use Rattle.folds.proofs.FromTheFront.{sum_same}
use Rattle.folds.proofs.Joining.{join-append}
use Rattle.folds.proofs.Put.{put-nil, put-above, put-put, length-put}
use Rattle.folds.proofs.Parts.{length_part, part_same}
use Rattle.folds.proofs.Picked.{picked, picked_in, picked_out}
use Rattle.store_rules.specs.Store.{Store, lent, sound, head_of, tail_of, size_of, bytes_of}
use Rattle.store_rules.specs.Appended.{rows_from}
use Rattle.store_rules.proofs.Sound.{ObjectFits, sound_fits}
use Rattle.store_rules.proofs.ObjectRows.{rows_length, rows_append}
use Rattle.compact_rules.specs.Kept.{renumber, head_then}
use Rattle.compact_rules.specs.Compacted.{kept_objects, displaced, bytes_moved}
use Rattle.compact_rules.proofs.Numbers.{number_least, number_kept_lem, number_dropped, number_most, picked-many, picked_long}
use Rattle.compact_carrying.specs.declared.objects.Placed.{Placed}
use Rattle.compact_carrying.specs.Packing.{Placing, PlacedAt, PackedObjects}

-- ---- one object more at the end

join_more : (xs : List (List ℕ)) (x : List ℕ) → join (xs ++ (x ∷ [])) ≡ join xs ++ x
unfolding join
join_more xs x = join-append xs (x ∷ []) ∙ ap (λ (r : List ℕ). join xs ++ r) (append-nil x)

rows_more : (a : ℕ) (xs : List (List ℕ)) (x : List ℕ)
    → rows_from a (xs ++ (x ∷ [])) ≡ rows_from a xs ++ ((a + length (join xs)) ∷ (a + length (join xs) + length x) ∷ [])
unfolding rows_from
rows_more a xs x = rows_append a xs (x ∷ [])

-- what is looked at of the store: its objects lie in order, within the data and the rows
pub record Lying (s : Store) : Type 0 where
  pub object : (i : ℕ) → i < s.object_count → ObjectFits s i
  pub bytes_in : s.byte_count ≤ length s.bytes
  pub bytes_most : s.byte_count ≤ 16777216
  pub rows_in : 2 * s.object_count ≤ length s.objects
  pub rows_most : s.object_count ≤ 65536

module _ (s : Store) (keep : ℕ → Bool) where
  -- the bytes of the kept ones before i
  abbrev packed : ℕ → List ℕ
  packed i = join (picked keep (bytes_of s) i)

  abbrev rows : ℕ → List ℕ
  rows i = rows_from 0 (picked keep (bytes_of s) i)

  abbrev moved_below : ℕ → ℕ
  moved_below i = sum (λ i. cond (displaced s keep i) (size_of s i) 0) i

pub record Packing (s : Store) (keep : ℕ → Bool) (d o : List ℕ) (at j moved i : ℕ) : Type 0 where
  pub some : i ≤ s.object_count
  pub bytes : d ≡ put s.bytes 0 (packed s keep i)
  pub objects : o ≡ put s.objects 0 (rows s keep i)
  pub end : at ≡ head_then s keep i
  pub many : j ≡ renumber keep i
  pub moved_sum : moved ≡ moved_below s keep i
  pub moved_low : moved ≤ at

module _ (s : Store) (keep : ℕ → Bool) (lies : Lying s) where
  size_is : (i : ℕ) → i < s.object_count → length (bytes_of s i) ≡ size_of s i
  unfolding bytes_of
  size_is i h = let o = lies.object i h in length_part s.bytes (head_of s i) (tail_of s i) o.ordered (omega (arith, o.inside, lies.bytes_in))

  -- the kept ones before i end before it starts
  head_low : (i : ℕ) → i < s.object_count → head_then s keep i ≤ head_of s i
  unfolding head_then sum before
  head_low zero h = omega arith
  head_low (suc i) h =
      let a : tail_of s i ≤ head_of s (suc i) = (lies.object (suc i) h).after in
      let o = lies.object i (omega arith) in
      omega (arith, head_low i (omega arith), o.ordered, one (keep i) (size_of s i))
    where
      one : (b : Bool) (n : ℕ) → cond b n 0 ≤ n
      one true n = omega arith
      one false n = omega arith

  packed_long : (i : ℕ) → i ≤ s.object_count → length (packed s keep i) ≡ head_then s keep i
  unfolding head_then
  packed_long i h =
      picked_long keep (bytes_of s) i
      ∙ sum_same (λ j. cond (keep j) (length (bytes_of s j)) 0) (λ j. cond (keep j) (size_of s j) 0) i (λ j l. ap (λ (x : ℕ). cond (keep j) x 0) (size_is j (omega arith)))

  rows_long : (i : ℕ) → length (rows s keep i) ≡ 2 * renumber keep i
  rows_long i = rows_length 0 (picked keep (bytes_of s) i) ∙ ap (λ (n : ℕ). 2 * n) (picked-many keep (bytes_of s) i)

  pub packing_start : Packing s keep s.bytes s.objects 0 0 0 0
  unfolding flat join rows_from head_then sum
  packing_start =
      record {
        some = omega arith;
        bytes = put-nil s.bytes 0;
        objects = put-nil s.objects 0;
        end = refl;
        many = sym (number_least keep);
        moved_sum = refl;
        moved_low = omega arith;
      }

  module _ (d o : List ℕ) (at j moved i : ℕ) (inv : Packing s keep d o at j moved i) (h : i < s.object_count) where
    low : at ≤ head_of s i
    low = omega (arith, head_low i h, inv.end)

    -- its row is still as it came
    row_still : (r : ℕ) → get_or o (2 * i + r) 0 ≡ get_or s.objects (2 * i + r) 0
    row_still r =
        ap (λ (x : List ℕ). get_or x (2 * i + r) 0) inv.objects
        ∙ put-above s.objects 0 (rows s keep i) (omega arith) (2 * i + r) (omega (arith, rows_long i, number_most keep i))

    head_still : get_or o (2 * i) 0 ≡ head_of s i
    head_still = let z : 2 * i + 0 ≡ 2 * i = omega arith in rw z at (row_still 0)

    tail_still : get_or o (2 * i + 1) 0 ≡ tail_of s i
    tail_still = row_still 1

    data_long : length d ≡ length s.bytes
    data_long =
        let x = lies.object i h in
        ap length inv.bytes
        ∙ length-put s.bytes 0 (packed s keep i) (omega (arith, packed_long i (omega arith), head_low i h, x.ordered, x.inside, lies.bytes_in))

    rows_same : length o ≡ length s.objects
    rows_same = ap length inv.objects ∙ length-put s.objects 0 (rows s keep i) (omega (arith, rows_long i, number_most keep i, lies.rows_in))

    pub may_place : Placing d o i j at
    may_place =
        let x = lies.object i h in
        record {
          row = omega (arith, rows_same, lies.rows_in);
          lower = omega (arith, inv.many, number_most keep i);
          down = omega (arith, head_still, low);
          ordered = omega (arith, head_still, tail_still, x.ordered);
          inside = omega (arith, tail_still, data_long, x.inside, lies.bytes_in);
          small = omega (arith, tail_still, x.inside, lies.bytes_most);
        }

    -- what lies behind the packed bytes is still as it came
    own_bytes : part d (get_or o (2 * i) 0) (get_or o (2 * i + 1) 0) ≡ bytes_of s i
    unfolding bytes_of
    own_bytes =
        let x = lies.object i h in
        ap₂ (part d) head_still tail_still
        ∙ part_same d s.bytes (head_of s i) (tail_of s i) x.ordered (omega (arith, data_long, x.inside, lies.bytes_in)) (omega (arith, x.inside, lies.bytes_in))
        (λ k lo hi.
        ap (λ (y : List ℕ). get_or y k 0) inv.bytes
        ∙ put-above s.bytes 0 (packed s keep i) (omega arith) k (omega (arith, packed_long i (omega arith), head_low i h)))

    size_still : get_or o (2 * i + 1) 0 - get_or o (2 * i) 0 ≡ size_of s i
    size_still = ap₂ (λ (a b : ℕ). a - b) tail_still head_still

    module _ (e : keep i ≡ true) {d' o' : List ℕ} {r : Placed} (p : PlacedAt d o i j at d' o' r) where
      bytes_then : d' ≡ put s.bytes 0 (packed s keep (suc i))
      bytes_then =
          p.bytes
          ∙ ap₂ (λ (x y : List ℕ). put x at y) inv.bytes own_bytes
          ∙ put-put s.bytes 0 (packed s keep i) at (bytes_of s i) (omega arith) (omega (arith, inv.end, packed_long i (omega arith)))
          ∙ ap (put s.bytes 0) (sym (ap join (picked_in keep (bytes_of s) i e) ∙ join_more (picked keep (bytes_of s) i) (bytes_of s i)))

      rows_then : o' ≡ put s.objects 0 (rows s keep (suc i))
      rows_then =
          let a : at ≡ 0 + length (packed s keep i) = omega (arith, inv.end, packed_long i (omega arith)) in
          let z : get_or o (2 * i + 1) 0 - get_or o (2 * i) 0 ≡ length (bytes_of s i) = size_still ∙ sym (size_is i h) in
          p.row
          ∙ (λ t. put (inv.objects t) (2 * j) (a t ∷ (a t + z t) ∷ []))
          ∙ put-put s.objects 0 (rows s keep i) (2 * j) _ (omega arith) (omega (arith, inv.many, rows_long i))
          ∙ ap (put s.objects 0) (sym (ap (rows_from 0) (picked_in keep (bytes_of s) i e) ∙ rows_more 0 (picked keep (bytes_of s) i) (bytes_of s i)))

      end_then : r.end ≡ head_then s keep (suc i)
      unfolding head_then sum
      end_then = p.end ∙ rw e (omega (arith, size_still, inv.end))

      flipped : (b : Bool) (n : ℕ) → cond b 0 n ≡ cond (not b) n 0
      flipped true n = refl
      flipped false n = refl

      moves : r.moved ≡ cond (displaced s keep i) (size_of s i) 0
      moves =
          p.moved
          ∙ (λ t. cond (eqb (inv.end t) (head_still t)) 0 (size_still t))
          ∙ flipped (eqb (head_then s keep i) (head_of s i)) (size_of s i)
          ∙ ap (λ (b : Bool). cond (b && not (eqb (head_then s keep i) (head_of s i))) (size_of s i) 0) (sym e)

      moves_low : r.moved ≤ size_of s i
      moves_low = omega (arith, moves, one (displaced s keep i) (size_of s i))
        where
          one : (b : Bool) (n : ℕ) → cond b n 0 ≤ n
          one true n = omega arith
          one false n = omega arith

      sum_then : moved + r.moved ≡ moved_below s keep (suc i)
      unfolding sum
      sum_then = ap₂ (λ (x y : ℕ). x + y) inv.moved_sum moves

      pub packing_kept : Packing s keep d' o' r.end (j + 1) (moved + r.moved) (i + 1)
      packing_kept =
          rw (add-one i)
          (record {
            some = h;
            bytes = bytes_then;
            objects = rows_then;
            end = end_then;
            many = omega (arith, number_kept_lem keep i e, inv.many);
            moved_sum = sum_then;
            moved_low = omega (arith, p.end, size_still, moves_low, inv.moved_low);
          })

    pub packing_dropped : keep i ≡ false → Packing s keep d o at j moved (i + 1)
    unfolding head_then sum
    packing_dropped e =
        let same = picked_out keep (bytes_of s) i e in
        rw (add-one i)
        (record {
          some = h;
          bytes = inv.bytes ∙ ap (λ (x : List (List ℕ)). put s.bytes 0 (join x)) (sym same);
          objects = inv.objects ∙ ap (λ (x : List (List ℕ)). put s.objects 0 (rows_from 0 x)) (sym same);
          end = inv.end ∙ rw e (omega arith);
          many = inv.many ∙ sym (number_dropped keep i e);
          moved_sum = inv.moved_sum ∙ rw e (omega arith);
          moved_low = inv.moved_low;
        })

  pub packing_stop : (d o : List ℕ) (at j moved i : ℕ) → Packing s keep d o at j moved i → s.object_count ≤ i
      → PackedObjects s keep d o (record { bytes = at; objects = j; moved = moved })
  unfolding kept_objects bytes_moved
  packing_stop d o at j moved i inv l =
      let e : i ≡ s.object_count = omega (arith, inv.some) in
      record {
        bytes = inv.bytes ∙ ap (λ (n : ℕ). put s.bytes 0 (packed s keep n)) e;
        rows = inv.objects ∙ ap (λ (n : ℕ). put s.objects 0 (rows s keep n)) e;
        end = inv.end ∙ ap (head_then s keep) e;
        many = inv.many ∙ ap (renumber keep) e;
        moved = inv.moved_sum ∙ ap (moved_below s keep) e;
      }

  -- what is packed lies within the data in use
  packed_within : (n : ℕ) → n ≤ s.object_count → head_then s keep n ≤ s.byte_count
  unfolding head_then sum
  packed_within zero h = omega arith
  packed_within (suc n) h = let o = lies.object n h in omega (arith, head_low n h, o.ordered, o.inside, one (keep n) (size_of s n))
    where
      one : (b : Bool) (n : ℕ) → cond b n 0 ≤ n
      one true n = omega arith
      one false n = omega arith

  module _ {d o : List ℕ} {at j moved i : ℕ} (inv : Packing s keep d o at j moved i) where
    pub end_small : at ≤ 16777216
    end_small = omega (arith, packed_within i inv.some, inv.end, lies.bytes_most)

    pub many_small : j ≤ 65536
    many_small = omega (arith, inv.many, number_most keep i, inv.some, lies.rows_most)

    pub bytes_long : length d ≡ length s.bytes
    bytes_long =
        ap length inv.bytes
        ∙ length-put s.bytes 0 (packed s keep i) (omega (arith, packed_long i inv.some, packed_within i inv.some, lies.bytes_in))

    pub objects_long : length o ≡ length s.objects
    objects_long =
        ap length inv.objects ∙ length-put s.objects 0 (rows s keep i) (omega (arith, rows_long i, number_most keep i, inv.some, lies.rows_in))

  -- all of them
  pub kept_size_lem : length (join (kept_objects s keep)) ≡ head_then s keep s.object_count
  unfolding kept_objects
  kept_size_lem = packed_long s.object_count (omega arith)

  pub kept_low : head_then s keep s.object_count ≤ s.byte_count
  kept_low = packed_within s.object_count (omega arith)

-- a sound store's objects lie so, whatever its links
pub lying : (d o l c : List ℕ) → sound (lent d o l c) ≡ true → Lying (lent d o [] c)
lying d o l c h =
    let f = sound_fits (lent d o l c) h in
    record {
      object = λ i k. let x = f.object i k in record { after = x.after; ordered = x.ordered; inside = x.inside };
      bytes_in = f.bytes_in;
      bytes_most = f.bytes_most;
      rows_in = f.objects_in;
      rows_most = f.objects_most;
    }

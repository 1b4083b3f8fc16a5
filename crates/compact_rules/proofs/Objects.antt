-- The objects after a compaction: how many there are, and where each kept one is, with its bytes. Assumes nothing.
use Prim.Native.Nat.{ℕ, ◌+◌, ◌*◌, ◌<◌, ◌≤◌}
use mathlib.Core.Path.{◌≡◌, sym, ap, ◌∙◌}
use mathlib.Core.Bool.{Bool, true, cond}
use mathlib.Core.List.{List, []}
use native.Mathlib.Omega.{arith}
use lib.ListN.{length, get_or, replicate, length-replicate}
use Rattle.folds.specs.Folds.{sum}
use Rattle.folds.specs.Lists.{join}
use Rattle.folds.proofs.FromTheFront.{sum_same}
use Rattle.folds.proofs.Tally.{tally_le}
use Rattle.folds.proofs.Put.{length-put}
use Rattle.folds.proofs.Offsets.{offset}
use Rattle.store_rules.specs.Store.{Store, head_of, size_of, bytes_of}
use Rattle.store_rules.proofs.Sound.{Fits, size_bytes, sizes_within}
use Rattle.store_rules.proofs.Appended.{Room, new_head, new_size, new_bytes, objects_then, bytes_then}
use Rattle.compact_rules.specs.Kept.{renumber, head_then}
use Rattle.compact_rules.specs.Compacted.{kept_objects, kept_links, wiped, emptied, compacted}
use Rattle.compact_rules.proofs.Numbers.{picked-many, picked-at, picked_long, picked-offset, number_less, number_most}
use Rattle.compact_rules.proofs.Kept.{Keeps}

pub wiped_long : (xs : List ℕ) (n : ℕ) → n ≤ length xs → length (wiped xs n) ≡ length xs
unfolding wiped
wiped_long xs n h = length-put xs 0 (replicate n 0) (omega (arith, length-replicate {A = ℕ} n 0))

-- ---- how many, and how long together

pub kept_many : (s : Store) (keep : ℕ → Bool) → length (kept_objects s keep) ≡ renumber keep s.object_count
unfolding kept_objects
kept_many s keep = picked-many keep (bytes_of s) s.object_count

pub objects_left_lem : (s : Store) (keep : ℕ → Bool) → (compacted s keep).object_count ≡ renumber keep s.object_count
unfolding compacted emptied
objects_left_lem s keep = objects_then (emptied s) (kept_objects s keep) (kept_links s keep) ∙ omega (arith, kept_many s keep)

module _ (s : Store) (f : Fits s) (keep : ℕ → Bool) where
  -- the lengths of bytes are sizes
  sizes : (n : ℕ) → n ≤ s.object_count → sum (λ j. cond (keep j) (length (bytes_of s j)) 0) n ≡ head_then s keep n
  unfolding head_then
  sizes n h =
      sum_same (λ j. cond (keep j) (length (bytes_of s j)) 0) (λ j. cond (keep j) (size_of s j) 0) n
      (λ j l. ap (λ (x : ℕ). cond (keep j) x 0) (size_bytes s f j (omega arith)))

  pub kept_long : length (join (kept_objects s keep)) ≡ head_then s keep s.object_count
  unfolding kept_objects
  kept_long = picked_long keep (bytes_of s) s.object_count ∙ sizes s.object_count (omega arith)

  -- what is kept takes no more than the data in use
  pub kept_within : head_then s keep s.object_count ≤ s.byte_count
  unfolding head_then
  kept_within = omega (arith, tally_le (size_of s) keep s.object_count, sizes_within s f)

  -- the emptied store has room for what is kept
  pub roomy : Room (emptied s) (kept_objects s keep)
  unfolding emptied
  roomy =
      record {
        object = λ i l. absurd (omega arith);
        bytes_in = omega (arith, wiped_long s.bytes s.byte_count f.bytes_in, kept_long, kept_within, f.bytes_in);
        bytes_most = omega (arith, kept_long, kept_within, f.bytes_most);
        objects_in = omega (arith, wiped_long s.objects (2 * s.object_count) f.objects_in, kept_many s keep, number_most keep s.object_count, f.objects_in);
        objects_most = omega (arith, kept_many s keep, number_most keep s.object_count, f.objects_most);
      }

  pub bytes_left_lem : (compacted s keep).byte_count ≡ head_then s keep s.object_count
  unfolding compacted emptied
  bytes_left_lem = bytes_then (emptied s) (kept_objects s keep) (kept_links s keep) ∙ omega (arith, kept_long)

  -- ---- one after the other

  module _ (m : ℕ) (h : m < length (kept_objects s keep)) where
    none_before_lem : 0 + m ≡ m
    none_before_lem = omega arith

    pub head_at : head_of (compacted s keep) m ≡ offset (kept_objects s keep) m
    unfolding compacted emptied
    head_at =
        ap (head_of (compacted s keep)) (sym none_before_lem)
        ∙ new_head (emptied s) (kept_objects s keep) (kept_links s keep) roomy m h
        ∙ omega arith

    pub size_at_lem : size_of (compacted s keep) m ≡ length (get_or (kept_objects s keep) m [])
    unfolding compacted emptied
    size_at_lem = ap (size_of (compacted s keep)) (sym none_before_lem) ∙ new_size (emptied s) (kept_objects s keep) (kept_links s keep) roomy m h

    pub bytes_at : bytes_of (compacted s keep) m ≡ get_or (kept_objects s keep) m []
    unfolding compacted emptied
    bytes_at = ap (bytes_of (compacted s keep)) (sym none_before_lem) ∙ new_bytes (emptied s) (kept_objects s keep) (kept_links s keep) roomy m h

  -- ---- each kept object, under its new number

  module _ (k : Keeps s keep) (i : ℕ) (h : keep i ≡ true) where
    pub number_used : renumber keep i < length (kept_objects s keep)
    number_used = omega (arith, kept_many s keep, number_less keep i s.object_count h (k.used i h))

    object_is : get_or (kept_objects s keep) (renumber keep i) [] ≡ bytes_of s i
    unfolding kept_objects
    object_is = picked-at keep (bytes_of s) [] s.object_count i (k.used i h) h

    -- "close all gaps"
    pub head_kept : head_of (compacted s keep) (renumber keep i) ≡ head_then s keep i
    unfolding kept_objects
    head_kept =
        head_at (renumber keep i) number_used
        ∙ picked-offset keep (bytes_of s) s.object_count i (k.used i h)
        ∙ sizes i (let l = k.used i h in omega arith)

    pub bytes_kept : bytes_of (compacted s keep) (renumber keep i) ≡ bytes_of s i
    bytes_kept = bytes_at (renumber keep i) number_used ∙ object_is

    pub size_kept : size_of (compacted s keep) (renumber keep i) ≡ size_of s i
    size_kept = size_at_lem (renumber keep i) number_used ∙ ap length object_is ∙ size_bytes s f i (k.used i h)

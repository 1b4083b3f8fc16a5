-- What lies past the new counts: zero up to the old ones, and behind them as it came; and what lies before has no gaps. Assumes nothing.
use Prim.Native.Nat.{ℕ, zero, suc, ◌+◌, ◌*◌, ◌<◌, ◌≤◌}
use mathlib.Core.Path.{◌≡◌, refl, sym, ap, ◌∙◌}
use mathlib.Core.Bool.{Bool, true, false, cond}
use mathlib.Core.List.{List, [], ◌∷◌}
use native.Mathlib.Omega.{arith}
use lib.ListN.{length, get_or, replicate, length-replicate, get_or-replicate, length-append}
use Rattle.folds.specs.Folds.{before}
use Rattle.folds.specs.Lists.{put, join, Bytes}
use Rattle.folds.proofs.Put.{put-inside, put-above, length-put}
use Rattle.folds.proofs.Offsets.{offset, offset_next}
use Rattle.folds.proofs.Bytes.{bytes_put, bytes_zeros}
use Rattle.folds.proofs.Each.{Each, each_flat}
use Rattle.store_rules.specs.Store.{Store, per_link, head_of, tail_of, bytes_of}
use Rattle.store_rules.specs.Appended.{appended, rows_from, row_numbers}
use Rattle.store_rules.proofs.Sound.{Fits}
use Rattle.store_rules.proofs.Bytes.{object_bytes_lem}
use Rattle.store_rules.proofs.ObjectRows.{rows_length}
use Rattle.store_rules.proofs.LinkRows.{rows_numbers}
use Rattle.store_rules.proofs.Appended.{new_tail}
use Rattle.store_rules.proofs.AppendedFits.{appended_bytes}
use Rattle.compact_rules.specs.Compacted.{kept_objects, kept_links, wiped, emptied, compacted}
use Rattle.compact_rules.proofs.Numbers.{number_most}
use Rattle.compact_rules.proofs.Objects.{wiped_long, kept_many, kept_long, kept_within, roomy, objects_left_lem, bytes_left_lem, head_at}
use Rattle.compact_rules.proofs.Links.{no_more_links}

-- ---- a buffer of which n numbers were in use, and ys are now

module _ (xs ys : List ℕ) (n : ℕ) (less : length ys ≤ n) (fits : n ≤ length xs) where
  zeros : length (replicate {A = ℕ} n 0) ≡ n
  zeros = length-replicate {A = ℕ} n 0

  pub rest_long : length (put (wiped xs n) 0 ys) ≡ length xs
  rest_long = length-put (wiped xs n) 0 ys (omega (arith, wiped_long xs n fits)) ∙ wiped_long xs n fits

  pub rest_zero : (i : ℕ) → length ys ≤ i → i < n → get_or (put (wiped xs n) 0 ys) i 0 ≡ 0
  unfolding wiped
  rest_zero i a b =
      put-above (wiped xs n) 0 ys (omega arith) i (omega arith)
      ∙ put-inside xs 0 (replicate n 0) (omega arith) i (omega arith) (omega (arith, zeros))
      ∙ get_or-replicate {A = ℕ} n _ 0 0 (omega arith)

  pub rest_same : (i : ℕ) → n ≤ i → get_or (put (wiped xs n) 0 ys) i 0 ≡ get_or xs i 0
  unfolding wiped
  rest_same i a =
      put-above (wiped xs n) 0 ys (omega arith) i (omega arith) ∙ put-above xs 0 (replicate n 0) (omega arith) i (omega (arith, zeros))

-- ---- gaps

offset_last : (xs : List (List ℕ)) (m : ℕ) → suc m ≡ length xs → offset xs m + length (get_or xs m []) ≡ length (join xs)
unfolding join
offset_last [] m e = absurd (omega arith)
offset_last (x ∷ []) zero e = omega (arith, length-append x [])
offset_last (x ∷ y ∷ ys) zero e = absurd (omega arith)
offset_last (x ∷ xs) (suc m) e = omega (arith, offset_last xs m (omega arith), length-append x (join xs))

none_long : (xs : List (List ℕ)) → length xs ≡ 0 → length (join xs) ≡ 0
unfolding join
none_long [] e = refl
none_long (x ∷ xs) e = absurd (omega arith)

module _ (s : Store) (f : Fits s) (keep : ℕ → Bool) where
  -- ---- the lent lengths stay

  pub bytes_long : length (compacted s keep).bytes ≡ length s.bytes
  unfolding compacted emptied appended
  bytes_long = rest_long s.bytes (join (kept_objects s keep)) s.byte_count (omega (arith, kept_long s f keep, kept_within s f keep)) f.bytes_in

  row_numbers_lem : length (rows_from 0 (kept_objects s keep)) ≤ 2 * s.object_count
  row_numbers_lem = omega (arith, rows_length 0 (kept_objects s keep), kept_many s keep, number_most keep s.object_count)

  pub objects_long : length (compacted s keep).objects ≡ length s.objects
  unfolding compacted emptied appended
  objects_long = rest_long s.objects (rows_from 0 (kept_objects s keep)) (2 * s.object_count) row_numbers_lem f.objects_in

  link_numbers : length (row_numbers (kept_links s keep)) ≤ per_link * s.link_count
  link_numbers = omega (arith, rows_numbers (kept_links s keep), no_more_links s keep)

  pub links_long : length (compacted s keep).links ≡ length s.links
  unfolding compacted emptied appended
  links_long = rest_long s.links (row_numbers (kept_links s keep)) (per_link * s.link_count) link_numbers f.links_in

  -- ---- "what lies between the new and the old counts is zero"

  pub bytes_zero : (i : ℕ) → (compacted s keep).byte_count ≤ i → i < s.byte_count → get_or (compacted s keep).bytes i 0 ≡ 0
  unfolding compacted emptied appended
  bytes_zero i a b =
      rest_zero s.bytes (join (kept_objects s keep)) s.byte_count (omega (arith, kept_long s f keep, kept_within s f keep)) f.bytes_in i (omega arith) b

  pub objects_zero : (i : ℕ) → 2 * (compacted s keep).object_count ≤ i → i < 2 * s.object_count → get_or (compacted s keep).objects i 0 ≡ 0
  unfolding compacted emptied appended
  objects_zero i a b =
      rest_zero s.objects (rows_from 0 (kept_objects s keep)) (2 * s.object_count) row_numbers_lem f.objects_in i (omega (arith, rows_length 0 (kept_objects s keep))) b

  pub links_zero : (i : ℕ) → per_link * (compacted s keep).link_count ≤ i → i < per_link * s.link_count → get_or (compacted s keep).links i 0 ≡ 0
  unfolding compacted emptied appended
  links_zero i a b =
      rest_zero s.links (row_numbers (kept_links s keep)) (per_link * s.link_count) link_numbers f.links_in i (omega (arith, rows_numbers (kept_links s keep))) b

  -- ---- behind the old counts all stays as it came

  pub bytes_behind : (i : ℕ) → s.byte_count ≤ i → get_or (compacted s keep).bytes i 0 ≡ get_or s.bytes i 0
  unfolding compacted emptied appended
  bytes_behind i a =
      rest_same s.bytes (join (kept_objects s keep)) s.byte_count (omega (arith, kept_long s f keep, kept_within s f keep)) f.bytes_in i a

  pub objects_behind : (i : ℕ) → 2 * s.object_count ≤ i → get_or (compacted s keep).objects i 0 ≡ get_or s.objects i 0
  unfolding compacted emptied appended
  objects_behind i a = rest_same s.objects (rows_from 0 (kept_objects s keep)) (2 * s.object_count) row_numbers_lem f.objects_in i a

  pub links_behind : (i : ℕ) → per_link * s.link_count ≤ i → get_or (compacted s keep).links i 0 ≡ get_or s.links i 0
  unfolding compacted emptied appended
  links_behind i a = rest_same s.links (row_numbers (kept_links s keep)) (per_link * s.link_count) link_numbers f.links_in i a

  -- ---- "close all gaps"

  tail_at : (m : ℕ) → m < length (kept_objects s keep) → tail_of (compacted s keep) m ≡ offset (kept_objects s keep) m + length (get_or (kept_objects s keep) m [])
  unfolding compacted emptied
  tail_at m h =
      let z : m ≡ 0 + m = omega arith in
      ap (tail_of (compacted s keep)) z ∙ new_tail (emptied s) (kept_objects s keep) (kept_links s keep) (roomy s f keep) m h ∙ omega arith

  many : (compacted s keep).object_count ≡ length (kept_objects s keep)
  many = objects_left_lem s keep ∙ sym (kept_many s keep)

  -- each object starts where the one before it ends, the first at 0
  pub no_gap : (m : ℕ) → m < (compacted s keep).object_count → head_of (compacted s keep) m ≡ before (tail_of (compacted s keep)) m
  unfolding before
  no_gap zero h = head_at s f keep 0 (omega (arith, many)) ∙ first (kept_objects s keep)
    where
      first : (xs : List (List ℕ)) → offset xs 0 ≡ 0
      first [] = refl
      first (x ∷ xs) = refl
  no_gap (suc m) h =
      let l : suc m < length (kept_objects s keep) = omega (arith, many) in
      head_at s f keep (suc m) l ∙ offset_next (kept_objects s keep) m l ∙ sym (tail_at m (omega arith))

  -- and the data in use end with the last
  pub no_gap_behind : (compacted s keep).byte_count ≡ before (tail_of (compacted s keep)) (compacted s keep).object_count
  unfolding before
  no_gap_behind = go (compacted s keep).object_count many
    where
      long : (compacted s keep).byte_count ≡ length (join (kept_objects s keep))
      long = bytes_left_lem s f keep ∙ sym (kept_long s f keep)

      go : (n : ℕ) → n ≡ length (kept_objects s keep) → (compacted s keep).byte_count ≡ before (tail_of (compacted s keep)) n
      go zero e = long ∙ none_long (kept_objects s keep) (sym e)
      go (suc m) e = long ∙ sym (offset_last (kept_objects s keep) m e) ∙ sym (tail_at m (omega arith))

  -- ---- bytes stay bytes

  pub stays_bytes : Bytes s.bytes → Bytes (compacted s keep).bytes
  unfolding compacted emptied kept_objects wiped
  stays_bytes h =
      appended_bytes (emptied s) (kept_objects s keep) (kept_links s keep) (roomy s f keep)
      (bytes_put s.bytes 0 (replicate s.byte_count 0) (omega arith) h (bytes_zeros s.byte_count))
      (each_flat Bytes (λ i. cond (keep i) (bytes_of s i ∷ []) []) s.object_count (λ j l. one (keep j) j))
    where
      one : (b : Bool) (j : ℕ) → Each Bytes (cond b (bytes_of s j ∷ []) [])
      one true j = (object_bytes_lem s h j, tt)
      one false j = tt

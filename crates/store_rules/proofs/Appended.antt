-- A store with objects behind those in use and other links: its counts and links, and heads, tails, sizes and bytes of old and new objects. Assumes nothing.
use Prim.Native.Nat.{ℕ, zero, suc, ◌+◌, ◌-◌, ◌*◌, ◌<◌, ◌≤◌}
use mathlib.Core.Path.{◌≡◌, refl, ap, ap₂, subst, ◌∙◌}
use mathlib.Core.List.{List, []}
use mathlib.Core.Logic.{⊎_elim}
use native.Mathlib.Omega.{arith}
use lib.ListN.{length, get_or, drop}
use lib.Seq.{ext_get_or}
use Rattle.folds.specs.Folds.{before}
use Rattle.folds.specs.Lists.{put, join, part}
use Rattle.folds.proofs.Tests.{either}
use Rattle.folds.proofs.Put.{put-below, length-put}
use Rattle.folds.proofs.Parts.{length_part, part_at, part_same}
use Rattle.folds.proofs.Offsets.{put-at, offset, offset_next, in_row, join-at}
use Rattle.store_rules.specs.Store.{Store, Link, links_of, head_of, tail_of, bytes_of, size_of}
use Rattle.store_rules.specs.Appended.{rows_from, row_numbers, appended}
use Rattle.store_rules.proofs.Sound.{ObjectFits}
use Rattle.store_rules.proofs.ObjectRows.{rows_length, row_head, row_tail}
use Rattle.store_rules.proofs.LinkRows.{links_back}

-- the objects of the store lie in order, and there is room for new ones; a store whose table was shortened has this too, whatever its links
pub record Room (s : Store) (new : List (List ℕ)) : Type 0 where
  pub object : (i : ℕ) → i < s.object_count → ObjectFits s i
  pub bytes_in : s.byte_count + length (join new) ≤ length s.bytes
  pub bytes_most : s.byte_count + length (join new) ≤ 16777216
  pub objects_in : 2 * (s.object_count + length new) ≤ length s.objects
  pub objects_most : s.object_count + length new ≤ 65536

-- ---- whatever room there is

module _ (s : Store) (new : List (List ℕ)) (ls : List Link) where
  -- the links in use are these
  pub links_then : links_of (appended s new ls) ≡ ls
  unfolding appended put
  links_then = links_back (appended s new ls) ls (drop (0 + length (row_numbers ls)) s.links) refl refl

  pub objects_then : (appended s new ls).object_count ≡ s.object_count + length new
  unfolding appended
  objects_then = refl

  pub bytes_then : (appended s new ls).byte_count ≡ s.byte_count + length (join new)
  unfolding appended
  bytes_then = refl

  pub links_count : (appended s new ls).link_count ≡ length ls
  unfolding appended
  links_count = refl

-- ---- with room

module _ (s : Store) (new : List (List ℕ)) (ls : List Link) (room : Room s new) where
  abbrev s' : Store
  s' = appended s new ls

  pub bytes_length : length s'.bytes ≡ length s.bytes
  unfolding appended
  bytes_length = length-put s.bytes s.byte_count (join new) room.bytes_in

  pub rows_long : length s'.objects ≡ length s.objects
  unfolding appended
  rows_long = length-put s.objects (2 * s.object_count) (rows_from s.byte_count new) (omega (arith, rows_length s.byte_count new, room.objects_in))

  -- ---- old objects

  old_row : (i : ℕ) → i < 2 * s.object_count → get_or s'.objects i 0 ≡ get_or s.objects i 0
  unfolding appended
  old_row i h = put-below s.objects (2 * s.object_count) (rows_from s.byte_count new) (omega (arith, room.objects_in)) i h

  pub old_head : (i : ℕ) → i < s.object_count → head_of s' i ≡ head_of s i
  old_head i h = old_row (2 * i) (omega arith)

  pub old_tail : (i : ℕ) → i < s.object_count → tail_of s' i ≡ tail_of s i
  old_tail i h = old_row (2 * i + 1) (omega arith)

  pub old_size : (i : ℕ) → i < s.object_count → size_of s' i ≡ size_of s i
  old_size i h = ap₂ (λ (x y : ℕ). x - y) (old_tail i h) (old_head i h)

  old_byte : (i : ℕ) → i < s.byte_count → get_or s'.bytes i 0 ≡ get_or s.bytes i 0
  unfolding appended
  old_byte i h = put-below s.bytes s.byte_count (join new) (omega (arith, room.bytes_in)) i h

  pub old_bytes : (i : ℕ) → i < s.object_count → bytes_of s' i ≡ bytes_of s i
  unfolding bytes_of
  old_bytes i h =
      let o = room.object i h in
      let below : tail_of s i ≤ s.byte_count = o.inside in
      let long = room.bytes_in in
      ap₂ (λ (lo hi : ℕ). part s'.bytes lo hi) (old_head i h) (old_tail i h)
      ∙ part_same s'.bytes s.bytes (head_of s i) (tail_of s i) o.ordered (omega (arith, bytes_length)) (omega arith) (λ k p q. old_byte k (omega arith))

  -- ---- new objects, "packed from the old data count on"

  new_row : (i : ℕ) → i < 2 * length new → get_or s'.objects (2 * s.object_count + i) 0 ≡ get_or (rows_from s.byte_count new) i 0
  unfolding appended
  new_row i h =
      put-at s.objects (2 * s.object_count) (rows_from s.byte_count new) (omega (arith, room.objects_in)) i (omega (arith, rows_length s.byte_count new))

  pub new_head : (m : ℕ) → m < length new → head_of s' (s.object_count + m) ≡ s.byte_count + offset new m
  new_head m h =
      let e : 2 * (s.object_count + m) ≡ 2 * s.object_count + 2 * m = omega arith in
      ap (λ (n : ℕ). get_or s'.objects n 0) e ∙ new_row (2 * m) (omega arith) ∙ row_head s.byte_count new m h

  pub new_tail : (m : ℕ) → m < length new → tail_of s' (s.object_count + m) ≡ s.byte_count + offset new m + length (get_or new m [])
  new_tail m h =
      let e : 2 * (s.object_count + m) + 1 ≡ 2 * s.object_count + (2 * m + 1) = omega arith in
      ap (λ (n : ℕ). get_or s'.objects n 0) e ∙ new_row (2 * m + 1) (omega arith) ∙ row_tail s.byte_count new m h

  pub new_size : (m : ℕ) → m < length new → size_of s' (s.object_count + m) ≡ length (get_or new m [])
  new_size m h = omega (arith, new_head m h, new_tail m h)

  pub new_bytes : (m : ℕ) → m < length new → bytes_of s' (s.object_count + m) ≡ get_or new m []
  unfolding bytes_of appended
  new_bytes m h =
      let x = get_or new m [] in
      let lo = s.byte_count + offset new m in
      let hi = lo + length x in
      let r = in_row new m h in
      let n : length (part s'.bytes lo hi) ≡ length x
      = length_part s'.bytes lo hi (omega arith) (omega (arith, bytes_length, room.bytes_in)) ∙ omega arith in
      ap₂ (λ (a b : ℕ). part s'.bytes a b) (new_head m h) (new_tail m h)
      ∙ ext_get_or 0 (part s'.bytes lo hi) x n
      (λ i l.
      let k : i < length x = omega arith in
      let e : lo + i ≡ s.byte_count + (offset new m + i) = omega arith in
      part_at s'.bytes lo hi i (omega arith)
      ∙ ap (λ (n : ℕ). get_or s'.bytes n 0) e
      ∙ put-at s.bytes s.byte_count (join new) (omega (arith, room.bytes_in)) (offset new m + i) (omega arith)
      ∙ join-at new m i h k)

  -- ---- they follow one another

  before-old : (i : ℕ) → i < s.object_count → before (tail_of s') i ≤ head_of s i
  unfolding before
  before-old zero h = omega arith
  before-old (suc i) h = let a : tail_of s i ≤ head_of s (suc i) = (room.object (suc i) h).after in omega (arith, old_tail i (omega arith))

  old_fits : (i : ℕ) → i < s.object_count → ObjectFits s' i
  old_fits i h =
      let o = room.object i h in
      let a = old_head i h in
      let b = old_tail i h in
      record { after = omega (arith, before-old i h); ordered = omega (arith, o.ordered); inside = omega (arith, o.inside, bytes_then s new ls) }

  -- the objects in use end within the data in use
  in_use_lem : (n : ℕ) → n ≤ s.object_count → before (tail_of s') n ≤ s.byte_count
  unfolding before
  in_use_lem zero h = omega arith
  in_use_lem (suc n) h = omega (arith, old_tail n (omega arith), (room.object n (omega arith)).inside)

  before-new : (m : ℕ) → m < length new → before (tail_of s') (s.object_count + m) ≤ head_of s' (s.object_count + m)
  unfolding before
  before-new zero h =
      let z : s.object_count ≡ s.object_count + 0 = omega arith in
      let first : before (tail_of s') s.object_count ≤ head_of s' (s.object_count + 0) = omega (arith, in_use_lem s.object_count (omega arith), new_head 0 h) in
      subst (λ (k : ℕ). before (tail_of s') k ≤ head_of s' (s.object_count + 0)) z first
  before-new (suc m) h =
      let z : suc (s.object_count + m) ≡ s.object_count + suc m = omega arith in
      let next : tail_of s' (s.object_count + m) ≤ head_of s' (s.object_count + suc m)
      = omega (arith, new_tail m (omega arith), new_head (suc m) h, offset_next new m h) in
      subst (λ (k : ℕ). before (tail_of s') k ≤ head_of s' (s.object_count + suc m)) z next

  new_fits : (m : ℕ) → m < length new → ObjectFits s' (s.object_count + m)
  new_fits m h =
      let a = new_head m h in
      let b = new_tail m h in
      record { after = before-new m h; ordered = omega arith; inside = omega (arith, in_row new m h, bytes_then s new ls) }

  pub object_fits_lem : (i : ℕ) → i < s'.object_count → ObjectFits s' i
  object_fits_lem i h =
      ⊎_elim (λ lt. old_fits i lt)
      (λ ge.
      let z : s.object_count + (i - s.object_count) ≡ i = omega arith in
      subst (ObjectFits s') z (new_fits (i - s.object_count) (omega (arith, objects_then s new ls))))
      (either i s.object_count)

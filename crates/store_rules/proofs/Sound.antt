-- What a sound store gives, as facts on its counts, objects and links, and that these make it sound. Assumes nothing.
use Prim.Native.Nat.{ℕ, zero, suc, ◌*◌, ◌<◌, ◌≤◌}
use mathlib.Core.Path.{◌≡◌}
use mathlib.Core.Bool.{true, ◌&&◌}
use mathlib.Core.Logic.{⊎_elim}
use native.Mathlib.Omega.{arith}
use native.Mathlib.Nat.{not-suc-le-zero, le_of_suc-le-suc, eq-or-lt_of_le}
use lib.ListN.{length}
use lib.Dec.{leb, ltb}
use borrow.Author.Tests.{ltb-true, leb-true, lt-ltb, le-leb}
use Rattle.folds.specs.Folds.{all, sum, before}
use Rattle.folds.proofs.Tests.{and_both, and_intro}
use Rattle.folds.proofs.Folds.{all_at_lem, all_intro}
use Rattle.folds.proofs.Joined.{and_three, and_five, three_hold, five_hold}
use Rattle.folds.proofs.Parts.{length_part}
use Rattle.store_rules.specs.Store.{per_link, Store, sound, byte_room, object_room, link_room, bytes_of, head_of, tail_of, size_of, link_at, parent_of, child_of, object_fits, shaped, link_fits, ascends}

-- "head ≤ tail ≤ data in use, each head at or after the tail before it"
pub record ObjectFits (s : Store) (i : ℕ) : Type 0 where
  pub after : before (tail_of s) i ≤ head_of s i
  pub ordered : head_of s i ≤ tail_of s i
  pub inside : tail_of s i ≤ s.byte_count

-- "links name objects in use", each is of its kind's shape, and rows ascend
pub record LinkFits (s : Store) (k : ℕ) : Type 0 where
  pub parent_used : parent_of s k < s.object_count
  pub child_used : child_of s k < s.object_count
  pub shape : shaped (size_of s (parent_of s k)) (link_at s k) ≡ true
  pub rising : ascends s k ≡ true

-- "counts fit the lent lengths and the maxima", and each object and each link in use fits
pub record Fits (s : Store) : Type 0 where
  pub bytes_in : s.byte_count ≤ length s.bytes
  pub bytes_most : s.byte_count ≤ 16777216
  pub objects_in : 2 * s.object_count ≤ length s.objects
  pub objects_most : s.object_count ≤ 65536
  pub links_in : per_link * s.link_count ≤ length s.links
  pub links_most : s.link_count ≤ 262144
  pub object : (i : ℕ) → i < s.object_count → ObjectFits s i
  pub link : (k : ℕ) → k < s.link_count → LinkFits s k

-- ---- sound, then these

object_fits_lem : (s : Store) (i : ℕ) → object_fits s i ≡ true → ObjectFits s i
unfolding object_fits
object_fits_lem s i h =
    let (a, b, c) = and_three (leb (before (tail_of s) i) (head_of s i)) (leb (head_of s i) (tail_of s i)) (leb (tail_of s i) s.byte_count) h in
    record { after = leb-true _ _ a; ordered = leb-true _ _ b; inside = leb-true _ _ c }

link_fits_lem : (s : Store) (k : ℕ) → link_fits s k ≡ true → LinkFits s k
unfolding link_fits
link_fits_lem s k h =
    let parents = ltb (parent_of s k) s.object_count in
    let children = ltb (child_of s k) s.object_count in
    let shapes = shaped (size_of s (parent_of s k)) (link_at s k) in
    let (x, e) = and_both (parents && children && shapes) (ascends s k) h in
    let (a, b, c) = and_three parents children shapes x in
    record { parent_used = ltb-true _ _ a; child_used = ltb-true _ _ b; shape = c; rising = e }

pub sound_fits : (s : Store) → sound s ≡ true → Fits s
unfolding sound byte_room object_room link_room
sound_fits s h =
    let byte-room : ℕ = byte_room (length s.bytes) in
    let object-room : ℕ = object_room (length s.objects) in
    let link-room : ℕ = link_room (length s.links) in
    let (d, o, l, objects, links) =
    and_five (leb s.byte_count byte-room) (leb s.object_count object-room) (leb s.link_count link-room) (all (object_fits s) s.object_count)
    (all (link_fits s) s.link_count) h in
    let bt : s.byte_count ≤ byte-room = leb-true s.byte_count byte-room d in
    let ot : s.object_count ≤ object-room = leb-true s.object_count object-room o in
    let lt : s.link_count ≤ link-room = leb-true s.link_count link-room l in
    record {
      bytes_in = omega arith;
      bytes_most = omega arith;
      objects_in = omega arith;
      objects_most = omega arith;
      links_in = omega arith;
      links_most = omega arith;
      object = λ i m. object_fits_lem s i (all_at_lem (object_fits s) s.object_count objects i m);
      link = λ k m. link_fits_lem s k (all_at_lem (link_fits s) s.link_count links k m);
    }

-- ---- these, then sound

fits_object : (s : Store) (i : ℕ) → ObjectFits s i → object_fits s i ≡ true
unfolding object_fits
fits_object s i f = three_hold _ _ _ (le-leb _ _ f.after) (le-leb _ _ f.ordered) (le-leb _ _ f.inside)

fits_link : (s : Store) (k : ℕ) → LinkFits s k → link_fits s k ≡ true
unfolding link_fits
fits_link s k f = and_intro _ _ (three_hold _ _ _ (lt-ltb _ _ f.parent_used) (lt-ltb _ _ f.child_used) f.shape) f.rising

pub fits_sound : (s : Store) → Fits s → sound s ≡ true
unfolding sound byte_room object_room link_room
fits_sound s f =
    five_hold _ _ _ _ _
    (le-leb s.byte_count (byte_room (length s.bytes)) (omega arith))
    (le-leb s.object_count (object_room (length s.objects)) (omega arith))
    (le-leb s.link_count (link_room (length s.links)) (omega arith))
    (all_intro (object_fits s) s.object_count (λ i m. fits_object s i (f.object i m)))
    (all_intro (link_fits s) s.link_count (λ k m. fits_link s k (f.link k m)))

-- ---- what follows

module _ (s : Store) (f : Fits s) where
  -- an object ends before a later one starts
  pub apart : (i j : ℕ) → i < j → j < s.object_count → tail_of s i ≤ head_of s j
  unfolding before
  apart i zero h l = absurd (not-suc-le-zero h)
  apart i (suc j) h l =
      let a : tail_of s j ≤ head_of s (suc j) = (f.object (suc j) l).after in
      ⊎_elim (λ e. rw e a)
      (λ lt. let b : tail_of s i ≤ head_of s j = apart i j lt (omega arith) in let c : head_of s j ≤ tail_of s j = (f.object j (omega arith)).ordered in omega arith)
      (eq-or-lt_of_le (le_of_suc-le-suc h))

  pub size_bytes : (i : ℕ) → i < s.object_count → length (bytes_of s i) ≡ size_of s i
  unfolding bytes_of
  size_bytes i h = let o = f.object i h in length_part s.bytes (head_of s i) (tail_of s i) o.ordered (omega (arith, f.bytes_in))

  pub size_most : (i : ℕ) → i < s.object_count → size_of s i ≤ 16777216
  size_most i h = omega (arith, (f.object i h).inside, f.bytes_most)

  -- objects do not overlap, so that the first k of them take no more bytes than there are up to the last one's tail
  sizes_before : (k : ℕ) → k ≤ s.object_count → sum (size_of s) k ≤ before (tail_of s) k
  unfolding sum before
  sizes_before zero h = omega arith
  sizes_before (suc k) h =
      let o = f.object k (omega arith) in
      omega (arith, sizes_before k (omega arith), o.after, o.ordered)

  -- they take no more than the data in use
  pub sizes_within : sum (size_of s) s.object_count ≤ s.byte_count
  unfolding before
  sizes_within = go s.object_count (sizes_before s.object_count (omega arith)) f.object
    where
      go : (n : ℕ) → sum (size_of s) n ≤ before (tail_of s) n → ((i : ℕ) → i < n → ObjectFits s i) → sum (size_of s) n ≤ s.byte_count
      go zero h o = omega arith
      go (suc n) h o = omega (arith, h, (o n (omega arith)).inside)

  pub sizes_most : sum (size_of s) s.object_count ≤ 16777216
  sizes_most = omega (arith, sizes_within, f.bytes_most)

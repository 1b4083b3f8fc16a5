-- A store with other bytes in one object, or with an object that ends earlier: what that object has then, and that the others keep theirs. Assumes nothing.
use Prim.Native.Nat.{ℕ, zero, suc, ◌+◌, ◌*◌, ◌<◌, ◌≤◌}
use mathlib.Core.Path.{◌≡◌, refl, sym, ap₂, ◌∙◌}
use mathlib.Core.List.{List}
use mathlib.Core.Logic.{⊎_elim}
use native.Mathlib.Omega.{arith}
use native.Mathlib.Decide.{ℕ_discrete}
use lib.ListN.{length, length-set}
use lib.Seq.{get_or-set_same, get_or-set_other}
use Rattle.folds.specs.Folds.{before}
use Rattle.folds.specs.Lists.{put, part, Bytes}
use Rattle.folds.proofs.Tests.{either}
use Rattle.folds.proofs.Put.{put-below, put-above, length-put}
use Rattle.folds.proofs.Parts.{part_same}
use Rattle.folds.proofs.WrittenPart.{part-put, part-part}
use Rattle.folds.proofs.Bytes.{bytes_put}
use Rattle.store_rules.specs.Store.{Store, head_of, tail_of, bytes_of}
use Rattle.store_rules.specs.Appended.{with_bytes, with_tail}
use Rattle.store_rules.proofs.Sound.{Fits, ObjectFits, apart}

-- ---- other bytes, from byte q of object t on

module _ (s : Store) (f : Fits s) (t q : ℕ) (xs : List ℕ) (used : t < s.object_count) (inside : head_of s t + q + length xs ≤ tail_of s t) where
  abbrev other : Store
  other = with_bytes s (head_of s t + q) xs

  within : head_of s t + q + length xs ≤ length s.bytes
  within = omega (arith, (f.object t used).inside, f.bytes_in)

  pub other_length : length other.bytes ≡ length s.bytes
  unfolding with_bytes
  other_length = length-put s.bytes (head_of s t + q) xs within

  -- its head and tail are no matter
  pub other_here : bytes_of other t ≡ put (bytes_of s t) q xs
  unfolding bytes_of with_bytes
  other_here = part-put s.bytes (head_of s t) (tail_of s t) q xs inside (omega (arith, (f.object t used).inside, f.bytes_in))

  pub other_elsewhere : (i : ℕ) → i < s.object_count → (i ≡ t → ⊥) → bytes_of other i ≡ bytes_of s i
  unfolding bytes_of with_bytes
  other_elsewhere i h ne =
      let o = f.object i h in
      let long : tail_of s i ≤ length s.bytes = omega (arith, o.inside, f.bytes_in) in
      let at = head_of s t + q in
      let room : at ≤ length s.bytes = omega (arith, within) in
      part_same other.bytes s.bytes (head_of s i) (tail_of s i) o.ordered (omega (arith, other_length)) long
      (λ k lo hi.
      ⊎_elim
      (λ lt. let z : tail_of s i ≤ head_of s t = apart s f i t lt used in put-below s.bytes at xs room k (omega arith))
      (λ ge. let z : tail_of s t ≤ head_of s i = apart s f t i (omega arith) h in put-above s.bytes at xs room k (omega arith))
      (either i t))

  pub other_octets : Bytes s.bytes → Bytes xs → Bytes other.bytes
  unfolding with_bytes
  other_octets old new = bytes_put s.bytes (head_of s t + q) xs (omega (arith, within)) old new

-- ---- object t ends after n bytes

module _ (s : Store) (t n : ℕ) (room : 2 * t + 1 < length s.objects) where
  abbrev short : Store
  short = with_tail s t (head_of s t + n)

  pub short_rows : length short.objects ≡ length s.objects
  unfolding with_tail
  short_rows = length-set s.objects (2 * t + 1) (head_of s t + n)

  pub short_count : short.byte_count ≡ s.byte_count
  unfolding with_tail
  short_count = refl

  pub short_head : (i : ℕ) → head_of short i ≡ head_of s i
  unfolding with_tail
  short_head i = get_or-set_other s.objects (2 * t + 1) (2 * i) (head_of s t + n) 0 (λ e. omega arith)

  pub short_tail : tail_of short t ≡ head_of s t + n
  unfolding with_tail
  short_tail = get_or-set_same s.objects (2 * t + 1) (head_of s t + n) 0 room

  pub short_other : (i : ℕ) → (i ≡ t → ⊥) → tail_of short i ≡ tail_of s i
  unfolding with_tail
  short_other i ne = get_or-set_other s.objects (2 * t + 1) (2 * i + 1) (head_of s t + n) 0 (λ e. ne (omega arith))

  pub short_elsewhere : (i : ℕ) → (i ≡ t → ⊥) → bytes_of short i ≡ bytes_of s i
  unfolding bytes_of with_tail
  short_elsewhere i ne = ap₂ (λ (lo hi : ℕ). part s.bytes lo hi) (short_head i) (short_other i ne)

  module _ (less : head_of s t + n ≤ tail_of s t) where
    pub short_here : tail_of s t ≤ length s.bytes → bytes_of short t ≡ part (bytes_of s t) 0 n
    unfolding bytes_of with_tail
    short_here long =
        ap₂ (λ (lo hi : ℕ). part s.bytes lo hi) (short_head t) short_tail
        ∙ sym (part-part s.bytes (head_of s t) (tail_of s t) n less long)

    -- it ends no later, and no earlier than it starts
    short_less : (i : ℕ) → head_of s i ≤ tail_of s i → (tail_of short i ≤ tail_of s i) × (head_of s i ≤ tail_of short i)
    short_less i o = go (ℕ_discrete i t)
      where
        go : Dec (i ≡ t) → (tail_of short i ≤ tail_of s i) × (head_of s i ≤ tail_of short i)
        go (yes e) = rw e (omega (arith, short_tail), omega (arith, short_tail))
        go (no e) = (omega (arith, short_other i e), omega (arith, short_other i e))

    -- objects in order stay so
    pub short_fits : ((i : ℕ) → i < s.object_count → ObjectFits s i) → (i : ℕ) → i < s.object_count → ObjectFits short i
    unfolding before
    short_fits object i h =
        let o = object i h in
        let (a, b) = short_less i o.ordered in
        record { after = omega (arith, short_head i, earlier i h); ordered = omega (arith, short_head i); inside = omega (arith, o.inside, short_count) }
      where
        earlier : (i : ℕ) → i < s.object_count → before (tail_of short) i ≤ head_of s i
        earlier zero h = omega arith
        earlier (suc i) h =
            let next : tail_of s i ≤ head_of s (suc i) = (object (suc i) h).after in
            omega (arith, (short_less i (object i (omega arith)).ordered).0)

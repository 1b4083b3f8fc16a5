-- What is written from the front and zero behind it, up to what was in use, is written over zeros. Assumes nothing.
use Prim.Native.Nat.{ℕ, ◌-◌, ◌*◌, ◌≤◌}
use mathlib.Core.Path.{◌≡◌, sym, ap, ◌∙◌}
use mathlib.Core.Bool.{Bool}
use mathlib.Core.List.{List}
use mathlib.Core.Logic.{⊎_elim}
use native.Mathlib.Omega.{arith}
use lib.ListN.{length, replicate, length-replicate, get_or-replicate}
use lib.Seq.{ext_get_or}
use Rattle.folds.specs.Lists.{put, join}
use Rattle.folds.proofs.Tests.{either}
use Rattle.folds.proofs.Put.{put-below, put-inside, put-above, length-put}
use Rattle.store_rules.specs.Store.{Store, per_link}
use Rattle.store_rules.specs.Appended.{rows_from, row_numbers}
use Rattle.store_rules.proofs.ObjectRows.{rows_length}
use Rattle.store_rules.proofs.LinkRows.{rows_numbers}
use Rattle.compact_rules.specs.Kept.{head_then}
use Rattle.compact_rules.specs.Compacted.{kept_objects, kept_links, wiped}
use Rattle.compact_rules.proofs.Numbers.{number_most}
use Rattle.compact_rules.proofs.Objects.{wiped_long, kept_many}
use Rattle.compact_rules.proofs.Links.{no_more_links}
use Rattle.compact_rules.proofs.Rests.{rest_long, rest_zero, rest_same}
use Rattle.compact_carrying.specs.declared.objects.Packed.{Packed}
use Rattle.compact_carrying.specs.Packing.{PackedObjects, PackedLinks, ObjectsLeft, LinksLeft}
use Rattle.compact_carrying.proofs.Packing.{Lying, kept_size_lem, kept_low}
use Rattle.compact_carrying.proofs.Sifting.{Linked}

pub wiped_behind : (d xs : List ℕ) (n a m : ℕ) → a ≡ length xs → m ≡ n - length xs → length xs ≤ n → n ≤ length d
    → put (put d 0 xs) a (replicate m 0) ≡ put (wiped d n) 0 xs
wiped_behind d xs n a m e q h l =
    let zeros = length-replicate {A = ℕ} m 0 in
    let front : length (put d 0 xs) ≡ length d = length-put d 0 xs (omega arith) in
    let long : length (put (put d 0 xs) a (replicate m 0)) ≡ length d = length-put (put d 0 xs) a (replicate m 0) (omega arith) ∙ front in
    let blank = wiped_long d n l in
    ext_get_or 0 (put (put d 0 xs) a (replicate m 0)) (put (wiped d n) 0 xs) (long ∙ sym (rest_long d xs n h l))
    (λ i k.
    ⊎_elim
    (λ lt.
    put-below (put d 0 xs) a (replicate m 0) (omega arith) i (omega arith)
    ∙ put-inside d 0 xs (omega arith) i (omega arith) (omega arith)
    ∙ sym (put-inside (wiped d n) 0 xs (omega arith) i (omega arith) (omega arith)))
    (λ ge.
    ⊎_elim
    (λ lt.
    put-inside (put d 0 xs) a (replicate m 0) (omega arith) i (omega arith) (omega arith)
    ∙ get_or-replicate {A = ℕ} m (i - a) 0 0 (omega arith)
    ∙ sym (rest_zero d xs n h l i ge lt))
    (λ past.
    put-above (put d 0 xs) a (replicate m 0) (omega arith) i (omega arith)
    ∙ put-above d 0 xs (omega arith) i (omega arith)
    ∙ sym (rest_same d xs n h l i past))
    (either i n))
    (either i (length xs)))

module _ (s : Store) (keep : ℕ → Bool) (lies : Lying s) where
  pub objects_left_lem : {d o d' o' : List ℕ} {r : Packed} → PackedObjects s keep d o r
      → d' ≡ put d r.bytes (replicate (s.byte_count - r.bytes) 0)
      → o' ≡ put o (2 * r.objects) (replicate (2 * (s.object_count - r.objects)) 0)
      → ObjectsLeft s keep d' o' r
  objects_left_lem {d} {o} {d'} {o'} {r} p e q =
      let size : r.bytes ≡ length (join (kept_objects s keep)) = p.end ∙ sym (kept_size_lem s keep lies) in
      let low : head_then s keep s.object_count ≤ s.byte_count = kept_low s keep lies in
      let many : r.objects ≡ length (kept_objects s keep) = p.many ∙ sym (kept_many s keep) in
      let few = number_most keep s.object_count in
      let rows = rows_length 0 (kept_objects s keep) in
      record {
        bytes =
            e
            ∙ ap (λ (x : List ℕ). put x r.bytes (replicate (s.byte_count - r.bytes) 0)) p.bytes
            ∙ wiped_behind s.bytes (join (kept_objects s keep)) s.byte_count r.bytes (s.byte_count - r.bytes) size (omega arith) (omega (arith, p.end)) lies.bytes_in;
        rows =
            q
            ∙ ap (λ (x : List ℕ). put x (2 * r.objects) (replicate (2 * (s.object_count - r.objects)) 0)) p.rows
            ∙ wiped_behind s.objects (rows_from 0 (kept_objects s keep)) (2 * s.object_count) (2 * r.objects) (2 * (s.object_count - r.objects)) (omega arith) (omega (arith, p.many))
            (omega (arith, p.many)) lies.rows_in;
        end = size;
        many = many;
        moved = p.moved;
      }

  -- what is asked to make the rest zero
  pub rest_asked : {d o : List ℕ} {r : Packed} → PackedObjects s keep d o r
      → (r.bytes ≤ s.byte_count) × (r.objects ≤ s.object_count) × (length d ≡ length s.bytes) × (length o ≡ length s.objects)
  rest_asked p =
      let low : head_then s keep s.object_count ≤ s.byte_count = kept_low s keep lies in
      let size = kept_size_lem s keep lies in
      let few = number_most keep s.object_count in
      let rows = rows_length 0 (kept_objects s keep) in
      let many = kept_many s keep in (
        omega (arith, p.end),
        omega (arith, p.many),
        ap length p.bytes ∙ length-put s.bytes 0 (join (kept_objects s keep)) (omega (arith, lies.bytes_in)),
        ap length p.rows ∙ length-put s.objects 0 (rows_from 0 (kept_objects s keep)) (omega (arith, lies.rows_in)),
      )

module _ (s : Store) (keep : ℕ → Bool) (fits : Linked s) where
  pub links_left_lem : {l l' : List ℕ} {n : ℕ} → PackedLinks s keep l n → l' ≡ put l (per_link * n) (replicate (per_link * (s.link_count - n)) 0) → LinksLeft s keep l' n
  links_left_lem {l} {l'} {n} p e =
      let rows = rows_numbers (kept_links s keep) in
      let few = no_more_links s keep in
      record {
        rows =
            e
            ∙ ap (λ (x : List ℕ). put x (per_link * n) (replicate (per_link * (s.link_count - n)) 0)) p.rows
            ∙ wiped_behind s.links (row_numbers (kept_links s keep)) (per_link * s.link_count) (per_link * n) (per_link * (s.link_count - n)) (omega (arith, p.many)) (omega (arith, p.many))
            (omega arith) fits.rows_in;
        many = p.many;
      }

  pub links_asked : {l : List ℕ} {n : ℕ} → PackedLinks s keep l n → (n ≤ s.link_count) × (length l ≡ length s.links)
  links_asked p =
      let rows = rows_numbers (kept_links s keep) in
      let few = no_more_links s keep in
      (omega (arith, p.many), ap length p.rows ∙ length-put s.links 0 (row_numbers (kept_links s keep)) (omega (arith, fits.rows_in)))

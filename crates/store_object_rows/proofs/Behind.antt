-- Objects written behind those in use of a store: these keep their places and bytes, and the store stays sound with its counts. Assumes nothing.
use Prim.Native.Nat.{ℕ, zero, suc, ◌+◌, ◌-◌, ◌*◌, ◌<◌, ◌≤◌}
use mathlib.Core.Path.{◌≡◌, refl, sym, ap, ap₂, ◌∙◌}
use mathlib.Core.List.{List, [], ◌∷◌}
use native.Mathlib.Omega.{arith}
use lib.ListN.{length, get_or, set}
use Rattle.folds.specs.Folds.{before}
use Rattle.folds.specs.Lists.{put, join, part}
use Rattle.folds.proofs.Put.{put_one, put_comm, put-below}
use Rattle.folds.proofs.Parts.{part_same}
use Rattle.store_rules.specs.Store.{Store, head_of, tail_of, size_of, bytes_of, parent_of, ascends}
use Rattle.store_rules.specs.Appended.{rows_from}
use Rattle.store_rules.proofs.ObjectRows.{rows_length}
use Rattle.store_rules.proofs.Sound.{Fits, ObjectFits, LinkFits}
use Rattle.store_object_rows.specs.Objects.{ObjectsRoom, Written, Behind}
use Rattle.store_object_rows.proofs.Writing.{data_long, rows_long}

-- ---- what was written

module _ {s : Store} {new : List (List ℕ)} {d o : List ℕ} {r : ℕ} (fits : Fits s)
    (room : ObjectsRoom s.bytes s.objects s.byte_count s.object_count new)
    (w : Written s.bytes s.objects s.byte_count s.object_count new d o r) where
  pub written_behind : Behind s d o
  written_behind =
      record {
        bytes_long = data_long room w;
        rows_long = rows_long room w;
        byte = λ i h. ap (λ (x : List ℕ). get_or x i 0) w.bytes ∙ put-below s.bytes s.byte_count (join new) fits.bytes_in i h;
        row = λ i h.
            ap (λ (x : List ℕ). get_or x i 0) w.rows ∙ put-below s.objects (2 * s.object_count) (rows_from s.byte_count new) fits.objects_in i h;
      }

  -- bytes in use that are changed then might have been changed before
  pub change_first : (a : ℕ) (xs : List ℕ) → a + length xs ≤ s.byte_count → put d a xs ≡ put (put s.bytes a xs) s.byte_count (join new)
  change_first a xs below =
      ap (λ (x : List ℕ). put x a xs) w.bytes ∙ sym (put_comm s.bytes a xs s.byte_count (join new) below room.bytes)

  -- and so might a number of a row in use
  pub set_first : (i v : ℕ) → i < 2 * s.object_count → set o i v ≡ put (set s.objects i v) (2 * s.object_count) (rows_from s.byte_count new)
  set_first i v below =
      let rows = rows_from s.byte_count new in
      let fit : 2 * s.object_count + length rows ≤ length s.objects = omega (arith, rows_length s.byte_count new, room.rows) in
      put_one o i v (omega (arith, rows_long room w, fits.objects_in))
      ∙ ap (λ (x : List ℕ). put x i (v ∷ [])) w.rows
      ∙ sym (put_comm s.objects i (v ∷ []) (2 * s.object_count) rows (omega arith) fit)
      ∙ ap (λ (x : List ℕ). put x (2 * s.object_count) rows) (sym (put_one s.objects i v (omega (arith, fits.objects_in))))

-- ---- the store with them, and with its own links and counts

-- s with these bytes and rows
abbrev pub with : Store → List ℕ → List ℕ → Store
with s d o = record { bytes = d; objects = o; links = s.links; byte_count = s.byte_count; object_count = s.object_count; link_count = s.link_count }

module _ {s : Store} {d o : List ℕ} (fits : Fits s) (b : Behind s d o) where
  abbrev s' : Store
  s' = with s d o

  pub same_head : (i : ℕ) → i < s.object_count → head_of s' i ≡ head_of s i
  same_head i h = b.row (2 * i) (omega arith)

  same_tail : (i : ℕ) → i < s.object_count → tail_of s' i ≡ tail_of s i
  same_tail i h = b.row (2 * i + 1) (omega arith)

  same_size : (i : ℕ) → i < s.object_count → size_of s' i ≡ size_of s i
  same_size i h = ap₂ (λ (x y : ℕ). x - y) (same_tail i h) (same_head i h)

  pub same_bytes : (i : ℕ) → i < s.object_count → bytes_of s' i ≡ bytes_of s i
  unfolding bytes_of
  same_bytes i h =
      let f = fits.object i h in
      let long : tail_of s i ≤ length s.bytes = omega (arith, f.inside, fits.bytes_in) in
      ap₂ (λ (lo hi : ℕ). part d lo hi) (same_head i h) (same_tail i h)
      ∙ part_same d s.bytes (head_of s i) (tail_of s i) f.ordered (omega (arith, b.bytes_long)) long (λ k p q. b.byte k (omega (arith, f.inside)))

  same_before : (i : ℕ) → i < s.object_count → before (tail_of s') i ≡ before (tail_of s) i
  unfolding before
  same_before zero h = refl
  same_before (suc i) h = same_tail i (omega arith)

  same_ascends : (k : ℕ) → ascends s' k ≡ ascends s k
  unfolding ascends
  same_ascends zero = refl
  same_ascends (suc k) = refl

  object_then : (i : ℕ) → i < s.object_count → ObjectFits s' i
  object_then i h =
      let f = fits.object i h in
      let head = same_head i h in
      let tail = same_tail i h in
      record { after = omega (arith, f.after, same_before i h); ordered = omega (arith, f.ordered); inside = omega (arith, f.inside) }

  link_then : (k : ℕ) → k < s.link_count → LinkFits s' k
  link_then k h =
      let f = fits.link k h in
      record {
        parent_used = f.parent_used;
        child_used = f.child_used;
        shape = rw (same_size (parent_of s k) f.parent_used) f.shape;
        rising = same_ascends k ∙ f.rising;
      }

  pub still_fits_lem : Fits s'
  still_fits_lem =
      record {
        bytes_in = omega (arith, fits.bytes_in, b.bytes_long);
        bytes_most = fits.bytes_most;
        objects_in = omega (arith, fits.objects_in, b.rows_long);
        objects_most = fits.objects_most;
        links_in = fits.links_in;
        links_most = fits.links_most;
        object = object_then;
        link = link_then;
      }

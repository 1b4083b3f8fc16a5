-- One new lookup written behind all that is in use. Assumes nothing.
use Prim.Native.Nat.{ℕ, ◌+◌, ◌*◌, ◌<◌}
use mathlib.Core.Path.{◌≡◌, ap, ◌∙◌}
use mathlib.Core.List.{List, [], ◌∷◌}
use native.Mathlib.Omega.{arith}
use lib.ListN.{length}
use Rattle.folds.specs.Lists.{put, part}
use Rattle.store_rules.specs.Store.{Store, head_of, tail_of, bytes_of}
use Rattle.store_rules.proofs.Sound.{Fits, ObjectFits, sound_fits, size_bytes}
use Rattle.store_object_rows.specs.Objects.{Laid, Written}
use Rattle.store_object_rows.proofs.Writing.{written_one, one_fits, one_row, one_small}
use Rattle.lookup_rules.specs.Written.{new_lookup}
use Rattle.lookup_new_objects.specs.Counted.{count_with, lookup_with}
use Rattle.lookup_new_objects.specs.Written.{LookupCopyReady, NewLookupReady}
use Rattle.lookup_new_objects.proofs.Sizing.{bytes_long}

module _ {s : Store} {t k p at row : ℕ} (ready : NewLookupReady s t k p at row) where
  fits : Fits s
  fits = sound_fits s ready.sizing.sound_is

  used : p < s.object_count
  used = ready.sizing.lookup.used

  object : ObjectFits s p
  object = fits.object p used

  -- its row can be read
  pub row_there : 2 * p + 1 < length s.objects
  row_there = omega (arith, used, fits.objects_in)

  -- and its new one's written
  pub new_row : 2 * row + 1 < length s.objects
  new_row = one_row (lookup_with s t k p) [] ready.room

  module _ {n : ℕ} (count : n ≡ count_with s t k p) where
    new_is : new_lookup (part s.bytes (head_of s p) (tail_of s p)) n ≡ lookup_with s t k p
    unfolding bytes_of
    new_is = ap (new_lookup (bytes_of s p)) count

    pub copy_ready : LookupCopyReady s.bytes (head_of s p) (tail_of s p) n at
    unfolding bytes_of
    copy_ready =
        let size = size_bytes s fits p used in
        record {
          long = omega (arith, bytes_long ready.sizing, size, object.ordered);
          apart = omega (arith, object.inside, ready.apart);
          room = omega (arith, one_fits (lookup_with s t k p) [] ready.room, ap length new_is);
        }

    module _ {d : List ℕ} {e : ℕ} (laid : Laid s.bytes at (new_lookup (part s.bytes (head_of s p) (tail_of s p)) n) d e) where
      ends : e ≡ at + length (lookup_with s t k p)
      ends = laid.ends ∙ ap (λ (x : List ℕ). at + length x) new_is

      pub end_small : e < 4294967296
      end_small = one_small (lookup_with s t k p) [] ready.room ends

      pub lookup_written : {o : List ℕ} → o ≡ put s.objects (2 * row) (at ∷ e ∷ []) → Written s.bytes s.objects at row (lookup_with s t k p ∷ []) d o e
      lookup_written put-row = written_one (lookup_with s t k p) (laid.bytes ∙ ap (put s.bytes at) new_is) put-row ends

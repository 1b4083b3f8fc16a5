-- New lookups written one behind another: their old ones are read as they came. Assumes nothing.
use Prim.Native.Nat.{ℕ, ◌+◌, ◌*◌, ◌≤◌, ◌<◌}
use mathlib.Core.Path.{◌≡◌, sym, ap, ap₂, subst, ◌∙◌}
use mathlib.Core.Bool.{◌&&◌}
use mathlib.Core.List.{List, [], ◌∷◌}
use native.Mathlib.Omega.{arith}
use lib.ListN.{length, get_or}
use lib.Dec.{leb}
use borrow.Author.Tests.{leb-true}
use Rattle.folds.specs.Folds.{flat}
use Rattle.folds.proofs.Folds.{all_at_lem}
use Rattle.ot_layouts.specs.Lookup.{subtable_count, lookup_header, lookup_exact, is_subtable_slot}
use Rattle.store_rules.specs.Store.{Store, child_at, links_of, all_at}
use Rattle.store_rules.proofs.Sound.{Fits, sound_fits, fits_sound}
use Rattle.store_object_rows.specs.Objects.{ObjectsRoom, Written, Behind}
use Rattle.store_object_rows.proofs.Behind.{with, written_behind, same_bytes, still_fits_lem}
use Rattle.store_object_rows.proofs.Rounds.{Rounds, rounds_start, rounds_stop, written_room, next_room, rounds_turn}
use Rattle.lookup_rules.specs.Listed.{slots_at, subtable_slots, good_lookup}
use Rattle.lookup_rules.specs.Written.{new_lookup, new_slots, new_lookups, listings, counts_fit}
use Rattle.lookup_new_objects.specs.Counted.{count_with, lookup_with, lookups_with}
use Rattle.lookup_new_objects.specs.Written.{NewLookupReady, WritingLookups}
use Rattle.lookup_new_objects.proofs.Counted.{count_is_lem, lookups_are}

-- ---- a lookup of the store with other bytes and rows behind those in use

module _ {s : Store} {d o : List ℕ} (fits : Fits s) (b : Behind s d o) (p : ℕ) (used : p < s.object_count) where
  abbrev s' : Store
  s' = with s d o

  good_then : good_lookup s' p ≡ good_lookup s p
  unfolding good_lookup all_at
  good_then = ap (λ (x : List ℕ). lookup_exact x && all_at s p (is_subtable_slot x)) (same_bytes fits b p used)

  count_then : (t k : ℕ) → count_with s' t k p ≡ count_with s t k p
  unfolding count_with subtable_slots slots_at child_at links_of
  count_then t k =
      ap (λ (x : List ℕ). subtable_count x + k * listings t (slots_at s p lookup_header (subtable_count x))) (same_bytes fits b p used)

  lookup_then : (t k : ℕ) → lookup_with s' t k p ≡ lookup_with s t k p
  lookup_then t k = ap₂ new_lookup (same_bytes fits b p used) (count_then t k)

-- ---- turn by turn

-- the new lookup of turn m
abbrev lookup_round : Store → ℕ → ℕ → List ℕ → ℕ → List (List ℕ)
lookup_round s t k ps m = lookup_with s t k (get_or ps m 0) ∷ []

-- the first m are written
pub record LookupsWritten (s : Store) (t k : ℕ) (ps d o : List ℕ) (at row m : ℕ) : Type 0 where
  pub rounds : Rounds s.bytes s.objects s.byte_count s.object_count (lookup_round s t k ps) (length ps) 1 d o at row m

module _ (s : Store) (t k : ℕ) (ps : List ℕ) where
  all_are : (us : List ℕ) → length us ≡ k → new_lookups s t us ps ≡ flat (lookup_round s t k ps) (length ps)
  unfolding lookups_with
  all_are us many = lookups_are s t us ps ∙ ap (λ (n : ℕ). lookups_with s t n ps) many

  pub lookups_start : WritingLookups s t k ps → LookupsWritten s t k ps s.bytes s.objects s.byte_count s.object_count 0
  lookups_start w =
      let room = subst (ObjectsRoom s.bytes s.objects s.byte_count s.object_count) (all_are w.tables w.many) w.room in
      record {
        rounds = rounds_start s.bytes s.objects s.byte_count s.object_count (lookup_round s t k ps) (length ps) 1 room (λ m. omega arith);
      }

  module _ (d o : List ℕ) (at row m : ℕ) (done : LookupsWritten s t k ps d o at row m) where
    pub lookups_stop : length ps ≤ m → (us : List ℕ) → length us ≡ k
        → Written s.bytes s.objects s.byte_count s.object_count (new_lookups s t us ps) d o at
    lookups_stop l us many =
        subst (λ (new : List (List ℕ)). Written s.bytes s.objects s.byte_count s.object_count new d o at) (sym (all_are us many))
        (rounds_stop s.bytes s.objects s.byte_count s.object_count (lookup_round s t k ps) (length ps) 1 d o at row m done.rounds l)

    module _ (w : WritingLookups s t k ps) (l : m < length ps) where
      abbrev p : ℕ
      p = get_or ps m 0

      fits : Fits s
      fits = sound_fits s w.sound_is

      used : p < s.object_count
      used = (w.lookups m l).used

      behind : Behind s d o
      behind =
          written_behind fits
          (written_room s.bytes s.objects s.byte_count s.object_count (lookup_round s t k ps) (length ps) 1 d o at row m done.rounds l)
          done.rounds.written

      room : ObjectsRoom d o at row (lookup_round s t k ps m)
      room = next_room s.bytes s.objects s.byte_count s.object_count (lookup_round s t k ps) (length ps) 1 d o at row m done.rounds l

      count_small : count_with s t k p ≤ 65535
      unfolding counts_fit
      count_small =
          let small = leb-true (length (new_slots s t w.tables p)) 65535
          (all_at_lem (λ m. leb (length (new_slots s t w.tables (get_or ps m 0))) 65535) (length ps) w.counts_fit_lem m l) in
          omega (arith, count_is_lem s t w.tables p, ap (λ (n : ℕ). count_with s t n p) w.many)

      pub lookup_ready : NewLookupReady (with s d o) t k p at row
      lookup_ready =
          record {
            sizing = record {
              sound_is = fits_sound (with s d o) (still_fits_lem fits behind);
              lookup = record { used = used; good = good_then fits behind p used ∙ (w.lookups m l).good };
              few = w.few;
            };
            count_fits = omega (arith, count_then fits behind p used t k, count_small);
            apart = omega (arith, done.rounds.written.ends);
            room = subst (λ (x : List ℕ). ObjectsRoom d o at row (x ∷ [])) (sym (lookup_then fits behind p used t k)) room;
          }

      pub row_small : row + 1 ≤ length s.objects
      row_small = omega (arith, room.rows, done.rounds.same_rows)

      pub lookups_turn : {d' o' : List ℕ} {r : ℕ} → Written d o at row (lookup_with (with s d o) t k p ∷ []) d' o' r
          → LookupsWritten s t k ps d' o' r (row + 1) (m + 1)
      lookups_turn {d'} {o'} {r} more =
          let mine = subst (λ (x : List ℕ). Written d o at row (x ∷ []) d' o' r) (lookup_then fits behind p used t k) more in
          record {
            rounds = rounds_turn s.bytes s.objects s.byte_count s.object_count (lookup_round s t k ps) (length ps) 1 d o at row m done.rounds l d' o' r mine;
          }

-- New lookups, their links and the redirection, step by step: what each asks, and that the counts fit. Assumes nothing.
use Prim.Native.Nat.{ℕ, ◌+◌, ◌<◌, ◌≤◌}
use mathlib.Core.Path.{refl}
use mathlib.Core.List.{List}
use native.Mathlib.Omega.{arith}
use lib.ListN.{length, get_or}
use borrow.Author.Tests.{leb-true}
use Rattle.folds.proofs.Folds.{all_at_lem}
use Rattle.folds.proofs.Each.{Each, each_of}
use Rattle.store_rules.specs.Store.{Store, lent}
use Rattle.store_rules.proofs.Sound.{Fits, sound_fits}
use Rattle.store_link_rows.specs.Copies.{Copied}
use Rattle.store_link_rows.proofs.Copying.{copied_long}
use Rattle.store_object_rows.specs.Objects.{Written}
use Rattle.lookup_rules.specs.Written.{new_slots, new_lookups, new_lookup_links, count_fits, counts_fit}
use Rattle.lookup_rules.proofs.Unled.{climb_unled, old_links}
use Rattle.lookup_links.specs.Entering.{Entering, EnteringLent}
use Rattle.lookup_links.specs.Redirecting.{Redirecting}
use Rattle.lookup_links.proofs.Unled.{redirecting}
use Rattle.lookup_new_objects.specs.Written.{WritingLookups}
use Rattle.lookup_carrying.specs.Lookups.{LookupsReady}
use Rattle.lookup_carrying.proofs.Entered.{many_new, all-links}

module _ {d o ls : List ℕ} (c : List ℕ) {t : ℕ} {us marks ps : List ℕ} (k : LookupsReady (lent d o ls c) t us marks ps) where
  abbrev s : Store
  s = lent d o ls c

  -- the number of the first new lookup
  abbrev n : ℕ
  n = get_or c 1 0

  pub write_asked : WritingLookups s t (length us) ps
  write_asked =
      record {
        sound_is = k.sounds;
        lookups = k.lookups;
        few = k.few;
        tables = us;
        many = refl;
        counts_fit_lem = k.fits;
        room = record { bytes = k.bytes_in; rows = omega (arith, many_new s t us ps, k.objects_in); small = omega (arith, k.bytes_most) };
      }

  pub links_known : Entering s t us ps n
  links_known =
      record {
        sound_is = k.sounds;
        lookups = k.lookups;
        few = k.few;
        numbers = omega (arith, k.objects_most);
        room = k.links_in;
        most = k.links_most;
      }

  pub links_asked : EnteringLent ls c t us ps n
  links_asked = record { bytes = d; objects = o; known = links_known }

  -- ---- the counts

  pub bytes_fit : {d' o' : List ℕ} {r : ℕ} → Written d o (get_or c 0 0) n (new_lookups s t us ps) d' o' r → r < 4294967296
  bytes_fit w = omega (arith, w.ends, k.bytes_most)

  pub objects_fit_lem : n + length ps ≤ 65536
  objects_fit_lem = k.objects_most

  module _ {ls' : List ℕ} {rows : ℕ} (w : Copied ls (get_or c 2 0) (new_lookup_links s t us ps n) ls' rows) where
    pub rows_fit : rows < 4294967296
    rows_fit = omega (arith, w.next, k.links_most)

    -- the links before they are redirected
    fit : Fits s
    fit = sound_fits s k.sounds

    tables_used : Each (λ c. c < n) us
    tables_used = each_of (λ c. c < n) us 0 k.used

    counted : (m : ℕ) → m < length ps → length (new_slots s t us (get_or ps m 0)) ≤ 65535
    unfolding counts_fit
    counted m h = leb-true (length (new_slots s t us (get_or ps m 0))) 65535 (all_at_lem (λ m. count_fits (new_slots s t us (get_or ps m 0))) (length ps) k.fits m h)

    pub redirect_asked : Redirecting ls' rows marks n
    redirect_asked =
        let long = copied_long ls c (get_or c 2 0) (new_lookup_links s t us ps n) (record { behind = omega arith; fits = k.links_in }) ls' rows w in
        redirecting (record { room = omega (arith, w.next, k.links_in); lookups = ps; marked = k.marked; numbers = omega (arith, k.objects_most) })
        (omega (arith, k.objects_most)) (all-links d o ls c t us ps k.links_in w)
        (climb_unled s t us ps s fit fit (omega arith) tables_used counted) k.objects_most (old_links s t us ps s fit fit (omega arith) tables_used counted)

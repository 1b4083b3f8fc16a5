-- The needs of the new lookups, added up one by one. Assumes nothing.
use Rattle.std.specs.Prelude.{Ok, Err}
use Prim.Native.Nat.{ℕ, ◌+◌, ◌*◌, ◌≤◌, ◌<◌}
use mathlib.Core.Path.{◌≡◌, refl, sym, ap, ap₂, ◌∙◌}
use mathlib.Core.Bool.{Bool, true, false, ◌&&◌}
use mathlib.Core.List.{List, [], ◌∷◌}
use native.Mathlib.Numerals.{add-one}
use native.Mathlib.Omega.{arith}
use lib.ListN.{length, get_or}
use lib.Dec.{leb}
use Rattle.folds.specs.Folds.{all, sum}
use Rattle.folds.specs.Lists.{join}
use Rattle.folds.proofs.Folds.{all_none, sum_none, sum_more}
use Rattle.folds.proofs.FromTheFront.{sum_same}
use Rattle.folds.proofs.Failing.{all_same}
use Rattle.store_rules.specs.Store.{Store}
use Rattle.store_rules.specs.SlotLinks.{links_from}
use Rattle.folds.proofs.Joining.{join_one, join-flat}
use Rattle.lookup_rules.specs.Written.{new_slots, counts_fit, links_needed, lookups_need}
use Rattle.lookup_new_objects.specs.declared.Size.{Size}
use Rattle.lookup_new_objects.specs.Counted.{entered_in, count_with, lookup_with, lookups_with, Sized, Sizing, Measuring, needs_measured}
use Rattle.lookup_new_objects.proofs.Counted.{count_is_lem, lookups_are}

-- of new lookup m: whether its count can be said, its links and its bytes
abbrev fits_at : Store → ℕ → ℕ → List ℕ → ℕ → Bool
fits_at s t k ps m = leb (count_with s t k (get_or ps m 0)) 65535

abbrev links_of_new : Store → ℕ → ℕ → List ℕ → ℕ → ℕ
links_of_new s t k ps m = links_from s (get_or ps m 0) + entered_in s t k (get_or ps m 0)

abbrev bytes_of_new : Store → ℕ → ℕ → List ℕ → ℕ → ℕ
bytes_of_new s t k ps m = length (lookup_with s t k (get_or ps m 0))

-- the first m are added up, and there is room for 65,536 of them
pub record Added (s : Store) (t k : ℕ) (ps : List ℕ) (fits : Bool) (links bytes m : ℕ) : Type 0 where
  pub some : m ≤ length ps
  pub fits_is : fits ≡ all (fits_at s t k ps) m
  pub links_is : links ≡ sum (links_of_new s t k ps) m
  pub bytes_is : bytes ≡ sum (bytes_of_new s t k ps) m
  pub links_few : links ≤ 68719476736 * m
  pub bytes_few : bytes ≤ 68719476736 * m

module _ (s : Store) (t k : ℕ) (ps : List ℕ) where
  pub added_start : Added s t k ps true 0 0 0
  added_start =
      record {
        some = omega arith;
        fits_is = sym (all_none (fits_at s t k ps));
        links_is = sym (sum_none (links_of_new s t k ps));
        bytes_is = sym (sum_none (bytes_of_new s t k ps));
        links_few = omega arith;
        bytes_few = omega arith;
      }

  pub can_size : Measuring s k ps → (m : ℕ) → m < length ps → Sizing s k (get_or ps m 0)
  can_size g m l = record { sound_is = g.sound_is; lookup = g.lookups m l; few = g.few }

  -- whether all of them fit, as the definitions count
  fit_lem : (us : List ℕ) → length us ≡ k → counts_fit s t us ps ≡ all (fits_at s t k ps) (length ps)
  unfolding counts_fit
  fit_lem us many =
      sym
      (all_same (fits_at s t k ps) (λ m. leb (length (new_slots s t us (get_or ps m 0))) 65535) (length ps)
      (λ i h. ap (λ (c : ℕ). leb c 65535) (ap (λ (x : ℕ). count_with s t x (get_or ps i 0)) (sym many) ∙ sym (count_is_lem s t us (get_or ps i 0)))))

  module _ (fits : Bool) (links bytes m : ℕ) (a : Added s t k ps fits links bytes m) where
    all_more : all (fits_at s t k ps) (m + 1) ≡ (all (fits_at s t k ps) m && fits_at s t k ps m)
    unfolding all
    all_more = rw add-one

    pub added_turn : m < length ps → {z : Size} → Sized s t k (get_or ps m 0) z → {b : Bool} → b ≡ (fits && leb z.subtables 65535)
        → Added s t k ps b (links + z.links) (bytes + z.bytes) (m + 1)
    added_turn l {z} w e =
        record {
          some = omega arith;
          fits_is = e ∙ ap₂ (λ (x : Bool) (n : ℕ). x && leb n 65535) a.fits_is w.subtables_is ∙ sym all_more;
          links_is = omega (arith, a.links_is, w.links_is, sum_more (links_of_new s t k ps) m);
          bytes_is = omega (arith, a.bytes_is, w.bytes_is, sum_more (bytes_of_new s t k ps) m);
          links_few = omega (arith, a.links_few, w.links_few);
          bytes_few = omega (arith, a.bytes_few, w.bytes_few);
        }

    module _ (l : length ps ≤ m) (us : List ℕ) (many : length us ≡ k) where
      n : m ≡ length ps
      n = omega (arith, a.some)

      -- whether all of them fit
      fit : fits ≡ counts_fit s t us ps
      fit = a.fits_is ∙ ap (all (fits_at s t k ps)) n ∙ sym (fit_lem us many)

      need : record { objects = length ps; links = links; bytes = bytes; entries = 0 } ≡ lookups_need s t us ps
      unfolding lookups_need links_needed lookups_with
      need =
          let linked : links ≡ (lookups_need s t us ps).links
          = a.links_is ∙ ap (sum (links_of_new s t k ps)) n
          ∙ sum_same (links_of_new s t k ps) (λ m. links_needed s t us (get_or ps m 0)) (length ps)
          (λ i h. ap (λ (x : ℕ). links_from s (get_or ps i 0) + entered_in s t x (get_or ps i 0)) (sym many)) in
          let long : bytes ≡ (lookups_need s t us ps).bytes
          = a.bytes_is ∙ ap (sum (bytes_of_new s t k ps)) n
          ∙ sum_same (bytes_of_new s t k ps) (λ m. length (join (lookup_with s t k (get_or ps m 0) ∷ []))) (length ps)
          (λ i h. sym (join_one (lookup_with s t k (get_or ps i 0))))
          ∙ sym (join-flat (λ m. lookup_with s t k (get_or ps m 0) ∷ []) (length ps))
          ∙ sym (ap (λ (x : List (List ℕ)). length (join x)) (lookups_are s t us ps ∙ ap (λ (x : ℕ). lookups_with s t x ps) many)) in
          λ i. record { objects = length ps; links = linked i; bytes = long i; entries = 0 }

      pub added_fit : fits ≡ true → Ok (record { objects = length ps; links = links; bytes = bytes; entries = 0 }) ≡ needs_measured s t us ps
      added_fit y = rw (sym fit ∙ y, need) refl

      pub added_over : fits ≡ false → Err (record { objects = length ps; links = links; bytes = bytes; entries = 0 }) ≡ needs_measured s t us ps
      added_over y = rw (sym fit ∙ y, need) refl

-- New lookups by the number of new tables alone. Assumes nothing.
use Rattle.std.specs.Prelude.{Option}
use Prim.Native.Nat.{ℕ, ◌+◌, ◌-◌, ◌*◌}
use mathlib.Core.Path.{◌≡◌, sym, ap, ◌∙◌}
use mathlib.Core.Bool.{true}
use mathlib.Core.List.{List}
use lib.ListN.{length, get_or}
use lib.Dec.{eqb}
use Rattle.folds.specs.Folds.{upto}
use Rattle.folds.specs.Lists.{sift}
use Rattle.folds.proofs.Folds.{length-upto, upto-same}
use Rattle.folds.proofs.Picked.{length-picked, sift-upto}
use Rattle.ot_layouts.specs.Lookup.{subtable_count, lookup_header}
use Rattle.store_rules.specs.Store.{Store, Link, link_at, child_at, bytes_of}
use Rattle.store_rules.proofs.Sound.{Fits}
use Rattle.store_reader.specs.declared.LinkRows.{LinkRows}
use Rattle.store_reader.specs.Rows.{ParentRows}
use Rattle.store_link_rows.proofs.OwnLinks.{own_links}
use Rattle.store_reader.proofs.Rows.{in_order_lem, positions_low}
use Rattle.lookup_rules.specs.Listed.{slots_at, subtable_slots, good_lookup}
use Rattle.lookup_rules.specs.Written.{new_lookup, new_slots, new_lookups, listings}
use Rattle.lookup_rules.proofs.Filled.{lookup_filled, filled_listings}
use Rattle.lookup_rules.proofs.Counts.{entered_count}
use Rattle.lookup_new_objects.specs.Counted.{listed_in, count_with, lookup_with, lookups_with}

-- ---- by the rows of a lookup

module _ (s : Store) (p : ℕ) {rows : LinkRows} (own : ParentRows s.links s.link_count p rows) where
  pub rows_listings : Fits s → good_lookup s p ≡ true → (t : ℕ) → listed_in s.links rows t ≡ listings t (subtable_slots s p)
  unfolding listed_in
  rows_listings f good t =
      let n = rows.after - rows.first in
      let link : ℕ → Link = λ i. link_at s (rows.first + i) in
      sym (filled_listings t (lookup_filled s f p good)
      ∙ ap (λ (ls : List Link). length (sift (λ l. eqb l.child t) ls)) (own_links s (in_order_lem s f) (positions_low s f) p own)
      ∙ ap length (sift-upto (λ l. eqb l.child t) link n)
      ∙ length-picked (λ i. eqb (link i).child t) link n)

-- ---- the new tables themselves do not count

module _ (s : Store) (t : ℕ) (us : List ℕ) where
  pub count_is_lem : (p : ℕ) → length (new_slots s t us p) ≡ count_with s t (length us) p
  unfolding new_slots count_with subtable_slots slots_at
  count_is_lem p =
      let child : ℕ → Option ℕ = λ i. child_at s p (lookup_header + 2 * i) in
      let n = subtable_count (bytes_of s p) in
      entered_count t us (upto child n) ∙ ap (λ (k : ℕ). k + length us * listings t (subtable_slots s p)) (length-upto child n)

  pub lookups_are : (ps : List ℕ) → new_lookups s t us ps ≡ lookups_with s t (length us) ps
  unfolding new_lookups lookups_with
  lookups_are ps =
      upto-same (λ m. new_lookup (bytes_of s (get_or ps m 0)) (length (new_slots s t us (get_or ps m 0)))) (λ m. lookup_with s t (length us) (get_or ps m 0)) (length ps)
      (λ m l. ap (new_lookup (bytes_of s (get_or ps m 0))) (count_is_lem (get_or ps m 0)))

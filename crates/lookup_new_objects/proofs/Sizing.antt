-- How large a new lookup is: from its old one's rows and bytes. Assumes nothing.
use Prim.Native.Nat.{ℕ, ◌+◌, ◌-◌, ◌*◌, ◌≤◌, ◌<◌}
use mathlib.Core.Path.{◌≡◌, ap, ◌∙◌}
use mathlib.Core.Bool.{Bool, cond}
use mathlib.Core.List.{List}
use native.Mathlib.Omega.{arith}
use native.Mathlib.Nat.{mul-le-mul}
use lib.ListN.{length, get_or}
use lib.Dec.{eqb}
use Rattle.folds.proofs.Tests.{and_both, by_test}
use Rattle.folds.proofs.Sums.{sum_bound}
use Rattle.ot_layouts.specs.Lookup.{subtable_count, lookup_header, lookup_exact, is_subtable_slot}
use Rattle.store_rules.specs.Store.{Store, per_link, row_child, bytes_of, all_at}
use Rattle.store_rules.proofs.Sound.{Fits, sound_fits, size_bytes, size_most}
use Rattle.store_reader.specs.declared.LinkRows.{LinkRows}
use Rattle.store_reader.specs.Rows.{Inside, InOrder, ParentRows}
use Rattle.store_reader.proofs.Rows.{in_order_lem, positions_low}
use Rattle.store_reader.proofs.Bytes.{inside}
use Rattle.store_link_rows.proofs.OwnLinks.{own_many}
use Rattle.store_reader.proofs.Rows.{in_order_lem, positions_low}
use Rattle.lookup_rules.specs.Listed.{subtable_slots, good_lookup}
use Rattle.lookup_rules.specs.Written.{listings}
use Rattle.lookup_rules.proofs.NewLookup.{exact_long, new_length_lem}
use Rattle.lookup_new_objects.specs.Counted.{listed_in, count_with, Sized, Sizing}
use Rattle.lookup_new_objects.proofs.Counted.{rows_listings}

-- no more rows lead to the table than there are
listed_few : (ls : List ℕ) (rows : LinkRows) (t : ℕ) → listed_in ls rows t ≤ rows.after - rows.first
unfolding listed_in
listed_few ls rows t =
    let leads : ℕ → ℕ = λ i. cond (eqb (get_or ls (per_link * (rows.first + i) + row_child) 0) t) 1 0 in
    omega (arith, sum_bound leads 1 (rows.after - rows.first) (λ i l. one (eqb (get_or ls (per_link * (rows.first + i) + row_child) 0) t)))
  where
    one : (b : Bool) → cond b 1 0 ≤ 1
    one b = by_test b (λ e. rw e (omega arith)) (λ e. rw e (omega arith))

module _ {s : Store} {k p : ℕ} (z : Sizing s k p) where
  fits : Fits s
  fits = sound_fits s z.sound_is

  pub rows_order : InOrder s.links s.link_count × (p < 65536)
  rows_order = (in_order_lem s fits, omega (arith, z.lookup.used, fits.objects_most))

  pub bytes_inside : Inside (length s.bytes) s.objects p
  bytes_inside = inside s fits p z.lookup.used

  -- its bytes hold its header and its slots
  pub bytes_long : lookup_header + 2 * subtable_count (bytes_of s p) ≤ length (bytes_of s p)
  unfolding good_lookup
  bytes_long = let b = bytes_of s p in exact_long b (and_both (lookup_exact b) (all_at s p (is_subtable_slot b)) z.lookup.good).0

  pub header_there : {b : List ℕ} → b ≡ bytes_of s p → lookup_header ≤ length b
  header_there e = omega (arith, bytes_long, ap length e)

  pub bytes_most_lem : {b : List ℕ} → b ≡ bytes_of s p → length b ≤ 16777216
  bytes_most_lem e = omega (arith, size_bytes s fits p z.lookup.used, size_most s fits p z.lookup.used, ap length e)

  module _ {rows : LinkRows} (own : ParentRows s.links s.link_count p rows) where
    pub rows_room_lem : (rows.first ≤ rows.after) × (per_link * rows.after ≤ length s.links)
    rows_room_lem = (own.rise, omega (arith, own.after.within, fits.links_in))

    pub rows_few : rows.after - rows.first ≤ 262144
    rows_few = omega (arith, own.after.within, fits.links_most)

    module _ (t n : ℕ) (e : n ≡ listed_in s.links rows t) where
      pub entered_few : k * n ≤ 17179869184
      entered_few = let many = listed_few s.links rows t in mul-le-mul {n₂ = 65536} {m₂ = 262144} z.few (omega (arith, rows_few))

      pub sized : {b : List ℕ} → b ≡ bytes_of s p → {c : ℕ} → c < 65536 → c ≡ subtable_count b
          → Sized s t k p (record { subtables = c + k * n; links = rows.after - rows.first + k * n; bytes = length b + 2 * (k * n) })
      unfolding count_with
      sized {b} same {c} short count =
          let old = bytes_of s p in
          let many : k * n ≡ k * listings t (subtable_slots s p) = ap (λ (x : ℕ). k * x) (e ∙ rows_listings s p own fits z.lookup.good t) in
          let slots : c ≡ subtable_count old = count ∙ ap subtable_count same in
          let long : length b ≡ length old = ap length same in
          record {
            subtables_is = omega arith;
            links_is = omega (arith, own_many s (in_order_lem s fits) (positions_low s fits) p own);
            bytes_is = omega (arith, new_length_lem old (count_with s t k p) bytes_long);
            links_few = omega (arith, rows_few, entered_few);
            bytes_few = omega (arith, bytes_most_lem same, entered_few);
          }

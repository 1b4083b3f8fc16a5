-- In the old store: the split table is neither the list nor a lookup of it, and it reaches no lookup that is rewritten. Assumes nothing.
use Rattle.std.specs.Prelude.{Some}
use Prim.Native.Nat.{ℕ, ◌+◌, ◌*◌, ◌<◌, ◌≤◌}
use mathlib.Core.Path.{◌≡◌, sym, ap, subst, ◌∙◌}
use mathlib.Core.Bool.{true, false}
use mathlib.Core.Logic.{⊎_elim}
use native.Mathlib.Omega.{arith}
use lib.ListN.{length}
use lib.Dec.{eqb}
use borrow.Author.Tests.{eqb-true}
use Rattle.folds.specs.Lists.{among}
use Rattle.folds.proofs.Tests.{true_false, and_both}
use Rattle.folds.proofs.Joined.{or_either}
use Rattle.folds.proofs.Each.{each_among}
use Rattle.ot_layouts.specs.PairPos.{format_of, cover_at}
use Rattle.ot_layouts.specs.Lookup.{is_one_of, lookup_count, list_header, list_exact, lookup_exact, is_subtable_slot}
use Rattle.ot_layouts.proofs.Shapes.{header_long}
use Rattle.store_rules.specs.Store.{Store, link_at, bytes_of, child_at, all_at, offset_of}
use Rattle.store_rules.specs.Reach.{on_cycle}
use Rattle.store_rules.proofs.Sound.{Fits}
use Rattle.store_rules.proofs.Slots.{child_stands}
use Rattle.store_rules.proofs.Reached.{reached_all}
use Rattle.store_rules.proofs.Ways.{Way, way_on, no_way_back}
use Rattle.pair_rules.specs.Reads.{Reads}
use Rattle.pair_rules.proofs.Checks.{parts_read}
use Rattle.lookup_rules.specs.Listed.{lookups_of, rewritten, good_list, good_lookup, bad_list}
use Rattle.lookup_rules.specs.Applied.{reaches}
use Rattle.lookup_rules.proofs.Listed as listed
use Rattle.lookup_rules.proofs.Listed.{good_exact, naming_slot, list_fits_lem, listed_good, listed_used}

-- what reaches t is said to
pub way_reaches : (s : Store) → Fits s → (u t : ℕ) → Way s u t → reaches s u t ≡ true
unfolding reaches
way_reaches s f u t w = reached_all s (λ k. offset_of u (link_at s k)) f w

-- ---- 9 does not apply

-- a lookup of the list
pub record Listed (s : Store) (t p : ℕ) : Type 0 where
  pub used : p < s.object_count
  pub other : p ≡ t → ⊥
  pub good : good_lookup s p ≡ true
  pub exactly : lookup_exact (bytes_of s p) ≡ true

-- one that is rewritten
pub record Named (s : Store) (t p : ℕ) : Type 0 where
  pub lists : Listed s t p
  pub naming : (q : ℕ) × (child_at s p q ≡ Some t)

module _ (s : Store) (l t : ℕ) (fine : bad_list s l t ≡ false) (fit : Fits s) (r : Reads s t) where
  -- a pair table is longer than a list whose count is its format
  pub list_other : l ≡ t → ⊥
  unfolding good_list list_exact
  list_other e =
      let (a, b) = and_both (list_exact (bytes_of s l)) _ (list_fits_lem s l t fine).0 in
      let n : length (bytes_of s t) ≡ list_header + 2 * lookup_count (bytes_of s t)
      = subst (λ (x : ℕ). length (bytes_of s x) ≡ list_header + 2 * lookup_count (bytes_of s x)) e
      (eqb-true (length (bytes_of s l)) (list_header + 2 * lookup_count (bytes_of s l)) a) in
      let k : format_of (bytes_of s t) ≤ 2 = ⊎_elim
      (λ x. let z = eqb-true (format_of (bytes_of s t)) 1 x in omega arith)
      (λ x. let z = eqb-true (format_of (bytes_of s t)) 2 x in omega arith)
      (or_either (eqb (format_of (bytes_of s t)) 1) (eqb (format_of (bytes_of s t)) 2) r.known) in
      omega (arith, r.exactly, header_long (bytes_of s t))

  -- a lookup has no link at 2, where a pair table has its coverage
  lookup_other : (p : ℕ) → good_lookup s p ≡ true → p ≡ t → ⊥
  unfolding good_lookup is_subtable_slot is_one_of
  lookup_other p h e =
      let b = bytes_of s p in
      let (exactly, stand) = and_both (lookup_exact b) (all_at s p (is_subtable_slot b)) h in
      let (c, x) = (parts_read s t r.parts).cover in
      true_false (sym (child_stands s p (is_subtable_slot b) stand cover_at c (ap (λ (n : ℕ). child_at s n cover_at) e ∙ x)))

  good_listed : (p : ℕ) → p < s.object_count → good_lookup s p ≡ true → Listed s t p
  good_listed p used good = record { used = used; other = lookup_other p good; good = good; exactly = good_exact s p good }

  -- of each lookup of the list
  pub each_listed : (p : ℕ) → among p (lookups_of s l) ≡ true → Listed s t p
  each_listed p h = good_listed p (listed_used s l t fine fit p h) (listed_good s l t fine p h)

  -- and of each that is rewritten
  pub each_named : (p : ℕ) → among p (rewritten s l t) ≡ true → Named s t p
  each_named p h =
      let n = each_among (listed.Named s t) (rewritten s l t) p (listed.each_named s l t fine fit) h in
      record { lists = good_listed p n.used n.good; naming = naming_slot s t p n.naming }

  -- the table does not reach them: they name it
  pub no_way_to : on_cycle s t ≡ false → (p : ℕ) → among p (rewritten s l t) ≡ true → Way s t p → ⊥
  no_way_to acyclic p h w = let (q, e) = (each_named p h).naming in no_way_back s fit t acyclic (way_on s t p q t w e)

  -- nor does what does not reach the table
  pub no_way_from : (u : ℕ) → reaches s u t ≡ false → (p : ℕ) → among p (rewritten s l t) ≡ true → Way s u p → ⊥
  no_way_from u apart p h w =
      let (q, e) = (each_named p h).naming in
      true_false (sym (way_reaches s fit u t (way_on s u p q t w e)) ∙ apart)

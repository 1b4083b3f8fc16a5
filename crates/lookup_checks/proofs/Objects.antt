-- A list or a lookup of a sound store: where it lies, its rows, and the tests of its length and its slots. Assumes nothing.
use Prim.Native.Nat.{ℕ, ◌+◌, ◌*◌, ◌≤◌, ◌<◌}
use mathlib.Core.Path.{◌≡◌, sym, ap, ◌∙◌}
use mathlib.Core.Bool.{Bool, true, false, not, ◌&&◌}
use mathlib.Core.List.{List, map}
use native.Mathlib.Omega.{arith}
use lib.ListN.{length}
use lib.Dec.{eqb}
use borrow.Author.Tests.{eqb-true, not-true, not-false}
use Rattle.folds.specs.Folds.{upto}
use Rattle.folds.specs.Lists.{among}
use Rattle.folds.proofs.Tests.{and_first}
use Rattle.folds.proofs.Moved.{map-upto}
use Rattle.ot_layouts.specs.Lookup.{lookup_count, list_header, list_exact, lookup_type, pair_type, lookup_header, lookup_exact}
use Rattle.store_rules.specs.Store.{Store, link_at, bytes_of, all_at}
use Rattle.store_rules.proofs.Sound.{Fits, sound_fits}
use Rattle.store_reader.specs.declared.LinkRows.{LinkRows}
use Rattle.store_reader.specs.Rows.{Inside, InOrder, ParentRows}
use Rattle.store_reader.proofs.Bytes.{inside}
use Rattle.store_reader.proofs.Rows.{in_order_lem, rows_in_order, positions_low}
use Rattle.store_link_rows.proofs.OwnLinks.{own_links}
use Rattle.lookup_rules.specs.Listed.{of_pairs, names, good_lookup}
use Rattle.lookup_rules.proofs.NewLookup.{exact_long}
use Rattle.lookup_rules.proofs.Listed.{good_exact}
use Rattle.lookup_rules.proofs.Linked.{children_of, names_linked}
use Rattle.lookup_checks.specs.Objects.{ObjectInUse}
use Rattle.lookup_checks.specs.Rows.{RowsIn, RowsUsed, row_count, leads_at}

-- ---- an object in use of a sound store

module _ {s : Store} {p : ℕ} (u : ObjectInUse s p) where
  abbrev pub use_fits : Fits s
  use_fits = sound_fits s u.sounds

  pub lies : Inside (length s.bytes) s.objects p
  lies = inside s use_fits p u.used

  pub searchable : InOrder s.links s.link_count × (p < 65536)
  searchable = (rows_in_order s u.sounds, omega (arith, u.used, use_fits.objects_most))

module _ {s : Store} {p : ℕ} {r : LinkRows} (f : Fits s) (rows : ParentRows s.links s.link_count p r) where
  pub rows_in_lem : RowsIn s.links r
  rows_in_lem = record { rise = rows.rise; room = omega (arith, rows.after.within, f.links_in) }

  -- they lead to its children
  pub rows_lead : children_of s p ≡ upto (leads_at s.links r) (row_count r)
  rows_lead = ap (map (λ l. l.child)) (own_links s (in_order_lem s f) (positions_low s f) p rows) ∙ map-upto (λ l. l.child) (λ i. link_at s (r.first + i)) (row_count r)

-- the rows of an object in use
pub rows_used_lem : {s : Store} {p : ℕ} {r : LinkRows} → ObjectInUse s p → ParentRows s.links s.link_count p r → RowsUsed s r
rows_used_lem u rows = record { sounds = u.sounds; within = rows.after.within; rows = rows_in_lem (use_fits u) rows }

-- what a row leads to is in use
pub lead_used : {s : Store} {r : LinkRows} → RowsUsed s r → (i : ℕ) → i < row_count r → ObjectInUse s (leads_at s.links r i)
lead_used {s} {r} u i h =
    record { sounds = u.sounds; used = ((sound_fits s u.sounds).link (r.first + i) (omega (arith, u.rows.rise, u.within))).child_used }

-- ---- length and slots, of a list and of a lookup alike

module _ (s : Store) (p : ℕ) (exact : List ℕ → Bool) (slot : List ℕ → ℕ → Bool) {b : List ℕ} (e : b ≡ bytes_of s p) {t : Bool} (f : t ≡ exact b) where
  pub length_fails : not t ≡ true → false ≡ (exact (bytes_of s p) && all_at s p (slot (bytes_of s p)))
  length_fails h = sym (and_first (exact (bytes_of s p)) _ (ap exact (sym e) ∙ sym f ∙ not-true t h))

  pub slots_decide : not t ≡ false → {r : Bool} → r ≡ all_at s p (slot b) → r ≡ (exact (bytes_of s p) && all_at s p (slot (bytes_of s p)))
  slots_decide h {r} g =
      g ∙ ap (λ (x : List ℕ). all_at s p (slot x)) e
      ∙ sym (ap (λ (x : Bool). x && all_at s p (slot (bytes_of s p))) (ap exact (sym e) ∙ sym f ∙ not-false t h))

pub list_long : (s : Store) (p : ℕ) {b : List ℕ} → b ≡ bytes_of s p → {t : Bool} → t ≡ list_exact b → not t ≡ false → list_header ≤ length b
unfolding list_exact
list_long s p {b} e {t} f h = let z = eqb-true (length b) (list_header + 2 * lookup_count b) (sym f ∙ not-false t h) in omega arith

pub lookup_long : (s : Store) (p : ℕ) {b : List ℕ} → b ≡ bytes_of s p → {t : Bool} → t ≡ lookup_exact b → not t ≡ false → lookup_header ≤ length b
lookup_long s p {b} e {t} f h = omega (arith, exact_long b (sym f ∙ not-false t h))

-- ---- a lookup that fits

module _ (s : Store) (p t : ℕ) {b : List ℕ} (e : b ≡ bytes_of s p) where
  pub good_long : good_lookup s p ≡ true → lookup_header ≤ length b
  good_long g = omega (arith, ap length e, exact_long (bytes_of s p) (good_exact s p g))

  module _ {x : Bool} (f : x ≡ eqb (lookup_type b) pair_type) where
    pub of_others : not x ≡ true → false ≡ (of_pairs s p && names s t p)
    of_others h = sym (and_first (of_pairs s p) (names s t p) (ap (λ (x : List ℕ). eqb (lookup_type x) pair_type) (sym e) ∙ sym f ∙ not-true x h))

    pub rows_decide : not x ≡ false → Fits s → good_lookup s p ≡ true → {r : LinkRows} → ParentRows s.links s.link_count p r
        → {y : Bool} → y ≡ among t (upto (leads_at s.links r) (row_count r)) → y ≡ (of_pairs s p && names s t p)
    rows_decide h fit good {r} rows {y} g =
        let pairs : of_pairs s p ≡ true = ap (λ (x : List ℕ). eqb (lookup_type x) pair_type) (sym e) ∙ sym f ∙ not-false x h in
        g ∙ sym (names_linked s fit p good t ∙ ap (among t) (rows_lead fit rows)) ∙ sym (ap (λ (x : Bool). x && names s t p) pairs)

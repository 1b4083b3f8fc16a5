-- The needs that the code counts are those of the split. Assumes nothing.
use Prim.Native.Nat.{ℕ, ◌+◌, ◌*◌, ◌≤◌, ◌<◌}
use mathlib.Core.Path.{◌≡◌, sym, ap, subst, ◌∙◌}
use mathlib.Core.List.{List}
use native.Mathlib.Omega.{arith}
use native.Mathlib.Nat.{mul-le-mul_right}
use lib.ListN.{length}
use Rattle.folds.specs.Lists.{Bytes}
use Rattle.folds.proofs.Folds.{length-upto}
use Rattle.ot_layouts.specs.PairPos.{shape_of, shape1, shape2, heads}
use Rattle.ot_layouts.proofs.Shapes.{by_format}
use Rattle.ot_pairpos.specs.declared.Layout.{Layout}
use Rattle.ot_pairpos.specs.Layout.{layout_of}
use Rattle.store_rules.specs.Store.{Store, bytes_of}
use Rattle.store_rules.specs.Appended.{new_number}
use Rattle.call_rules.specs.declared.Needs.{Needs}
use Rattle.pair_rules.specs.Table.{shape, entries_of}
use Rattle.pair_rules.specs.Written.{per_table, need_objects, need_links, needs_of, needed, new_tables}
use Rattle.pair_checks.specs.declared.PairTable.{PairTable}
use Rattle.pair_checks.specs.Opens.{Opens}
use Rattle.cut_parts.specs.Order.{Arranged}
use Rattle.cut_parts.specs.Tables.{paired}
use Rattle.pair_new_objects.specs.Planned.{PlannedParts}
use Rattle.pair_new_objects.specs.Objects.{Length}
use Rattle.pair_new_objects.proofs.Planning.{cuts_few}
use Rattle.pair_new_objects.proofs.Stored.{stored_plan, stored_length}
use Rattle.pair_carrying.specs.Arranging.{Arranging}
use Rattle.pair_carrying.specs.Measuring.{Measured}

-- ---- so many objects and links

module _ (n k : ℕ) (h : k < 65536) where
  pub few_objects : n ≤ 2 → (n + 1) * k + n < 262144
  few_objects l = omega (arith, mul-le-mul_right {m = n + 1} {n = 3} k (omega arith))

  pub few_links : n ≤ 3 → n * k < 262144
  few_links l = omega (arith, mul-le-mul_right {m = n} {n = 3} k l)

pub counted : (l : Layout) (k bytes : ℕ) (b : List ℕ) → l ≡ layout_of b
    → record { objects = (l.own + 1) * k + l.own; links = l.heads * k; bytes = bytes; entries = k } ≡ needs_of (shape_of b) k bytes
unfolding layout_of needs_of need_objects need_links
counted l k bytes b is = λ i. record { objects = ((is i).own + 1) * k + (is i).own; links = (is i).heads * k; bytes = bytes; entries = k }

-- a header has few links
pub header_few : (b : List ℕ) → ((layout_of b).own ≤ 2) × ((layout_of b).heads ≤ 3)
unfolding layout_of shape1 shape2
header_few b = by_format (λ sh. (length sh.own ≤ 2) × (length (heads sh) ≤ 3)) b (λ e. (omega arith, omega arith)) (λ e. (omega arith, omega arith))

-- a new table for each cut
pub tables_many : (s : Store) (t : ℕ) (cs : List ℕ) → length (new_tables s t cs) ≡ length cs
unfolding new_tables
tables_many s t cs = length-upto (new_number s (per_table (shape s t))) (length cs)

-- ---- of an open table

module _ {s : Store} {t : ℕ} {p : PairTable} {gs ks cs : List ℕ} (k : Arranging s t p gs ks cs) (octets : Bytes s.bytes)
    {gs' ks' : List ℕ} (arranged : Arranged gs' ks' cs (shape s t).count (entries_of s t)) where
  abbrev o : Opens s t p
  o = k.opens

  pub planned : PlannedParts gs' ks' cs p.layout
  planned = subst (PlannedParts gs' ks' cs) (sym o.layout) (stored_plan s t o.reads octets gs' ks' cs arranged k.places k.some)

  few_cuts : length cs < 65536
  few_cuts = cuts_few gs' ks' cs p.layout planned

  pub needs_asked : (length cs < 65536) × (p.layout.own ≤ 2) × (p.layout.heads ≤ 3)
  needs_asked = let (own, linked) = header_few (bytes_of s t) in rw o.layout (few_cuts, own, linked)

  pub measured : {bytes : ℕ} {n : Needs} → Length p.layout (paired gs' ks') cs bytes
      → ((b : List ℕ) → p.layout ≡ layout_of b → n ≡ needs_of (shape_of b) (length cs) bytes) → Measured s t gs' ks' cs n
  unfolding needed
  measured {bytes} h e =
      let own = subst (λ (x : Layout). Length x (paired gs' ks') cs bytes) o.layout h in
      let length_is = stored_length s t o.reads octets gs' ks' cs arranged k.some bytes own in
      record { arranged = arranged; needs = e (bytes_of s t) o.layout ∙ ap (needs_of (shape s t) (length cs)) length_is }

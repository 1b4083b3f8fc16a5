-- New lookups by the number of new tables alone: their links' children do not count. Assumes nothing.
use Rattle.std.specs.Prelude.{ℕ, ◌+◌, ◌-◌, ◌*◌, ◌≤◌, ◌≡◌, true, cond, List, length, get_or, eqb, Result, Ok, Err}
use Rattle.folds.specs.Folds.{sum, upto}
use Rattle.ot_layouts.specs.Lookup.{subtable_count}
use Rattle.store_rules.specs.Store.{Store, per_link, row_child, sound, bytes_of}
use Rattle.store_rules.specs.SlotLinks.{links_from}
use Rattle.store_reader.specs.declared.LinkRows.{LinkRows}
use Rattle.call_rules.specs.declared.Needs.{Needs}
use Rattle.lookup_rules.specs.Listed.{subtable_slots}
use Rattle.lookup_rules.specs.Written.{new_lookup, listings, counts_fit, lookups_need}
use Rattle.lookup_rules.specs.Rewritable.{Rewritable, EachRewritable}
use Rattle.lookup_new_objects.specs.declared.Size.{Size}

-- how many of these rows lead to t
unfoldable pub listed_in : List ℕ → LinkRows → ℕ → ℕ
listed_in ls rows t = sum (λ i. cond (eqb (get_or ls (per_link * (rows.first + i) + row_child) 0) t) 1 0) (rows.after - rows.first)

-- ---- one lookup: k new tables are entered behind each listing of t

-- how many are entered
abbrev pub entered_in : Store → ℕ → ℕ → ℕ → ℕ
entered_in s t k p = k * listings t (subtable_slots s p)

-- how many subtables the new lookup for p has
unfoldable pub count_with : Store → ℕ → ℕ → ℕ → ℕ
count_with s t k p = subtable_count (bytes_of s p) + entered_in s t k p

-- its bytes
abbrev pub lookup_with : Store → ℕ → ℕ → ℕ → List ℕ
lookup_with s t k p = new_lookup (bytes_of s p) (count_with s t k p)

-- how large it is, in numbers that can be added up
pub record Sized (s : Store) (t k p : ℕ) (z : Size) : Type 0 where
  pub subtables_is : z.subtables ≡ count_with s t k p
  pub links_is : z.links ≡ links_from s p + entered_in s t k p
  pub bytes_is : z.bytes ≡ length (lookup_with s t k p)
  pub links_few : z.links ≤ 68719476736
  pub bytes_few : z.bytes ≤ 68719476736

-- it can be measured
pub record Sizing (s : Store) (k p : ℕ) : Type 0 where
  pub sound_is : sound s ≡ true
  pub lookup : Rewritable s p
  pub few : k ≤ 65536

-- ---- all of them

-- the new lookups
unfoldable pub lookups_with : Store → ℕ → ℕ → List ℕ → List (List ℕ)
lookups_with s t k ps = upto (λ m. lookup_with s t k (get_or ps m 0)) (length ps)

-- they can be measured: their needs can be added up
pub record Measuring (s : Store) (k : ℕ) (ps : List ℕ) : Type 0 where
  pub sound_is : sound s ≡ true
  pub lookups : EachRewritable s ps
  pub few : k ≤ 65536
  pub short : length ps ≤ 65536

-- for a caller: what 8 counts, and whether 10 applies, which is where the count of one cannot be said
abbrev pub needs_measured : Store → ℕ → List ℕ → List ℕ → Result Needs Needs
needs_measured s t us ps = cond (counts_fit s t us ps) (Ok (lookups_need s t us ps)) (Err (lookups_need s t us ps))

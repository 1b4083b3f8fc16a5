-- Link rows one behind the other, and the lookups that they lead to. Assumes nothing.
use Rattle.std.specs.Prelude.{ℕ, ◌+◌, ◌-◌, ◌*◌, ◌≤◌, ◌≡◌, Bool, true, not, ◌&&◌, List, length, get_or}
use Rattle.folds.specs.Folds.{all}
use Rattle.store_rules.specs.Store.{Store, per_link, row_child, sound}
use Rattle.store_reader.specs.declared.LinkRows.{LinkRows}
use Rattle.lookup_rules.specs.Listed.{of_pairs, names, good_lookup}

-- they stand in the list
pub record RowsIn (l : List ℕ) (r : LinkRows) : Type 0 where
  pub rise : r.first ≤ r.after
  pub room : per_link * r.after ≤ length l

-- they are rows in use of a sound store
pub record RowsUsed (s : Store) (r : LinkRows) : Type 0 where
  pub sounds : sound s ≡ true
  pub within : r.after ≤ s.link_count
  pub rows : RowsIn s.links r

-- how many they are
abbrev pub row_count : LinkRows → ℕ
row_count r = r.after - r.first

-- where row i of them leads
abbrev pub leads_at : List ℕ → LinkRows → ℕ → ℕ
leads_at l r i = get_or l (per_link * (r.first + i) + row_child) 0

-- a type 2 lookup that names t
abbrev pub to_rewrite : Store → ℕ → ℕ → Bool
to_rewrite s t p = of_pairs s p && names s t p

-- each lookup that n rows lead to fits, and one of them is to be rewritten
abbrev pub fit_and_name : Store → ℕ → (ℕ → ℕ) → ℕ → Bool
fit_and_name s t lead n = all (λ i. good_lookup s (lead i)) n && not (all (λ i. not (to_rewrite s t (lead i))) n)

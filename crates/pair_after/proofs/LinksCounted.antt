-- A split adds as many links as the new tables' headers have: each moved link has one new table. Assumes nothing.
use Prim.Native.Nat.{ℕ, zero, suc, ◌+◌, ◌*◌, ◌≤◌}
use mathlib.Core.Path.{◌≡◌, ap, ap₂, ◌∙◌}
use mathlib.Core.List.{List, map}
use native.Mathlib.Omega.{arith}
use native.Mathlib.Nat.{mul-add}
use lib.ListN.{length, length-append, get_or, get_or-eq_default}
use Rattle.folds.specs.Folds.{flat}
use Rattle.folds.specs.Lists.{sift}
use Rattle.folds.proofs.Folds.{length-upto}
use Rattle.folds.proofs.Parts.{get_d_default}
use Rattle.folds.proofs.Moved.{length-map, sift-both}
use Rattle.ot_layouts.specs.PairPos.{heads, Shape}
use Rattle.store_rules.specs.Store.{Store, links_of, link_at, linked_at}
use Rattle.store_rules.specs.Appended.{new_number}
use Rattle.pair_rules.specs.Table.{of_items, shape}
use Rattle.cut_rules.specs.Ranges.{from, to}
use Rattle.pair_rules.specs.Written.{table_links, head_links, moved, new_links, need_links, per_table}
use Rattle.store_rules.specs.Header.{kept}
use Rattle.cut_rules.proofs.CutPlaces.{range_high, cuts_rise}
use Rattle.pair_rules.proofs.ItemLinks.{items_none, items_meet}
use Rattle.pair_rules.proofs.NewCounts.{heads_many}
use Rattle.pair_after.proofs.Ready.{Ready}
use Rattle.pair_after.proofs.NewLinks.{piece, stayed, stays}

module _ (s : Store) (t : ℕ) (cs : List ℕ) (g : Ready s t cs) where
  abbrev sh : Shape
  sh = shape s t

  -- how many links the items lo up to hi have
  abbrev links_in : ℕ → ℕ → ℕ
  links_in lo hi = length (sift (of_items t (shape s t) lo hi) (links_of s))

  piece_many : (j : ℕ) → length (piece s t cs j) ≡ length (heads sh) + links_in (from cs j) (to sh.count cs j)
  unfolding table_links
  piece_many j =
      let ls = sift (of_items t sh (from cs j) (to sh.count cs j)) (links_of s) in
      length-append (head_links sh (new_number s (per_table sh) j) (linked_at s t)) (map (moved sh (new_number s (per_table sh) j) (from cs j)) ls)
      ∙ ap₂ (λ (m n : ℕ). m + n) (heads_many sh (new_number s (per_table sh) j) (linked_at s t)) (length-map (moved sh (new_number s (per_table sh) j) (from cs j)) ls)

  -- the pieces below n have the links up to where piece n starts
  pieces_many : (n : ℕ) → n ≤ length cs → length (flat (piece s t cs) n) ≡ length (heads sh) * n + links_in (from cs 0) (get_or cs n sh.count)
  unfolding flat
  pieces_many zero l = omega (arith, items_none t sh (from cs 0) (links_of s), ap (links_in (from cs 0)) (get_d_default cs 0 sh.count 0 g.some_cut))
  pieces_many (suc n) l =
      let i = pieces_many n (omega arith) in
      let (a, b) = range_high sh.count cs g.cuts n (omega arith) in
      let z : n + 1 ≡ suc n = omega arith in
      let up : from cs 0 ≤ from cs n = cuts_rise sh.count cs g.cuts 0 n (omega arith) (omega arith) in
      let m = items_meet t sh (from cs 0) (from cs n) (to sh.count cs n) up (omega arith) (links_of s) in
      let e : links_in (from cs 0) (get_or cs n sh.count) ≡ links_in (from cs 0) (from cs n) = ap (links_in (from cs 0)) (get_d_default cs n sh.count 0 (omega arith)) in
      let f : links_in (from cs 0) (to sh.count cs n) ≡ links_in (from cs 0) (get_or cs (suc n) sh.count) = ap (λ (k : ℕ). links_in (from cs 0) (get_or cs k sh.count)) z in
      omega (arith, length-append (flat (piece s t cs) n) (piece s t cs n), piece_many n, mul-add (length (heads sh)) n 1)

  pub many_links : length (new_links s t sh cs) ≡ s.link_count + need_links sh (length cs)
  unfolding new_links need_links links_of
  many_links =
      let p = of_items t sh (from cs 0) sh.count in
      let e : links_in (from cs 0) (get_or cs (length cs) sh.count) ≡ links_in (from cs 0) sh.count = ap (links_in (from cs 0)) (get_or-eq_default cs sh.count {n = length cs} (omega arith)) in
      omega (
        arith,
        length-append (stayed s t cs) (flat (piece s t cs) (length cs)),
        length-map (kept sh.own t (new_number s (per_table sh) (length cs))) (sift (stays s t cs) (links_of s)),
        sift-both p (links_of s),
        length-upto (link_at s) s.link_count,
        pieces_many (length cs) (omega arith),
      )

-- A split adds 4 links a new table and as many as both arrays have: each class is in one range. Assumes nothing.
use Prim.Native.Nat.{ℕ, zero, suc, ◌+◌, ◌*◌, ◌<◌, ◌≤◌}
use mathlib.Core.Path.{◌≡◌, ap}
use mathlib.Core.List.{List, map}
use native.Mathlib.Omega.{arith}
use lib.ListN.{length, get_or, length-append, get_or-eq_default}
use Rattle.folds.specs.Folds.{flat}
use Rattle.folds.proofs.Parts.{get_d_default}
use Rattle.folds.proofs.Moved.{length-map}
use Rattle.ot_layouts.specs.MarkBasePos.{own, heads}
use Rattle.store_rules.specs.Store.{Store, Link, links_of, linked_at}
use Rattle.store_rules.specs.Appended.{new_number}
use Rattle.store_rules.specs.Header.{header_links, kept}
use Rattle.store_rules.proofs.Sound.{Fits}
use Rattle.store_rules.proofs.Header.{header_many}
use Rattle.store_rules.proofs.LinksFit.{rows_many}
use Rattle.cut_rules.specs.Places.{Places}
use Rattle.cut_rules.specs.Ranges.{from, to}
use Rattle.cut_rules.proofs.CutPlaces.{range_high, cuts_rise}
use Rattle.mark_rules.specs.Table.{classes_of}
use Rattle.mark_rules.specs.Written.{per_table, array_links, table_links, fresh_links, new_links, need_links}
use Rattle.mark_rules.specs.Reads.{Reads}
use Rattle.mark_rules.proofs.Checks.{AtSlots}
use Rattle.mark_rules.proofs.ArrayCounts.{links_in, links_meet, array_links_lem, all-links}

module _ (s : Store) (t : ℕ) (cs : List ℕ) (cuts : Places (classes_of s t) cs) (some : 0 < length cs) where
  -- the links of new table j
  abbrev piece : ℕ → List Link
  piece j = table_links s t (new_number s per_table j) (from cs j) (to (classes_of s t) cs j)

  piece_many : (j : ℕ) → length (piece j) ≡ 4 + links_in s t (from cs j) (to (classes_of s t) cs j)
  unfolding table_links
  piece_many j =
      let u = new_number s per_table j in
      let lo = from cs j in
      let hi = to (classes_of s t) cs j in
      omega (
        arith,
        length-append (header_links own heads u (linked_at s t)) (array_links s t (u + 2) lo hi),
        header_many own u (linked_at s t) heads,
        array_links_lem s t (u + 2) lo hi,
      )

  -- the pieces below n have the links up to where piece n starts
  pieces_many : (n : ℕ) → n ≤ length cs → length (flat piece n) ≡ 4 * n + links_in s t (from cs 0) (get_or cs n (classes_of s t))
  unfolding flat
  pieces_many zero l =
      omega (
        arith,
        links_meet s t (from cs 0) (from cs 0) (from cs 0) (omega arith) (omega arith),
        ap (links_in s t (from cs 0)) (get_d_default cs 0 (classes_of s t) 0 some),
      )
  pieces_many (suc n) l =
      let all = classes_of s t in
      let i = pieces_many n (omega arith) in
      let (a, b) = range_high all cs cuts n (omega arith) in
      let z : n + 1 ≡ suc n = omega arith in
      let up : from cs 0 ≤ from cs n = cuts_rise all cs cuts 0 n (omega arith) (omega arith) in
      let m = links_meet s t (from cs 0) (from cs n) (to all cs n) up (omega arith) in
      let e = ap (links_in s t (from cs 0)) (get_d_default cs n all 0 (omega arith)) in
      let f : links_in s t (from cs 0) (to all cs n) ≡ links_in s t (from cs 0) (get_or cs (suc n) all)
      = ap (λ (k : ℕ). links_in s t (from cs 0) (get_or cs k all)) z in
      omega (arith, length-append (flat piece n) (piece n), piece_many n)

  module _ (reads : Reads s t) (fits : Fits s) (slots : AtSlots s t) where
    pub fresh_many : length (fresh_links s t cs) ≡ need_links s t (length cs)
    unfolding fresh_links need_links
    fresh_many =
        let all = classes_of s t in
        let p = new_number s per_table (length cs) + 1 in
        let e = ap (links_in s t (from cs 0)) (get_or-eq_default cs all {n = length cs} (omega arith)) in
        let c = cuts.below 0 some in
        omega (
          arith,
          length-append (flat piece (length cs)) (array_links s t p 0 (from cs 0)),
          pieces_many (length cs) (omega arith),
          array_links_lem s t p 0 (from cs 0),
          links_meet s t 0 (from cs 0) all (omega arith) (omega arith),
          all-links s t reads fits slots,
        )

    pub many_links : length (new_links s t cs) ≡ s.link_count + need_links s t (length cs)
    unfolding new_links
    many_links =
        let stay = kept own t (new_number s per_table (length cs)) in
        omega (
          arith,
          length-append (map stay (links_of s)) (fresh_links s t cs),
          length-map stay (links_of s),
          rows_many s,
          fresh_many,
        )

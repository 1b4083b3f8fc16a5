-- Rows whose links are changed, one after another. Assumes nothing.
use Prim.Native.Nat.{ℕ, ◌+◌, ◌*◌, ◌≤◌, ◌<◌}
use mathlib.Core.Path.{◌≡◌, refl, sym, ap, ap₂, ◌∙◌}
use mathlib.Core.List.{List, [], ◌∷◌, map}
use native.Mathlib.Omega.{arith}
use lib.ListN.{length, get_or, set}
use lib.Seq.{set-get_or, get_or-set_other}
use Rattle.folds.specs.Lists.{put}
use Rattle.folds.proofs.Moved.{map-upto}
use Rattle.folds.proofs.Put.{put-nil, put-put}
use Rattle.store_rules.specs.Store.{Store, Link, per_link, row_child, row_kind, leading_to, link_at, links_of}
use Rattle.store_rules.specs.Appended.{numbers_of, row_numbers}
use Rattle.store_link_rows.specs.Rows.{segment, link_in, row, changed_row}
use Rattle.store_link_rows.proofs.Spans.{span_empty, span_back, flat-span}
use Rattle.store_link_rows.proofs.Links.{numbers_flat}
use Rattle.store_link_rows.proofs.RowLaws.{row_above, same_link, put-numbers, put_same, length-span}

module _ (f : Link → Link) where
  length_changed : (ls : List ℕ) (k : ℕ) → length (changed_row f ls k) ≡ per_link
  unfolding changed_row
  length_changed ls k = refl

  pub changed_long : (ls : List ℕ) (lo hi : ℕ) → lo ≤ hi → per_link * lo + length (segment (changed_row f ls) lo hi) ≡ per_link * hi
  changed_long ls lo hi l = length-span (changed_row f ls) (length_changed ls) lo hi l

  -- as links
  pub changed_numbers : (s : Store) → row_numbers (map f (links_of s)) ≡ segment (changed_row f s.links) 0 s.link_count
  unfolding links_of row_numbers changed_row
  changed_numbers s =
      ap row_numbers (map-upto f (link_at s) s.link_count)
      ∙ numbers_flat (λ k. f (link_at s k) ∷ []) s.link_count
      ∙ flat-span (changed_row f s.links) s.link_count

  -- the same row is changed in the same way
  pub changed_is : (ls out : List ℕ) (i k : ℕ) → row out k ≡ row ls i → changed_row f out k ≡ changed_row f ls i
  unfolding changed_row
  changed_is ls out i k e = ap (λ (l : Link). numbers_of (f l)) (same_link out ls i k e)

  module _ (d : List ℕ) (k : ℕ) (l : per_link * (k + 1) ≤ length d) where
    -- where f changes nothing, the row is as it was
    pub not_changed : f (link_in d k) ≡ link_in d k → d ≡ put d (per_link * k) (changed_row f d k)
    unfolding row changed_row
    not_changed e = sym (put_same d k l) ∙ ap (λ (x : Link). put d (per_link * k) (numbers_of x)) (sym e)

    -- where the child alone changes, it alone is written
    pub child_changed : (x : ℕ) → f (link_in d k) ≡ leading_to x (link_in d k) → set d (per_link * k + row_child) x ≡ put d (per_link * k) (changed_row f d k)
    unfolding changed_row
    child_changed x e =
        let out = set d (per_link * k + row_child) x in
        let same : get_or out (per_link * k + row_kind) 0 ≡ get_or d (per_link * k + row_kind) 0 = get_or-set_other d (per_link * k + row_child) (per_link * k + row_kind) x 0 (omega arith) in
        let kind : set out (per_link * k + row_kind) (get_or d (per_link * k + row_kind) 0) ≡ out =
        ap (set out (per_link * k + row_kind)) (sym same) ∙ set-get_or out (per_link * k + row_kind) 0 in
        let s : put d (per_link * k) (numbers_of (leading_to x (link_in d k))) ≡ out =
        sym (put-numbers d k (leading_to x (link_in d k)) l) ∙ simp set-get_or kind in
        sym s ∙ ap (λ (y : Link). put d (per_link * k) (numbers_of y)) (sym e)

-- ---- row by row

-- the first k of the rows are done
pub record Changed (f : Link → Link) (ls : List ℕ) (count : ℕ) (out : List ℕ) (k : ℕ) : Type 0 where
  pub few : k ≤ count
  pub room : per_link * count ≤ length ls
  pub same : length out ≡ length ls
  pub is : out ≡ put ls 0 (segment (changed_row f ls) 0 k)

module _ (f : Link → Link) (ls : List ℕ) (count : ℕ) where
  pub changed_start : per_link * count ≤ length ls → Changed f ls count ls 0
  changed_start r =
      record {
        few = omega arith;
        room = r;
        same = refl;
        is = put-nil ls 0 ∙ ap (put ls 0) (sym (span_empty (changed_row f ls) 0));
      }

  pub changed_turn : (out : List ℕ) (k : ℕ) → Changed f ls count out k → (out' : List ℕ) → k < count → length out' ≡ length out
      → out' ≡ put out (per_link * k) (changed_row f out k) → Changed f ls count out' (k + 1)
  changed_turn out k i out' l n h =
      let A = segment (changed_row f ls) 0 k in
      let long : per_link * 0 + length A ≡ per_link * k = changed_long f ls 0 k (omega arith) in
      let same : row out k ≡ row ls k = ap (λ (o : List ℕ). row o k) i.is ∙ row_above ls 0 A (omega arith) k (omega arith) in
      record {
        few = omega arith;
        room = i.room;
        same = n ∙ i.same;
        is =
            h
            ∙ ap₂ (λ (o x : List ℕ). put o (per_link * k) x) i.is (changed_is f ls out k k same)
            ∙ put-put ls 0 A (per_link * k) (changed_row f ls k) (omega arith) (omega arith)
            ∙ ap (put ls 0) (sym (span_back (changed_row f ls) 0 k (omega arith)));
      }

  pub changed_done : (out : List ℕ) (k : ℕ) → Changed f ls count out k → count ≤ k → out ≡ put ls 0 (segment (changed_row f ls) 0 count)
  changed_done out k i l = let e : k ≡ count = omega (arith, i.few) in rw e at i.is

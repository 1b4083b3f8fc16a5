-- Rows that were moved behind others are the same rows, and what is made of them is the same. Assumes nothing.
use mathlib.Core.Path.{◌≡◌, sym, ap, ap₂, ◌∙◌}
use mathlib.Core.Bool.{cond}
use mathlib.Core.List.{List, [], ◌++◌}
use Prim.Native.Nat.{ℕ, ◌+◌, ◌-◌, ◌*◌, ◌≤◌, ◌<◌}
use native.Mathlib.Omega.{arith}
use lib.ListN.{length, length-append}
use Rattle.folds.specs.Lists.{put}
use Rattle.folds.proofs.Put.{put-put, length-put, put_over}
use Rattle.store_link_rows.specs.Rows.{seg, position_in, row, rows, PositionsRise}
use Rattle.store_rules.specs.Store.{per_link}
use Rattle.pair_new_rows.specs.Blocks.{Plan, tables, shift, inside, table_id, share, head_rows, table_rows, new_rows, grown, Spread, PartedRows}
use Rattle.store_link_rows.proofs.Spans.{seg_ext, span_ext}
use Rattle.store_link_rows.proofs.RowLaws.{rows_long, row_of_rows}
use Rattle.pair_new_rows.proofs.Moving.{position_same, moved_same}

share_is : (ls out : List ℕ) (i k : ℕ) → row out k ≡ row ls i → (p : Plan) (j : ℕ) → share out p j k ≡ share ls p j i
unfolding share
share_is ls out i k e p j =
    ap₂ (λ (q : ℕ) (r : List ℕ). cond (inside p j q) r []) (position_same ls out i k e) (moved_same ls out i k e (table_id p j) (shift p j))

module _ (ls : List ℕ) (a b m : ℕ) (ab : a ≤ b) (bm : b ≤ m) (room : per_link * m ≤ length ls) (out : List ℕ)
    (is : out ≡ put ls (per_link * a) (rows ls b m ++ rows ls a b)) where
  ahead : per_link * b + length (rows ls b m) ≡ per_link * m
  ahead = rows_long ls b m bm

  behind : per_link * a + length (rows ls a b) ≡ per_link * b
  behind = rows_long ls a b ab

  pub there : (i : ℕ) → i < b - a → row out (a + (m - b) + i) ≡ row ls (a + i)
  there i l =
      let q = a + (m - b) in
      let e : per_link * q ≡ per_link * a + length (rows ls b m) = omega (arith, ahead) in
      let d = put ls (per_link * a) (rows ls b m) in
      let nd : length d ≡ length ls = length-put ls (per_link * a) (rows ls b m) (omega (arith, ahead)) in
      ap (λ (o : List ℕ). row o (q + i)) (is ∙ sym (put-put ls (per_link * a) (rows ls b m) (per_link * q) (rows ls a b) (omega arith) e))
      ∙ row_of_rows ls d q a (b - a) i (omega arith) l

  -- at a row's own number
  there_at : (k : ℕ) → a + (m - b) ≤ k → k < m → row out k ≡ row ls (k - (m - b))
  there_at k l h =
      let e : a + (m - b) + (k - (a + (m - b))) ≡ k = omega arith in
      let f : a + (k - (a + (m - b))) ≡ k - (m - b) = omega arith in
      ap (row out) (sym e) ∙ there (k - (a + (m - b))) (omega arith) ∙ ap (row ls) f

  position_there : (k : ℕ) → a + (m - b) ≤ k → k < m → position_in out k ≡ position_in ls (k - (m - b))
  position_there k l h = position_same ls out (k - (m - b)) k (there_at k l h)

  pub ordered_there : PositionsRise ls a b → PositionsRise out (a + (m - b)) m
  ordered_there o i j l h u =
      omega (
        arith,
        position_there i l (omega arith),
        position_there j (omega arith) u,
        o (i - (m - b)) (j - (m - b)) (omega arith) (omega arith) (omega arith),
      )

  pub floor_there : (z : ℕ) → ((k : ℕ) → a ≤ k → k < b → z ≤ position_in ls k) → (k : ℕ) → a + (m - b) ≤ k → k < m → z ≤ position_in out k
  floor_there z f k l h = omega (arith, position_there k l h, f (k - (m - b)) (omega arith) (omega arith))

  tables_there : (p : Plan) → new_rows out (a + (m - b)) m p ≡ new_rows ls a b p
  unfolding table_rows
  tables_there p =
      let q = a + (m - b) in
      let n : m - q ≡ b - a = omega arith in
      span_ext (table_rows out q m p) (table_rows ls a b p) 0 (tables p)
      (λ j l h.
      ap (λ (x : List ℕ). head_rows p.layout.format p.class2 (table_id p j) ++ x)
      (ap (seg (share out p j) q) n ∙ seg_ext (share out p j) (share ls p j) q a (b - a) (λ i u. share_is ls out (a + i) (q + i) (there i u) p j)))

  pub parted_done : (p : Plan) (out' : List ℕ) → per_link * grown m p ≤ length ls → Spread out out' (a + (m - b)) m p → PartedRows ls out' a b m p
  parted_done p out' enough s =
      let q = a + (m - b) in
      let Y = rows ls b m in
      let X = rows ls a b in
      let Z = new_rows ls a b p in
      let same = tables_there p in
      let nz : per_link * q + length Z ≡ per_link * grown m p = rw same at s.long in
      let ny = ahead in
      let nx = behind in
      let nyz = length-append Y Z in
      let e : per_link * q ≡ per_link * a + length Y = omega arith in
      let d = put ls (per_link * a) Y in
      let nd : length d ≡ length ls = length-put ls (per_link * a) Y (omega arith) in
      record {
        long = omega arith;
        is =
            s.is
            ∙ ap₂ (λ (o v : List ℕ). put o (per_link * q) v) (is ∙ sym (put-put ls (per_link * a) Y (per_link * q) X (omega arith) e)) same
            ∙ put_over d (per_link * q) X Z (omega arith) (omega arith)
            ∙ put-put ls (per_link * a) Y (per_link * q) Z (omega arith) e;
      }

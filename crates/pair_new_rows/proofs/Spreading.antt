-- The new tables' rows, from the last table on. Assumes nothing.
use mathlib.Core.Path.{◌≡◌, refl, sym, ap, ap₂, ◌∙◌}
use mathlib.Core.Logic.{⊎_elim}
use mathlib.Core.List.{List, [], ◌∷◌, ◌++◌, append_assoc, append-nil}
use Prim.Native.Nat.{ℕ, ◌+◌, ◌-◌, ◌*◌, ◌≤◌, ◌<◌}
use native.Mathlib.Nat.{mul-le-mul_left, mul-add, mul-one, mul-zero}
use native.Mathlib.Omega.{arith}
use lib.ListN.{length, get_or, length-append}
use lib.Dec.{leb, ltb, eqb}
use borrow.Author.Tests.{lt-ltb, le-ltb, le-leb, lt-leb}
use Rattle.folds.specs.Lists.{put, part}
use Rattle.folds.proofs.Tests.{by_test, either, and_second}
use Rattle.folds.proofs.Put.{put-nil, put-below, put-before}
use Rattle.store_link_rows.specs.Rows.{segment, position_in, row, PositionsRise}
use Rattle.pair_new_rows.specs.Blocks.{Plan, tables, shift, edge, inside, table_id, moved_row, share, per}
use Rattle.pair_new_rows.specs.Blocks.{head_rows, head_count, table_rows, grown, Fit, MovedUp, Spread}
use Rattle.store_link_rows.proofs.Spans.{span_empty, span_join, span_front, span_none, span_ext}
use Rattle.store_link_rows.proofs.RowLaws.{row_same}
use Rattle.pair_new_rows.proofs.Moving.{position_same, moved_same, moved_long}
use Rattle.ot_layouts.specs.PairPos.{cover_at, class1_at, class2_at, own_in, shared_in}
use Rattle.ot_pairpos.specs.declared.Layout.{Layout}
use Rattle.ot_pairpos.specs.Layout.{Numbered}
use Rattle.ot_pairpos.proofs.Layouts.{few_heads}
use Rattle.store_rules.specs.Store.{per_link, row_position}
use Rattle.store_rules.specs.Header.{header_links}
use Rattle.store_rules.proofs.LinkRows.{rows_numbers}
use Rattle.store_rules.proofs.Header.{header_many}

-- ---- the heads
-- the positions of a header's links, in either format
pub own_positions : (l : Layout) → Numbered l → part (cover_at ∷ class1_at ∷ []) 0 l.own ≡ own_in l.format
own_positions l n =
    ap (λ (k : ℕ). part (cover_at ∷ class1_at ∷ []) 0 k) n.own_is ∙ by_test (eqb l.format 1) (λ e. rw e) (λ e. rw e)

pub head_positions : (l : Layout) → Numbered l → part (cover_at ∷ class1_at ∷ class2_at ∷ []) 0 l.heads ≡ own_in l.format ++ shared_in l.format
head_positions l n =
    ap (λ (k : ℕ). part (cover_at ∷ class1_at ∷ class2_at ∷ []) 0 k) n.heads_is ∙ by_test (eqb l.format 1) (λ e. rw e) (λ e. rw e)

pub some_own : (l : Layout) → Numbered l → 0 < length (own_in l.format)
some_own l n = by_test (eqb l.format 1) (λ e. rw e (omega arith)) (λ e. rw e (omega arith))

pub length-heads : (p : Plan) (t : ℕ) → Fit p → length (head_rows p.layout.format p.class2 t) ≡ per_link * head_count p
unfolding head_rows
length-heads p t f =
    let format = p.layout.format in
    let links = header_links (own_in format) (own_in format ++ shared_in format) t (λ q. p.class2) in
    omega (arith, rows_numbers links, header_many (own_in format) t (λ q. p.class2) (own_in format ++ shared_in format), f.numbered.heads_is)

-- ---- the edges
pub edge_at : (p : Plan) (j : ℕ) → j < tables p → edge p j ≡ p.layout.header + shift p j
unfolding edge
edge_at p j l = rw (lt-ltb j (tables p) l)

pub edge_end : (p : Plan) → edge p (tables p) ≡ 4294967296
unfolding edge
edge_end p = rw (le-ltb (tables p) (tables p) (omega arith))

pub edge_climb : (p : Plan) → Fit p → (j : ℕ) → j < tables p → edge p j ≤ edge p (j + 1)
edge_climb p f j l =
    ⊎_elim
    (λ lt.
    let h : shift p j ≤ shift p (j + 1) = mul-le-mul_left p.layout.item (f.climb j (j + 1) (omega arith) lt) in
    omega (arith, edge_at p j l, edge_at p (j + 1) lt))
    (λ (ge : tables p ≤ j + 1).
    let e : j + 1 ≡ tables p = omega arith in
    rw e (omega (arith, edge_at p j l, edge_end p, f.placed j l)))
    (either (j + 1) (tables p))

-- ---- which rows a table gets
module _ (ls : List ℕ) (p : Plan) (j k : ℕ) where
  pub share_none_below : position_in ls k < edge p j → share ls p j k ≡ []
  unfolding share inside
  share_none_below h = rw (lt-leb (edge p j) (position_in ls k) h)

  pub share_none_above : edge p (j + 1) ≤ position_in ls k → share ls p j k ≡ []
  unfolding share inside
  share_none_above h =
      rw (and_second (leb (edge p j) (position_in ls k)) (ltb (position_in ls k) (edge p (j + 1))) (le-ltb (position_in ls k) (edge p (j + 1)) h))

  pub share_own : edge p j ≤ position_in ls k → position_in ls k < edge p (j + 1) → share ls p j k ≡ moved_row ls (table_id p j) (shift p j) k
  unfolding share inside
  share_own h l = rw (le-leb (edge p j) (position_in ls k) h, lt-ltb (position_in ls k) (edge p (j + 1)) l)

pub share_part : (ls : List ℕ) (p : Plan) (q u v m j : ℕ) → q ≤ u → u ≤ v → v ≤ m
    → ((k : ℕ) → q ≤ k → k < u → position_in ls k < edge p j)
    → ((k : ℕ) → u ≤ k → k < v → edge p j ≤ position_in ls k)
    → ((k : ℕ) → q ≤ k → k < v → position_in ls k < edge p (j + 1))
    → ((k : ℕ) → v ≤ k → k < m → edge p (j + 1) ≤ position_in ls k)
    → segment (share ls p j) q m ≡ segment (moved_row ls (table_id p j) (shift p j)) u v
share_part ls p q u v m j qu uv vm low own under high =
    let s = share ls p j in
    let g = moved_row ls (table_id p j) (shift p j) in
    let a : segment s q u ≡ [] = span_none s q u (λ k l h. share_none_below ls p j k (low k l h)) in
    let b : segment s u v ≡ segment g u v = span_ext s g u v (λ k l h. share_own ls p j k (own k l h) (under k (omega arith) h)) in
    let c : segment s v m ≡ [] = span_none s v m (λ k l h. share_none_above ls p j k (high k l h)) in
    span_join s q u m qu (omega arith)
    ∙ ap₂ (λ (x y : List ℕ). x ++ y) a (span_join s u v m uv vm ∙ ap₂ (λ (x y : List ℕ). x ++ y) b c ∙ append-nil (segment g u v))

more : (n i : ℕ) → n * (i + 1) ≡ n * i + n
more n i = mul-add n i 1 ∙ ap (λ (x : ℕ). n * i + x) (mul-one n)

-- ---- the loop
pub record Given (ls : List ℕ) (q m : ℕ) (p : Plan) : Type 0 where
  pub fit : Fit p
  pub some : q ≤ m
  pub room : per_link * grown m p ≤ length ls
  pub ordered : PositionsRise ls q m
  pub floor : (k : ℕ) → q ≤ k → k < m → edge p 0 ≤ position_in ls k

pub record At (ls : List ℕ) (q m : ℕ) (p : Plan) (out : List ℕ) (j left at : ℕ) : Type 0 where
  pub given : Given ls q m p
  pub turns : j ≤ tables p
  pub few : q + left ≤ m
  pub place : at ≡ q + left + head_count p * j
  pub same : length out ≡ length ls
  pub low : (k : ℕ) → q ≤ k → k < q + left → position_in ls k < edge p j
  pub high : (k : ℕ) → q + left ≤ k → k < m → edge p j ≤ position_in ls k
  pub long : per_link * at + length (segment (table_rows ls q m p) j (tables p)) ≡ per_link * grown m p
  pub is : out ≡ put ls (per_link * at) (segment (table_rows ls q m p) j (tables p))

pub at_start : (ls : List ℕ) (q m : ℕ) (p : Plan) → Given ls q m p → ((i : ℕ) → get_or ls i 0 < 4294967296)
    → At ls q m p ls (tables p) (m - q) (m + head_count p * tables p)
at_start ls q m p g w =
    let e = span_empty (table_rows ls q m p) (tables p) in
    let z : length (segment (table_rows ls q m p) (tables p) (tables p)) ≡ 0 = ap length e in
    record {
      given = g;
      turns = omega arith;
      few = omega (arith, g.some);
      place = omega (arith, g.some);
      same = refl;
      low = λ k l h. omega (arith, w (per_link * k + row_position), edge_end p);
      high = λ k l h. absurd (omega (arith, g.some));
      long = omega (arith, z);
      is = put-nil ls (per_link * (m + head_count p * tables p)) ∙ ap (put ls (per_link * (m + head_count p * tables p))) (sym e);
    }

module _ (ls : List ℕ) (q m : ℕ) (p : Plan) (out : List ℕ) (j left at : ℕ) (s : At ls q m p out j left at) where
  pub reach : at ≤ grown m p
  reach = omega (arith, s.long)

  pub at_read : (i : ℕ) → i < per_link * at → get_or out i 0 ≡ get_or ls i 0
  at_read i l =
      ap (λ (o : List ℕ). get_or o i 0) s.is
      ∙ put-below ls (per_link * at) (segment (table_rows ls q m p) j (tables p)) (omega (arith, reach, s.given.room)) i l

  pub at_done : j ≡ 0 → Spread ls out q m p
  at_done e =
      let z : left ≡ 0 = ⊎_elim
      (λ lt. omega arith)
      (λ ge. absurd (omega (arith, ap (edge p) e, s.low q (omega arith) (omega arith), s.given.floor q (omega arith) (omega (arith, s.few)))))
      (either left 1) in
      let n : head_count p * j ≡ 0 = ap (λ (x : ℕ). head_count p * x) e ∙ mul-zero (head_count p) in
      let a : at ≡ q = omega (arith, s.place) in
      record {
        long = rw (a, e) at s.long;
        is = rw (a, e) at s.is;
      }

-- one table: its rows move up, and its heads stand before them
module _ (ls : List ℕ) (q m : ℕ) (p : Plan) (out : List ℕ) (j left at : ℕ) (s : At ls q m p out j left at) (i : ℕ) (e : j ≡ i + 1) where
  counted : head_count p * j ≡ head_count p * i + head_count p
  counted = ap (λ (x : ℕ). head_count p * x) e ∙ more (head_count p) i

  pub table_fits_lem : table_id p i + per p ≤ 4294967296
  table_fits_lem = omega (arith, ap (λ (x : ℕ). per p * x) e ∙ more (per p) i, mul-le-mul_left (per p) s.turns, s.given.fit.numbers)

  pub room_left : q + left + head_count p ≤ at
  room_left = omega (arith, s.place, counted)

  -- a row that has not moved yet
  unmoved : (k : ℕ) → k < q + left → row out k ≡ row ls k
  unmoved k u = row_same out ls k (λ n from h. at_read ls q m p out j left at s n (omega (arith, room_left)))

  unmoved_moves : (k : ℕ) → k < q + left → moved_row out (table_id p i) (shift p i) k ≡ moved_row ls (table_id p i) (shift p i) k
  unmoved_moves k u = moved_same ls out k k (unmoved k u) (table_id p i) (shift p i)

  -- the heads, the rows that moved, and the tables after them
  joined : (rest : ℕ) → i < tables p → segment (share ls p i) q m ≡ segment (moved_row ls (table_id p i) (shift p i)) (q + rest) (q + left)
      → head_rows p.layout.format p.class2 (table_id p i)
      ++ (segment (moved_row ls (table_id p i) (shift p i)) (q + rest) (q + left) ++ segment (table_rows ls q m p) j (tables p))
      ≡ segment (table_rows ls q m p) i (tables p)
  unfolding table_rows
  joined rest ik part =
      let T = table_rows ls q m p in
      let H = head_rows p.layout.format p.class2 (table_id p i) in
      let S = segment (moved_row ls (table_id p i) (shift p i)) (q + rest) (q + left) in
      sym (append_assoc H S (segment T j (tables p)))
      ∙ ap₂ (λ (x : List ℕ) (y : ℕ). (H ++ x) ++ segment T y (tables p)) (sym part) e
      ∙ sym (span_front T i (tables p) ik)

  pub at_turn : (mid out' : List ℕ) (rest : ℕ) → MovedUp out mid q left at (p.layout.header + shift p i) (shift p i) (table_id p i) rest
      → length out' ≡ length out → out' ≡ put mid (per_link * (at - (left - rest) - head_count p)) (head_rows p.layout.format p.class2 (table_id p i))
      → At ls q m p out' i rest (at - (left - rest) - head_count p)
  at_turn mid out' rest mv n h =
      let K = tables p in
      let ik : i < K = omega (arith, s.turns) in
      let ee : edge p i ≡ p.layout.header + shift p i = edge_at p i ik in
      let ej : edge p j ≡ edge p (i + 1) = ap (edge p) e in
      let fw : rest ≤ left = mv.few in
      let rl = room_left in
      let pos : (k : ℕ) → k < q + left → position_in out k ≡ position_in ls k = λ k l. position_same ls out k k (unmoved k l) in
      let own : (k : ℕ) → q + rest ≤ k → k < q + left → edge p i ≤ position_in ls k = λ k l u. omega (arith, mv.above k l u, pos k u) in
      let low : (k : ℕ) → q ≤ k → k < q + rest → position_in ls k < edge p i =
      λ k l u.
      let rises = s.given.ordered k (q + rest - 1) l (omega arith) (omega (arith, s.few)) in
      omega (arith, mv.below (omega arith), pos (q + rest - 1) (omega arith), rises) in
      let under : (k : ℕ) → q ≤ k → k < q + left → position_in ls k < edge p (i + 1) = λ k l u. omega (arith, s.low k l u) in
      let over : (k : ℕ) → q + left ≤ k → k < m → edge p (i + 1) ≤ position_in ls k = λ k l u. omega (arith, s.high k l u) in
      let f = moved_row ls (table_id p i) (shift p i) in
      let S = segment f (q + rest) (q + left) in
      let T = segment (table_rows ls q m p) j K in
      let H = head_rows p.layout.format p.class2 (table_id p i) in
      let part : segment (share ls p i) q m ≡ S = share_part ls p q (q + rest) (q + left) m i (omega arith) (omega arith) s.few low own under over in
      let moved : segment (moved_row out (table_id p i) (shift p i)) (q + rest) (q + left) ≡ S =
      span_ext (moved_row out (table_id p i) (shift p i)) f (q + rest) (q + left) (λ k l u. unmoved_moves k u) in
      let ns : per_link * (q + rest) + length S ≡ per_link * (q + left) = moved_long ls (table_id p i) (shift p i) (q + rest) (q + left) (omega arith) in
      let nh : length H ≡ per_link * head_count p = length-heads p (table_id p i) s.given.fit in
      let nt = s.long in
      let room = s.given.room in
      let at1 = at - (left - rest) in
      let e1 : per_link * at ≡ per_link * at1 + length S = omega arith in
      let e2 : per_link * at1 ≡ per_link * (at1 - head_count p) + length H = omega arith in
      let nst = length-append S T in
      let nhst = length-append H (S ++ T) in
      let whole : H ++ (S ++ T) ≡ segment (table_rows ls q m p) i K = joined rest ik part in
      let mid-is : mid ≡ put ls (per_link * at1) (S ++ T) =
      mv.is ∙ ap₂ (λ (o v : List ℕ). put o (per_link * at1) v) s.is moved ∙ put-before ls (per_link * at1) S (per_link * at) T e1 (omega arith) in
      record {
        given = s.given;
        turns = omega arith;
        few = omega (arith, s.few);
        place = omega (arith, s.place, counted);
        same = n ∙ s.same;
        low = low;
        high = λ k l u. ⊎_elim (λ lt. own k l lt) (λ ge. omega (arith, over k ge u, edge_climb p s.given.fit i ik)) (either k (q + left));
        long = omega (arith, ap length whole);
        is =
            h
            ∙ ap (λ (o : List ℕ). put o (per_link * (at1 - head_count p)) H) mid-is
            ∙ put-before ls (per_link * (at1 - head_count p)) H (per_link * at1) (S ++ T) e2 (omega arith)
            ∙ ap (put ls (per_link * (at1 - head_count p))) whole;
      }

-- the numbers of a turn
pub record Numbers (ls : List ℕ) (p : Plan) (q left at i : ℕ) : Type 0 where
  pub numbered : Numbered p.layout
  pub few : (p.layout.own ≤ 2) × (p.layout.heads ≤ 3)
  pub fits : table_id p i + per p ≤ 4294967296
  pub roomy : q + left + head_count p ≤ at
  pub within : per_link * at ≤ length ls
  pub placed : p.layout.header + shift p i < 4294967296

pub numbers : (ls : List ℕ) (q m : ℕ) (p : Plan) (out : List ℕ) (j left at : ℕ) → At ls q m p out j left at → (i : ℕ) → j ≡ i + 1
    → Numbers ls p q left at i
numbers ls q m p out j left at s i e =
    record {
      numbered = s.given.fit.numbered;
      few = few_heads p.layout s.given.fit.numbered;
      fits = table_fits_lem ls q m p out j left at s i e;
      roomy = room_left ls q m p out j left at s i e;
      within = omega (arith, reach ls q m p out j left at s, s.given.room);
      placed = s.given.fit.placed i (omega (arith, s.turns));
    }

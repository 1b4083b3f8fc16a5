-- The rows at exit: those that stay, with the kept table's new objects, and the new tables' behind them. Assumes nothing.
use Prim.Native.Nat.{ℕ, ◌+◌, ◌-◌, ◌*◌, ◌≤◌, ◌<◌}
use mathlib.Core.Path.{◌≡◌, refl, sym, ap, ap₂, ◌∙◌}
use mathlib.Core.List.{List, [], ◌++◌, append_assoc}
use native.Mathlib.Omega.{arith}
use lib.ListN.{length, get_or, length-append}
use Rattle.folds.specs.Lists.{put}
use Rattle.folds.proofs.Put.{put-put, put-before, put_over, length-put}
use Rattle.ot_layouts.specs.PairPos.{Shape, own_in}
use Rattle.ot_pairpos.specs.declared.Layout.{Layout}
use Rattle.ot_pairpos.specs.Layout.{shape_with}
use Rattle.store_rules.specs.Store.{Store, Link, lent, links_of, child_at, per_link}
use Rattle.pair_rules.specs.Written.{need_links, table_links, new_links}
use Rattle.store_rules.specs.Appended.{row_numbers}
use Rattle.store_rules.proofs.LinkRows.{rows_numbers}
use Rattle.store_link_rows.specs.Rows.{seg, segment, row, rows, kept_row}
use Rattle.pair_new_rows.specs.Blocks.{Plan, plan, table_id, new_rows, parted, grown, PartedRows}
use Rattle.pair_links.specs.Parting.{Between, LinksSplit}
use Rattle.store_link_rows.proofs.Spans.{seg_ext, span_join, span_ext}
use Rattle.store_link_rows.proofs.RowLaws.{rows_long, row_below, row_of_rows, own_rows}
use Rattle.store_link_rows.proofs.Keeping.{kept_is, kept_long}
use Rattle.pair_links.proofs.Parting.{plan_of}
use Rattle.pair_links.proofs.Written.{link_numbers}

module _ (ls : List ℕ) (a b m : ℕ) (p : Plan) (ab : a ≤ b) (bm : b ≤ m) (room : per_link * grown m p ≤ length ls) (out : List ℕ) (done : PartedRows ls out a b m p) where
  ahead : per_link * b + length (rows ls b m) ≡ per_link * m
  ahead = rows_long ls b m bm

  before-a : (k : ℕ) → k < a → row out k ≡ row ls k
  before-a k l = ap (λ (o : List ℕ). row o k) done.is ∙ row_below ls (per_link * a) (parted ls a b m p) (omega arith) k (omega arith)

  -- those behind the rows that moved have come up
  from_b : (i : ℕ) → i < m - b → row out (a + i) ≡ row ls (b + i)
  from_b i l =
      let q = a + (m - b) in
      let R = rows ls b m in
      let N = new_rows ls a b p in
      let e : per_link * q ≡ per_link * a + length R = omega (arith, ahead) in
      let d = put ls (per_link * a) R in
      let nd : length d ≡ length ls = length-put ls (per_link * a) R (omega (arith, ahead)) in
      ap (λ (o : List ℕ). row o (a + i)) (done.is ∙ sym (put-put ls (per_link * a) R (per_link * q) N (omega arith) e))
      ∙ row_below d (per_link * q) N (omega arith) (a + i) (omega arith)
      ∙ row_of_rows ls ls a b (m - b) i (omega arith) l

  stay : (own : List ℕ) (t v : ℕ) → segment (kept_row out own t v) 0 (m - (b - a)) ≡ segment (kept_row ls own t v) 0 a ++ segment (kept_row ls own t v) b m
  stay own t v =
      let q = m - (b - a) in
      let n : q - a ≡ m - b = omega arith in
      span_join (kept_row out own t v) 0 a q (omega arith) (omega arith)
      ∙ ap₂ (λ (x y : List ℕ). x ++ y)
      (span_ext (kept_row out own t v) (kept_row ls own t v) 0 a (λ k l h. kept_is ls out own t v k k (before-a k h)))
      (ap (seg (kept_row out own t v) a) n ∙ seg_ext (kept_row out own t v) (kept_row ls own t v) a b (m - b) (λ i l. kept_is ls out own t v (b + i) (a + i) (from_b i l)))

  -- written once, from the first row on
  whole : out ≡ put (put ls 0 (rows ls 0 a ++ rows ls b m)) (per_link * (m - (b - a))) (new_rows ls a b p)
  whole =
      let A = rows ls 0 a in
      let R = rows ls b m in
      let N = new_rows ls a b p in
      let front = rows_long ls 0 a (omega arith) in
      let e : per_link * a ≡ 0 + length A = omega arith in
      let f : per_link * (m - (b - a)) ≡ 0 + length (A ++ R) = omega (arith, ahead, length-append A R) in
      done.is
      ∙ ap (λ (o : List ℕ). put o (per_link * a) (R ++ N)) (sym (own_rows ls 0 a (omega arith) (omega arith)))
      ∙ put-put ls 0 A (per_link * a) (R ++ N) (omega arith) e
      ∙ ap (put ls 0) (sym (append_assoc A R N))
      ∙ sym (put-put ls 0 (A ++ R) (per_link * (m - (b - a))) N (omega arith) f)

  pub finished : (own : List ℕ) (t v : ℕ) (out' : List ℕ) → out' ≡ put out 0 (segment (kept_row out own t v) 0 (m - (b - a)))
      → out' ≡ put ls 0 ((segment (kept_row ls own t v) 0 a ++ segment (kept_row ls own t v) b m) ++ new_rows ls a b p)
  finished own t v out' h =
      let q = m - (b - a) in
      let A = rows ls 0 a in
      let R = rows ls b m in
      let N = new_rows ls a b p in
      let S = segment (kept_row ls own t v) 0 a ++ segment (kept_row ls own t v) b m in
      let front = rows_long ls 0 a (omega arith) in
      let nr = length-append A R in
      let ns : length S ≡ per_link * q = ap length (sym (stay own t v)) ∙ (let l = kept_long out own t v 0 q (omega arith) in omega arith) in
      let nn = length-append R N in
      let nw = length-append S N in
      let long = done.long in
      let d = put ls 0 (A ++ R) in
      let nd : length d ≡ length ls = length-put ls 0 (A ++ R) (omega (arith, ahead)) in
      h
      ∙ ap₂ (λ (o x : List ℕ). put o 0 x) whole (stay own t v)
      ∙ put-before d 0 S (per_link * q) N (omega arith) (omega (arith, ahead))
      ∙ put_over ls 0 (A ++ R) (S ++ N) (omega (arith, ahead)) (omega (arith, ahead))

  pub finished_long : (own : List ℕ) (t v : ℕ) → length ((segment (kept_row ls own t v) 0 a ++ segment (kept_row ls own t v) b m) ++ new_rows ls a b p) ≡ per_link * grown m p
  finished_long own t v =
      let x = kept_long ls own t v 0 a (omega arith) in
      let y = kept_long ls own t v b m bm in
      let u = length-append (segment (kept_row ls own t v) 0 a) (segment (kept_row ls own t v) b m) in
      let w = length-append (segment (kept_row ls own t v) 0 a ++ segment (kept_row ls own t v) b m) (new_rows ls a b p) in
      let z = length-append (rows ls b m) (new_rows ls a b p) in
      omega (arith, ahead, done.long)

-- what the code has written is what is to be written
module _ (s : Store) (t : ℕ) (l : Layout) (cs : List ℕ) (a b class2 : ℕ) (g : Between s t l cs a b class2) where
  abbrev sh : Shape
  sh = shape_with l

  -- the first of the kept table's new objects
  abbrev v : ℕ
  v = table_id (plan_of s l cs class2) (length cs)

  pub parted_links : (out out' : List ℕ) → PartedRows s.links out a b s.link_count (plan_of s l cs class2)
      → out' ≡ put out 0 (segment (kept_row out (own_in l.format) t v) 0 (s.link_count - (b - a)))
      → LinksSplit s t sh cs out' (s.link_count + l.heads * length cs)
  unfolding need_links
  parted_links out out' done h =
      let p = plan_of s l cs class2 in
      let own = own_in l.format in
      let e = link_numbers s t l cs a b class2 g in
      let room = g.known.link_room in
      let n = finished_long s.links a b s.link_count p g.ordered g.used room out done own t v in
      record {
        count_is_lem = omega (arith, rows_numbers (new_links s t sh cs), ap length e);
        added = ap (λ (k : ℕ). s.link_count + k * length cs) g.known.numbered.heads_is;
        rows_are = finished s.links a b s.link_count p g.ordered g.used room out done own t v out' h ∙ ap (put s.links 0) (sym e);
      }

-- the bytes and the object rows of a store have no part in it
pub rows_alone : (x y x' y' ls cts : List ℕ) (t : ℕ) (sh : Shape) (cs : List ℕ) → new_links (lent x y ls cts) t sh cs ≡ new_links (lent x' y' ls cts) t sh cs
unfolding new_links table_links links_of child_at
rows_alone x y x' y' ls cts t sh cs = refl

pub parted_call : (ls cts : List ℕ) (t : ℕ) (l : Layout) (cs : List ℕ) (a b class2 : ℕ) → Between (lent [] [] ls cts) t l cs a b class2
    → (out out' : List ℕ) → PartedRows ls out a b (get_or cts 2 0) (plan cs l (get_or cts 1 0) class2)
    → out' ≡ put out 0 (segment (kept_row out (own_in l.format) t (get_or cts 1 0 + (l.own + 1) * length cs)) 0 (get_or cts 2 0 - (b - a)))
    → (x y : List ℕ) → LinksSplit (lent x y ls cts) t (shape_with l) cs out' (get_or cts 2 0 + l.heads * length cs)
parted_call ls cts t l cs a b class2 g out out' done h x y =
    let r = parted_links (lent [] [] ls cts) t l cs a b class2 g out out' done h in
    let same = rows_alone [] [] x y ls cts t (shape_with l) cs in
    record {
      count_is_lem = r.count_is_lem ∙ ap length same;
      added = r.added;
      rows_are = r.rows_are ∙ ap (λ (l : List Link). put ls 0 (row_numbers l)) same;
    }

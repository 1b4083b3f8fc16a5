-- What a row is after a write. Assumes nothing.
use mathlib.Core.Path.{◌≡◌, refl, sym, ap, ◌∙◌}
use mathlib.Core.List.{List, [], ◌∷◌}
use Prim.Native.Nat.{ℕ, zero, suc, ◌+◌, ◌-◌, ◌*◌, ◌≤◌, ◌<◌}
use native.Mathlib.Omega.{arith}
use lib.ListN.{length, get_or, set}
use lib.Seq.{set-get_or}
use Rattle.folds.specs.Lists.{put}
use Rattle.folds.proofs.Put.{put-nil, put-put, put-below, put-inside, put-above, put-set, put_four}
use Rattle.store_rules.specs.Store.{Link, per_link, row_parent, row_position, row_width, row_child, row_kind, placed_at}
use Rattle.store_rules.specs.Appended.{numbers_of}
use Rattle.store_link_rows.specs.Rows.{seg, segment, link_in, row, rows, placed_row, changed_row}
use Rattle.store_link_rows.proofs.Spans.{seg_ext, length-seg, seg_at, span_empty, span_back}

pub length-row : (ls : List ℕ) (k : ℕ) → length (row ls k) ≡ per_link
unfolding row
length-row ls k = refl

-- rows that agree at their places
pub row_same : (d e : List ℕ) (k : ℕ) → ((i : ℕ) → per_link * k ≤ i → i < per_link * k + per_link → get_or d i 0 ≡ get_or e i 0) → row d k ≡ row e k
unfolding row
row_same d e k h =
    let p = h (per_link * k + row_parent) (omega arith) (omega arith) in
    let q = h (per_link * k + row_position) (omega arith) (omega arith) in
    let w = h (per_link * k + row_width) (omega arith) (omega arith) in
    let c = h (per_link * k + row_child) (omega arith) (omega arith) in
    let d = h (per_link * k + row_kind) (omega arith) (omega arith) in
    cc

module _ (d : List ℕ) (b : ℕ) (xs : List ℕ) (fits : b ≤ length d) where
  pub row_below : (k : ℕ) → per_link * k + per_link ≤ b → row (put d b xs) k ≡ row d k
  row_below k l = row_same (put d b xs) d k (λ i p q. put-below d b xs fits i (omega arith))

  pub row_above : (k : ℕ) → b + length xs ≤ per_link * k → row (put d b xs) k ≡ row d k
  row_above k l = row_same (put d b xs) d k (λ i p q. put-above d b xs fits i (omega arith))

-- the same rows are the same links
pub same_link : (d e : List ℕ) (i k : ℕ) → row d k ≡ row e i → link_in d k ≡ link_in e i
unfolding row
same_link d e i k h j =
    record {
      parent = ap (λ (l : List ℕ). get_or l row_parent 0) h j;
      position = ap (λ (l : List ℕ). get_or l row_position 0) h j;
      width = ap (λ (l : List ℕ). get_or l row_width 0) h j;
      child = ap (λ (l : List ℕ). get_or l row_child 0) h j;
      kind = ap (λ (l : List ℕ). get_or l row_kind 0) h j;
    }

-- and stay the same in another place
pub placed_same : (d e : List ℕ) (p q i k : ℕ) → row d k ≡ row e i → placed_row d p q k ≡ placed_row e p q i
unfolding placed_row
placed_same d e p q i k h = ap (λ (l : Link). numbers_of (placed_at p q l)) (same_link d e i k h)

-- a link is written number by number
pub put-numbers : (d : List ℕ) (k : ℕ) (l : Link) → per_link * (k + 1) ≤ length d
    → set (set (set (set (set d (per_link * k + row_parent) l.parent) (per_link * k + row_position) l.position) (per_link * k + row_width) l.width)
    (per_link * k + row_child) l.child) (per_link * k + row_kind) l.kind
    ≡ put d (per_link * k) (numbers_of l)
put-numbers d k l room =
    let z : per_link * k + row_parent ≡ per_link * k = omega arith in
    rw z
    (ap (λ (o : List ℕ). set o (per_link * k + row_kind) l.kind) (put_four d (per_link * k) l.parent l.position l.width l.child (omega arith))
    ∙ put-set d (per_link * k) (l.parent ∷ l.position ∷ l.width ∷ l.child ∷ []) (per_link * k + row_kind) l.kind refl (omega arith))

-- a row that was read, changed and written
pub row_changed : (f : Link → Link) (d : List ℕ) (i k : ℕ) {l : Link} {o : List ℕ} → l ≡ link_in d i → o ≡ put d (per_link * k) (numbers_of (f l))
    → o ≡ put d (per_link * k) (changed_row f d i)
unfolding changed_row
row_changed f d i k e h = h ∙ ap (λ (l : Link). put d (per_link * k) (numbers_of (f l))) e

-- a row that was read, written in another place
pub row_moved : (d : List ℕ) (p q i k : ℕ) {l : Link} {o : List ℕ} → l ≡ link_in d i → o ≡ put d (per_link * k) (numbers_of (placed_at p q l))
    → o ≡ put d (per_link * k) (placed_row d p q i)
unfolding placed_row changed_row
row_moved d p q i k e h = row_changed (placed_at p q) d i k e h

-- the row at its own place
pub put_same : (d : List ℕ) (k : ℕ) → per_link * (k + 1) ≤ length d → put d (per_link * k) (row d k) ≡ d
unfolding row
put_same d k room = sym (put-numbers d k (link_in d k) room) ∙ simp set-get_or

module _ (f : ℕ → List ℕ) (long : (k : ℕ) → length (f k) ≡ per_link) where
  pub length-span : (lo hi : ℕ) → lo ≤ hi → per_link * lo + length (segment f lo hi) ≡ per_link * hi
  length-span lo hi l = omega (arith, length-seg f long lo (hi - lo))

  pub span_at : (d : List ℕ) (lo hi k c : ℕ) → per_link * hi ≤ length d → lo ≤ k → k < hi → c < per_link → get_or (put d (per_link * lo) (segment f lo hi)) (per_link * k + c) 0 ≡ get_or (f k) c 0
  span_at d lo hi k c room l h m =
      let e : per_link * k + c - per_link * lo ≡ per_link * (k - lo) + c = omega arith in
      let q : lo + (k - lo) ≡ k = omega arith in
      put-inside d (per_link * lo) (segment f lo hi) (omega arith) (per_link * k + c) (omega arith) (omega (arith, length-span lo hi (omega arith)))
      ∙ ap (λ (i : ℕ). get_or (segment f lo hi) i 0) e
      ∙ seg_at f long lo (hi - lo) (k - lo) c (omega arith) m
      ∙ ap (λ (i : ℕ). get_or (f i) c 0) q

pub rows_long : (ls : List ℕ) (lo hi : ℕ) → lo ≤ hi → per_link * lo + length (rows ls lo hi) ≡ per_link * hi
rows_long ls lo hi l = length-span (row ls) (length-row ls) lo hi l

-- a row of a segment of rows, after the segment was written
module _ (ls : List ℕ) (g : ℕ → ℕ) where
  pub row_inside : (d : List ℕ) (lo hi k : ℕ) → per_link * hi ≤ length d → lo ≤ k → k < hi → row (put d (per_link * lo) (segment (λ k. row ls (g k)) lo hi)) k ≡ row ls (g k)
  unfolding row
  row_inside d lo hi k room l h =
      let f : ℕ → List ℕ = λ k. row ls (g k) in
      let n : (k : ℕ) → length (f k) ≡ per_link = λ k. length-row ls (g k) in
      let o = put d (per_link * lo) (segment f lo hi) in
      let p : get_or o (per_link * k + row_parent) 0 ≡ get_or ls (per_link * g k + row_parent) 0 = span_at f n d lo hi k row_parent room l h (omega arith) in
      let q : get_or o (per_link * k + row_position) 0 ≡ get_or ls (per_link * g k + row_position) 0 = span_at f n d lo hi k row_position room l h (omega arith) in
      let w : get_or o (per_link * k + row_width) 0 ≡ get_or ls (per_link * g k + row_width) 0 = span_at f n d lo hi k row_width room l h (omega arith) in
      let c : get_or o (per_link * k + row_child) 0 ≡ get_or ls (per_link * g k + row_child) 0 = span_at f n d lo hi k row_child room l h (omega arith) in
      let z : get_or o (per_link * k + row_kind) 0 ≡ get_or ls (per_link * g k + row_kind) 0 = span_at f n d lo hi k row_kind room l h (omega arith) in
      cc

-- a row of rows that were written, at other numbers than their own
pub row_of_rows : (ls d : List ℕ) (a b n i : ℕ) → per_link * (a + n) ≤ length d → i < n → row (put d (per_link * a) (seg (row ls) b n)) (a + i) ≡ row ls (b + i)
row_of_rows ls d a b n i room l =
    let g : ℕ → ℕ = λ k. b + (k - a) in
    let e : n ≡ a + n - a = omega arith in
    let x : seg (row ls) b n ≡ segment (λ k. row ls (g k)) a (a + n) =
    seg_ext (row ls) (λ k. row ls (g k)) b a n (λ i l. let z : b + i ≡ b + (a + i - a) = omega arith in ap (row ls) z)
    ∙ ap (seg (λ k. row ls (g k)) a) e in
    let z : b + (a + i - a) ≡ b + i = omega arith in
    ap (λ (y : List ℕ). row (put d (per_link * a) y) (a + i)) x
    ∙ row_inside ls g d a (a + n) (a + i) room (omega arith) (omega arith)
    ∙ ap (row ls) z

-- rows at their own place
own_from : (ls : List ℕ) (lo n : ℕ) → per_link * (lo + n) ≤ length ls → put ls (per_link * lo) (rows ls lo (lo + n)) ≡ ls
own_from ls lo zero l =
    let e : lo + 0 ≡ lo = omega arith in
    rw e (ap (put ls (per_link * lo)) (span_empty (row ls) lo) ∙ sym (put-nil ls (per_link * lo)))
own_from ls lo (suc n) l =
    let e : lo + suc n ≡ lo + n + 1 = omega arith in
    let r = rows_long ls lo (lo + n) (omega arith) in
    rw e
    (ap (put ls (per_link * lo)) (span_back (row ls) lo (lo + n) (omega arith))
    ∙ sym (put-put ls (per_link * lo) (rows ls lo (lo + n)) (per_link * (lo + n)) (row ls (lo + n)) (omega arith) (sym r))
    ∙ ap (λ (o : List ℕ). put o (per_link * (lo + n)) (row ls (lo + n))) (own_from ls lo n (omega arith))
    ∙ put_same ls (lo + n) (omega arith))

pub own_rows : (ls : List ℕ) (lo hi : ℕ) → lo ≤ hi → per_link * hi ≤ length ls → put ls (per_link * lo) (rows ls lo hi) ≡ ls
own_rows ls lo hi l h = let e : lo + (hi - lo) ≡ hi = omega arith in let g = own_from ls lo (hi - lo) (omega arith) in rw e at g
